-- What the map that a reader keeps tells of the processes that it has read: its keys are the numbers of their
-- threads.
use Rattle.std.specs.Prelude.{List}
use Rattle.std.specs.List.{list_any}
use Rattle.std.specs.Ordering.{nat_cmp}
use Rattle.std.specs.FinMap as map
use Rattle.shared_items.specs.declared.shared.ProcessEntry.{ProcessEntry}
use Rattle.shared_items.specs.SharedTests.{lists_thread}
use Rattle.shared_items.specs.Keys.{HasKeys}

abbrev pub KnowsThreads : {X : Type 0} → map.FinMap nat_cmp X → List ProcessEntry → Type 0
KnowsThreads tids processes = HasKeys tids (λ n. list_any (lists_thread n) processes)
