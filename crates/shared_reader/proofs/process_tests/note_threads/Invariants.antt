use Rattle.std.proofs.Common.{◌==◌, ◌||◌, take}
use Rattle.std.specs.Prelude.{is_some}
use Rattle.std.specs.List.{list_any}
use Rattle.std.specs.FinMap as map
use Rattle.shared_items.specs.declared.shared.ThreadEntry.{ThreadEntry}
use Rattle.shared_items.specs.Keys.{HasKeys}
use Rattle.shared_reader.proofs.process_tests.note_threads.Given as goal

abbrev pub invariant-loop-thread : goal.invariant-loop-thread
invariant-loop-thread l =
    HasKeys l.tids (λ n. is_some (map.get l.initial.tids n) || list_any (λ (thread : ThreadEntry). thread.tid == n) (take l.thread-index l.threads))
