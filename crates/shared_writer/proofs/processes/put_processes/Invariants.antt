use Rattle.std.proofs.Common.{◌≡◌, ◌++◌, take}
use Rattle.std.specs.List.{flat_map}
use Rattle.shared_items.specs.SharedTexts.{process_text}
use Rattle.shared_writer.proofs.processes.put_processes.Given as goal

abbrev pub invariant-loop-item : goal.invariant-loop-item
invariant-loop-item l = l.bytes.items ≡ l.initial.bytes.items ++ flat_map process_text (take l.item-index l.items)
