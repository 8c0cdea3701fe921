use Rattle.std.proofs.Common.{◌≡◌, ◌++◌, take}
use Rattle.std.specs.Prelude.{All}
use Rattle.std.specs.List.{flat_map}
use Rattle.image_process.specs.ProcessFits.{WaiterWords}
use Rattle.image_process.specs.ProcessTexts.{waiter_text}
use Rattle.image_process.proofs.waiters.put_each_waiter.Given as goal

abbrev pub invariant-loop-waiter : goal.invariant-loop-waiter
invariant-loop-waiter l = record {
  value : l.bytes.items ≡ l.fn.bytes.items ++ flat_map waiter_text (take l.waiter-index l.waiters);
  words : All WaiterWords (take l.waiter-index l.waiters);
}
