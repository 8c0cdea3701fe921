use Rattle.std.proofs.Common.{◌≡◌, false, ◌∙◌}
use Rattle.std.specs.FinMap as map
use Rattle.sys_abi.proofs.OrderLaws.{slot_total, slot_exact}
use Rattle.rebuild_system.specs.Holders.{is_first_in}
use Rattle.rebuild_system.proofs.Walks.{IsWalk-begin, AreSeen-begin}
use Rattle.rebuild_system.proofs.accepting.holder.Goals as goal

pub loop-slot-init : goal.loop-slot-init
loop-slot-init c =
    let m = c.args.kernel.now.descriptors in
    let begins : c.into_iter-slot-iterator.result ≡ map.entries m =
    c.into_iter-slot-iterator.ensures.into_iter_gives ∙ c.iter-slot-items.ensures in
    record {
      walk = IsWalk-begin slot_total slot_exact m c.into_iter-slot-iterator.result begins;
      none = AreSeen-begin slot_total slot_exact m
          (λ at x. is_first_in c.args.kernel.now.descriptions c.args.id x.desc ≡ false)
          c.into_iter-slot-iterator.result begins;
    }
