use Rattle.std.proofs.Common.{◌≡◌, ◌-◌, refl, arith}
use Rattle.shared_objects.proofs.KnownKeys.{none_queued}
use Rattle.shared_objects.proofs.objects.queue_at.Goals as goal

pub loop-item-init : goal.loop-item-init
loop-item-init c =
    let all : c.in_ok-count.count - 0 ≡ c.in_ok-count.count = omega arith in
    rw (c.new-pending.ensures, all) (record { reads = refl; queue = none_queued c.new-queued.result c.new-queued.ensures })
