use Rattle.std.proofs.Common.{◌≡◌, ◌-◌, refl, arith}
use Rattle.shared_items.proofs.Names.{no_name}
use Rattle.shared_items.proofs.files.files_at.Goals as goal

pub loop-item-init : goal.loop-item-init
loop-item-init c =
    let all : c.in_ok-count.count - 0 ≡ c.in_ok-count.count = omega arith in
    rw (c.new-files.ensures, all) (record { reads = refl; names = no_name c.new-names.result c.new-names.ensures; total = refl; limit = omega arith })
