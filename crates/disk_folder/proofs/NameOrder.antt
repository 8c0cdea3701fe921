-- The order of file names is total, and only equal names tie in it.
use Rattle.std.proofs.Common.{ℕ, ap}
use Rattle.std.specs.Ordering.{nat_cmp}
use Rattle.std.specs.Cmp.{IsTotalOrder, on_total, then_total, nat_cmp_total}
use Rattle.std.specs.FinMap.{IsAntisymmetric, nat_cmp-IsAntisymmetric}
use Rattle.std.proofs.lemmas.Map.Lookups.{exact_pairs}
use Rattle.disk_folder.specs.Files.{file_name_cmp}
use Rattle.disk_folder.specs.declared.file_name.FileName.{FileName}

pub name_total : IsTotalOrder file_name_cmp
name_total = then_total (on_total (λ (n : FileName). n.slot) nat_cmp_total) (on_total (λ (n : FileName). n.index) nat_cmp_total)

name_from : ℕ × ℕ → FileName
name_from p = record { slot = p.0; index = p.1 }

pub name_exact : IsAntisymmetric file_name_cmp
unfolding name_from
name_exact a b tie = ap name_from (exact_pairs nat_cmp nat_cmp nat_cmp-IsAntisymmetric nat_cmp-IsAntisymmetric (a.slot, a.index) (b.slot, b.index) tie)
