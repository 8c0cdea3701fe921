-- Whether somebody lives, from whether each process does.
use Rattle.std.proofs.Common.{◌≡◌, true, false, Some, None, refl, sym, ap, ◌∙◌}
use Rattle.std.specs.FinMap as map
use Rattle.sys_abi.specs.declared.identity.VPid.{VPid}
use Rattle.sys_abi.proofs.OrderLaws.{vpid_total, vpid_exact}
use Rattle.sys_abi.specs.Lives.{lives as is_life}
use Rattle.views.proofs.MapLaws.{true_false}
use Rattle.views.proofs.MapValues.{none_among-values, some_among-values}
use Rattle.plain_tables.specs.Tables.{is_live_process}
use Rattle.plain_machine.specs.declared.kernel.PlainKernel.{PlainKernel}
use Rattle.plain_machine.specs.Kernel.{is_live}
use Rattle.plain_machine.specs.Tests.{has_life}

pub nobody_lives : (k : PlainKernel) → ((q : VPid) → is_live k q ≡ false) → has_life k ≡ false
unfolding has_life is_live
nobody_lives k dead = none_among-values vpid_total vpid_exact (λ process. is_life process.life) k.processes (λ q process is. sym (ap is_live_process is) ∙ dead q)

pub somebody_lives : (k : PlainKernel) (q : VPid) → is_live k q ≡ true → has_life k ≡ true
unfolding has_life is_live
somebody_lives k q alive = elim (map.get k.processes q) as (λ o. map.get k.processes q ≡ o → is_live_process o ≡ true → has_life k ≡ true) [
  | None ↦ λ is e. true_false (sym e)
  | Some process ↦ λ is e. some_among-values vpid_total vpid_exact (λ process. is_life process.life) k.processes q process is e
] refl alive
