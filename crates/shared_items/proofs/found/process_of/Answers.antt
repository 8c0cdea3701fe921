use Rattle.std.proofs.Common.{◌==◌, sym, rules}
use Rattle.std.proofs.lemmas.List.Sorted.{answers_always}
use Rattle.sys_abi.proofs.OrderLaws.{vpid_total}
use Rattle.shared_items.specs.declared.shared.ProcessEntry.{ProcessEntry}
use Rattle.shared_items.proofs.Keys.{same_number}
use Rattle.shared_items.proofs.Searched.{found_at, found_none, parted}
use Rattle.shared_items.proofs.found.process_of.Goals as goal

pub returns-in-Ok : goal.returns-in-Ok
returns-in-Ok c =
    found_at vpid_total (λ (process : ProcessEntry). process.pid) (record { 0 = c.args.n }) (λ process. process.pid.0 == c.args.n) (λ process. sym (same_number process.pid.0 c.args.n))
    c.args.processes.now c.in-Ok.place c.index-processes-place.result c.requires c.in-Ok.ensures.bound
    (c.in-Ok.ensures.position (λ process. process.pid) (answers_always _ _ _ (λ f a r g called. search rules))) c.index-processes-place.is

pub returns-in-Err : goal.returns-in-Err
returns-in-Err c =
    found_none vpid_total (λ (process : ProcessEntry). process.pid) (record { 0 = c.args.n }) (λ process. process.pid.0 == c.args.n) (λ process. sym (same_number process.pid.0 c.args.n)) c.args.processes.now c.in-Err.field-0
    (parted vpid_total (λ (process : ProcessEntry). process.pid) (record { 0 = c.args.n }) c.args.processes.now c.in-Err.field-0 c.requires (c.in-Err.ensures.position (λ process. process.pid) (answers_always _ _ _ (λ f a r g called. search rules))))
