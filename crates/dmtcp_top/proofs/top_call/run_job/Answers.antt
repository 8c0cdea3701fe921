use Rattle.std.proofs.Common.{inl, inr, sym, subst, ◌∙◌, ap}
use Rattle.std.specs.Prelude.{◌⊎◌}
use Rattle.views.specs.Faults.{Rose}
use Rattle.endings.specs.declared.status.Status.TheVariants.{InputFault, SinkFault, DiskFault}
use Rattle.endings.specs.declared.ending.Ending.{Ending}
use Rattle.endings.specs.Endings.{status_of}
use Rattle.dmtcp_top.specs.Endings.{ComesToEnd}
use Rattle.dmtcp_top.specs.Sessions.{outside}
use Rattle.dmtcp_top.proofs.Promised.{promised, come_of, ended_by}
use Rattle.dmtcp_top.proofs.top_call.run_job.Goals as goal

either : {A B P : Type 0} → A ⊎ B → (A → P) → (B → P) → P
either (inl a) f h = f a
either (inr b) f h = h b

pub returns-clause-promise : goal.returns-clause-promise
returns-clause-promise g c words asks =
    let before = outside (g.I.Inputs.seen c.args.inputs.now) (g.O.Sink.seen c.args.out.now) (g.L.Sink.seen c.args.log.now) (g.F.Folder.seen c.args.disk.now) in
    let mid = c.carry_out.new in
    let now = outside (g.I.Inputs.seen mid.inputs) (g.O.Sink.seen mid.out) (g.L.Sink.seen mid.log) (g.F.Folder.seen mid.disk) in
    let had = (g.L.Sink.seen c.args.log.now).faults in
    let is = c.ending_of-ending.ensures in
    let come : ComesToEnd c.ending_of-ending.result words mid.trace.records before now =
    subst (λ (e : Ending). ComesToEnd e words mid.trace.records before now) (sym is) (come_of c.carry_out.result words mid.trace.records before now (c.carry_out.ensures.ends words asks)) in
    promised c.ending_of-ending.result c.conclude.result words mid.trace.records before now (g.L.Sink.seen c.conclude.new.log) c.conclude.ensures.concludes
    come
    (λ failed. ended_by c.carry_out.result InputFault (λ e. absurd (cc)) c.carry_out.ensures.input (sym (ap status_of is) ∙ failed))
    (λ failed. either (ended_by c.carry_out.result SinkFault (λ e. absurd (cc)) c.carry_out.ensures.sink (sym (ap status_of is) ∙ failed)) (λ rose. inl rose)
    (λ rose. inr (subst (λ log. Rose had (g.L.Sink.seen log).faults) (sym (c.conclude.ensures.silent failed)) rose)))
    (λ failed. ended_by c.carry_out.result DiskFault (λ e. absurd (cc)) c.carry_out.ensures.disk (sym (ap status_of is) ∙ failed))
    c.conclude.ensures.cause c.carry_out.ensures.same c.carry_out.ensures.log_later
