use Rattle.std.proofs.Common.{inl, inr, sym, subst}
use Rattle.std.specs.Prelude.{◌⊎◌}
use Rattle.views.specs.Faults.{Rose}
use Rattle.dmtcp_top.proofs.RefusedWords.{wanted_memory}
use Rattle.dmtcp_top.proofs.RingEnds.{is_ring}
use Rattle.dmtcp_top.proofs.ring.run_ring.Goals as goal

either : {A B P : Type 0} → A ⊎ B → (A → P) → (B → P) → P
either (inl a) f h = f a
either (inr b) f h = h b

pub returns-in_default : goal.returns-in_default
returns-in_default g c inputs =
    wanted_memory c.conclude.result c.requires.asked.0 c.args.ring c.requires.asked.1 c.args.trace.now.records c.requires.empty
    inputs (g.O.Sink.seen c.args.out.now) (g.L.Sink.seen c.args.log.now) (g.L.Sink.seen c.conclude.new.log) (g.F.Folder.seen c.args.disk.now)
    c.conclude.ensures.concludes c.conclude.ensures.cause

pub returns : goal.returns
returns g c inputs =
    let round = c.go_round-ending.ensures in
    let mid = c.go_round-ending.new in
    let had = g.L.Sink.seen c.args.log.now in
    is_ring c.go_round-ending.result c.conclude-2.result c.args.ring mid.trace.records
    inputs (g.O.Sink.seen c.args.out.now) (g.O.Sink.seen mid.out) had (g.L.Sink.seen mid.log) (g.L.Sink.seen c.conclude-2.new.log) (g.F.Folder.seen c.args.disk.now) (g.F.Folder.seen mid.disk)
    c.conclude-2.ensures.concludes round.ends
    (λ failed. either (round.sink failed) (λ rose. inl rose)
    (λ rose. inr (subst (λ log. Rose had.faults (g.L.Sink.seen log).faults) (sym (c.conclude-2.ensures.silent failed)) rose)))
    round.disk c.conclude-2.ensures.cause round.log_later
