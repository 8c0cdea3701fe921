use Rattle.std.proofs.Common.{ℕ, List, ◌++◌, sym, subst}
use Rattle.std.specs.Prelude.{codes}
use Rattle.endings.specs.declared.ending.Ending.{Ending}
use Rattle.endings.specs.Endings.{line_of}
use Rattle.edge_io.specs.Sunk.{sunk, Took, TookFront}
use Rattle.endings.proofs.Sinks.{OnOk-map}
use Rattle.endings.proofs.Sinks.{OnErr-map}
use Rattle.endings.proofs.ending.Ending.put_line.Goals as goal

pub returns-in-Budget-clause-ok : goal.returns-in-Budget-clause-ok
returns-in-Budget-clause-ok g c =
    let sink = sunk (g.L.Sink.seen c.args.log.now).taken (g.L.Sink.seen c.put_three-in-Budget.new.log).taken in
    OnOk-map c.put_three-in-Budget.result (λ took.
    subst (λ (e : Ending). Took sink (line_of e)) (sym c.in-Budget.is) (subst (λ (digits : List ℕ). Took sink (codes "budget spent: " ++ digits ++ codes " records\n")) c.format.ensures.text took))
    c.put_three-in-Budget.ensures.ok

pub returns-in-Budget-clause-err : goal.returns-in-Budget-clause-err
returns-in-Budget-clause-err g c =
    let sink = sunk (g.L.Sink.seen c.args.log.now).taken (g.L.Sink.seen c.put_three-in-Budget.new.log).taken in
    OnErr-map c.put_three-in-Budget.result (λ front.
    subst (λ (e : Ending). TookFront sink (line_of e)) (sym c.in-Budget.is) (subst (λ (digits : List ℕ). TookFront sink (codes "budget spent: " ++ digits ++ codes " records\n")) c.format.ensures.text front))
    c.put_three-in-Budget.ensures.err
