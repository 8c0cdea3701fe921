use Rattle.std.proofs.Common.{◌≡◌, ℕ, List, ◌++◌, ap, subst, ◌∙◌}
use Rattle.std.specs.Prelude.{codes}
use Rattle.elf32.specs.Faults.{reason_text}
use Rattle.endings.specs.Log.{fault_text, bad_program_line}
use Rattle.edge_io.specs.Sunk.{sunk, Took, TookFront}
use Rattle.endings.proofs.Sinks.{took_both, took_more, front_grows, OnErr-of_any, OnErr-map}
use Rattle.endings.proofs.Sinks.{OnOk-map}
use Rattle.endings.proofs.ending.put_fault.Goals as goal

pub returns-in_err-put_three-clause-err : goal.returns-in_err-put_three-clause-err
returns-in_err-put_three-clause-err g c =
    let name = codes "bad program: " ++ c.args.name.now ++ codes ": " in
    let sink = sunk (g.L.Sink.seen c.args.log.now).taken (g.L.Sink.seen c.put_three.new.log).taken in
    OnErr-of_any (TookFront sink (bad_program_line c.args.name.now c.args.fault)) _
    (front_grows sink (name ++ fault_text c.args.fault) (codes "\n") (front_grows sink name (fault_text c.args.fault) c.in_err-put_three.ensures.err))

pub returns-in_err-put_three-2-clause-err : goal.returns-in_err-put_three-2-clause-err
returns-in_err-put_three-2-clause-err g c =
    let name = codes "bad program: " ++ c.args.name.now ++ codes ": " in
    let sink = sunk (g.L.Sink.seen c.args.log.now).taken (g.L.Sink.seen c.put_three-2.new.log).taken in
    let text : c.word.result.now ++ codes " at " ++ c.format.result.now ≡ fault_text c.args.fault =
    ap (λ (w : List ℕ). w ++ codes " at " ++ c.format.result.now) c.word.ensures ∙ ap (λ (d : List ℕ). reason_text c.args.fault.reason ++ codes " at " ++ d) c.format.ensures.text in
    let front = subst (TookFront (sunk (g.L.Sink.seen c.put_three.new.log).taken (g.L.Sink.seen c.put_three-2.new.log).taken)) text c.in_err-put_three-2.ensures.err in
    OnErr-of_any (TookFront sink (bad_program_line c.args.name.now c.args.fault)) _
    (front_grows sink (name ++ fault_text c.args.fault) (codes "\n")
    (took_more (g.L.Sink.seen c.args.log.now).taken (g.L.Sink.seen c.put_three.new.log).taken (g.L.Sink.seen c.put_three-2.new.log).taken name (fault_text c.args.fault) c.in_ok-put_three.ensures.ok front))

pub returns-clause-ok : goal.returns-clause-ok
returns-clause-ok g c =
    let name = codes "bad program: " ++ c.args.name.now ++ codes ": " in
    let text : c.word.result.now ++ codes " at " ++ c.format.result.now ≡ fault_text c.args.fault =
    ap (λ (w : List ℕ). w ++ codes " at " ++ c.format.result.now) c.word.ensures ∙ ap (λ (d : List ℕ). reason_text c.args.fault.reason ++ codes " at " ++ d) c.format.ensures.text in
    let told = subst (Took (sunk (g.L.Sink.seen c.put_three.new.log).taken (g.L.Sink.seen c.put_three-2.new.log).taken)) text c.in_ok-put_three-2.ensures.ok in
    let both = took_both (g.L.Sink.seen c.args.log.now).taken (g.L.Sink.seen c.put_three.new.log).taken (g.L.Sink.seen c.put_three-2.new.log).taken name (fault_text c.args.fault) c.in_ok-put_three.ensures.ok told in
    OnOk-map c.put.result (λ took. took_both (g.L.Sink.seen c.args.log.now).taken (g.L.Sink.seen c.put_three-2.new.log).taken (g.L.Sink.seen c.put.new.log).taken (name ++ fault_text c.args.fault) (codes "\n") both took) c.put.ensures.ok

pub returns-clause-err : goal.returns-clause-err
returns-clause-err g c =
    let name = codes "bad program: " ++ c.args.name.now ++ codes ": " in
    let text : c.word.result.now ++ codes " at " ++ c.format.result.now ≡ fault_text c.args.fault =
    ap (λ (w : List ℕ). w ++ codes " at " ++ c.format.result.now) c.word.ensures ∙ ap (λ (d : List ℕ). reason_text c.args.fault.reason ++ codes " at " ++ d) c.format.ensures.text in
    let told = subst (Took (sunk (g.L.Sink.seen c.put_three.new.log).taken (g.L.Sink.seen c.put_three-2.new.log).taken)) text c.in_ok-put_three-2.ensures.ok in
    let both = took_both (g.L.Sink.seen c.args.log.now).taken (g.L.Sink.seen c.put_three.new.log).taken (g.L.Sink.seen c.put_three-2.new.log).taken name (fault_text c.args.fault) c.in_ok-put_three.ensures.ok told in
    OnErr-map c.put.result (λ front. took_more (g.L.Sink.seen c.args.log.now).taken (g.L.Sink.seen c.put_three-2.new.log).taken (g.L.Sink.seen c.put.new.log).taken (name ++ fault_text c.args.fault) (codes "\n") both front) c.put.ensures.err
