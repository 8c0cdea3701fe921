use Rattle.std.proofs.Common.{◌≡◌, ℕ, List, ◌++◌, ap, subst, ◌∙◌}
use Rattle.std.specs.Prelude.{codes}
use Rattle.std.specs.Fmt.{decimal}
use Rattle.endings.specs.Log.{place_text, damaged_line}
use Rattle.edge_io.specs.Sunk.{sunk, Took, TookFront}
use Rattle.endings.proofs.Sinks.{took_both, took_more, front_grows, OnErr-of_any, OnErr-map}
use Rattle.endings.proofs.Sinks.{OnOk-map}
use Rattle.endings.proofs.ending.put_damage.Goals as goal

pub returns-in_err-put_three-clause-err : goal.returns-in_err-put_three-clause-err
returns-in_err-put_three-clause-err g c =
    let slot = codes "damaged: slot " ++ decimal c.args.slot ++ codes " file " in
    let sink = sunk (g.L.Sink.seen c.args.log.now).taken (g.L.Sink.seen c.put_three.new.log).taken in
    let text : codes "damaged: slot " ++ c.format.result.now ++ codes " file " ≡ slot =
    ap (λ (d : List ℕ). codes "damaged: slot " ++ d ++ codes " file ") c.format.ensures.text in
    OnErr-of_any (TookFront sink (damaged_line c.args.slot c.args.damage)) _
    (front_grows sink (slot ++ place_text c.args.damage) (codes "\n") (front_grows sink slot (place_text c.args.damage) (subst (TookFront sink) text c.in_err-put_three.ensures.err)))

pub returns-in_err-put_three-2-clause-err : goal.returns-in_err-put_three-2-clause-err
returns-in_err-put_three-2-clause-err g c =
    let slot = codes "damaged: slot " ++ decimal c.args.slot ++ codes " file " in
    let sink = sunk (g.L.Sink.seen c.args.log.now).taken (g.L.Sink.seen c.put_three-2.new.log).taken in
    let first : codes "damaged: slot " ++ c.format.result.now ++ codes " file " ≡ slot =
    ap (λ (d : List ℕ). codes "damaged: slot " ++ d ++ codes " file ") c.format.ensures.text in
    let second : c.format-2.result.now ++ codes " at " ++ c.format-3.result.now ≡ place_text c.args.damage =
    ap (λ (d : List ℕ). d ++ codes " at " ++ c.format-3.result.now) c.format-2.ensures.text ∙ ap (λ (d : List ℕ). decimal c.args.damage.file ++ codes " at " ++ d) c.format-3.ensures.text in
    let told = subst (Took (sunk (g.L.Sink.seen c.args.log.now).taken (g.L.Sink.seen c.put_three.new.log).taken)) first c.in_ok-put_three.ensures.ok in
    let front = subst (TookFront (sunk (g.L.Sink.seen c.put_three.new.log).taken (g.L.Sink.seen c.put_three-2.new.log).taken)) second c.in_err-put_three-2.ensures.err in
    OnErr-of_any (TookFront sink (damaged_line c.args.slot c.args.damage)) _
    (front_grows sink (slot ++ place_text c.args.damage) (codes "\n")
    (took_more (g.L.Sink.seen c.args.log.now).taken (g.L.Sink.seen c.put_three.new.log).taken (g.L.Sink.seen c.put_three-2.new.log).taken slot (place_text c.args.damage) told front))

pub returns-clause-ok : goal.returns-clause-ok
returns-clause-ok g c =
    let slot = codes "damaged: slot " ++ decimal c.args.slot ++ codes " file " in
    let first : codes "damaged: slot " ++ c.format.result.now ++ codes " file " ≡ slot =
    ap (λ (d : List ℕ). codes "damaged: slot " ++ d ++ codes " file ") c.format.ensures.text in
    let second : c.format-2.result.now ++ codes " at " ++ c.format-3.result.now ≡ place_text c.args.damage =
    ap (λ (d : List ℕ). d ++ codes " at " ++ c.format-3.result.now) c.format-2.ensures.text ∙ ap (λ (d : List ℕ). decimal c.args.damage.file ++ codes " at " ++ d) c.format-3.ensures.text in
    let told = subst (Took (sunk (g.L.Sink.seen c.args.log.now).taken (g.L.Sink.seen c.put_three.new.log).taken)) first c.in_ok-put_three.ensures.ok in
    let more = subst (Took (sunk (g.L.Sink.seen c.put_three.new.log).taken (g.L.Sink.seen c.put_three-2.new.log).taken)) second c.in_ok-put_three-2.ensures.ok in
    let both = took_both (g.L.Sink.seen c.args.log.now).taken (g.L.Sink.seen c.put_three.new.log).taken (g.L.Sink.seen c.put_three-2.new.log).taken slot (place_text c.args.damage) told more in
    OnOk-map c.put.result (λ took. took_both (g.L.Sink.seen c.args.log.now).taken (g.L.Sink.seen c.put_three-2.new.log).taken (g.L.Sink.seen c.put.new.log).taken (slot ++ place_text c.args.damage) (codes "\n") both took) c.put.ensures.ok

pub returns-clause-err : goal.returns-clause-err
returns-clause-err g c =
    let slot = codes "damaged: slot " ++ decimal c.args.slot ++ codes " file " in
    let first : codes "damaged: slot " ++ c.format.result.now ++ codes " file " ≡ slot =
    ap (λ (d : List ℕ). codes "damaged: slot " ++ d ++ codes " file ") c.format.ensures.text in
    let second : c.format-2.result.now ++ codes " at " ++ c.format-3.result.now ≡ place_text c.args.damage =
    ap (λ (d : List ℕ). d ++ codes " at " ++ c.format-3.result.now) c.format-2.ensures.text ∙ ap (λ (d : List ℕ). decimal c.args.damage.file ++ codes " at " ++ d) c.format-3.ensures.text in
    let told = subst (Took (sunk (g.L.Sink.seen c.args.log.now).taken (g.L.Sink.seen c.put_three.new.log).taken)) first c.in_ok-put_three.ensures.ok in
    let more = subst (Took (sunk (g.L.Sink.seen c.put_three.new.log).taken (g.L.Sink.seen c.put_three-2.new.log).taken)) second c.in_ok-put_three-2.ensures.ok in
    let both = took_both (g.L.Sink.seen c.args.log.now).taken (g.L.Sink.seen c.put_three.new.log).taken (g.L.Sink.seen c.put_three-2.new.log).taken slot (place_text c.args.damage) told more in
    OnErr-map c.put.result (λ front. took_more (g.L.Sink.seen c.args.log.now).taken (g.L.Sink.seen c.put_three-2.new.log).taken (g.L.Sink.seen c.put.new.log).taken (slot ++ place_text c.args.damage) (codes "\n") both front) c.put.ensures.err
