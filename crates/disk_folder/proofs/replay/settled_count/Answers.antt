use Rattle.std.proofs.Common.{suc, take, ap, sym, ◌∙◌, add-one, arith}
use Rattle.std.specs.Prelude.{if◌then◌else◌}
use Rattle.disk_folder.specs.History.{settled_count}
use Rattle.disk_folder.proofs.Histories.{next_settled}
use Rattle.disk_folder.proofs.replay.settled_count.Goals as goal
use Rattle.disk_folder.proofs.replay.settled_count.Goals.{then-settles, else-settles}

pub loop-i-preserved : goal.loop-i-preserved
loop-i-preserved c =
    let next = next_settled c.args.calls.now c.index-calls-i.result c.loop-i.i c.loop-i-test.true c.index-calls-i.is in
    let within = c.loop-i.invariant.within in
    elim c.if-settles.branch [
      | then-settles w ↦
          let sync = sym c.settles.ensures ∙ w.if-settles.true in
          record {
            count = w.count-is ∙ add-one c.loop-i.i ∙ sym (next ∙ ap (λ b. if b then suc c.loop-i.i else settled_count (take c.loop-i.i c.args.calls.now)) sync);
            within = let is = w.count-is in omega (arith, is);
          }
      | else-settles w ↦
          let sync = sym c.settles.ensures ∙ w.if-settles.false in
          record {
            count = w.count-is ∙ c.loop-i.invariant.count ∙ sym (next ∙ ap (λ b. if b then suc c.loop-i.i else settled_count (take c.loop-i.i c.args.calls.now)) sync);
            within = let is = w.count-is in omega (arith, is);
          }
    ]
