use Rattle.std.proofs.Common.{refl, ◌∙◌, sym}
use Rattle.image_store.specs.FoundSets.{file_at}
use Rattle.image_store.proofs.Causes.{counts_none, counts_of, counts_then}
use Rattle.image_store.proofs.Passing.{nothing_none, nothing_call, nothing_then, told_at}
use Rattle.image_store.proofs.Readings.{damage_start, damage_end, damage_after, damage_found}
use Rattle.image_store.proofs.reading.check_lengths.Goals as goal

pub loop-i-init : goal.loop-i-init
loop-i-init g c = record { found = λ files is. refl; nothing = nothing_none (g.F.Folder.seen c.args.disk.now); count = counts_none _ }

pub returns-in_err-there-clause-nothing : goal.returns-in_err-there-clause-nothing
returns-in_err-there-clause-nothing g c = nothing_then c.loop-i.invariant.nothing (nothing_call c.len.ensures.same c.len.ensures.crash)

pub returns-in-Some-clause-found : goal.returns-in-Some-clause-found
returns-in-Some-clause-found g c = λ files is.
    let there = file_at files c.args.slot in
    let told = told_at _ _ files c.in_ok-there.ensures.told (c.loop-i.invariant.nothing.same ∙ is) in
    sym (damage_start there c.args.lengths.now) ∙ sym (c.loop-i.invariant.found files is)
    ∙ damage_found there c.args.lengths.now c.loop-i.i c.in-Some.damage c.loop-i-test.true (sym (c.damage_at.ensures _ told) ∙ c.in-Some.is)

pub returns-in-Some-clause-nothing : goal.returns-in-Some-clause-nothing
returns-in-Some-clause-nothing g c = nothing_then c.loop-i.invariant.nothing (nothing_call c.len.ensures.same c.len.ensures.crash)

pub loop-i-preserved : goal.loop-i-preserved
loop-i-preserved g c = record {
  found = λ files is.
      let told = told_at _ _ files c.in_ok-there.ensures.told (c.loop-i.invariant.nothing.same ∙ is) in
      damage_after (file_at files c.args.slot) c.args.lengths.now c.loop-i.i c.loop-i-test.true (sym (c.damage_at.ensures _ told) ∙ c.in_default.is) ∙ c.loop-i.invariant.found files is;
  nothing = nothing_then c.loop-i.invariant.nothing (nothing_call c.len.ensures.same c.len.ensures.crash);
  count = counts_then c.loop-i.invariant.count (counts_of c.len.ensures.cause);
}

pub returns-clause-found : goal.returns-clause-found
returns-clause-found g c = λ files is.
    let there = file_at files c.args.slot in
    sym (damage_start there c.args.lengths.now) ∙ sym (c.loop-i.invariant.found files is) ∙ damage_end there c.args.lengths.now c.loop-i.i c.loop-i-test.false
