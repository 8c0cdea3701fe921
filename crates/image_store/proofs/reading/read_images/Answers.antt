use Rattle.std.proofs.Common.{◌∙◌, ℕ, List, ◌+◌, ◌++◌, length, ap, sym}
use Rattle.std.specs.Prelude.{Some, map}
use Rattle.image_store.specs.FoundSets.{file_at}
use Rattle.image_store.proofs.Causes.{counts, counts_none, counts_then}
use Rattle.image_store.proofs.Passing.{nothing_none, nothing_then}
use Rattle.image_store.proofs.Readings.{damage_start, files_left, fits_here, left_start, read_step, read_end, lengths_step}
use Rattle.image_store.proofs.reading.read_images.Goals as goal

pub returns-in_err-images-clause-nothing : goal.returns-in_err-images-clause-nothing
returns-in_err-images-clause-nothing g c = nothing_none (g.F.Folder.seen c.args.disk.now)

pub loop-i-init : goal.loop-i-init
loop-i-init g c =
    let lengths = c.args.lengths.now in
    record {
      found = λ files is. ap (λ (xs : List (List ℕ)). map Some xs ++ files_left (file_at files c.args.slot) lengths 0) c.in_ok-images.ensures.items ∙ left_start (file_at files c.args.slot) lengths;
      whole = λ files is. damage_start (file_at files c.args.slot) lengths ∙ c.requires.whole files is;
      sizes = ap (λ (xs : List (List ℕ)). map length xs) c.in_ok-images.ensures.items;
      nothing = nothing_none (g.F.Folder.seen c.args.disk.now);
      count = counts_none _;
    }

pub read_image-requires : goal.read_image-requires
read_image-requires g c = λ files is. (fits_here (file_at files c.args.slot) c.args.lengths.now c.loop-i.i c.loop-i-test.true (c.loop-i.invariant.whole files (sym c.loop-i.invariant.nothing.same ∙ is))).0

pub returns-in_err-read_image-clause-nothing : goal.returns-in_err-read_image-clause-nothing
returns-in_err-read_image-clause-nothing g c = nothing_then c.loop-i.invariant.nothing c.read_image.ensures.nothing

pub returns-in_err-push-clause-nothing : goal.returns-in_err-push-clause-nothing
returns-in_err-push-clause-nothing g c = nothing_then c.loop-i.invariant.nothing c.read_image.ensures.nothing

pub loop-i-preserved : goal.loop-i-preserved
loop-i-preserved g c =
    let lengths = c.args.lengths.now in
    let i = c.loop-i.i in
    let image = c.in_ok-read_image.field-0 in
    record {
      found = λ files is.
          let there = file_at files c.args.slot in
          ap (λ (xs : List (List ℕ)). map Some xs ++ files_left there lengths (i + 1)) c.in_ok-push.ensures.items
          ∙ read_step there lengths i c.loop-i.images.items image c.loop-i-test.true (c.in_ok-read_image.ensures.found files (c.loop-i.invariant.nothing.same ∙ is))
          ∙ c.loop-i.invariant.found files is;
      whole = λ files is. (fits_here (file_at files c.args.slot) lengths i c.loop-i-test.true (c.loop-i.invariant.whole files is)).1;
      sizes = ap (λ (xs : List (List ℕ)). map length xs) c.in_ok-push.ensures.items ∙ lengths_step lengths i c.loop-i.images.items image c.loop-i-test.true c.loop-i.invariant.sizes c.in_ok-read_image.ensures.length;
      nothing = nothing_then c.loop-i.invariant.nothing c.read_image.ensures.nothing;
      count = counts_then c.loop-i.invariant.count (counts c.read_image.ensures.cause);
    }

pub returns-clause-found : goal.returns-clause-found
returns-clause-found g c = λ files is.
    read_end (file_at files c.args.slot) c.args.lengths.now c.loop-i.i _ c.loop-i-test.false (ap (λ (xs : List (List ℕ)). map Some xs ++ files_left (file_at files c.args.slot) c.args.lengths.now c.loop-i.i) c.from_vec.ensures ∙ c.loop-i.invariant.found files is)
