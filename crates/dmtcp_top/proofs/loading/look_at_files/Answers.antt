use Rattle.std.proofs.Common.{ℕ, List, ◌<◌, ◌∙◌, length, subst, arith}
use Rattle.std.specs.Prelude.{All, slice_index_or}
use Rattle.std.proofs.lemmas.List.{get_or_default}
use Rattle.plain_process.specs.Valid.{IsByte}
use Rattle.launch_start.proofs.Bytes.{one_more}
use Rattle.dmtcp_top.proofs.loading.look_at_files.Goals as goal

pub loop-file-preserved : goal.loop-file-preserved
loop-file-preserved c = record {
  looked = λ k below.
      one_more (λ at. (d : List ℕ) → at < length c.args.files.now → All IsByte (slice_index_or c.args.files.now at d)) c.loop-file.file-index c.loop-file.invariant.looked
      (λ d inside. subst (All IsByte) (c.as_slice.ensures ∙ c.file-item.is ∙ get_or_default c.args.files.now c.loop-file.file-index c.file-item.result d inside) c.look_at_bytes.ensures) k (omega (arith, below));
}

pub returns : goal.returns
returns c = λ k d inside. c.loop-file.invariant.looked k (omega (arith, inside, c.loop-file-test.false)) d inside
