use Rattle.std.proofs.Common.{ℕ, List, subst}
use Rattle.std.specs.Prelude.{All}
use Rattle.plain_process.specs.Valid.{IsByte}
use Rattle.dmtcp_top.proofs.loading.origin_in.Goals as goal

pub restored-requires : goal.restored-requires
restored-requires c = record {
  spelled = (c.args.set.now.files, (subst (λ (files : List (List ℕ)). All (λ file. All IsByte file) files) c.as_slice.ensures c.look_at_files.ensures, c.in-Ok.ensures.found));
}
