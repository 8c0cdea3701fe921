use Rattle.std.proofs.Common.{length, sym, ap, subst, ◌∙◌}
use Rattle.std.specs.Prelude.{◌==◌}
use Rattle.std.specs.FinMap as map
use Rattle.views.proofs.MapLaws.{true_false}
use Rattle.seen_kernel.specs.Files.{AddsName}
use Rattle.seen_kernel.proofs.SeenFiles.{adds_this}
use Rattle.seen_kernel.proofs.files.add_name.Goals as goal

pub returns : goal.returns
returns c = record {
  ok = subst (λ new. AddsName c.args.files.now c.args.file c.args.seen.now new)
      (sym (c.in_ok-insert.ensures.ok
      ∙ ap (λ name. map.insert c.args.seen.now name c.args.file) c.in_ok-copy_of.ensures))
      (adds_this c.args.files.now c.args.file c.args.seen.now c.in-Some.name.now c.in-Some.ensures.of_file
      (λ none. true_false (sym (c.is_empty.ensures ∙ ap (λ name. length name == 0) none)
      ∙ c.if-is_empty.false)));
}
