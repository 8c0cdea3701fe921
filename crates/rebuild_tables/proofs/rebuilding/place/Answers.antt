use Rattle.std.proofs.Common.{sym, ap, ◌∙◌}
use Rattle.std.specs.Prelude.{is_some}
use Rattle.std.specs.Option.{option_copied}
use Rattle.std.specs.FinMap as map
use Rattle.views.proofs.MapLaws.{true_false}
use Rattle.views.proofs.Outcomes.{on_ok_then}
use Rattle.rebuild_tables.proofs.Paired.{has_real, paired_with}
use Rattle.rebuild_tables.proofs.Placing.{placed}
use Rattle.rebuild_tables.proofs.rebuilding.place.Goals as goal

pub unreachable-requires-in_default-get : goal.unreachable-requires-in_default-get
unreachable-requires-in_default-get c =
    let at = c.args.at in
    true_false (sym (c.requires.whole.descriptors.described at c.args.descriptor.now c.requires.descriptor)
    ∙ ap is_some (sym c.get.ensures ∙ ap option_copied c.in_default-get.is))

pub desc_in-desc-requires : goal.desc_in-desc-requires
desc_in-desc-requires c =
    has_real c.args.kernel.now c.requires.whole c.args.ids.now c.requires.plain c.requires.places
    c.args.descriptor.now.desc c.in-Some.description.now (sym c.in-Some.ensures)

pub returns : goal.returns
returns c = record {
  placed = on_ok_then c.place_at.result c.place_at.ensures.ok (λ new done is.
      let ids = c.args.ids.now in
      let at = c.args.at in
      let r = c.in-Ok.r in
      let paired = paired_with (map.get ids.pids at.pid.0) r _ (sym c.real_pid.ensures ∙ c.in-Ok.is) in
      placed ids c.whole.ensures.numbers done c.args.kernel.now.descriptions c.args.book.now is at
      c.args.descriptor.now r paired (c.requires.free r paired) c.in-Some.description.now
      (sym c.in-Some.ensures) c.place_at.new.self c.desc_in-desc.result c.desc_in-desc.ensures new);
}
