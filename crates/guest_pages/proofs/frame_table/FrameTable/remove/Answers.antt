use Rattle.std.proofs.Common.{◌/◌, ◌≡◌, ◌≤◌, true, sym, ap, subst, ◌∙◌, arith}
use Rattle.std.specs.Prelude.{is_some}
use Rattle.std.specs.FinMap as map
use Rattle.std.specs.Cmp.{nat_cmp_total}
use Rattle.views.proofs.MapLaws.{remove_absent}
use Rattle.plain_process.specs.Memory.{Memory}
use Rattle.guest_pages.proofs.FrameTables.{short-set, removed-in_row, row-within, len-taken, none_of, some_len}
use Rattle.guest_pages.proofs.frame_table.FrameTable.remove.Goals as goal

pub returns-then-not-contains : goal.returns-then-not-contains
returns-then-not-contains c =
    sym (remove_absent nat_cmp_total map.nat_cmp-IsAntisymmetric c.args.self.now c.args.page (none_of (map.get c.args.self.now c.args.page) (sym c.contains.ensures ∙ c.if-not-contains.true)))

pub index_mut-requires : goal.index_mut-requires
index_mut-requires c =
    let within = row-within c.self.inside.blocks.items c.args.self.now c.args.page c.self.view_is (sym c.contains.ensures ∙ c.if-not-contains.false) in
    let ok = c.self.inside.blocks.ok in omega (arith, within)

pub overflow_sub-self : goal.overflow_sub-self
overflow_sub-self c =
    subst (λ n. 1 ≤ n) (sym (c.self.invariant.counted ∙ ap (λ (m : Memory). map.len m) c.self.view_is)) (some_len c.args.self.now c.args.page (sym c.contains.ensures ∙ c.if-not-contains.false))

pub invariant_of-self : goal.invariant_of-self
invariant_of-self c =
    let there : is_some (map.get c.args.self.now c.args.page) ≡ true = sym c.contains.ensures ∙ c.if-not-contains.false in
    let within = row-within c.self.inside.blocks.items c.args.self.now c.args.page c.self.view_is there in
    record {
      counted = len-taken c.args.self.now c.args.page c.self.inside.count (c.self.invariant.counted ∙ ap (λ (m : Memory). map.len m) c.self.view_is) there ∙ ap (λ (m : Memory). map.len m) (sym (removed-in_row c.self.inside.blocks.items c.args.self.now c.args.page c.index_mut.result.now c.remove.new.self c.self.view_is within c.index_mut.ensures.value c.remove.ensures));
      short = short-set c.self.inside.blocks.items (c.args.page / 1024) c.remove.new.self c.self.invariant.short;
    }

pub returns : goal.returns
returns c =
    let within = row-within c.self.inside.blocks.items c.args.self.now c.args.page c.self.view_is (sym c.contains.ensures ∙ c.if-not-contains.false) in
    removed-in_row c.self.inside.blocks.items c.args.self.now c.args.page c.index_mut.result.now c.remove.new.self c.self.view_is within c.index_mut.ensures.value c.remove.ensures
