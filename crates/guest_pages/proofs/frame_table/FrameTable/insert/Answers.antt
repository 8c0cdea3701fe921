use Rattle.std.proofs.Common.{ℕ, ◌+◌, ◌≤◌, ◌^◌, max, ◌<◌, ◌/◌, length, sym, ap, ◌∙◌, arith}
use Rattle.std.specs.Prelude.{Some}
use Rattle.std.specs.FinMap as map
use Rattle.plain_process.specs.Memory.{Memory}
use Rattle.guest_pages.proofs.FrameTables.{short-set, frames-same, set-in_row, same-in_row, len-inserted, holds_on_err}
use Rattle.guest_pages.proofs.frame_table.FrameTable.insert.Goals as goal

grown_short : (page old new : ℕ) → page < 2 ^ 32 → old ≤ 2 ^ 22 → new ≤ max old (page / 1024 + 1) → new ≤ 2 ^ 22
grown_short page old new small before grown = omega arith

pub invariant_of-self : goal.invariant_of-self
invariant_of-self c =
    record {
      counted = c.self.invariant.counted ∙ ap (λ (m : Memory). map.len m) (sym (frames-same c.self.inside.blocks.items c.grow.new.blocks.items c.grow.ensures.same));
      short = grown_short c.args.page (length c.self.inside.blocks.items) (length c.grow.new.blocks.items) (omega arith) c.self.invariant.short c.grow.ensures.short;
    }

pub returns-in_err-grow-clause-err : goal.returns-in_err-grow-clause-err
returns-in_err-grow-clause-err c = holds_on_err _ c.from_residual.result (frames-same c.self.inside.blocks.items c.grow.new.blocks.items c.grow.ensures.same ∙ c.self.view_is)

pub invariant_of-self-in_err-insert : goal.invariant_of-self-in_err-insert
invariant_of-self-in_err-insert c =
    let grown = frames-same c.self.inside.blocks.items c.grow.new.blocks.items c.grow.ensures.same in
    let within : c.args.page / 1024 < length c.grow.new.blocks.items = omega (arith, c.in_ok-grow.ensures.ok) in
    record {
      counted = c.self.invariant.counted ∙ ap (λ (m : Memory). map.len m) (sym (same-in_row c.grow.new.blocks.items (c.args.page / 1024) c.index_mut.result.now c.insert.new.self within c.index_mut.ensures.value c.in_err-insert.ensures.err ∙ grown));
      short = short-set c.grow.new.blocks.items (c.args.page / 1024) c.insert.new.self (grown_short c.args.page (length c.self.inside.blocks.items) (length c.grow.new.blocks.items) (omega arith) c.self.invariant.short c.grow.ensures.short);
    }

pub returns-in_err-insert-clause-err : goal.returns-in_err-insert-clause-err
returns-in_err-insert-clause-err c =
    let grown = frames-same c.self.inside.blocks.items c.grow.new.blocks.items c.grow.ensures.same in
    let within : c.args.page / 1024 < length c.grow.new.blocks.items = omega (arith, c.in_ok-grow.ensures.ok) in
    holds_on_err _ c.from_residual-in_err-insert.result
    (same-in_row c.grow.new.blocks.items (c.args.page / 1024) c.index_mut.result.now c.insert.new.self within c.index_mut.ensures.value c.in_err-insert.ensures.err ∙ grown ∙ c.self.view_is)

pub invariant_of-self-2 : goal.invariant_of-self-2
invariant_of-self-2 c =
    let seen = frames-same c.self.inside.blocks.items c.grow.new.blocks.items c.grow.ensures.same ∙ c.self.view_is in
    let within : c.args.page / 1024 < length c.grow.new.blocks.items = omega (arith, c.in_ok-grow.ensures.ok) in
    record {
      counted = len-inserted c.args.self.now c.args.page c.args.frame c.self.inside.count c.contains-is_new.result (c.self.invariant.counted ∙ ap (λ (m : Memory). map.len m) c.self.view_is) c.contains-is_new.ensures ∙ ap (λ (m : Memory). map.len m) (sym (set-in_row c.grow.new.blocks.items c.args.self.now c.args.page c.index_mut.result.now c.insert.new.self (Some c.args.frame) seen within c.index_mut.ensures.value c.in_ok-insert.ensures.ok));
      short = short-set c.grow.new.blocks.items (c.args.page / 1024) c.insert.new.self (grown_short c.args.page (length c.self.inside.blocks.items) (length c.grow.new.blocks.items) (omega arith) c.self.invariant.short c.grow.ensures.short);
    }

pub returns-clause-ok : goal.returns-clause-ok
returns-clause-ok c =
    let seen = frames-same c.self.inside.blocks.items c.grow.new.blocks.items c.grow.ensures.same ∙ c.self.view_is in
    let within : c.args.page / 1024 < length c.grow.new.blocks.items = omega (arith, c.in_ok-grow.ensures.ok) in
    set-in_row c.grow.new.blocks.items c.args.self.now c.args.page c.index_mut.result.now c.insert.new.self (Some c.args.frame) seen within c.index_mut.ensures.value c.in_ok-insert.ensures.ok
