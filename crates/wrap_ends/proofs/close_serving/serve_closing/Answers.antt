use Rattle.std.proofs.Common.{◌≡◌, ℕ, true, refl, sym, ◌∙◌, subst}
use Rattle.std.proofs.lemmas.Option.{none-some}
use Rattle.views.proofs.MapLaws.{true_false}
use Rattle.call_table.specs.declared.request.Request.{Request}
use Rattle.call_table.specs.declared.request.Request.TheVariants.{Close, Dup3}
use Rattle.plain_machine.specs.Serve.{row}
use Rattle.plain_machine.specs.Kernels.{IsKernel}
use Rattle.wrap_names.specs.Wrapping.{StandsAfter, kernel_left}
use Rattle.wrap_names.proofs.Callers.{caller_there, paired}
use Rattle.wrap_names.proofs.Kept.{whole_left}
use Rattle.wrap_ends.specs.Serving.{is_closing}
use Rattle.wrap_ends.proofs.close_serving.serve_closing.Goals as goal

pub unreachable-requires : goal.unreachable-requires
unreachable-requires c =
    let there = caller_there c.args.system.now c.args.next_id c.args.stood.now.kernel c.requires.wrapped
    c.args.p c.args.t.0 c.args.request.now c.args.transfer.now c.requires.asked in
    none-some there.0 (sym c.in_default.is ∙ c.caller_of.ensures ∙ there.1)

other : (q : Request) → ((fd : ℕ) → q ≡ Close fd → ⊥) → ((fd to flags : ℕ) → q ≡ Dup3 fd to flags → ⊥)
    → is_closing q ≡ true → ⊥
unfolding is_closing
other (Close fd) no_close no_dup closing = no_close fd refl
other (Dup3 fd to flags) no_close no_dup closing = no_dup fd to flags refl
other _ no_close no_dup closing = true_false (sym closing)

pub unreachable-requires-in_default-request : goal.unreachable-requires-in_default-request
unreachable-requires-in_default-request c =
    other c.args.request.now c.in_default-request.not-Close c.in_default-request.not-Dup3 c.requires.closing

pub returns-in-Close : goal.returns-in-Close
unfolding row
returns-in-Close c =
    let s = c.args.system.now in
    let k = c.args.stood.now.kernel in
    let w = c.requires.wrapped in
    let x = c.args.transfer.now in
    let t = c.args.t.0 in
    let request = c.args.request.now in
    subst (λ (q : Request). StandsAfter c.close.new.system c.args.next_id k x x c.close.result
    (row k c.args.p t q x))
    (sym c.in-Close.is)
    (c.close.ensures k c.args.next_id c.args.p x w
    (paired s c.args.next_id k w c.args.p t request x c.requires.asked c.in-Some.caller
    (sym c.caller_of.ensures ∙ c.in-Some.is))
    (subst (λ (q : Request). IsKernel (kernel_left k (row k c.args.p t q x))) c.in-Close.is
    (whole_left s c.args.next_id k w c.args.p t request x c.requires.asked)))

pub returns-in-Dup3 : goal.returns-in-Dup3
unfolding row
returns-in-Dup3 c =
    let s = c.args.system.now in
    let k = c.args.stood.now.kernel in
    let w = c.requires.wrapped in
    let x = c.args.transfer.now in
    let t = c.args.t.0 in
    let request = c.args.request.now in
    subst (λ (q : Request). StandsAfter c.dup3.new.system c.args.next_id k x x c.dup3.result
    (row k c.args.p t q x))
    (sym c.in-Dup3.is)
    (c.dup3.ensures k c.args.next_id c.args.p x w
    (paired s c.args.next_id k w c.args.p t request x c.requires.asked c.in-Some.caller
    (sym c.caller_of.ensures ∙ c.in-Some.is))
    (subst (λ (q : Request). IsKernel (kernel_left k (row k c.args.p t q x))) c.in-Dup3.is
    (whole_left s c.args.next_id k w c.args.p t request x c.requires.asked)))
