use Rattle.std.proofs.Common.{◌∙◌, ℕ, List, length, ap, sym}
use Rattle.guest_start.proofs.StackLemmas.{parts-stack, parts-length, together}
use Rattle.guest_start.proofs.stack.start_stack.Goals as goal

pub returns-clause-stack : goal.returns-clause-stack
returns-clause-stack c =
    together _ _ _ _ _ _ _ _ _ _ _ _ c.new-bytes.ensures.items c.in_ok-put_zeros.ensures c.deref-2.ensures.value c.in_ok-words.ensures.words c.deref.ensures.value
    c.in_ok-put_words.ensures c.in_ok-put_zeros-2.ensures c.in_ok-extend_from_slice.ensures.items
    ∙ parts-stack c.args.arguments.now c.in_ok-places.places.items c.sp_below-sp.result c.len-count.result c.in_ok-places.ensures.places
    (ap (λ (xs : List ℕ). length xs) (sym c.deref.ensures.value) ∙ c.deref.ensures.len ∙ sym c.len-count.ensures) c.sp_below-sp.ensures.sp

pub returns-clause-size : goal.returns-clause-size
returns-clause-size c =
    ap (λ (xs : List ℕ). length xs)
    (together _ _ _ _ _ _ _ _ _ _ _ _ c.new-bytes.ensures.items c.in_ok-put_zeros.ensures c.deref-2.ensures.value c.in_ok-words.ensures.words c.deref.ensures.value
    c.in_ok-put_words.ensures c.in_ok-put_zeros-2.ensures c.in_ok-extend_from_slice.ensures.items)
    ∙ parts-length c.args.arguments.now c.in_ok-places.places.items c.sp_below-sp.result c.len-count.result
    (ap (λ (xs : List ℕ). length xs) (sym c.deref.ensures.value) ∙ c.deref.ensures.len ∙ sym c.len-count.ensures) c.sp_below-sp.ensures.low c.sp_below-sp.ensures.room
