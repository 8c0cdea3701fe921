-- A computation that a checkpoint holds.
--     held_state      the start from which it would go on is at its state
--     same_parts      two computations are one whose parts are
use Rattle.std.proofs.Common.{◌≡◌, ap, ◌∙◌}
use Rattle.staged_cut.specs.HandedOn.{Computation, plain_of, state_of}
use Rattle.staged_cut.specs.declared.holding.Held.{Held}
use Rattle.staged_cut.specs.Holdings.{IsHeld}

pub held_state : (before : Computation) (held : Held) → IsHeld before held
    → state_of held.start ≡ plain_of before
held_state before held is = let kernel = is.kernel in let guests = is.guests in cc

pub same_parts : (a b : Computation) → a.kernel ≡ b.kernel → a.guests ≡ b.guests
    → a.transfer ≡ b.transfer → a ≡ b
same_parts a b kernel guests transfer =
    ap (λ k. let c : Computation = record a { kernel = k } in c) kernel
    ∙ ap (λ g. let c : Computation = record b { guests = g; transfer = a.transfer } in c) guests
    ∙ ap (λ t. let c : Computation = record b { transfer = t } in c) transfer
