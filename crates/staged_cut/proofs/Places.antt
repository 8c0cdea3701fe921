-- The places of a list that a loop has still to come to.
--     IsAhead live n p      p stands in the list at place n or later
--     ahead_begun, ahead_on, none_ahead      at the start, one place on for all but the one there, at the end
use Rattle.std.proofs.Common.{◌≡◌, ◌≢◌, ◌+◌, ◌<◌, ◌≤◌, ℕ, List, length, get_or, inl, inr, sym, ap, ◌∙◌, arith}
use Rattle.std.specs.Prelude.{Contains}
use Rattle.std.proofs.lemmas.Bool.{cases_lt}
use Rattle.std.proofs.lemmas.List.{get_or_default}
use Rattle.sys_abi.specs.declared.identity.VPid.{VPid}

abbrev pub IsAhead : List VPid → ℕ → VPid → Type 0
IsAhead live n p = (i : ℕ) × ((n ≤ i) × ((i < length live) × (get_or live i p ≡ p)))

pub ahead_begun : (live : List VPid) (p : VPid) → Contains live p → IsAhead live 0 p
ahead_begun live p at =
    let from : 0 ≤ at.0 = omega arith in
    (at.0, (from, (at.1, at.2)))

-- a place from n on that isn't n is past it
past : (live : List VPid) (n i : ℕ) (z q : VPid) → n < length live → n ≤ i → get_or live i q ≡ q
    → q ≢ get_or live n z → n + 1 ≤ i
past live n i z q there from at differ = elim (cases_lt n i) [
  | inl less ↦ omega (arith, less)
  | inr most ↦
      let same : i ≡ n = omega (arith, from, most) in
      absurd (differ (sym at ∙ ap (λ (j : ℕ). get_or live j q) same ∙ get_or_default live n q z there))
]

pub ahead_on : (live : List VPid) (n : ℕ) (z q : VPid) → n < length live → q ≢ get_or live n z
    → IsAhead live n q → IsAhead live (n + 1) q
ahead_on live n z q there differ ahead =
    (ahead.0, (past live n ahead.0 z q there ahead.1.0 ahead.1.1.1 differ, ahead.1.1))

pub none_ahead : {A : Type 0} (live : List VPid) (n : ℕ) (p : VPid) → length live ≤ n → IsAhead live n p → A
none_ahead live n p over ahead =
    let from = ahead.1.0 in
    let below = ahead.1.1.0 in
    absurd (omega (arith, over, from, below))
