-- The pages of well placed segments, for callers that load them.
use Rattle.std.proofs.Common.{◌≡◌, ℕ, ◌+◌, ◌*◌, ◌^◌, ◌<◌, ◌≤◌, suc, true, false, cond, ◌||◌, List, [], ◌∷◌, refl, ◌∙◌, ap, arith}
use Rattle.std.proofs.lemmas.Bool.Decides.{nat_tests}
use Rattle.std.proofs.lemmas.Nat.{or_lt}
use Rattle.std.specs.List.{All, fold}
use Rattle.std.specs.Prelude.{bit_or}
use Rattle.elf32.specs.declared.program.Segment.{Segment}
use Rattle.elf32.specs.Pages.{touches, is_touched, rights_at, page_rights}
use Rattle.elf32.specs.Programs.{IsWellPlaced}

head : (s : Segment) (segments : List Segment) → All IsWellPlaced (s ∷ segments) → IsWellPlaced s
head s segments all = all 0 s (omega arith)

tail : (s : Segment) (segments : List Segment) → All IsWellPlaced (s ∷ segments) → All IsWellPlaced segments
tail s segments all = λ k d below. all (suc k) d (omega arith)

touches-within : (s : Segment) (p : ℕ) → IsWellPlaced s → touches s p ≡ true → (1 ≤ p) × (p < 0x40000)
touches-within s p placed here =
    let after : s.vaddr < 4096 * p + 4096 = grind (arith, nat_tests) in
    let before : 4096 * p < s.vaddr + s.memsz = grind (arith, nat_tests) in
    (omega (arith, placed.first), omega (arith, placed.last))

-- page 0 and the pages from 0x40000000 on are free
pub is_touched-within : (segments : List Segment) (p : ℕ) → All IsWellPlaced segments → is_touched segments p ≡ true → (1 ≤ p) × (p < 0x40000)
is_touched-within [] p all here = cc
is_touched-within (s ∷ segments) p all here =
    elim (touches s p) as (λ b. touches s p ≡ b → (b || is_touched segments p) ≡ true → (1 ≤ p) × (p < 0x40000)) [
      | true ↦ λ is _. touches-within s p (head s segments all) is
      | false ↦ λ _ more. is_touched-within segments p (tail s segments all) more
    ]
    refl here

rights_at-lt : (s : Segment) (p : ℕ) → IsWellPlaced s → rights_at s p < 2 ^ 3
rights_at-lt s p placed =
    elim (touches s p) as (λ b. cond b s.rights 0 < 2 ^ 3) [ true ↦ placed.rights | false ↦ omega arith ]

fold-lt : (segments : List Segment) (p rights : ℕ) → All IsWellPlaced segments → rights < 2 ^ 3 → fold (λ r s. bit_or r (rights_at s p)) rights segments < 2 ^ 3
fold-lt [] p rights all below = below
fold-lt (s ∷ segments) p rights all below =
    fold-lt segments p (bit_or rights (rights_at s p)) (tail s segments all) (or_lt 3 rights (rights_at s p) below (rights_at-lt s p (head s segments all)))

-- rights are of 4, 2 and 1
pub page_rights-lt : (segments : List Segment) (p : ℕ) → All IsWellPlaced segments → page_rights segments p < 8
page_rights-lt segments p all = fold-lt segments p 0 all (omega arith)

-- a page that no segment touches has no rights
pub page_rights-none : (segments : List Segment) (p : ℕ) → is_touched segments p ≡ false → page_rights segments p ≡ 0
page_rights-none [] p none = refl
page_rights-none (s ∷ segments) p none =
    let here : touches s p ≡ false = grind arith in
    let more : is_touched segments p ≡ false = grind arith in
    let nothing : bit_or 0 (rights_at s p) ≡ 0 = rw here refl in
    ap (λ (r : ℕ). fold (λ q t. bit_or q (rights_at t p)) r segments) nothing ∙ page_rights-none segments p more
