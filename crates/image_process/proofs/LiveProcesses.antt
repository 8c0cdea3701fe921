-- A walk over processes that counts the live ones down
use Rattle.std.proofs.Common.{◌≡◌, ℕ, suc, ◌+◌, ◌-◌, ◌<◌, ◌≤◌, true, false, List, ◌∷◌, length, drop, get_or, filter, Option, Some, None, refl, sym, ap, ◌∙◌, arith}
use Rattle.std.specs.Prelude.{slice_get}
use Rattle.std.proofs.lemmas.List.{drop_more, drop_all}
use Rattle.shared_items.specs.declared.shared.ProcessEntry.{ProcessEntry}
use Rattle.sys_abi.specs.Lives.{lives}

-- the live process at this place of those from an index on
unfoldable pub live_from : List ProcessEntry → ℕ → Option ProcessEntry
live_from processes place = slice_get (filter (λ process. lives process.life) processes) place

first_dead : (process : ProcessEntry) (rest : List ProcessEntry) (place : ℕ) → lives process.life ≡ false → live_from (process ∷ rest) place ≡ live_from rest place
unfolding live_from
first_dead process rest place h = rw h refl

first_live : (process : ProcessEntry) (rest : List ProcessEntry) (place : ℕ) → lives process.life ≡ true → live_from (process ∷ rest) (suc place) ≡ live_from rest place
unfolding live_from
first_live process rest place h = rw h refl

first_found : (process : ProcessEntry) (rest : List ProcessEntry) → lives process.life ≡ true → live_from (process ∷ rest) 0 ≡ Some process
unfolding live_from
first_found process rest h = rw h refl

pub passes_dead : (processes : List ProcessEntry) (i place : ℕ) (process : ProcessEntry) → i < length processes → process ≡ get_or processes i process → lives process.life ≡ false
    → live_from (drop (i + 1) processes) place ≡ live_from (drop i processes) place
passes_dead processes i place process inside is dead =
    sym (ap (λ (rest : List ProcessEntry). live_from rest place) (drop_more processes i process inside ∙ ap (λ (p : ProcessEntry). p ∷ drop (i + 1) processes) (sym is)) ∙ first_dead process (drop (i + 1) processes) place dead)

pub passes_live : (processes : List ProcessEntry) (i place : ℕ) (process : ProcessEntry) → i < length processes → process ≡ get_or processes i process → lives process.life ≡ true → (place ≡ 0 → ⊥)
    → live_from (drop (i + 1) processes) (place - 1) ≡ live_from (drop i processes) place
passes_live processes i place process inside is alive some =
    let one_more : place ≡ suc (place - 1) = omega arith in
    sym (ap (λ (rest : List ProcessEntry). live_from rest place) (drop_more processes i process inside ∙ ap (λ (p : ProcessEntry). p ∷ drop (i + 1) processes) (sym is))
    ∙ ap (live_from (process ∷ drop (i + 1) processes)) one_more ∙ first_live process (drop (i + 1) processes) (place - 1) alive)

pub is_found : (processes : List ProcessEntry) (i place : ℕ) (process : ProcessEntry) → i < length processes → process ≡ get_or processes i process → lives process.life ≡ true → place ≡ 0
    → live_from (drop i processes) place ≡ Some process
is_found processes i place process inside is alive none =
    ap (λ (rest : List ProcessEntry). live_from rest place) (drop_more processes i process inside ∙ ap (λ (p : ProcessEntry). p ∷ drop (i + 1) processes) (sym is))
    ∙ ap (live_from (process ∷ drop (i + 1) processes)) none ∙ first_found process (drop (i + 1) processes) alive

pub is_none : (processes : List ProcessEntry) (i place : ℕ) → length processes ≤ i → live_from (drop i processes) place ≡ None
unfolding live_from
is_none processes i place h = ap (λ (rest : List ProcessEntry). live_from rest place) (drop_all i processes h)
