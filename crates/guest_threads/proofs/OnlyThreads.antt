-- A fork's child: the one row that it begins with.
--     settled_only, not_only, one_rising
use Rattle.std.proofs.Common.{◌≡◌, ◌≢◌, ℕ, List, [], ◌∷◌, length, slice_set, refl, sym, ap, ◌∙◌, arith}
use Rattle.std.specs.Prelude.{Some}
use Rattle.std.specs.Cmp.{nat_cmp_total}
use Rattle.std.specs.FinMap as map
use Rattle.std.proofs.lemmas.List.{length-map}
use Rattle.views.proofs.MapLaws.{entries-single}
use Rattle.plain_process.specs.declared.user_part.ThreadPart.{ThreadPart}
use Rattle.plain_process.specs.Twins.{alone}
use Rattle.guest_threads.specs.declared.rows.Row.{Row}
use Rattle.guest_threads.specs.Rows.{entry_of, entries_of, threads_of, IsRising}
use Rattle.guest_threads.proofs.RowLaws.{entries-rows}

-- rows that are seen as one thread are one row
one_entry : (rows : List Row) (t : ℕ) (thread : ThreadPart) → IsRising rows → threads_of rows ≡ alone t (Some thread) → entries_of rows ≡ (t, thread) ∷ []
one_entry rows t thread rises is = sym (entries-rows rows rises) ∙ ap map.entries is ∙ entries-single nat_cmp_total map.nat_cmp-IsAntisymmetric t thread

pub not_only : (rows : List Row) (t : ℕ) (thread : ThreadPart) → IsRising rows → threads_of rows ≡ alone t (Some thread) → length rows ≢ 1 → ⊥
not_only rows t thread rises is other =
    let one = one_entry rows t thread rises is in
    other (sym (length-map rows entry_of) ∙ ap length one)

pub one_rising : (rows : List Row) (row : Row) → length rows ≡ 1 → IsRising (slice_set rows 0 row)
unfolding IsRising
one_rising [] row one = absurd (omega arith)
one_rising (first ∷ []) row one = tt
one_rising (first ∷ second ∷ rest) row one = absurd (omega arith)

-- another entry in the place of the only one
pub settled_only : (rows : List Row) (row : Row) (t number : ℕ) (before after : ThreadPart) → IsRising rows → threads_of rows ≡ alone t (Some before) → length rows ≡ 1
    → ((first : Row) → first ∷ [] ≡ rows → entry_of first ≡ (t, before) → entry_of row ≡ (number, after)) → threads_of (slice_set rows 0 row) ≡ alone number (Some after)
unfolding threads_of
settled_only [] row t number before after rises is one goes = absurd (omega arith)
settled_only (first ∷ []) row t number before after rises is one goes =
    let entries = one_entry (first ∷ []) t before rises is in
    let here : entry_of first ≡ (t, before) = cc in
    ap (λ e. map.insert map.empty e.0 e.1) (goes first refl here)
settled_only (first ∷ second ∷ rest) row t number before after rises is one goes = absurd (omega arith)
