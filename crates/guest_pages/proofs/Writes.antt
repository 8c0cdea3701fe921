-- What writes and whole pages make of a space.
--     with_bytes-changed           a write to one page
--     IsSpace-empty, IsSpace-insert, IsSpace-new_page, IsSpace-removed, IsSpace-changed      what keeps a space within its bounds
use Rattle.std.proofs.Common.{◌≡◌, ◌≢◌, ℕ, ◌+◌, ◌-◌, ◌/◌, ◌%◌, ◌^◌, ◌≤◌, ◌<◌, Bool, true, false, cond, List, length, refl, sym, ap, subst, ◌∙◌, arith, ⊎_elim}
use Rattle.std.specs.Prelude.{Option, Some, None, IfSome, is_some, option_map}
use Rattle.std.specs.Ordering.{nat_cmp, eq_by_cmp}
use Rattle.std.specs.Cmp.{nat_cmp_total}
use Rattle.std.specs.FinMap as map
use Rattle.std.proofs.lemmas.Bool.{cases_lt}
use Rattle.views.proofs.MapLaws.{get_insert_other, remove_absent}
use Rattle.plain_process.specs.declared.memory.Frame.{Frame}
use Rattle.plain_process.specs.Memory.{Memory, with_bytes}
use Rattle.guest_pages.specs.Bytes.{with_piece}
use Rattle.guest_pages.specs.FrameTable.{with_cell, changed_at}
use Rattle.guest_pages.specs.Pages.{IsSpace}
use Rattle.guest_pages.proofs.InPage.{with_bytes-in_page, with_bytes-missing}
use Rattle.guest_pages.proofs.Ranges.{false_true}

pub with_bytes-changed : (m : Memory) (a : ℕ) (piece : List ℕ) → a % 4096 + length piece ≤ 4096 → IfSome (map.get m (a / 4096)) (λ frame. length frame.page ≡ 4096)
    → changed_at m (a / 4096) (λ frame. with_piece frame (a % 4096) piece) ≡ with_bytes m a piece
with_bytes-changed m a piece inside sized = go (map.get m (a / 4096)) refl sized
  where
    go : (found : Option Frame) → map.get m (a / 4096) ≡ found → IfSome found (λ frame. length frame.page ≡ 4096)
        → with_cell m (a / 4096) (option_map (λ frame. with_piece frame (a % 4096) piece) found) ≡ with_bytes m a piece
    go None is size = remove_absent nat_cmp_total map.nat_cmp-IsAntisymmetric m (a / 4096) is ∙ sym (with_bytes-missing m a piece is inside)
    go (Some frame) is size = sym (with_bytes-in_page m a frame piece is inside size)

one_more : (b : Bool) (n : ℕ) → n < 2048 → cond b n (n + 1) ≤ 2048
one_more true n room = omega arith
one_more false n room = omega arith

one_less : (b : Bool) (n : ℕ) → n ≤ 2048 → cond b (n - 1) n ≤ 2048
one_less true n small = omega arith
one_less false n small = small

either_none : (b : Bool) (found : Option Frame) → found ≡ None → cond b None found ≡ None
either_none true found is = refl
either_none false found is = is

key_differs : (j k : ℕ) → j < k → k ≢ j
key_differs j k below is = omega arith

pub IsSpace-insert : (m : Memory) (k : ℕ) (w : Frame) → IsSpace m → is_some (map.get m k) ≡ true → IsSpace (map.insert m k w)
IsSpace-insert m k w space there = record {
  bounded = λ number past. get_insert_other nat_cmp_total map.nat_cmp-IsAntisymmetric m k w number
      (⊎_elim (λ (below : k < number). key_differs k number below)
      (λ (above : number ≤ k). false_true (sym (ap is_some (space.bounded k (omega arith))) ∙ there))
      (cases_lt k number)) ∙ space.bounded number past;
  small = subst (λ n. n ≤ 2048) (sym (map.len-insert nat_cmp_total m k w ∙ ap (λ b. cond b (map.len m) (map.len m + 1)) there)) space.small;
}

pub IsSpace-empty : IsSpace map.empty
IsSpace-empty = record { bounded = λ number past. map.get-empty nat_cmp number; small = subst (λ n. n ≤ 2048) (sym (map.len-empty nat_cmp Frame)) (omega arith) }

pub IsSpace-new_page : (m : Memory) (k : ℕ) (w : Frame) → IsSpace m → k < 2 ^ 20 → map.len m < 2048 → IsSpace (map.insert m k w)
IsSpace-new_page m k w space below room = record {
  bounded = λ number past. get_insert_other nat_cmp_total map.nat_cmp-IsAntisymmetric m k w number (key_differs k number (omega arith)) ∙ space.bounded number past;
  small = subst (λ n. n ≤ 2048) (sym (map.len-insert nat_cmp_total m k w)) (one_more (is_some (map.get m k)) (map.len m) room);
}

pub IsSpace-removed : (m : Memory) (k : ℕ) → IsSpace m → IsSpace (map.remove m k)
IsSpace-removed m k space = record {
  bounded = λ number past. map.get-remove nat_cmp_total m k number ∙ either_none (eq_by_cmp nat_cmp number k) (map.get m number) (space.bounded number past);
  small = subst (λ n. n ≤ 2048) (sym (map.len-remove nat_cmp_total m k)) (one_less (is_some (map.get m k)) (map.len m) space.small);
}

pub IsSpace-changed : (m : Memory) (k : ℕ) (f : Frame → Frame) → IsSpace m → IsSpace (changed_at m k f)
IsSpace-changed m k f space = go (map.get m k) refl
  where
    go : (found : Option Frame) → map.get m k ≡ found → IsSpace (with_cell m k (option_map f found))
    go None is = IsSpace-removed m k space
    go (Some frame) is = IsSpace-insert m k (f frame) space (ap is_some is)
