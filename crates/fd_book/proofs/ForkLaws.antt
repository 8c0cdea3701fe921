-- A child's descriptors are added one after the other, and look-ups afterwards are the parent's.
use Rattle.std.proofs.Common.{◌≡◌, ◌≢◌, ◌+◌, ◌<◌, ◌≤◌, ℕ, zero, suc, cond, List, [], ◌∷◌, refl, sym, ap, subst, ◌∙◌, arith, inl, inr, zero-add}
use Rattle.std.specs.Prelude.{Option, Some, None, is_some, IsSome, count_by}
use Rattle.std.specs.FinMap as map
use Rattle.std.proofs.lemmas.List.{get_or_past}
use Rattle.fd_tables.proofs.OfViews.MapLaws.{same_or_other, get_insert_same, get_insert_other}
use Rattle.fd_tables.specs.OfSysAbi.declared.identity.RealPid.{RealPid}
use Rattle.fd_tables.specs.OfSysAbi.declared.identity.DescId.{DescId}
use Rattle.fd_tables.proofs.OfSysAbi.OrderLaws.{desc_total, desc_exact, real_pid_total, real_pid_exact}
use Rattle.fd_tables.specs.declared.real_slot.RealSlot.{RealSlot}
use Rattle.fd_tables.specs.OfSysAbi.declared.descriptor.Descriptor.{Descriptor}
use Rattle.fd_tables.specs.declared.open.Open.{Open}
use Rattle.fd_tables.specs.Slots.{slot}
use Rattle.fd_tables.specs.Numbers.{NoneOpen}
use Rattle.fd_tables.specs.Tables.{at_place}
use Rattle.fd_tables.specs.Counts.{with_holders, retained, after_retain, after_place, after_retains}
use Rattle.fd_book.specs.Counted.{IsBook}
use Rattle.fd_tables.proofs.OrderLaws.{real_slot_total, real_slot_exact}
use Rattle.fd_book.proofs.CountLaws.{count-cons}
use Rattle.fd_book.proofs.BookLaws.{Slots, Opens, descs, is_there, after_retain_book, descs-after_retain}

-- the descriptors of these places from a number on, put into a process's table
with_place : Slots → RealPid → ℕ → Option Descriptor → Slots
with_place m child fd None = m
with_place m child fd (Some d) = map.insert m (slot child fd) d

placed : Slots → RealPid → ℕ → List (Option Descriptor) → Slots
placed m child fd [] = m
placed m child fd (place ∷ places) = placed (with_place m child fd place) child (fd + 1) places

abbrev IsFreeFrom : Slots → RealPid → ℕ → Type 0
IsFreeFrom m child fd = (k : ℕ) → fd ≤ k → map.get m (slot child k) ≡ None

other_number : (child : RealPid) (j k : ℕ) → j ≢ k → slot child j ≢ slot child k
other_number child j k differ same = differ (ap (λ at. at.fd) same)

get-with_place_other : (m : Slots) (child : RealPid) (fd : ℕ) (place : Option Descriptor) (q : RealSlot) → q ≢ slot child fd → map.get (with_place m child fd place) q ≡ map.get m q
unfolding with_place
get-with_place_other m child fd None q differ = refl
get-with_place_other m child fd (Some d) q differ = get_insert_other real_slot_total real_slot_exact m (slot child fd) d q differ

get-with_place : (m : Slots) (child : RealPid) (fd : ℕ) (place : Option Descriptor) → map.get m (slot child fd) ≡ None → map.get (with_place m child fd place) (slot child fd) ≡ place
unfolding with_place
get-with_place m child fd None free = free
get-with_place m child fd (Some d) free = get_insert_same real_slot_total real_slot_exact m (slot child fd) d

still_free : (m : Slots) (child : RealPid) (fd : ℕ) (place : Option Descriptor) → IsFreeFrom m child fd → IsFreeFrom (with_place m child fd place) child (fd + 1)
still_free m child fd place free k after =
    get-with_place_other m child fd place (slot child k) (other_number child k fd (λ e. omega arith)) ∙ free k (omega arith)

get-placed_other : (m : Slots) (child : RealPid) (fd : ℕ) (places : List (Option Descriptor)) (q : RealSlot) → q.pid ≢ child → map.get (placed m child fd places) q ≡ map.get m q
unfolding placed
get-placed_other m child fd [] q differ = refl
get-placed_other m child fd (place ∷ places) q differ =
    get-placed_other (with_place m child fd place) child (fd + 1) places q differ ∙ get-with_place_other m child fd place q (λ same. differ (ap (λ at. at.pid) same))

get-placed_lower : (m : Slots) (child : RealPid) (fd k : ℕ) (places : List (Option Descriptor)) → k < fd → map.get (placed m child fd places) (slot child k) ≡ map.get m (slot child k)
unfolding placed
get-placed_lower m child fd k [] lower = refl
get-placed_lower m child fd k (place ∷ places) lower =
    get-placed_lower (with_place m child fd place) child (fd + 1) k places (omega arith)
    ∙ get-with_place_other m child fd place (slot child k) (other_number child k fd (λ e. omega arith))

get-placed : (m : Slots) (child : RealPid) (fd k : ℕ) (places : List (Option Descriptor)) → IsFreeFrom m child fd → map.get (placed m child fd places) (slot child (fd + k)) ≡ at_place places k
unfolding placed
get-placed m child fd k [] free = free (fd + k) (omega arith) ∙ sym (get_or_past [] k None (omega arith))
get-placed m child fd zero (place ∷ places) free =
    let here : fd + 0 ≡ fd = omega arith in
    ap (λ n. map.get (placed (with_place m child fd place) child (fd + 1) places) (slot child n)) here
    ∙ get-placed_lower (with_place m child fd place) child (fd + 1) fd places (omega arith) ∙ get-with_place m child fd place (free fd (omega arith))
get-placed m child fd (suc k) (place ∷ places) free =
    let later : fd + suc k ≡ fd + 1 + k = omega arith in
    ap (λ n. map.get (placed (with_place m child fd place) child (fd + 1) places) (slot child n)) later
    ∙ get-placed (with_place m child fd place) child (fd + 1) k places (still_free m child fd place free)

-- a description that is there stays there
retained_there : (opens : Opens) (id j : DescId) (found : Option Open) → IsSome (map.get opens j) → IsSome (map.get (retained opens id found) j)
retained_there opens id j None there = there
retained_there opens id j (Some o) there = elim (same_or_other desc_total desc_exact j id) [
  | inl same ↦ ap is_some (ap (map.get (map.insert opens id (with_holders o (o.holders + 1)))) same ∙ get_insert_same desc_total desc_exact opens id (with_holders o (o.holders + 1)))
  | inr differ ↦ ap is_some (get_insert_other desc_total desc_exact opens id (with_holders o (o.holders + 1)) j differ) ∙ there
]

after_place_there : (opens : Opens) (place : Option Descriptor) (j : DescId) → IsSome (map.get opens j) → IsSome (map.get (after_place opens place) j)
unfolding after_retain
after_place_there opens None j there = there
after_place_there opens (Some d) j there = retained_there opens d.desc j (map.get opens d.desc) there

with_place_book : (m : Slots) (opens : Opens) (n : ℕ) (child : RealPid) (fd : ℕ) (place : Option Descriptor) → IsBook m opens n → map.get m (slot child fd) ≡ None
    → ((d : Descriptor) → place ≡ Some d → IsSome (map.get opens d.desc)) → IsBook (with_place m child fd place) (after_place opens place) (n + cond (is_some place) 1 0)
unfolding with_place
with_place_book m opens n child fd None good free there = let same : n ≡ n + 0 = omega arith in subst (λ (k : ℕ). IsBook m opens k) same good
with_place_book m opens n child fd (Some d) good free there = after_retain_book m opens n (slot child fd) d good free (there d refl)

placed_book : (m : Slots) (opens : Opens) (n total : ℕ) (child : RealPid) (fd : ℕ) (places : List (Option Descriptor)) → IsBook m opens n → IsFreeFrom m child fd
    → ((k : ℕ) (d : Descriptor) → at_place places k ≡ Some d → IsSome (map.get opens d.desc)) → n + count_by is_some places ≡ total → IsBook (placed m child fd places) (after_retains opens places) total
unfolding placed
placed_book m opens n total child fd [] good free there all = let same : n ≡ total = omega arith in subst (λ (k : ℕ). IsBook m opens k) same good
placed_book m opens n total child fd (place ∷ places) good free there all =
    let split = count-cons is_some place places in
    let rest : n + cond {A = ℕ} (is_some place) 1 0 + count_by is_some places ≡ total = omega arith in
    placed_book (with_place m child fd place) (after_place opens place) (n + cond (is_some place) 1 0) total child (fd + 1) places
    (with_place_book m opens n child fd place good (free fd (omega arith)) (λ d is. there 0 d is))
    (still_free m child fd place free)
    (λ k d is. after_place_there opens place d.desc (there (suc k) d is))
    rest

descs-after_retains : (opens : Opens) (places : List (Option Descriptor)) → descs (after_retains opens places) ≡ descs opens
descs-after_retains opens [] = refl
descs-after_retains opens (None ∷ places) = descs-after_retains opens places
descs-after_retains opens (Some d ∷ places) = descs-after_retains (after_retain opens d.desc) places ∙ descs-after_retain opens d.desc

module _ (m n : Slots) (opens : Opens) (count : ℕ) (p child : RealPid) (good : IsBook m opens count) (free : NoneOpen m child 0)
    (same : (fd : ℕ) → map.get n (slot child fd) ≡ map.get m (slot p fd)) (others : (q : RealSlot) → q.pid ≢ child → map.get n q ≡ map.get m q) where
  as_placed : (places : List (Option Descriptor)) → ((fd : ℕ) → map.get n (slot child fd) ≡ at_place places fd) → placed m child 0 places ≡ n
  as_placed places at = map.same_map real_slot_total real_slot_exact (placed m child 0 places) n (λ q. elim (same_or_other real_pid_total real_pid_exact q.pid child) [
    | inl is ↦
        ap (λ k. map.get (placed m child 0 places) (slot k q.fd)) is
        ∙ ap (λ k. map.get (placed m child 0 places) (slot child k)) (sym (zero-add q.fd)) ∙ get-placed m child 0 q.fd places free
        ∙ sym (at q.fd) ∙ ap (λ k. map.get n (slot k q.fd)) (sym is)
    | inr differ ↦ get-placed_other m child 0 places q differ ∙ sym (others q differ)
  ])

  pub forked_book : (places : List (Option Descriptor)) (more : ℕ) → ((fd : ℕ) → map.get n (slot child fd) ≡ at_place places fd) → more ≡ count_by is_some places
      → IsBook n (after_retains opens places) (count + more)
  forked_book places more at is =
      subst (λ (w : Slots). IsBook w (after_retains opens places) (count + more)) (as_placed places at)
      (placed_book m opens count (count + more) child 0 places good free
      (λ k d here. is_there m opens (slot p k) d (map.get opens d.desc) good.counted (sym (same k) ∙ at k ∙ here) refl)
      (ap (λ j. count + j) (sym is)))

  -- the parent has none
  pub forked_none : ((fd : ℕ) → map.get n (slot child fd) ≡ None) → IsBook n opens count
  unfolding placed
  forked_none none = subst (λ (w : Slots). IsBook w opens count) (as_placed [] (λ fd. none fd ∙ sym (get_or_past [] fd None (omega arith)))) good

pub forked_descs : (opens : Opens) (places : List (Option Descriptor)) → descs (after_retains opens places) ≡ descs opens
forked_descs opens places = descs-after_retains opens places
