-- A walk over all descriptors of a kernel part, of which some are left.
--     passed left all              the descriptors that are not left
--     ArePlaced ids all descriptions left b      the book has those that are not left
--     begun, first_there, first_unused, next, finished      at the start, at each descriptor, and at the end
use Rattle.std.proofs.Common.{◌≡◌, Bool, true, false, cond, not, T, List, [], ◌∷◌, refl, sym, ap, subst, ◌∙◌}
use Rattle.std.specs.Prelude.{Option, Some, None, is_some}
use Rattle.std.specs.List.{list_any}
use Rattle.std.specs.Ordering.{eq_by_cmp}
use Rattle.std.specs.FinMap as map
use Rattle.std.specs.FinMap.{is_sorted}
use Rattle.std.proofs.lemmas.Option.{none-some}
use Rattle.views.proofs.MapLaws.{true_false, same_key, key_tied, get-retain, retain_all, values-empty}
use Rattle.views.proofs.MapValues.{find_below}
use Rattle.views.proofs.Passes.{first, second}
use Rattle.views.proofs.Seen.{SeenBy-empty}
use Rattle.sys_abi.specs.declared.identity.Slot.{Slot}
use Rattle.sys_abi.specs.declared.identity.DescId.{DescId}
use Rattle.sys_abi.specs.declared.identity.RealPid.{RealPid}
use Rattle.sys_abi.specs.declared.descriptor.Descriptor.{Descriptor}
use Rattle.sys_abi.specs.Orders.{slot_cmp, desc_cmp}
use Rattle.sys_abi.proofs.OrderLaws.{slot_total, slot_exact}
use Rattle.fd_tables.specs.Orders.{real_slot_cmp}
use Rattle.fd_tables.specs.Slots as slots
use Rattle.fd_book.specs.Books.{Books}
use Rattle.virt_ids.specs.Pairs.{Pairs}
use Rattle.plain_tables.specs.Tables.{Descriptors, Descriptions, is_held, refers_to}
use Rattle.host_tables.specs.Processes.{IsSame, to_slot, from_slot}
use Rattle.host_tables.proofs.LookUps.{at_slot}
use Rattle.rebuild_tables.specs.Rebuilt.{IsBookOf}

abbrev pub Entries : Type 0
Entries = List (Slot × Descriptor)

abbrev is_left : Entries → Slot → Bool
is_left left at = is_some (map.find slot_cmp at left)

abbrev pub passed : Entries → Descriptors → Descriptors
passed left all = map.retain_keys all (λ at. not (is_left left at))

pub record ArePlaced (ids : Pairs) (all : Descriptors) (descriptions : Descriptions) (left : Entries)
    (b : Books) : Type 0 where
  pub sorted : T (is_sorted slot_cmp left)
  pub known : (at : Slot) (d : Descriptor) → map.find slot_cmp at left ≡ Some d → map.get all at ≡ Some d
  pub book : IsBookOf ids (passed left all) descriptions b

get-passed : (left : Entries) (all : Descriptors) (at : Slot)
    → map.get (passed left all) at ≡ cond (not (is_left left at)) (map.get all at) None
get-passed left all at = get-retain slot_total slot_exact all (λ q. not (is_left left q)) at

-- at the start

none_passed : (all : Descriptors) → passed (map.entries all) all ≡ map.empty
none_passed all =
    map.same_map slot_total slot_exact (passed (map.entries all) all) map.empty (λ at.
    get-passed (map.entries all) all at
    ∙ ap (λ o. cond (not (is_some o)) (map.get all at) None) (sym (map.get-entries all at))
    ∙ both (map.get all at) ∙ sym (map.get-empty {X = Descriptor} slot_cmp at))
  where
    both : (o : Option Descriptor) → cond (not (is_some o)) o None ≡ None
    both None = refl
    both (Some d) = refl

none_held : (id : DescId) → is_held map.empty id ≡ false
unfolding is_held
none_held id = ap (list_any (refers_to id)) (values-empty slot_total slot_exact)

empty_book : (ids : Pairs) (descriptions : Descriptions)
    → IsBookOf ids map.empty descriptions (record { descriptions = map.empty; descriptors = map.empty })
empty_book ids descriptions = record {
  same = SeenBy-empty slot_cmp real_slot_cmp (to_slot ids.pids) (from_slot ids.virts) IsSame;
  held = λ id held. true_false (sym held ∙ none_held id);
  others = λ id none. map.get-empty desc_cmp id;
}

pub begun : (ids : Pairs) (all : Descriptors) (descriptions : Descriptions) (left : Entries) (b : Books)
    → left ≡ map.entries all → b ≡ record { descriptions = map.empty; descriptors = map.empty }
    → ArePlaced ids all descriptions left b
begun ids all descriptions left b whole fresh =
    subst (λ es. ArePlaced ids all descriptions es b) (sym whole) (record {
      sorted = map.entries_sorted all;
      known = λ at d found. map.get-entries all at ∙ found;
      book = subst (IsBookOf ids (passed (map.entries all) all) descriptions) (sym fresh)
          (subst (λ m. IsBookOf ids m descriptions
          (record { descriptions = map.empty; descriptors = map.empty }))
          (sym (none_passed all)) (empty_book ids descriptions));
    })

-- at each descriptor

module _ (ids : Pairs) (all : Descriptors) (descriptions : Descriptions) (left : Entries) (b : Books)
    (placed : ArePlaced ids all descriptions left b) (at : Slot) (d : Descriptor) (rest : Entries)
    (steps : left ≡ (at, d) ∷ rest) where
  are : ArePlaced ids all descriptions ((at, d) ∷ rest) b
  are = subst (λ es. ArePlaced ids all descriptions es b) steps placed

  abbrev before : Descriptors
  before = passed ((at, d) ∷ rest) all

  found_first : map.find slot_cmp at ((at, d) ∷ rest) ≡ Some d
  found_first = ap (λ t. cond t (Some d) (map.find slot_cmp at rest)) (key_tied slot_total slot_exact at)

  pub first_there : map.get all at ≡ Some d
  first_there = are.known at d found_first

  first_free : map.get before at ≡ None
  first_free =
      get-passed ((at, d) ∷ rest) all at
      ∙ ap (λ o. cond (not (is_some o)) (map.get all at) None) found_first

  pub first_unused : (r : RealPid) → map.get ids.pids at.pid.0 ≡ Some r
      → map.get b.descriptors (slots.slot r at.fd) ≡ None
  first_unused r paired =
      sym (at_slot ids.pids ids.virts b.descriptors before are.book.same at.pid r paired at.fd) ∙ first_free

  gone : map.find slot_cmp at rest ≡ None
  gone = find_below slot_cmp at rest (first _ _ are.sorted)

  one_more : (q : Slot) (t : Bool) → eq_by_cmp slot_cmp q at ≡ t
      → cond (not (is_left rest q)) (map.get all q) None
      ≡ cond t (Some d)
      (cond (not (is_some (cond t (Some d) (map.find slot_cmp q rest)))) (map.get all q) None)
  one_more q true tied =
      let here : q ≡ at = same_key slot_total slot_exact q at tied in
      ap (λ s. cond (not (is_left rest s)) (map.get all s) None) here
      ∙ ap (λ o. cond (not (is_some o)) (map.get all at) None) gone ∙ first_there
  one_more q false apart = refl

  with_first : passed rest all ≡ map.insert before at d
  with_first =
      map.same_map slot_total slot_exact (passed rest all) (map.insert before at d) (λ q.
      get-passed rest all q ∙ one_more q (eq_by_cmp slot_cmp q at) refl
      ∙ ap (cond (eq_by_cmp slot_cmp q at) (Some d)) (sym (get-passed ((at, d) ∷ rest) all q))
      ∙ sym (map.get-insert slot_total before at d q))

  found_later : (q : Slot) (x : Descriptor) → map.find slot_cmp q rest ≡ Some x
      → map.find slot_cmp q ((at, d) ∷ rest) ≡ Some x
  found_later q x found = by (eq_by_cmp slot_cmp q at) refl
    where
      by : (t : Bool) → eq_by_cmp slot_cmp q at ≡ t → cond t (Some d) (map.find slot_cmp q rest) ≡ Some x
      by true tied =
          let here : q ≡ at = same_key slot_total slot_exact q at tied in
          absurd (none-some x (sym gone ∙ ap (λ s. map.find slot_cmp s rest) (sym here) ∙ found))
      by false apart = found

  pub next : (now : Books)
      → ((done : Descriptors) → IsBookOf ids done descriptions b
      → IsBookOf ids (map.insert done at d) descriptions now)
      → ArePlaced ids all descriptions rest now
  next now goes = record {
    sorted = second _ _ are.sorted;
    known = λ q x found. are.known q x (found_later q x found);
    book = subst (λ m. IsBookOf ids m descriptions now) (sym with_first) (goes before are.book);
  }

-- at the end

pub finished : (ids : Pairs) (all : Descriptors) (descriptions : Descriptions) (left : Entries) (b : Books)
    → left ≡ [] → ArePlaced ids all descriptions left b → IsBookOf ids all descriptions b
finished ids all descriptions left b none are =
    subst (λ m. IsBookOf ids m descriptions b) (all_passed left none) are.book
  where
    all_passed : (es : Entries) → es ≡ [] → passed es all ≡ all
    all_passed es none =
        ap (λ (l : Entries). passed l all) none
        ∙ retain_all slot_total slot_exact all (λ at. true) (λ q v found. refl)
