-- What is true of a book's parts stays true where a descriptor is added, taken out or changed, and what contracts see of it.
use Rattle.std.proofs.Common.{◌≡◌, ◌≢◌, ◌+◌, ◌-◌, ◌<◌, ◌≤◌, ◌==◌, ℕ, Bool, true, false, cond, not, refl, sym, ap, subst, ◌∙◌, arith, inl, inr}
use Rattle.std.specs.Prelude.{Option, Some, None, is_some, IsSome, count_by}
use Rattle.std.specs.Option.{unwrap_or, option_map}
use Rattle.std.specs.List.{list_any}
use Rattle.std.specs.Ordering.{eq_by_cmp}
use Rattle.std.specs.FinMap as map
use Rattle.std.specs.FinMap.{FinMap}
use Rattle.std.proofs.lemmas.Bool.Decides.{nat_tests}
use Rattle.fd_tables.specs.OfViews.Maps.{map_values}
use Rattle.fd_tables.proofs.OfViews.MapLaws.{true_false, key_tied, other_key, same_or_other, get_insert_same, get_insert_other, get_remove_same, get_remove_other, insert_same, insert_remove, values-empty}
use Rattle.fd_tables.proofs.OfViews.MapValues.{get-map_values, map_values-insert, map_values-remove, some_among-values}
use Rattle.fd_tables.specs.OfSysAbi.declared.identity.DescId.{DescId}
use Rattle.fd_tables.specs.OfSysAbi.Orders.{desc_cmp}
use Rattle.fd_tables.proofs.OfSysAbi.OrderLaws.{desc_total, desc_exact}
use Rattle.fd_tables.specs.declared.real_slot.RealSlot.{RealSlot}
use Rattle.fd_tables.specs.declared.description.Desc.{Desc}
use Rattle.fd_tables.specs.OfSysAbi.declared.descriptor.Descriptor.{Descriptor}
use Rattle.fd_tables.specs.declared.open.Open.{Open}
use Rattle.fd_tables.specs.Orders.{real_slot_cmp}
use Rattle.fd_book.specs.Books.{Books, is_held, lost, held_of}
use Rattle.fd_tables.specs.Slots.{refers_to}
use Rattle.fd_tables.specs.Counts.{holders_of, with_holders, retained, after_retain, released, after_release, lost_of, lost_by_release}
use Rattle.fd_book.specs.Counted.{desc_of, IsCounted, IsBook}
use Rattle.fd_tables.proofs.OrderLaws.{real_slot_total, real_slot_exact}
use Rattle.fd_book.proofs.CountLaws.{some_counted, none_counted, count-insert_new, count-remove, count-le-len}

abbrev pub Slots : Type 0
Slots = FinMap real_slot_cmp Descriptor

abbrev pub Opens : Type 0
Opens = FinMap desc_cmp Open

abbrev pub count : DescId → Slots → ℕ
count id m = count_by (refers_to id) (map.values m)

the_open : (a b : Open) → Some a ≡ Some b → a ≡ b
the_open a b e = ap (λ o. unwrap_or o a) e

hit : (id : DescId) (d : Descriptor) → id ≡ d.desc → refers_to id d ≡ true
hit id d same = ap (λ i. eq_by_cmp desc_cmp i d.desc) same ∙ key_tied desc_total desc_exact d.desc

miss : (id : DescId) (d : Descriptor) → id ≢ d.desc → refers_to id d ≡ false
miss id d differ = other_key desc_total desc_exact id d.desc differ

-- one descriptor more
count-added : (m : Slots) (at : RealSlot) (d : Descriptor) (id : DescId) (b : Bool) → map.get m at ≡ None → refers_to id d ≡ b → count id (map.insert m at d) ≡ count id m + cond b 1 0
count-added m at d id b free is = count-insert_new real_slot_total real_slot_exact (refers_to id) m at d free ∙ ap (λ t. count id m + cond t 1 0) is

count-taken : (m : Slots) (at : RealSlot) (d : Descriptor) (id : DescId) (b : Bool) → map.get m at ≡ Some d → refers_to id d ≡ b → count id m ≡ count id (map.remove m at) + cond b 1 0
count-taken m at d id b there is = count-remove real_slot_total real_slot_exact (refers_to id) m at d there ∙ ap (λ t. count id (map.remove m at) + cond t 1 0) is

pub added_counted : (m : Slots) (opens : Opens) (at : RealSlot) (d : Descriptor) (o : Open) → IsCounted m opens → map.get m at ≡ None
    → o.holders ≡ holders_of (map.get opens d.desc) + 1 → IsCounted (map.insert m at d) (map.insert opens d.desc o)
added_counted m opens at d o good free up = record {
  counts = λ id. elim (same_or_other desc_total desc_exact id d.desc) [
    | inl same ↦
        let here : holders_of (map.get (map.insert opens d.desc o) id) ≡ o.holders = ap (λ i. holders_of (map.get (map.insert opens d.desc o) i)) same ∙ ap holders_of (get_insert_same desc_total desc_exact opens d.desc o) in
        let before : holders_of (map.get opens d.desc) ≡ count id m = ap (λ i. holders_of (map.get opens i)) (sym same) ∙ good.counts id in
        let more = count-added m at d id true free (hit id d same) in
        omega arith
    | inr differ ↦
        let before = good.counts id in
        let same_open = ap holders_of (get_insert_other desc_total desc_exact opens d.desc o id differ) in
        let more = count-added m at d id false free (miss id d differ) in
        omega arith
  ];
  held = λ id found is. elim (same_or_other desc_total desc_exact id d.desc) [
    | inl same ↦
        let o_is : o ≡ found = the_open o found (sym (get_insert_same desc_total desc_exact opens d.desc o) ∙ ap (map.get (map.insert opens d.desc o)) (sym same) ∙ is) in
        let same_holders : o.holders ≡ found.holders = ap (λ x. x.holders) o_is in
        omega arith
    | inr differ ↦ good.held id found (sym (get_insert_other desc_total desc_exact opens d.desc o id differ) ∙ is)
  ];
}

-- a descriptor's description is there, and its number is that of the others and one
pub open_there : (m : Slots) (opens : Opens) (at : RealSlot) (d : Descriptor) (found : Option Open) → IsCounted m opens → map.get m at ≡ Some d → map.get opens d.desc ≡ found
    → holders_of found ≡ count d.desc (map.remove m at) + 1
open_there m opens at d found good there is = ap holders_of (sym is) ∙ good.counts d.desc ∙ count-taken m at d d.desc true there (hit d.desc d refl)

pub is_there : (m : Slots) (opens : Opens) (at : RealSlot) (d : Descriptor) (found : Option Open) → IsCounted m opens → map.get m at ≡ Some d → map.get opens d.desc ≡ found → is_some found ≡ true
is_there m opens at d None good there is = let up = open_there m opens at d None good there is in absurd (omega arith)
is_there m opens at d (Some o) good there is = refl

last_or_not : (m : Slots) (id : DescId) (n : ℕ) → n ≡ count id m + 1 → is_held m id ≡ not (n == 1)
unfolding is_held
last_or_not m id n is = elim (list_any (refers_to id) (map.values m)) as (λ b. list_any (refers_to id) (map.values m) ≡ b → b ≡ not (n == 1)) [
  | true ↦ λ some. let up = some_counted (refers_to id) (map.values m) some in grind (arith, nat_tests)
  | false ↦ λ none. let zero = none_counted (refers_to id) (map.values m) none in grind (arith, nat_tests)
] refl

taken_counted : (m : Slots) (opens : Opens) (at : RealSlot) (d : Descriptor) (o : Open) (last : Bool) → IsCounted m opens → map.get m at ≡ Some d → map.get opens d.desc ≡ Some o → (o.holders == 1) ≡ last
    → IsCounted (map.remove m at) (cond last (map.remove opens d.desc) (map.insert opens d.desc (with_holders o (o.holders - 1))))
taken_counted m opens at d o true good there is one = record {
  counts = λ id. elim (same_or_other desc_total desc_exact id d.desc) [
    | inl same ↦
        let gone : holders_of (map.get (map.remove opens d.desc) id) ≡ 0 = ap (λ i. holders_of (map.get (map.remove opens d.desc) i)) same ∙ ap holders_of (get_remove_same desc_total desc_exact opens d.desc) in
        let same_count : count id (map.remove m at) ≡ count d.desc (map.remove m at) = ap (λ i. count i (map.remove m at)) same in
        let up : o.holders ≡ count d.desc (map.remove m at) + 1 = open_there m opens at d (Some o) good there is in
        let one_holder : o.holders ≡ 1 = grind (arith, nat_tests) in
        omega arith
    | inr differ ↦
        let before = good.counts id in
        let same_open = ap holders_of (get_remove_other desc_total desc_exact opens d.desc id differ) in
        let less = count-taken m at d id false there (miss id d differ) in
        omega arith
  ];
  held = λ id found at_id. elim (same_or_other desc_total desc_exact id d.desc) [
    | inl same ↦ true_false (ap is_some (sym at_id ∙ ap (map.get (map.remove opens d.desc)) same ∙ get_remove_same desc_total desc_exact opens d.desc))
    | inr differ ↦ good.held id found (sym (get_remove_other desc_total desc_exact opens d.desc id differ) ∙ at_id)
  ];
}
taken_counted m opens at d o false good there is more = record {
  counts = λ id. elim (same_or_other desc_total desc_exact id d.desc) [
    | inl same ↦
        let here : holders_of (map.get (map.insert opens d.desc (with_holders o (o.holders - 1))) id) ≡ o.holders - 1 =
        ap (λ i. holders_of (map.get (map.insert opens d.desc (with_holders o (o.holders - 1))) i)) same ∙ ap holders_of (get_insert_same desc_total desc_exact opens d.desc (with_holders o (o.holders - 1))) in
        let same_count : count id (map.remove m at) ≡ count d.desc (map.remove m at) = ap (λ i. count i (map.remove m at)) same in
        let up : o.holders ≡ count d.desc (map.remove m at) + 1 = open_there m opens at d (Some o) good there is in
        omega arith
    | inr differ ↦
        let before = good.counts id in
        let same_open = ap holders_of (get_insert_other desc_total desc_exact opens d.desc (with_holders o (o.holders - 1)) id differ) in
        let less = count-taken m at d id false there (miss id d differ) in
        omega arith
  ];
  held = λ id found at_id. elim (same_or_other desc_total desc_exact id d.desc) [
    | inl same ↦
        let found_is : with_holders o (o.holders - 1) ≡ found =
        the_open _ found (sym (get_insert_same desc_total desc_exact opens d.desc (with_holders o (o.holders - 1))) ∙ ap (map.get (map.insert opens d.desc (with_holders o (o.holders - 1)))) (sym same) ∙ at_id) in
        let same_holders : o.holders - 1 ≡ found.holders = ap (λ x. x.holders) found_is in
        let positive = good.held d.desc o is in
        let not_one : o.holders ≢ 1 = λ one. true_false (sym (ap (λ n. n == 1) one) ∙ more) in
        omega arith
    | inr differ ↦ good.held id found (sym (get_insert_other desc_total desc_exact opens d.desc (with_holders o (o.holders - 1)) id differ) ∙ at_id)
  ];
}

released_counted : (m : Slots) (opens : Opens) (at : RealSlot) (d : Descriptor) (found : Option Open) → IsCounted m opens → map.get m at ≡ Some d → map.get opens d.desc ≡ found
    → IsCounted (map.remove m at) (released opens d.desc found)
released_counted m opens at d None good there is = true_false (sym (is_there m opens at d None good there is))
released_counted m opens at d (Some o) good there is = taken_counted m opens at d o (o.holders == 1) good there is refl

lost_released : (m : Slots) (opens : Opens) (at : RealSlot) (d : Descriptor) (found : Option Open) → IsCounted m opens → map.get m at ≡ Some d → map.get opens d.desc ≡ found
    → lost_of d.desc found ≡ lost (map.remove m at) d.desc
lost_released m opens at d None good there is = true_false (sym (is_there m opens at d None good there is))
lost_released m opens at d (Some o) good there is =
    turned (o.holders == 1) (Some d.desc) None ∙ ap (λ b. cond b None (Some d.desc)) (sym (last_or_not (map.remove m at) d.desc o.holders (open_there m opens at d (Some o) good there is)))
  where
    turned : {A : Type 0} (b : Bool) (x y : A) → cond b x y ≡ cond (not b) y x
    turned true x y = refl
    turned false x y = refl

abbrev pub descs : Opens → FinMap desc_cmp Desc
descs opens = map_values desc_of opens

descs_same : (opens : Opens) (id : DescId) (o : Open) (n : ℕ) → map.get opens id ≡ Some o → descs (map.insert opens id (with_holders o n)) ≡ descs opens
descs_same opens id o n is =
    map_values-insert desc_total desc_exact desc_of opens id (with_holders o n)
    ∙ insert_same desc_total desc_exact (descs opens) id o.desc (get-map_values desc_of opens id ∙ ap (option_map desc_of) is)

descs_released : (m : Slots) (opens : Opens) (at : RealSlot) (d : Descriptor) (found : Option Open) → IsCounted m opens → map.get m at ≡ Some d → map.get opens d.desc ≡ found
    → descs (released opens d.desc found) ≡ held_of (map.remove m at) d.desc (descs opens)
descs_released m opens at d None good there is = true_false (sym (is_there m opens at d None good there is))
descs_released m opens at d (Some o) good there is =
    by_last (o.holders == 1) ∙ ap (λ b. cond b (descs opens) (map.remove (descs opens) d.desc)) (sym (last_or_not (map.remove m at) d.desc o.holders (open_there m opens at d (Some o) good there is)))
  where
    by_last : (last : Bool) → descs (cond last (map.remove opens d.desc) (map.insert opens d.desc (with_holders o (o.holders - 1)))) ≡ cond (not last) (descs opens) (map.remove (descs opens) d.desc)
    by_last true = map_values-remove desc_total desc_exact desc_of opens d.desc
    by_last false = descs_same opens d.desc o (o.holders - 1) is

len-added : (m : Slots) (at : RealSlot) (d : Descriptor) → map.get m at ≡ None → map.len (map.insert m at d) ≡ map.len m + 1
len-added m at d free = map.len-insert real_slot_total m at d ∙ ap (λ found. cond (is_some found) (map.len m) (map.len m + 1)) free

len-taken : (m : Slots) (at : RealSlot) (d : Descriptor) → map.get m at ≡ Some d → map.len (map.remove m at) ≡ map.len m - 1
len-taken m at d there = map.len-remove real_slot_total m at ∙ ap (λ found. cond (is_some found) (map.len m - 1) (map.len m)) there

pub added_book : (m : Slots) (opens : Opens) (n : ℕ) (at : RealSlot) (d : Descriptor) (o : Open) → IsBook m opens n → map.get m at ≡ None
    → o.holders ≡ holders_of (map.get opens d.desc) + 1 → IsBook (map.insert m at d) (map.insert opens d.desc o) (n + 1)
added_book m opens n at d o good free up = record { counted = added_counted m opens at d o good.counted free up; in_all = ap (λ k. k + 1) good.in_all ∙ sym (len-added m at d free) }

pub released_book : (m : Slots) (opens : Opens) (n : ℕ) (at : RealSlot) (d : Descriptor) → IsBook m opens n → map.get m at ≡ Some d
    → IsBook (map.remove m at) (after_release opens d.desc) (n - 1)
unfolding after_release
released_book m opens n at d good there = record {
  counted = released_counted m opens at d (map.get opens d.desc) good.counted there refl;
  in_all = ap (λ k. k - 1) good.in_all ∙ sym (len-taken m at d there);
}

pub lost-released : (m : Slots) (opens : Opens) (at : RealSlot) (d : Descriptor) → IsCounted m opens → map.get m at ≡ Some d → lost_by_release opens d.desc ≡ lost (map.remove m at) d.desc
unfolding lost_by_release
lost-released m opens at d good there = lost_released m opens at d (map.get opens d.desc) good there refl

pub descs-released : (m : Slots) (opens : Opens) (at : RealSlot) (d : Descriptor) → IsCounted m opens → map.get m at ≡ Some d → descs (after_release opens d.desc) ≡ held_of (map.remove m at) d.desc (descs opens)
unfolding after_release
descs-released m opens at d good there = descs_released m opens at d (map.get opens d.desc) good there refl

retained_book : (m : Slots) (opens : Opens) (n : ℕ) (at : RealSlot) (d : Descriptor) (found : Option Open) → IsBook m opens n → map.get m at ≡ None → map.get opens d.desc ≡ found → is_some found ≡ true
    → IsBook (map.insert m at d) (retained opens d.desc found) (n + 1)
retained_book m opens n at d None good free is there = true_false (sym there)
retained_book m opens n at d (Some o) good free is there =
    added_book m opens n at d (with_holders o (o.holders + 1)) good free (ap (λ f. holders_of f + 1) (sym is))

descs_retained : (opens : Opens) (id : DescId) (found : Option Open) → map.get opens id ≡ found → descs (retained opens id found) ≡ descs opens
descs_retained opens id None is = refl
descs_retained opens id (Some o) is = descs_same opens id o (o.holders + 1) is

pub after_retain_book : (m : Slots) (opens : Opens) (n : ℕ) (at : RealSlot) (d : Descriptor) → IsBook m opens n → map.get m at ≡ None → IsSome (map.get opens d.desc)
    → IsBook (map.insert m at d) (after_retain opens d.desc) (n + 1)
unfolding after_retain
after_retain_book m opens n at d good free there = retained_book m opens n at d (map.get opens d.desc) good free refl there

pub descs-after_retain : (opens : Opens) (id : DescId) → descs (after_retain opens id) ≡ descs opens
unfolding after_retain
descs-after_retain opens id = descs_retained opens id (map.get opens id) refl

-- no number passes that of all descriptors
pub holders_few : (m : Slots) (opens : Opens) (n : ℕ) → IsBook m opens n → (id : DescId) (o : Open) → map.get opens id ≡ Some o → o.holders ≤ n
holders_few m opens n good id o is =
    let here : o.holders ≡ count id m = ap holders_of (sym is) ∙ good.counted.counts id in
    let low = count-le-len real_slot_total real_slot_exact (refers_to id) m in
    let all = good.in_all in
    omega arith

-- a new book
pub new_book : (m : Slots) (opens : Opens) → m ≡ map.empty → opens ≡ map.empty → IsBook m opens 0
new_book m opens no_slots no_opens = record {
  counted = record {
    counts = λ id.
        ap (λ (w : Opens). holders_of (map.get w id)) no_opens ∙ ap holders_of (map.get-empty {X = Open} desc_cmp id)
        ∙ sym (ap (λ (w : Slots). count id w) no_slots ∙ ap (λ values. count_by (refers_to id) values) (values-empty real_slot_total real_slot_exact));
    held = λ id o is. true_false (ap is_some (sym is ∙ ap (λ (w : Opens). map.get w id) no_opens ∙ map.get-empty {X = Open} desc_cmp id));
  };
  in_all = sym (ap (λ (w : Slots). map.len w) no_slots ∙ map.len-empty real_slot_cmp Descriptor);
}

pub descs-empty : descs map.empty ≡ map.empty
descs-empty = map.same_map desc_total desc_exact _ _ (λ id.
    get-map_values desc_of map.empty id ∙ ap (option_map desc_of) (map.get-empty {X = Open} desc_cmp id) ∙ sym (map.get-empty {X = Desc} desc_cmp id))

pub new_seen : (m : Slots) (opens : Opens) → m ≡ map.empty → opens ≡ map.empty
    → ◌≡◌ {A = Books} (record { descriptions = descs opens; descriptors = m }) (record { descriptions = map.empty; descriptors = map.empty })
new_seen m opens no_slots no_opens = λ i. record { descriptions = (ap descs no_opens ∙ descs-empty) i; descriptors = no_slots i }

-- another descriptor of the same description in a descriptor's place
count-replaced : (m : Slots) (at : RealSlot) (d e : Descriptor) (id : DescId) → map.get m at ≡ Some d → e.desc ≡ d.desc → count id (map.insert m at e) ≡ count id m
count-replaced m at d e id there same =
    ap (count id) (sym (insert_remove real_slot_total real_slot_exact m at e))
    ∙ count-added (map.remove m at) at e id (refers_to id d) (get_remove_same real_slot_total real_slot_exact m at) (ap (λ i. eq_by_cmp desc_cmp id i) same)
    ∙ sym (count-taken m at d id (refers_to id d) there refl)

pub replaced_book : (m : Slots) (opens : Opens) (n : ℕ) (at : RealSlot) (d e : Descriptor) → IsBook m opens n → map.get m at ≡ Some d → e.desc ≡ d.desc → IsBook (map.insert m at e) opens n
replaced_book m opens n at d e good there same = record {
  counted = record {
    counts = λ id. good.counted.counts id ∙ sym (count-replaced m at d e id there same);
    held = good.counted.held;
  };
  in_all = good.in_all ∙ sym (map.len-insert real_slot_total m at e ∙ ap (λ found. cond (is_some found) (map.len m) (map.len m + 1)) there);
}

-- a description with another content
pub changed_book : (m : Slots) (opens : Opens) (n : ℕ) (id : DescId) (before after : Open) → IsBook m opens n → map.get opens id ≡ Some before → after.holders ≡ before.holders
    → IsBook m (map.insert opens id after) n
changed_book m opens n id before after good is same = record {
  counted = record {
    counts = λ i. elim (same_or_other desc_total desc_exact i id) [
      | inl same_id ↦
          ap (λ k. holders_of (map.get (map.insert opens id after) k)) same_id ∙ ap holders_of (get_insert_same desc_total desc_exact opens id after) ∙ same
          ∙ ap holders_of (sym is) ∙ ap (λ k. holders_of (map.get opens k)) (sym same_id) ∙ good.counted.counts i
      | inr differ ↦ ap holders_of (get_insert_other desc_total desc_exact opens id after i differ) ∙ good.counted.counts i
    ];
    held = λ i o at. elim (same_or_other desc_total desc_exact i id) [
      | inl same_id ↦
          let o_is : after ≡ o = the_open after o (sym (get_insert_same desc_total desc_exact opens id after) ∙ ap (map.get (map.insert opens id after)) (sym same_id) ∙ at) in
          let holders : after.holders ≡ o.holders = ap (λ x. x.holders) o_is in
          let low = good.counted.held id before is in
          omega arith
      | inr differ ↦ good.counted.held i o (sym (get_insert_other desc_total desc_exact opens id after i differ) ∙ at)
    ];
  };
  in_all = good.in_all;
}

pub descs-insert : (opens : Opens) (id : DescId) (o : Open) → descs (map.insert opens id o) ≡ map.insert (descs opens) id o.desc
descs-insert opens id o = map_values-insert desc_total desc_exact desc_of opens id o

pub get-descs : (opens : Opens) (id : DescId) → map.get (descs opens) id ≡ option_map desc_of (map.get opens id)
get-descs opens id = get-map_values desc_of opens id

-- what is described, once more than none, is there
pub held_there : (m : Slots) (opens : Opens) (id : DescId) (found : Option Open) → IsCounted m opens → map.get opens id ≡ found → is_held m id ≡ true → is_some found ≡ true
unfolding is_held
held_there m opens id None good is some =
    let here : 0 ≡ count id m = ap holders_of (sym is) ∙ good.counts id in
    let up = some_counted (refers_to id) (map.values m) some in
    absurd (omega arith)
held_there m opens id (Some o) good is some = refl

pub there_held : (m : Slots) (opens : Opens) (id : DescId) (o : Open) → IsCounted m opens → map.get opens id ≡ Some o → is_held m id ≡ true
unfolding is_held
there_held m opens id o good is =
    let here : o.holders ≡ count id m = ap holders_of (sym is) ∙ good.counts id in
    let up = good.held id o is in
    elim (list_any (refers_to id) (map.values m)) as (λ b. list_any (refers_to id) (map.values m) ≡ b → b ≡ true) [
      | true ↦ λ some. refl
      | false ↦ λ none. let zero = none_counted (refers_to id) (map.values m) none in absurd (omega arith)
    ] refl

-- a descriptor refers to what it refers to
pub other_held : (m : Slots) (at from : RealSlot) (d : Descriptor) → map.get m from ≡ Some d → from ≢ at → is_held (map.remove m at) d.desc ≡ true
unfolding is_held
other_held m at from d there differ =
    some_among-values real_slot_total real_slot_exact (refers_to d.desc) (map.remove m at) from d (get_remove_other real_slot_total real_slot_exact m at from differ ∙ there) (hit d.desc d refl)

-- where there is a descriptor, there are some
pub not_empty : (m : Slots) (opens : Opens) (n : ℕ) (at : RealSlot) (d : Descriptor) → IsBook m opens n → map.get m at ≡ Some d → 0 < n
not_empty m opens n at d good there =
    let some = count-taken m at d d.desc true there (hit d.desc d refl) in
    let few = count-le-len real_slot_total real_slot_exact (refers_to d.desc) m in
    let all = good.in_all in
    omega arith

pub moved_book : (m next : Slots) (opens after : Opens) (n : ℕ) → IsBook m opens n → next ≡ m → after ≡ opens → IsBook next after n
moved_book m next opens after n good slots_are opens_are =
    subst (λ (w : Opens). IsBook next w n) (sym opens_are) (subst (λ (w : Slots). IsBook w opens n) (sym slots_are) good)

-- what is described has a number, and what is not has none
pub undescribed : (opens : Opens) (id : DescId) (found : Option Open) → map.get opens id ≡ found → map.get (descs opens) id ≡ None → map.get opens id ≡ None
undescribed opens id None is none = is
undescribed opens id (Some o) is none = true_false (ap is_some (sym (ap (option_map desc_of) is) ∙ sym (get-descs opens id) ∙ none))

pub described : (opens : Opens) (id : DescId) (o : Open) → map.get opens id ≡ Some o → map.get (descs opens) id ≡ Some o.desc
described opens id o is = get-descs opens id ∙ ap (option_map desc_of) is

pub described_none : (opens : Opens) (id : DescId) → map.get opens id ≡ None → map.get (descs opens) id ≡ None
described_none opens id none = get-descs opens id ∙ ap (option_map desc_of) none

mapped_some : (found : Option Open) → is_some (option_map desc_of found) ≡ is_some found
mapped_some None = refl
mapped_some (Some o) = refl

pub described_there : (opens : Opens) (id : DescId) → is_some (map.get (descs opens) id) ≡ is_some (map.get opens id)
described_there opens id = ap is_some (get-descs opens id) ∙ mapped_some (map.get opens id)

-- what is described is held
pub described_held : (m : Slots) (opens : Opens) (id : DescId) (d : Desc) (found : Option Open) → IsCounted m opens → map.get opens id ≡ found → map.get (descs opens) id ≡ Some d → is_held m id ≡ true
described_held m opens id d None good is there = true_false (ap is_some (sym there ∙ described_none opens id is))
described_held m opens id d (Some o) good is there = there_held m opens id o good is
