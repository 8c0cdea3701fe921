-- How far the numbers of descriptors rise.
use Rattle.std.proofs.Common.{◌≡◌, ◌+◌, ◌-◌, ◌<◌, ℕ, List, [], ◌∷◌, length, take, refl, sym, ap, ◌∙◌, arith, inl, inr, length-take}
use Rattle.std.specs.Prelude.{Option, Some, None}
use Rattle.std.specs.Option.{unwrap_or}
use Rattle.std.specs.FinMap as map
use Rattle.std.specs.FinMap.{FinMap}
use Rattle.sys_abi.proofs.OfViews.MapLaws.{same_or_other, get_insert_same, get_insert_other}
use Rattle.sys_abi.specs.declared.identity.DescId.{DescId}
use Rattle.sys_abi.specs.Orders.{desc_cmp}
use Rattle.sys_abi.proofs.OrderLaws.{desc_total, desc_exact}
use Rattle.sys_abi.specs.declared.descriptor.Descriptor.{Descriptor}
use Rattle.fd_tables.specs.declared.open.Open.{Open}
use Rattle.fd_tables.specs.Counts.{with_holders, retained, after_retain, after_place, after_retains}

-- so many descriptors more may be counted for each description
abbrev pub HasRoom : FinMap desc_cmp Open → ℕ → ℕ → Type 0
HasRoom m more limit = (id : DescId) (o : Open) → map.get m id ≡ Some o → o.holders + more < limit

the_open : (a b : Open) → Some a ≡ Some b → a ≡ b
the_open a b e = ap (λ o. unwrap_or o a) e

room_less : (m : FinMap desc_cmp Open) (more limit : ℕ) → HasRoom m (more + 1) limit → HasRoom m more limit
room_less m more limit room id o at = let low = room id o at in omega arith

room_retained : (m : FinMap desc_cmp Open) (id : DescId) (found : Option Open) (more limit : ℕ) → map.get m id ≡ found → HasRoom m (more + 1) limit → HasRoom (retained m id found) more limit
room_retained m id None more limit is room = room_less m more limit room
room_retained m id (Some before) more limit is room = λ j o at. elim (same_or_other desc_total desc_exact j id) [
  | inl same ↦
      let o_is : with_holders before (before.holders + 1) ≡ o =
      the_open _ o (sym (get_insert_same desc_total desc_exact m id (with_holders before (before.holders + 1)))
      ∙ ap (map.get (map.insert m id (with_holders before (before.holders + 1)))) (sym same) ∙ at) in
      let up : before.holders + 1 ≡ o.holders = ap (λ x. x.holders) o_is in
      let low = room id before is in
      omega arith
  | inr differ ↦ let low = room j o (sym (get_insert_other desc_total desc_exact m id (with_holders before (before.holders + 1)) j differ) ∙ at) in omega arith
]

room_place : (m : FinMap desc_cmp Open) (place : Option Descriptor) (more limit : ℕ) → HasRoom m (more + 1) limit → HasRoom (after_place m place) more limit
unfolding after_retain
room_place m None more limit room = room_less m more limit room
room_place m (Some d) more limit room = room_retained m d.desc (map.get m d.desc) more limit refl room

room_retains : (m : FinMap desc_cmp Open) (places : List (Option Descriptor)) (more all limit : ℕ) → more + length places ≡ all → HasRoom m all limit → HasRoom (after_retains m places) more limit
room_retains m [] more all limit is room = λ id o at. let low = room id o at in omega arith
room_retains m (place ∷ places) more all limit is room =
    let before : more + length places + 1 ≡ all = omega arith in
    room_retains (after_place m place) places more (more + length places) limit refl
    (room_place m place (more + length places) limit (λ id o at. let low = room id o at in omega arith))

-- what a turn of the loop over the places needs
pub fits_next : (m now : FinMap desc_cmp Open) (places : List (Option Descriptor)) (i limit : ℕ) → HasRoom m (length places) limit
    → i < length places → now ≡ after_retains m (take i places) → HasRoom now 1 limit
fits_next m now places i limit room before is id o at =
    let all : length places - i + length (take i places) ≡ length places = omega (arith, length-take i places) in
    let left = room_retains m (take i places) (length places - i) (length places) limit all room id o (ap (λ w. map.get w id) (sym is) ∙ at) in
    omega arith
