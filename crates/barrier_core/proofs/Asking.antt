-- The members at the asking, put there from the last to the first.
--     joining live ms           members with these put there, the last first
--     joining_start, joining_one      at the start, and one turn
--     room_start, room_kept           there is room at each turn
use Rattle.std.proofs.Common.{◌≡◌, ℕ, ◌+◌, ◌≤◌, Bool, true, false, cond, List, [], ◌∷◌, ◌++◌, length, refl, sym, ap, subst, ◌∙◌, arith, length-append}
use Rattle.std.specs.FinMap as map
use Rattle.sys_abi.specs.declared.identity.VPid.{VPid}
use Rattle.sys_abi.specs.Orders.{vpid_cmp}
use Rattle.sys_abi.proofs.OrderLaws.{vpid_total}
use Rattle.barrier_core.specs.declared.member.Member.{Member}
use Rattle.barrier_core.specs.Members.{Members, fresh, asked}

abbrev pub joining : List VPid → Members → Members
joining [] members = members
joining (p ∷ live) members = map.insert (joining live members) p fresh

joining_none : (live : List VPid) (members : Members) → members ≡ map.empty → joining live members ≡ asked live
joining_none [] members none = none
joining_none (p ∷ live) members none = ap (λ m. map.insert m p fresh) (joining_none live members none)

joining-append : (before after : List VPid) (members : Members) → joining (before ++ after) members ≡ joining before (joining after members)
joining-append [] after members = refl
joining-append (p ∷ before) after members = ap (λ m. map.insert m p fresh) (joining-append before after members)

pub joining_one : (before after : List VPid) (p : VPid) (old new all : Members) → before ≡ after ++ p ∷ [] → new ≡ map.insert old p fresh → joining before old ≡ all → joining after new ≡ all
joining_one before after p old new all last put is =
    ap (joining after) put ∙ sym (joining-append after (p ∷ []) old) ∙ ap (λ l. joining l old) (sym last) ∙ is

at_most_one_more : (t : Bool) (n : ℕ) → cond t n (n + 1) ≤ n + 1
at_most_one_more true n = omega arith
at_most_one_more false n = omega arith

pub room_kept : (before after : List VPid) (p : VPid) (old new : Members) (n : ℕ) → before ≡ after ++ p ∷ [] → new ≡ map.insert old p fresh → map.len old + length before ≤ n → map.len new + length after ≤ n
room_kept before after p old new n last put fits =
    let one : length before ≡ length after + 1 = ap length last ∙ length-append after (p ∷ []) in
    let most : map.len new ≤ map.len old + 1 =
    subst (λ (k : ℕ). k ≤ map.len old + 1) (sym (ap map.len put ∙ map.len-insert vpid_total old p fresh)) (at_most_one_more (map.contains_key old p) (map.len old)) in
    omega (arith, one, most, fits)

pub room_start : (live rest : List VPid) (members : Members) → rest ≡ live → members ≡ map.empty → map.len members + length rest ≤ length live
room_start live rest members is none =
    let all : length rest ≡ length live = ap length is in
    let zero : map.len members ≡ 0 = ap map.len none ∙ map.len-empty vpid_cmp Member in
    omega (arith, all, zero)

pub joining_start : (live rest : List VPid) (members : Members) → rest ≡ live → members ≡ map.empty → joining rest members ≡ asked live
joining_start live rest members is none = ap (λ l. joining l members) is ∙ joining_none live members none
