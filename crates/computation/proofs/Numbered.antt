-- Each guest stands under its number, also after one is put or taken away.
use Rattle.std.proofs.Common.{◌≡◌, ℕ, Bool, true, false, Option, Some, None, refl, sym, ap, ◌∙◌}
use Rattle.std.specs.Prelude.{◌⊎◌, ◌≢◌, Result, Ok, Err, OnOk, OnErr}
use Rattle.std.proofs.Common.{inl, inr}
use Rattle.std.specs.FinMap as map
use Rattle.views.proofs.MapLaws.{same_or_other, get_insert_same, get_insert_other, get_remove_same, get_remove_other}
use Rattle.sys_abi.specs.declared.identity.VPid.{VPid}
use Rattle.sys_abi.specs.Orders.{vpid_cmp}
use Rattle.sys_abi.proofs.OrderLaws.{vpid_total, vpid_exact}
use Rattle.guest_proc.specs.Guests.{GuestPart}
use Rattle.call_table.specs.declared.request.Request.{Request}
use Rattle.plain_process.specs.declared.user_part.UserPart.{UserPart}
use Rattle.computation.specs.Parts.{Guests, grown_by, left_by}

abbrev pub Numbered : map.FinMap vpid_cmp GuestPart → Type 0
Numbered guests = (p : VPid) (guest : GuestPart) → map.get guests p ≡ Some guest → guest.pid ≡ p

put_case : (guests : map.FinMap vpid_cmp GuestPart) (p q : VPid) (guest found : GuestPart) → Numbered guests → guest.pid ≡ p → (q ≡ p) ⊎ (q ≢ p) → map.get (map.insert guests p guest) q ≡ Some found → found.pid ≡ q
put_case guests p q guest found each own (inl here) is =
    let at : Some guest ≡ Some found = sym (ap (map.get (map.insert guests p guest)) here ∙ get_insert_same vpid_total vpid_exact guests p guest) ∙ is in
    let same : guest ≡ found = cc in
    sym (ap (λ (g : GuestPart). g.pid) same) ∙ own ∙ sym here
put_case guests p q guest found each own (inr differ) is = each q found (sym (get_insert_other vpid_total vpid_exact guests p guest q differ) ∙ is)

pub numbered_put : (guests : map.FinMap vpid_cmp GuestPart) (p : VPid) (guest : GuestPart) → Numbered guests → guest.pid ≡ p → Numbered (map.insert guests p guest)
numbered_put guests p guest each own q found is = put_case guests p q guest found each own (same_or_other vpid_total vpid_exact q p) is

taken_case : (guests : map.FinMap vpid_cmp GuestPart) (p q : VPid) (found : GuestPart) → Numbered guests → (q ≡ p) ⊎ (q ≢ p) → map.get (map.remove guests p) q ≡ Some found → found.pid ≡ q
taken_case guests p q found each (inl here) is =
    let none : None ≡ Some found = sym (ap (map.get (map.remove guests p)) here ∙ get_remove_same vpid_total vpid_exact guests p) ∙ is in
    absurd (cc)
taken_case guests p q found each (inr differ) is = each q found (sym (get_remove_other vpid_total vpid_exact guests p q differ) ∙ is)

pub numbered_taken : (guests : map.FinMap vpid_cmp GuestPart) (p : VPid) → Numbered guests → Numbered (map.remove guests p)
numbered_taken guests p each q found is = taken_case guests p q found each (same_or_other vpid_total vpid_exact q p) is

pub OnOk-map : {A E P Q : Type 0} (r : Result A E) → (P → Q) → OnOk r P → OnOk r Q
OnOk-map (Ok a) f p = f p
OnOk-map (Err e) f p = tt

pub each_err : {A E P : Type 0} (r : Result A E) → P → OnErr r P
each_err (Ok a) p = tt
each_err (Err e) p = p

grown_numbered : (guests : Guests) (user : UserPart) (t : ℕ) (q : Request) (next : VPid) (made : Option ℕ) → Numbered guests → Numbered (grown_by guests user t q next made)
grown_numbered guests user t q next None each = each
grown_numbered guests user t q next (Some n) each = numbered_put guests next _ each refl

left_numbered : (lives : Bool) (guests : Guests) (p : VPid) (answered : GuestPart) → Numbered guests → answered.pid ≡ p → Numbered (left_by lives guests p answered)
left_numbered true guests p answered each own = numbered_put guests p answered each own
left_numbered false guests p answered each own = numbered_taken guests p each

-- after a call
pub numbered_left : (lives : Bool) (before : Guests) (p : VPid) (guest answered : GuestPart) (user : UserPart) (t : ℕ) (q : Request) (next : VPid) (made : Option ℕ) → Numbered before → guest.pid ≡ p → answered.pid ≡ p
    → Numbered (left_by lives (grown_by (map.insert before p guest) user t q next made) p answered)
numbered_left lives before p guest answered user t q next made each own mine =
    left_numbered lives (grown_by (map.insert before p guest) user t q next made) p answered (grown_numbered (map.insert before p guest) user t q next made (numbered_put before p guest each own)) mine
