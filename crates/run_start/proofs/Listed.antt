-- Guests that are taken from a map to a list's end.
--     moved     the list's entries over the map's are as before
--     listed    with nothing left the list's map is the one that there was
--     fewer     those that are left stand under their own numbers
--     one_less  one less is left
--     one_more  so do those of the list
--     first_there, none_there     the first key of a map
use Rattle.std.proofs.Common.{◌≡◌, ◌+◌, ◌<◌, true, cond, List, [], ◌∷◌, ◌++◌, map as mapped, length, Option, None, Some, inl, inr, refl, sym, ap, subst, ◌∙◌, arith}
use Rattle.std.specs.Prelude.{All, ◌||◌, is_some}
use Rattle.std.specs.List.{list_any}
use Rattle.std.specs.Ordering.{eq_by_cmp}
use Rattle.std.specs.FinMap as map
use Rattle.std.proofs.lemmas.List.Elements.{All-nil, All-cons, All-append}
use Rattle.views.proofs.MapLaws.{key_tied, true_false, same_or_other, get_remove_same, get_remove_other, get_removed, insert_remove_same}
use Rattle.sys_abi.specs.declared.identity.VPid.{VPid}
use Rattle.sys_abi.specs.Orders.{vpid_cmp}
use Rattle.sys_abi.proofs.OrderLaws.{vpid_total, vpid_exact}
use Rattle.computation.specs.OfGuestProc.Guests.{GuestPart}
use Rattle.computation.proofs.States.{Guests}
use Rattle.run_start.specs.Starts.{AreNumbered}

abbrev pub Listed : Type 0
Listed = List (VPid × GuestPart)

-- ---- what was taken out, put in at the list's end

-- a map with the entries of a list put in from its end
abbrev pub on_top : Listed → Guests → Guests
on_top [] m = m
on_top (entry ∷ entries) m = map.insert (on_top entries m) entry.0 entry.1

on_top-append : (list other : Listed) (m : Guests) → on_top (list ++ other) m ≡ on_top list (on_top other m)
on_top-append [] other m = refl
on_top-append (entry ∷ entries) other m =
    ap (λ (n : Guests). map.insert n entry.0 entry.1) (on_top-append entries other m)

on_top_none : (list : Listed) → on_top list map.empty ≡ map.from_entries list
on_top_none [] = refl
on_top_none (entry ∷ entries) = ap (λ (n : Guests). map.insert n entry.0 entry.1) (on_top_none entries)

pub moved : (list longer : Listed) (rest less : Guests) (p : VPid) (guest : GuestPart)
    → map.get rest p ≡ Some guest → less ≡ map.remove rest p → longer ≡ list ++ (p, guest) ∷ []
    → on_top longer less ≡ on_top list rest
moved list longer rest less p guest found removed pushed =
    ap (λ es. on_top es less) pushed ∙ on_top-append list ((p, guest) ∷ []) less
    ∙ ap (λ (m : Guests). on_top list (map.insert m p guest)) removed
    ∙ ap (on_top list) (insert_remove_same vpid_total vpid_exact rest p guest found)

pub listed : (list : Listed) (rest all : Guests) → rest ≡ map.empty → on_top list rest ≡ all
    → map.from_entries list ≡ all
listed list rest all none same = sym (on_top_none list) ∙ ap (on_top list) (sym none) ∙ same

-- ---- each under its own number

pub fewer : (rest less : Guests) (p : VPid) → less ≡ map.remove rest p → AreNumbered rest → AreNumbered less
fewer rest less p removed are q guest found = elim (same_or_other vpid_total vpid_exact q p) [
  | inl here ↦
      let gone = sym (get_remove_same vpid_total vpid_exact rest p) in
      true_false (sym (ap is_some (gone ∙ ap (map.get (map.remove rest p)) (sym here) ∙ left)))
  | inr differ ↦ are q guest (sym (get_remove_other vpid_total vpid_exact rest p q differ) ∙ left)
]
  where
    left : map.get (map.remove rest p) q ≡ Some guest
    left = ap (λ (m : Guests). map.get m q) (sym removed) ∙ found

abbrev pub Own : VPid × GuestPart → Type 0
Own entry = entry.1.pid ≡ entry.0

pub one_more : (list longer : Listed) (p : VPid) (guest : GuestPart) → longer ≡ list ++ (p, guest) ∷ []
    → guest.pid ≡ p → All (λ entry. entry.1.pid ≡ entry.0) list → All (λ entry. entry.1.pid ≡ entry.0) longer
one_more list longer p guest pushed own all =
    subst (All Own) (sym pushed)
    (All-append Own list ((p, guest) ∷ []) all (All-cons Own (p, guest) [] own (All-nil Own)))

-- ---- how many are left

pub one_less : (rest less : Guests) (p : VPid) (guest : GuestPart) → map.get rest p ≡ Some guest
    → less ≡ map.remove rest p → map.len less < map.len rest
one_less rest less p guest found removed =
    let gone : map.get less p ≡ None = get_removed vpid_total vpid_exact rest less p removed in
    let whole : map.insert less p guest ≡ rest =
    ap (λ (m : Guests). map.insert m p guest) removed ∙ insert_remove_same vpid_total vpid_exact rest p guest found in
    let more : map.len rest ≡ map.len less + 1 =
    ap map.len (sym whole) ∙ map.len-insert vpid_total less p guest
    ∙ ap (λ (o : Option GuestPart). cond (is_some o) (map.len less) (map.len less + 1)) gone in
    omega arith

-- ---- the first key

pub first_there : (m : Guests) (p : VPid) (keys : List VPid) → map.keys m ≡ p ∷ keys → is_some (map.get m p) ≡ true
first_there m p keys first =
    map.contains_key-keys m p ∙ ap (list_any (eq_by_cmp vpid_cmp p)) first
    ∙ ap (λ b. b || list_any (eq_by_cmp vpid_cmp p) keys) (key_tied vpid_total vpid_exact p)

no_entries : (entries : Listed) → mapped (λ e. e.0) entries ≡ [] → length entries ≡ 0
no_entries [] none = refl
no_entries (e ∷ es) none = absurd (cc)

pub none_there : (m : Guests) → map.keys m ≡ [] → m ≡ map.empty
none_there m none = map.empty_of_len m (map.len-entries m ∙ no_entries (map.entries m) none)
