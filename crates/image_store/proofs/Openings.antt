-- What a store knows when it is opened.
--     opened_last        the set that counts, where no set is above the floor
--     passed_last        no set above the floor counts for the store
use Rattle.std.proofs.Common.{◌≡◌, ℕ, ◌<◌, ◌≤◌, refl, sym, ap, ◌∙◌, subst, arith}
use Rattle.std.specs.Prelude.{Bool, true, false, ◌&&◌, if◌then◌else◌, nat_lt, Option, Some, None, IfSome, option_map}
use Rattle.std.proofs.lemmas.Bool.Decides.{nat_tests}
use Rattle.disk_folder.specs.Files.{FolderFiles}
use Rattle.image_store.specs.Slots.{info_of, manifest_of, later, last}
use Rattle.image_store.specs.FoundSets.{last_set, set_of}
use Rattle.image_store.specs.StoreStates.{NoneAbove, within_floor}
use Rattle.image_store.specs.declared.set_info.SetInfo.{SetInfo}

abbrev IsWithin : ℕ → SetInfo → Type 0
IsWithin floor info = info.generation ≤ floor

within_both : (b : Bool) (x y : SetInfo) (floor : ℕ) → nat_lt x.generation y.generation ≡ b → IfSome (if b then Some y else Some x) (λ i. i.generation ≤ floor) → (x.generation ≤ floor) × (y.generation ≤ floor)
within_both true x y floor is within = let less : x.generation < y.generation = grind (arith, nat_tests) in (omega arith, within)
within_both false x y floor is within = let less : y.generation ≤ x.generation = grind (arith, nat_tests) in (within, omega arith)

-- the set that counts has the greatest generation
below_later : (a b : Option SetInfo) (floor : ℕ) → IfSome (later a b) (λ i. i.generation ≤ floor) → IfSome a (λ i. i.generation ≤ floor) × IfSome b (λ i. i.generation ≤ floor)
unfolding later
below_later None b floor within = (tt, within)
below_later (Some x) None floor within = (within, tt)
below_later (Some x) (Some y) floor within = within_both (nat_lt x.generation y.generation) x y floor refl within

kept_by : (b : Bool) (x : SetInfo) → b ≡ false → (if b then None else Some x) ≡ Some x
kept_by true x is = (cc)
kept_by false x is = refl

is_within : (floor g : ℕ) → (0 < floor → g ≤ floor) → (nat_lt 0 floor && nat_lt floor g) ≡ false
is_within floor g within = grind (arith, nat_tests)

within_kept : (floor : ℕ) (a : Option SetInfo) → (0 < floor → IfSome a (λ i. i.generation ≤ floor)) → within_floor floor a ≡ a
unfolding within_floor
within_kept floor None within = refl
within_kept floor (Some x) within = kept_by (nat_lt 0 floor && nat_lt floor x.generation) x (is_within floor x.generation within)

-- no set above the floor
none_above : (files : FolderFiles) (floor : ℕ) (found : Option SetInfo) → last files ≡ found → IfSome (last_set files) (λ set. set.generation ≤ floor) → IfSome found (λ i. i.generation ≤ floor)
unfolding last_set set_of
none_above files floor None is within = tt
none_above files floor (Some info) is within = let P : Option SetInfo → Type 0 = λ o. IfSome (option_map (set_of files) o) (λ set. set.generation ≤ floor) in subst P is within

within_last : (files : FolderFiles) (floor : ℕ) → NoneAbove floor files → 0 < floor → IfSome (later (info_of 0 (manifest_of files 0)) (info_of 1 (manifest_of files 1))) (λ i. i.generation ≤ floor)
unfolding last
within_last files floor none some = none_above files floor (later (info_of 0 (manifest_of files 0)) (info_of 1 (manifest_of files 1))) refl (none some)

pub opened_last : (files : FolderFiles) (floor : ℕ) (a b c d : Option SetInfo) → NoneAbove floor files → info_of 0 (manifest_of files 0) ≡ a → info_of 1 (manifest_of files 1) ≡ b → c ≡ within_floor floor a → d ≡ within_floor floor b → last files ≡ later c d
unfolding last
opened_last files floor a b c d none first second within_a within_b =
    let each = λ (some : 0 < floor). below_later (info_of 0 (manifest_of files 0)) (info_of 1 (manifest_of files 1)) floor (within_last files floor none some) in
    let c_is : c ≡ info_of 0 (manifest_of files 0) = within_a ∙ ap (within_floor floor) (sym first) ∙ within_kept floor (info_of 0 (manifest_of files 0)) (λ some. (each some).0) in
    let d_is : d ≡ info_of 1 (manifest_of files 1) = within_b ∙ ap (within_floor floor) (sym second) ∙ within_kept floor (info_of 1 (manifest_of files 1)) (λ some. (each some).1) in
    sym (λ i. later (c_is i) (d_is i))

passed_by : (b : Bool) (floor : ℕ) (x : SetInfo) → (b ≡ false → x.generation ≤ floor) → IfSome (if b then None else Some x) (λ i. i.generation ≤ floor)
passed_by true floor x within = tt
passed_by false floor x within = within refl

not_above : (floor g : ℕ) → 0 < floor → (nat_lt 0 floor && nat_lt floor g) ≡ false → g ≤ floor
not_above floor g some is = grind (arith, nat_tests)

passed : (floor : ℕ) (a : Option SetInfo) → 0 < floor → IfSome (within_floor floor a) (λ i. i.generation ≤ floor)
unfolding within_floor
passed floor None some = tt
passed floor (Some x) some = passed_by (nat_lt 0 floor && nat_lt floor x.generation) floor x (not_above floor x.generation some)

later_by : (b : Bool) (x y : SetInfo) (floor : ℕ) → x.generation ≤ floor → y.generation ≤ floor → IfSome (if b then Some y else Some x) (λ i. i.generation ≤ floor)
later_by true x y floor first second = second
later_by false x y floor first second = first

later_below : (a b : Option SetInfo) (floor : ℕ) → IfSome a (λ i. i.generation ≤ floor) → IfSome b (λ i. i.generation ≤ floor) → IfSome (later a b) (λ i. i.generation ≤ floor)
unfolding later
later_below None b floor first second = second
later_below (Some x) None floor first second = first
later_below (Some x) (Some y) floor first second = later_by (nat_lt x.generation y.generation) x y floor first second

pub passed_last : (floor : ℕ) (a b c d e : Option SetInfo) → 0 < floor → c ≡ within_floor floor a → d ≡ within_floor floor b → e ≡ later c d → IfSome e (λ i. i.generation ≤ floor)
passed_last floor a b c d e some c_is d_is e_is =
    let P : Option SetInfo → Type 0 = λ o. IfSome o (λ i. i.generation ≤ floor) in
    subst P (sym e_is) (later_below c d floor (subst P (sym c_is) (passed floor a some)) (subst P (sym d_is) (passed floor b some)))
