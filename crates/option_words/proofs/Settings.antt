-- The words of settings, what stands behind them, and one setting more.
use Rattle.std.proofs.Common.{◌≡◌, ℕ, suc, ◌<◌, ◌≤◌, ◌==◌, ◌&&◌, List, [], ◌∷◌, ◌++◌, Bool, true, false, not, get_or, set, length, Option, Some, None, is_some, refl, sym, ap, subst, ◌∙◌, arith, length-append, append_assoc, append-nil}
use Rattle.std.specs.Prelude.{if◌then◌else◌, All, slice_get, nat_lt}
use Rattle.std.specs.List.{list_any, IsDistinct, AllByRecursion}
use Rattle.std.specs.Str.{bytes_eq}
use Rattle.std.specs.Fmt.{decimal}
use Rattle.std.proofs.lemmas.Slice.Eq.{bytes_eq-Decides}
use Rattle.std.proofs.lemmas.Cmp.{nat_list_eq_equiv}
use Rattle.std.proofs.lemmas.Bool.{lt-ltb, ltb-true}
use Rattle.std.proofs.lemmas.Fmt.{decimal_injective}
use Rattle.std.proofs.lemmas.List.{length-set, get_or-set_other, get_or-set_same}
use Rattle.std.proofs.lemmas.List.Elements.{All-nil, All-cons, All-head, All-tail, All-push}
use Rattle.std.proofs.lemmas.Map.Keys.{IsDistinct-push}
use Rattle.std.proofs.lemmas.List.Concat.{flat_map-append}
use Rattle.option_words.specs.declared.option_key.OptionKey.{OptionKey}
use Rattle.option_words.specs.declared.option_key.OptionKey.TheVariants.{Nodes, Workers, Every, Records, Shift, PidBase, PortBase}
use Rattle.option_words.specs.declared.option_key.Form.{Form}
use Rattle.option_words.specs.declared.options.Options.{Options}
use Rattle.option_words.specs.Options.{Text, Setting, number, file, name_of, FILE, words_of, words_of_all, IsSetting, AreSettings, numbers_of, files_of}
use Rattle.option_words.specs.Reading.{place_of, kept_number, has_room, with_setting, Keeps, IsRead, NoneFollows}
use Rattle.option_words.proofs.Keys.{same_key, no_key_is_file, same_place, place_below, greatest_below, name_itself, other_key}

-- ---- parts of lists

pub All_front : {X : Type 0} (P : X → Type 0) (xs ys : List X) → All P (xs ++ ys) → All P xs
All_front P [] ys all = All-nil P
All_front P (x ∷ xs) ys all = All-cons P x xs (All-head P x (xs ++ ys) all) (All_front P xs ys (All-tail P x (xs ++ ys) all))

pub All_last : {X : Type 0} (P : X → Type 0) (xs : List X) (x : X) → All P (xs ++ x ∷ []) → P x
All_last P [] x all = All-head P x [] all
All_last P (y ∷ ys) x all = All_last P ys x (All-tail P y (ys ++ x ∷ []) all)

recursion_front : {X : Type 0} (P : X → Type 0) (xs ys : List X) → AllByRecursion P (xs ++ ys) → AllByRecursion P xs
recursion_front P [] ys all = tt
recursion_front P (x ∷ xs) ys all = (all.0, recursion_front P xs ys all.1)

recursion_last : {X : Type 0} (P : X → Type 0) (xs : List X) (x : X) → AllByRecursion P (xs ++ x ∷ []) → P x
recursion_last P [] x all = all.0
recursion_last P (y ∷ ys) x all = recursion_last P ys x all.1

distinct_front : (xs ys : List Text) → IsDistinct bytes_eq (xs ++ ys) → IsDistinct bytes_eq xs
unfolding IsDistinct
distinct_front [] ys apart = tt
distinct_front (x ∷ xs) ys apart = (recursion_front (λ y. bytes_eq x y ≡ false) xs ys apart.0, distinct_front xs ys apart.1)

distinct_last : (xs : List Text) (x : Text) → IsDistinct bytes_eq (xs ++ x ∷ []) → list_any (bytes_eq x) xs ≡ false
unfolding IsDistinct
distinct_last [] x apart = refl
distinct_last (y ∷ ys) x apart =
    let here : bytes_eq x y ≡ false = nat_list_eq_equiv.symm x y ∙ recursion_last (λ z. bytes_eq y z ≡ false) ys x apart.0 in
    let rest : list_any (bytes_eq x) ys ≡ false = distinct_last ys x apart.1 in
    rw (here, rest)

-- ---- what settings give, one behind the other

kept_append : (b : Bool) (n : ℕ) (xs ys : List ℕ) → (if b then n ∷ (xs ++ ys) else (xs ++ ys)) ≡ (if b then n ∷ xs else xs) ++ ys
kept_append true n xs ys = refl
kept_append false n xs ys = refl

pub numbers_of-append : (key : OptionKey) (xs ys : List Setting) → numbers_of key (xs ++ ys) ≡ numbers_of key xs ++ numbers_of key ys
numbers_of-append key [] ys = refl
numbers_of-append key (number k n ∷ rest) ys =
    ap (λ (ns : List ℕ). if bytes_eq (name_of k) (name_of key) then n ∷ ns else ns) (numbers_of-append key rest ys)
    ∙ kept_append (bytes_eq (name_of k) (name_of key)) n (numbers_of key rest) (numbers_of key ys)
numbers_of-append key (file name ∷ rest) ys = numbers_of-append key rest ys

pub files_of-append : (xs ys : List Setting) → files_of (xs ++ ys) ≡ files_of xs ++ files_of ys
files_of-append [] ys = refl
files_of-append (number k n ∷ rest) ys = files_of-append rest ys
files_of-append (file name ∷ rest) ys = ap (λ (names : List Text). name ∷ names) (files_of-append rest ys)

no_file_more : (given : List Setting) (key : OptionKey) (n : ℕ) → files_of (given ++ number key n ∷ []) ≡ files_of given
no_file_more given key n = files_of-append given (number key n ∷ []) ∙ append-nil (files_of given)

no_number_more : (key : OptionKey) (given : List Setting) (name : Text) → numbers_of key (given ++ file name ∷ []) ≡ numbers_of key given
no_number_more key given name = numbers_of-append key given (file name ∷ []) ∙ append-nil (numbers_of key given)

pub front : (form : Form) (xs ys : List Setting) → AreSettings form (xs ++ ys) → AreSettings form xs
front form xs ys are = record {
  each = All_front (IsSetting form) xs ys are.each;
  once = λ key. let few : length (numbers_of key xs ++ numbers_of key ys) ≤ 1 = subst (λ ns. length ns ≤ 1) (numbers_of-append key xs ys) (are.once key) in
      omega (arith, few, length-append (numbers_of key xs) (numbers_of key ys));
  few = let few : length (files_of xs ++ files_of ys) ≤ 64 = subst (λ ns. length ns ≤ 64) (files_of-append xs ys) are.few in
      omega (arith, few, length-append (files_of xs) (files_of ys));
  distinct = distinct_front (files_of xs) (files_of ys) (subst (IsDistinct bytes_eq) (files_of-append xs ys) are.distinct);
}

-- ---- one more number

one_more : (b : Bool) (n : ℕ) (ns : List ℕ) → length ns ≤ 1 → (b ≡ true → ns ≡ []) → length (ns ++ (if b then n ∷ [] else [])) ≤ 1
one_more true n ns few none = subst (λ (ms : List ℕ). length (ms ++ n ∷ []) ≤ 1) (sym (none refl)) (omega arith)
one_more false n ns few none = subst (λ (ms : List ℕ). length ms ≤ 1) (sym (append-nil ns)) few

same_by_name : (k j : OptionKey) → bytes_eq (name_of k) (name_of j) ≡ true → k ≡ j
same_by_name k j same = same_key k j ((bytes_eq-Decides (name_of k) (name_of j)).0 same)

with_number : (form : Form) (given : List Setting) (key : OptionKey) (n : ℕ) → AreSettings form given → IsSetting form (number key n) → numbers_of key given ≡ [] → AreSettings form (given ++ number key n ∷ [])
with_number form given key n are is none = record {
  each = All-push (IsSetting form) given (number key n) are.each is;
  once = λ j. subst (λ (ns : List ℕ). length ns ≤ 1) (sym (numbers_of-append j given (number key n ∷ [])))
      (one_more (bytes_eq (name_of key) (name_of j)) n (numbers_of j given) (are.once j)
      (λ same. subst (λ (k : OptionKey). numbers_of k given ≡ []) (same_by_name key j same) none));
  few = subst (λ (names : List Text). length names ≤ 64) (sym (no_file_more given key n)) are.few;
  distinct = subst (IsDistinct bytes_eq) (sym (no_file_more given key n)) are.distinct;
}

kept_same : (numbers : List (Option ℕ)) (place n : ℕ) → place < length numbers → get_or (set numbers place (Some n)) place None ≡ Some n
kept_same numbers place n inside = get_or-set_same numbers place (Some n) None inside

number_kept : (numbers : List (Option ℕ)) (given : List Setting) (key j : OptionKey) (n : ℕ) (b : Bool) → bytes_eq (name_of key) (name_of j) ≡ b
    → length numbers ≡ 7 → get_or numbers (place_of j) None ≡ slice_get (numbers_of j given) 0 → numbers_of key given ≡ []
    → get_or (set numbers (place_of key) (Some n)) (place_of j) None ≡ slice_get (numbers_of j given ++ (if b then n ∷ [] else [])) 0
number_kept numbers given key j n true same places keeps none =
    let is : key ≡ j = same_by_name key j same in
    let here : numbers_of j given ≡ [] = subst (λ (k : OptionKey). numbers_of k given ≡ []) is none in
    let inside : place_of key < length numbers = subst (λ (size : ℕ). place_of key < size) (sym places) (place_below key) in
    subst (λ (k : OptionKey). get_or (set numbers (place_of key) (Some n)) (place_of k) None ≡ Some n) is (kept_same numbers (place_of key) n inside)
    ∙ ap (λ (ns : List ℕ). slice_get (ns ++ n ∷ []) 0) (sym here)
number_kept numbers given key j n false differ places keeps none =
    get_or-set_other numbers (place_of key) (place_of j) (Some n) None (λ place. other_key key j differ (sym (same_place j key place)))
    ∙ (keeps ∙ ap (λ (ns : List ℕ). slice_get ns 0) (sym (append-nil (numbers_of j given))))

keeps_number : (options : Options) (given : List Setting) (key : OptionKey) (n : ℕ) → Keeps options given → numbers_of key given ≡ [] → Keeps (with_setting options (number key n)) (given ++ number key n ∷ [])
keeps_number options given key n keeps none = record {
  places = length-set options.numbers (place_of key) (Some n) ∙ keeps.places;
  numbers = λ j. number_kept options.numbers given key j n (bytes_eq (name_of key) (name_of j)) refl keeps.places (keeps.numbers j) none
      ∙ ap (λ (ns : List ℕ). slice_get ns 0) (sym (numbers_of-append j given (number key n ∷ [])));
  files = keeps.files ∙ sym (no_file_more given key n);
}

-- ---- one more file

with_file : (form : Form) (given : List Setting) (name : Text) → AreSettings form given → IsSetting form (file name) → length (files_of given) < 64 → list_any (bytes_eq name) (files_of given) ≡ false → AreSettings form (given ++ file name ∷ [])
with_file form given name are is few absent = record {
  each = All-push (IsSetting form) given (file name) are.each is;
  once = λ j. subst (λ (ns : List ℕ). length ns ≤ 1) (sym (no_number_more j given name)) (are.once j);
  few = subst (λ (names : List Text). length names ≤ 64) (sym (files_of-append given (file name ∷ []))) (omega (arith, few, length-append (files_of given) (name ∷ [])));
  distinct = subst (IsDistinct bytes_eq) (sym (files_of-append given (file name ∷ []))) (IsDistinct-push nat_list_eq_equiv (files_of given) name are.distinct absent);
}

keeps_file : (options : Options) (given : List Setting) (name : Text) → Keeps options given → Keeps (with_setting options (file name)) (given ++ file name ∷ [])
keeps_file options given name keeps = record {
  places = keeps.places;
  numbers = λ j. keeps.numbers j ∙ ap (λ (ns : List ℕ). slice_get ns 0) (sym (no_number_more j given name));
  files = ap (λ (names : List Text). names ++ name ∷ []) keeps.files ∙ sym (files_of-append given (file name ∷ []));
}

-- ---- there is room for a setting just where it may be given

none_given : (ns : List ℕ) → not (is_some (slice_get ns 0)) ≡ true → ns ≡ []
none_given [] room = refl
none_given (n ∷ ns) room = absurd (cc)

room_for_none : (ns : List ℕ) (n : ℕ) → length (ns ++ n ∷ []) ≤ 1 → not (is_some (slice_get ns 0)) ≡ true
room_for_none [] n few = refl
room_for_none (m ∷ ns) n few = absurd (omega (arith, few, length-append ns (n ∷ [])))

both_true : (a b : Bool) → (a && b) ≡ true → (a ≡ true) × (b ≡ true)
both_true true true is = (refl, refl)
both_true true false is = absurd (cc)
both_true false b is = absurd (cc)

is_false : (b : Bool) → not b ≡ true → b ≡ false
is_false true is = absurd (cc)
is_false false is = refl

not_given : (options : Options) (given : List Setting) (key : OptionKey) → Keeps options given → not (is_some (kept_number options key)) ≡ true → numbers_of key given ≡ []
not_given options given key keeps room = none_given (numbers_of key given) (ap (λ (kept : Option ℕ). not (is_some kept)) (sym (keeps.numbers key)) ∙ room)

pub record Taken (form : Form) (options : Options) (given : List Setting) : Type 0 where
  pub settings : AreSettings form given
  pub keeps : Keeps options given

pub taken : (form : Form) (options : Options) (given : List Setting) (setting : Setting) → Keeps options given → AreSettings form given → IsSetting form setting → has_room options setting ≡ true
    → Taken form (with_setting options setting) (given ++ setting ∷ [])
taken form options given (number key n) keeps are is room =
    let none : numbers_of key given ≡ [] = not_given options given key keeps room in
    record { settings = with_number form given key n are is none; keeps = keeps_number options given key n keeps none }
taken form options given (file name) keeps are is room =
    let both : (nat_lt (length options.files) 64 ≡ true) × (not (list_any (bytes_eq name) options.files) ≡ true) = both_true (nat_lt (length options.files) 64) (not (list_any (bytes_eq name) options.files)) room in
    let few : length (files_of given) < 64 = subst (λ (names : List Text). length names < 64) keeps.files (ltb-true (length options.files) 64 both.0) in
    let absent : list_any (bytes_eq name) (files_of given) ≡ false = subst (λ (names : List Text). list_any (bytes_eq name) names ≡ false) keeps.files (is_false (list_any (bytes_eq name) options.files) both.1) in
    record { settings = with_file form given name are is few absent; keeps = keeps_file options given name keeps }

room_beside : (options : Options) (names : List Text) (name : Text) → options.files ≡ names → length names < 64 → list_any (bytes_eq name) names ≡ false → has_room options (file name) ≡ true
room_beside options names name is few absent =
    ap (λ (kept : List Text). nat_lt (length kept) 64 && not (list_any (bytes_eq name) kept)) is
    ∙ rw (lt-ltb (length names) 64 few, absent)

pub room : (form : Form) (options : Options) (given : List Setting) (setting : Setting) → Keeps options given → AreSettings form (given ++ setting ∷ []) → has_room options setting ≡ true
room form options given (number key n) keeps are =
    let few : length (numbers_of key given ++ (if bytes_eq (name_of key) (name_of key) then n ∷ [] else [])) ≤ 1 = subst (λ (ns : List ℕ). length ns ≤ 1) (numbers_of-append key given (number key n ∷ [])) (are.once key) in
    let one : length (numbers_of key given ++ n ∷ []) ≤ 1 = subst (λ (b : Bool). length (numbers_of key given ++ (if b then n ∷ [] else [])) ≤ 1) (name_itself key) few in
    ap (λ (kept : Option ℕ). not (is_some kept)) (keeps.numbers key) ∙ room_for_none (numbers_of key given) n one
room form options given (file name) keeps are =
    let few : length (files_of given ++ name ∷ []) ≤ 64 = subst (λ (names : List Text). length names ≤ 64) (files_of-append given (file name ∷ [])) are.few in
    let apart : IsDistinct bytes_eq (files_of given ++ name ∷ []) = subst (IsDistinct bytes_eq) (files_of-append given (file name ∷ [])) are.distinct in
    room_beside options (files_of given) name keeps.files (omega (arith, few, length-append (files_of given) (name ∷ []))) (distinct_last (files_of given) name apart)

-- ---- words are of one setting at most

same_number : (form : Form) (key : OptionKey) (m n : ℕ) → IsSetting form (number key m) → IsSetting form (number key n) → decimal m ≡ decimal n → m ≡ n
same_number form key m n first second is =
    let small = greatest_below key in
    decimal_injective m n (omega (arith, first.2)) (omega (arith, second.2)) is

same_first : {A : Type 0} (a b : A) (us bs : List A) → a ∷ us ≡ b ∷ bs → a ≡ b
same_first a b us bs is = cc

same_rest : {A : Type 0} (a b : A) (us bs : List A) → a ∷ us ≡ b ∷ bs → us ≡ bs
same_rest a b us bs is = cc

pub same_setting : (form : Form) (s t : Setting) (a b : List Text) → IsSetting form s → IsSetting form t → words_of s ++ a ≡ words_of t ++ b → (s ≡ t) × (a ≡ b)
same_setting form (number k n) (number j m) a b first second is =
    let behind : decimal n ∷ a ≡ decimal m ∷ b = same_rest (name_of k) (name_of j) (decimal n ∷ a) (decimal m ∷ b) is in
    let key : k ≡ j = same_key k j (same_first (name_of k) (name_of j) (decimal n ∷ a) (decimal m ∷ b) is) in
    let value : n ≡ m = same_number form j n m (subst (λ (i : OptionKey). IsSetting form (number i n)) key first) second (same_first (decimal n) (decimal m) a b behind) in
    (ap (λ (i : OptionKey). number i n) key ∙ ap (λ (i : ℕ). number j i) value, same_rest (decimal n) (decimal m) a b behind)
same_setting form (number k n) (file name) a b first second is = absurd (no_key_is_file k (same_first (name_of k) FILE (decimal n ∷ a) (name ∷ b) is))
same_setting form (file name) (number k n) a b first second is = absurd (no_key_is_file k (sym (same_first FILE (name_of k) (name ∷ a) (decimal n ∷ b) is)))
same_setting form (file name) (file other) a b first second is =
    let behind : name ∷ a ≡ other ∷ b = same_rest FILE FILE (name ∷ a) (other ∷ b) is in
    (ap file (same_first name other a b behind), same_rest name other a b behind)

-- the first word begins with a dash, as an option's name does
unfoldable pub begins_as_option : List Text → Bool
begins_as_option words = get_or (get_or words 0 []) 0 0 == 45

begins : (setting : Setting) (tail : List Text) → begins_as_option (words_of setting ++ tail) ≡ true
unfolding begins_as_option
begins (number Nodes n) tail = refl
begins (number Workers n) tail = refl
begins (number Every n) tail = refl
begins (number Records n) tail = refl
begins (number Shift n) tail = refl
begins (number PidBase n) tail = refl
begins (number PortBase n) tail = refl
begins (file name) tail = refl

not_both : (words : List Text) (setting : Setting) (tail : List Text) → begins_as_option words ≡ false → words ≡ words_of setting ++ tail → ⊥
not_both words setting tail plain is = let bad : true ≡ false = sym (begins setting tail) ∙ ap begins_as_option (sym is) ∙ plain in cc

-- of two ways to begin the same words with settings, the one with nothing of an option behind it goes further
pub record Further (given other : List Setting) (rest tail : List Text) : Type 0 where
  pub more : List Setting
  pub is : other ≡ given ++ more
  pub behind : rest ≡ words_of_all more ++ tail

pub further : (form : Form) (given other : List Setting) (rest tail : List Text) → All (IsSetting form) given → All (IsSetting form) other → begins_as_option tail ≡ false
    → words_of_all given ++ rest ≡ words_of_all other ++ tail → Further given other rest tail
further form [] other rest tail first second plain is = record { more = other; is = refl; behind = is }
further form (s ∷ given) [] rest tail first second plain is =
    absurd (not_both tail s (words_of_all given ++ rest) plain (sym is ∙ append_assoc (words_of s) (words_of_all given) rest))
further form (s ∷ given) (t ∷ other) rest tail first second plain is =
    step (same_setting form s t (words_of_all given ++ rest) (words_of_all other ++ tail)
    (All-head (IsSetting form) s given first) (All-head (IsSetting form) t other second)
    (sym (append_assoc (words_of s) (words_of_all given) rest) ∙ (is ∙ append_assoc (words_of t) (words_of_all other) tail)))
    (λ same. further form given other rest tail (All-tail (IsSetting form) s given first) (All-tail (IsSetting form) t other second) plain same)
  where
    step : (s ≡ t) × (words_of_all given ++ rest ≡ words_of_all other ++ tail) → (words_of_all given ++ rest ≡ words_of_all other ++ tail → Further given other rest tail) → Further (s ∷ given) (t ∷ other) rest tail
    step same next = let found = next same.1 in record {
      more = found.more;
      is = ap (λ (u : Setting). u ∷ other) (sym same.0) ∙ ap (λ (us : List Setting). s ∷ us) found.is;
      behind = found.behind;
    }

-- where no setting follows what was read, it is the only reading
pub other_reading : (form : Form) (words : List Text) (options : Options) (rest : List Text) (read : IsRead form words options rest) → NoneFollows form options rest
    → (other : List Setting) (tail : List Text) → AreSettings form other → begins_as_option tail ≡ false → words ≡ words_of_all other ++ tail → (other ≡ read.given) × (tail ≡ rest)
other_reading form words options rest read none other tail are plain text =
    let found = further form read.given other rest tail read.settings.each are.each plain (sym read.text ∙ text) in
    go found.more found.is found.behind
  where
    go : (more : List Setting) → other ≡ read.given ++ more → rest ≡ words_of_all more ++ tail → (other ≡ read.given) × (tail ≡ rest)
    go [] is behind = (is ∙ append-nil read.given, sym behind)
    go (s ∷ more) is behind =
        let begun : AreSettings form (read.given ++ s ∷ []) = front form (read.given ++ s ∷ []) more (subst (AreSettings form) (is ∙ sym (append_assoc read.given (s ∷ []) more)) are) in
        absurd (none s (words_of_all more ++ tail) (All_last (IsSetting form) read.given s begun.each) (room form options read.given s read.keeps begun)
        (behind ∙ append_assoc (words_of s) (words_of_all more) tail))

pub one_reading : (form : Form) (a b : List Setting) (t u : List Text) → AreSettings form a → AreSettings form b → begins_as_option t ≡ false → begins_as_option u ≡ false
    → words_of_all a ++ t ≡ words_of_all b ++ u → (a ≡ b) × (t ≡ u)
one_reading form a b t u first second plain also is =
    let found = further form a b t u first.each second.each also is in
    go found.more found.is found.behind
  where
    go : (more : List Setting) → b ≡ a ++ more → t ≡ words_of_all more ++ u → (a ≡ b) × (t ≡ u)
    go [] same behind = (sym (same ∙ append-nil a), behind)
    go (s ∷ more) same behind = absurd (not_both t s (words_of_all more ++ u) plain (behind ∙ append_assoc (words_of s) (words_of_all more) u))

-- ---- the reader's loop

no_settings : (form : Form) → AreSettings form []
unfolding IsDistinct
no_settings form = record { each = All-nil (IsSetting form); once = λ key. omega arith; few = omega arith; distinct = tt }

pub begun : (form : Form) (words : List Text) (options : Options) → Keeps options [] → IsRead form words options words
begun form words options keeps = record { given = []; settings = no_settings form; text = refl; keeps = keeps }

pub one_read : (form : Form) (words : List Text) (options after : Options) (rest tail : List Text) (setting : Setting) → IsRead form words options rest → IsSetting form setting
    → has_room options setting ≡ true → rest ≡ words_of setting ++ tail → after ≡ with_setting options setting → IsRead form words after tail
one_read form words options after rest tail setting read is room front now =
    let next : Taken form (with_setting options setting) (read.given ++ setting ∷ []) = taken form options read.given setting read.keeps read.settings is room in
    record {
      given = read.given ++ setting ∷ [];
      settings = next.settings;
      text = read.text ∙ (ap (λ (words : List Text). words_of_all read.given ++ words) front ∙ one_more_text read.given setting tail);
      keeps = subst (λ (kept : Options). Keeps kept (read.given ++ setting ∷ [])) (sym now) next.keeps;
    }
  where
    one_more_text : (given : List Setting) (setting : Setting) (tail : List Text) → words_of_all given ++ (words_of setting ++ tail) ≡ words_of_all (given ++ setting ∷ []) ++ tail
    one_more_text given setting tail =
        sym (append_assoc (words_of_all given) (words_of setting) tail)
        ∙ ap (λ (words : List Text). words ++ tail) (ap (λ (words : List Text). words_of_all given ++ words) (sym (append-nil (words_of setting))) ∙ sym (flat_map-append words_of given (setting ∷ [])))

pub shorter : (setting : Setting) (tail words : List Text) → words ≡ words_of setting ++ tail → length tail < length words
shorter (number key n) tail words is = let same : length words ≡ suc (suc (length tail)) = ap length is in omega (arith, same)
shorter (file name) tail words is = let same : length words ≡ suc (suc (length tail)) = ap length is in omega (arith, same)

pub nothing_plain : begins_as_option [] ≡ false
unfolding begins_as_option
nothing_plain = refl
