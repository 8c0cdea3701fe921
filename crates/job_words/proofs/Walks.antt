-- What `clap` makes of the words of settings.
use Rattle.std.proofs.Common.{◌≡◌, ◌≢◌, ℕ, ◌<◌, ◌≤◌, ◌^◌, ◌&&◌, ◌||◌, List, [], ◌∷◌, ◌++◌, map, Bool, true, false, not, get_or, length, Option, Some, None, refl, sym, ap, ap₂, subst, ◌∙◌, arith, append_assoc, append-nil, length-append, ne_eqb}
use Rattle.std.specs.Prelude.{if◌then◌else◌, All, nat_lt, fold, codes, option_and_then}
use Rattle.std.specs.Option.{option_map_or}
use Rattle.std.specs.Str.{bytes_eq}
use Rattle.std.specs.Fmt.{decimal}
use Rattle.std.proofs.lemmas.Slice.Eq.{bytes_eq-Decides}
use Rattle.std.proofs.lemmas.List.{map-append}
use Rattle.std.proofs.lemmas.List.Elements.{All-head, All-tail}
use Rattle.clap.specs.Lexer.{long_of, long_of_rest, short_of, short_of_rest, strip_byte}
use Rattle.clap.specs.Walk.{Rule, Row, Held, Walk, Step, idle, option, next, trailing, walked, after_step, word_met, long_or_other, short_or_plain, after_flag, long_met, option_word, settled, settled_rows, used_by_id, used, with_values, without, at_row, more_values, has_row, arg_by_id, arg_by_long, walk_from}
use Rattle.clap.specs.Simple.{Shape, filled, with_index}
use Rattle.clap.specs.Takes.{walk_passes, turn_passes, flag_word_passes, long_passes, settle_passes, use_passes, step_passes, values_pass, bundle_passes}
use Rattle.clap.specs.declared.builder.value_parser.Reading.TheVariants.{AsWritten}
use Rattle.clap.specs.declared.parser.matches.ValueSource.TheVariants.{CommandLine}
use Rattle.option_words.specs.declared.option_key.OptionKey.{OptionKey}
use Rattle.option_words.specs.declared.option_key.OptionKey.TheVariants.{Nodes, Workers, Every, Records, Shift, PidBase, PortBase}
use Rattle.option_words.specs.declared.option_key.Form.{Form}
use Rattle.option_words.specs.declared.option_key.Form.TheVariants.{Launch}
use Rattle.option_words.specs.Options.{Text, Setting, number, file, name_of, has_option, words_of_all, IsSetting, AreSettings, numbers_of}
use Rattle.job_words.specs.Parsed.{option_rule}
use Rattle.option_words.proofs.Numbers.{first_digit}
use Rattle.option_words.proofs.Keys.{greatest_below, name_itself}
use Rattle.option_words.proofs.Settings.{numbers_of-append, front, All_last, All_front}

-- ---- names

abbrev pub id_of : OptionKey → Text
id_of Nodes = codes "nodes"
id_of Workers = codes "workers"
id_of Every = codes "every"
id_of Records = codes "records"
id_of Shift = codes "shift"
id_of PidBase = codes "pid-base"
id_of PortBase = codes "port-base"

abbrev dashes : Text
dashes = 45 ∷ 45 ∷ []

name_is : (key : OptionKey) → name_of key ≡ 45 ∷ 45 ∷ id_of key
name_is Nodes = refl
name_is Workers = refl
name_is Every = refl
name_is Records = refl
name_is Shift = refl
name_is PidBase = refl
name_is PortBase = refl

pub same_ids : (k j : OptionKey) → bytes_eq (id_of k) (id_of j) ≡ bytes_eq (name_of k) (name_of j)
same_ids k j = sym (ap₂ bytes_eq (name_is k) (name_is j))

id_itself : (key : OptionKey) → bytes_eq (id_of key) (id_of key) ≡ true
id_itself key = (bytes_eq-Decides (id_of key) (id_of key)).1 refl

long_of_name : (key : OptionKey) → long_of (name_of key) ≡ Some (id_of key, None)
long_of_name Nodes = refl
long_of_name Workers = refl
long_of_name Every = refl
long_of_name Records = refl
long_of_name Shift = refl
long_of_name PidBase = refl
long_of_name PortBase = refl

name_not_dashes : (key : OptionKey) → bytes_eq (name_of key) dashes ≡ false
name_not_dashes Nodes = refl
name_not_dashes Workers = refl
name_not_dashes Every = refl
name_not_dashes Records = refl
name_not_dashes Shift = refl
name_not_dashes PidBase = refl
name_not_dashes PortBase = refl

-- ---- a word that does not begin with a dash

no_long : (word : Text) → get_or word 0 0 ≢ 45 → long_of word ≡ None
no_long [] other = refl
no_long (b ∷ bs) other = ap (λ (t : Bool). option_and_then long_of_rest (option_and_then (strip_byte 45) (if t then Some bs else None))) (ne_eqb b 45 other)

no_short : (word : Text) → get_or word 0 0 ≢ 45 → short_of word ≡ None
no_short [] other = refl
no_short (b ∷ bs) other = ap (λ (t : Bool). option_and_then short_of_rest (if t then Some bs else None)) (ne_eqb b 45 other)

no_dashes : (word : Text) → get_or word 0 0 ≢ 45 → bytes_eq word dashes ≡ false
no_dashes [] other = refl
no_dashes (b ∷ bs) other = ap (λ (t : Bool). t && bytes_eq bs (45 ∷ [])) (ne_eqb b 45 other)

number_undashed : (n : ℕ) → n < 2 ^ 64 → get_or (decimal n) 0 0 ≢ 45
number_undashed n small is = let digit = first_digit n small in omega (arith, digit, is)

-- ---- the arguments

abbrev pub built_rule : Text → List Text → Rule
built_rule name defaults = with_index 0 (filled (option_rule name defaults))

-- the arguments are the options of the form
pub record Knows (form : Form) (c : List Rule) : Type 0 where
  pub default : OptionKey → List Text
  pub by_id : (key : OptionKey) → has_option form key ≡ true → arg_by_id c (id_of key) ≡ Some (built_rule (id_of key) (default key))
  pub by_long : (key : OptionKey) → has_option form key ≡ true → arg_by_long c (id_of key) ≡ Some (built_rule (id_of key) (default key))

-- ---- rows

abbrev pub row_with : Text → List Text → Row
row_with id values = record { id = id; values = values; count = None; source = Some CommandLine; reading = AsWritten }

abbrev pub row_of : Setting → Row
row_of (number key n) = row_with (id_of key) (decimal n ∷ [])
row_of (file name) = row_with (codes "file") (name ∷ [])

or_false : (a b : Bool) → (a || b) ≡ false → (a ≡ false) × (b ≡ false)
or_false false false is = (refl, refl)
or_false false true is = absurd (cc)
or_false true b is = absurd (cc)

pub at_row_absent : (id : Text) (change : Row → List Row) (missing rows : List Row) → has_row id rows ≡ false → at_row id change missing rows ≡ rows ++ missing
at_row_absent id change missing [] absent = refl
at_row_absent id change missing (r ∷ rs) absent =
    let both = or_false (bytes_eq r.id id) (has_row id rs) absent in
    ap (λ (t : Bool). if t then change r ++ rs else r ∷ at_row id change missing rs) both.0 ∙ ap (λ (rest : List Row). r ∷ rest) (at_row_absent id change missing rs both.1)

used_once : (id : Text) (defaults : List Text) (v : Text) (rows : List Row) → has_row id rows ≡ false → used (built_rule id defaults) (v ∷ []) rows ≡ rows ++ row_with id (v ∷ []) ∷ []
used_once id defaults v rows absent =
    let gone : without id rows ≡ rows = at_row_absent id (λ _. []) [] rows absent ∙ append-nil rows in
    ap (with_values id AsWritten CommandLine (v ∷ [])) gone
    ∙ at_row_absent id (more_values CommandLine (v ∷ [])) (row_with id (v ∷ []) ∷ []) rows absent

-- no number is given for the option
absent : (key : OptionKey) (given : List Setting) (form : Form) → All (IsSetting form) given → (form ≡ Launch → ⊥) → numbers_of key given ≡ [] → has_row (id_of key) (map row_of given) ≡ false
absent key [] form each other none = refl
absent key (number k n ∷ rest) form each other none = step (absent key rest form (All-tail (IsSetting form) (number k n) rest each) other) (bytes_eq (name_of k) (name_of key)) refl none
  where
    step : (numbers_of key rest ≡ [] → has_row (id_of key) (map row_of rest) ≡ false) → (b : Bool) → bytes_eq (name_of k) (name_of key) ≡ b → (if b then n ∷ numbers_of key rest else numbers_of key rest) ≡ [] → has_row (id_of key) (map row_of (number k n ∷ rest)) ≡ false
    step more true same is = cc
    step more false differ is =
        ap (λ (t : Bool). t || has_row (id_of key) (map row_of rest)) (same_ids k key ∙ differ)
        ∙ more is
absent key (file name ∷ rest) form each other none = absurd (other (All-head (IsSetting form) (file name) rest each).0)

few_before : (ns : List ℕ) (n : ℕ) → length (ns ++ n ∷ []) ≤ 1 → ns ≡ []
few_before [] n few = refl
few_before (m ∷ ns) n few = absurd (omega (arith, few, length-append ns (n ∷ [])))

none_before : (form : Form) (given : List Setting) (key : OptionKey) (n : ℕ) → AreSettings form (given ++ number key n ∷ []) → numbers_of key given ≡ []
none_before form given key n are =
    few_before (numbers_of key given) n
    (subst (λ (b : Bool). length (numbers_of key given ++ (if b then n ∷ [] else [])) ≤ 1) (name_itself key)
    (subst (λ (ns : List ℕ). length ns ≤ 1) (numbers_of-append key given (number key n ∷ [])) (are.once key)))

-- ---- two words

first_met : (form : Form) (c : List Rule) → Knows form c → (key : OptionKey) → has_option form key ≡ true → (h : Held)
    → word_met c [] false idle 1 (name_of key) h ≡ (record (settled c h) { pending = Some (id_of key, []) }, next (option (id_of key)))
first_met form c knows key has h =
    ap (λ (t : Bool). let met : Held × Step = if t then (h, trailing 1) else long_or_other c idle (name_of key) (long_of (name_of key)) h in met) (name_not_dashes key)
    ∙ (ap (λ (o : Option (Text × Option Text)). long_or_other c idle (name_of key) o h) (long_of_name key)
    ∙ ap (λ (found : Option Rule). after_flag c idle (name_of key) (long_met c found None h).0 (long_met c found None h).1) (knows.by_long key has))

-- the option waits for its value
abbrev waiting_for : List Row → OptionKey → Held
waiting_for rows key = record { rows = rows; pending = Some (id_of key, []); skip = 0 }

abbrev holding : List Row → OptionKey → Text → Held
holding rows key word = record { rows = rows; pending = Some (id_of key, word ∷ []); skip = 0 }

second_met : (form : Form) (c : List Rule) → Knows form c → (key : OptionKey) → has_option form key ≡ true → (rows : List Row) (word : Text) → get_or word 0 0 ≢ 45
    → word_met c [] false (option (id_of key)) 1 word (waiting_for rows key) ≡ (holding rows key word, next idle)
second_met form c knows key has rows word other =
    ap (λ (t : Bool). let met : Held × Step = if t then (waiting_for rows key, trailing 1) else long_or_other c (option (id_of key)) word (long_of word) (waiting_for rows key) in met) (no_dashes word other)
    ∙ (ap (λ (o : Option (Text × Option Text)). long_or_other c (option (id_of key)) word o (waiting_for rows key)) (no_long word other)
    ∙ (ap (λ (o : Option Text). short_or_plain c (option (id_of key)) word o (waiting_for rows key)) (no_short word other)
    ∙ (ap (λ (found : Option Rule). let met : Held × Step = ((option_word found (id_of key) word (waiting_for rows key)).0, next (option_word found (id_of key) word (waiting_for rows key)).1) in met) (knows.by_id key has)
    ∙ ap (λ (t : Bool). let met : Held × Step = (holding rows key word, next (if nat_lt (if t then 1 else 0) 1 then option (id_of key) else idle)) in met) (id_itself key))))

-- what is held after these settings, of which the last may wait to be put among the others
abbrev pub held_at : List Setting → Option Setting → Held
held_at front None = record { rows = map row_of front; pending = None; skip = 0 }
held_at front (Some setting) = record { rows = map row_of front; pending = Some ((row_of setting).id, (row_of setting).values); skip = 0 }

abbrev pub listed : Option Setting → List Setting
listed None = []
listed (Some setting) = setting ∷ []

one_word : (form : Form) (c : List Rule) → Knows form c → (key : OptionKey) → has_option form key ≡ true → (h : Held) → h.skip ≡ 0 → (now : List Setting) → settled_rows c h.pending h.rows ≡ map row_of now
    → walked c [] (walk_from h) (name_of key) ≡ record { held = waiting_for (map row_of now) key; waiting = option (id_of key); position = 1; is_trailing = false; stopped = None }
unfolding walked
one_word form c knows key has h skip now rows =
    ap (λ (met : Held × Step). after_step c (name_of key) (walk_from h) met.0 met.1) (first_met form c knows key has h)
    ∙ (ap (λ (rs : List Row). let w : Walk = record { held = record { rows = rs; pending = Some (id_of key, []); skip = h.skip }; waiting = option (id_of key); position = 1; is_trailing = false; stopped = None } in w) rows
    ∙ ap (λ (k : ℕ). let w : Walk = record { held = record { rows = map row_of now; pending = Some (id_of key, []); skip = k }; waiting = option (id_of key); position = 1; is_trailing = false; stopped = None } in w) skip)

two_words : (form : Form) (c : List Rule) → Knows form c → (key : OptionKey) → has_option form key ≡ true → (n : ℕ) → n < 2 ^ 64 → (h : Held) → h.skip ≡ 0 → (now : List Setting) → settled_rows c h.pending h.rows ≡ map row_of now
    → walked c [] (walked c [] (walk_from h) (name_of key)) (decimal n) ≡ walk_from (held_at now (Some (number key n)))
unfolding walked
two_words form c knows key has n small h skip now rows =
    let waits : Walk = record { held = waiting_for (map row_of now) key; waiting = option (id_of key); position = 1; is_trailing = false; stopped = None } in
    ap (λ (w : Walk). walked c [] w (decimal n)) (one_word form c knows key has h skip now rows)
    ∙ ap (λ (met : Held × Step). after_step c (decimal n) waits met.0 met.1) (second_met form c knows key has (map row_of now) (decimal n) (number_undashed n small))

-- ---- each use passes

and_true : (b : Bool) → (b && true) ≡ b
and_true true = refl
and_true false = refl

first_passes : (form : Form) (s : Shape) → Knows form s.rules → (key : OptionKey) → has_option form key ≡ true → (h : Held) → turn_passes s [] (walk_from h) (name_of key) ≡ settle_passes s.rules s.args_override_self h
first_passes form s knows key has h =
    ap (λ (met : Held × Step). (bytes_eq (name_of key) dashes || flag_word_passes s.rules s.args_override_self (long_of (name_of key)) (name_of key) h) && step_passes s 1 met.0 met.1) (first_met form s.rules knows key has h)
    ∙ (ap (λ (t : Bool). (t || flag_word_passes s.rules s.args_override_self (long_of (name_of key)) (name_of key) h) && true) (name_not_dashes key)
    ∙ (ap (λ (o : Option (Text × Option Text)). flag_word_passes s.rules s.args_override_self o (name_of key) h && true) (long_of_name key)
    ∙ (ap (λ (found : Option Rule). long_passes s.rules s.args_override_self found None h && true) (knows.by_long key has)
    ∙ and_true (settle_passes s.rules s.args_override_self h))))

second_passes : (form : Form) (s : Shape) → Knows form s.rules → (key : OptionKey) → has_option form key ≡ true → (rows : List Row) (word : Text) → get_or word 0 0 ≢ 45 → (w : Walk)
    → w ≡ record { held = waiting_for rows key; waiting = option (id_of key); position = 1; is_trailing = false; stopped = None } → turn_passes s [] w word ≡ true
second_passes form s knows key has rows word other w is =
    ap (λ (v : Walk). turn_passes s [] v word) is
    ∙ (ap (λ (met : Held × Step). (bytes_eq word dashes || flag_word_passes s.rules s.args_override_self (long_of word) word (waiting_for rows key)) && step_passes s 1 met.0 met.1) (second_met form s.rules knows key has rows word other)
    ∙ (ap (λ (t : Bool). (t || flag_word_passes s.rules s.args_override_self (long_of word) word (waiting_for rows key)) && true) (no_dashes word other)
    ∙ (ap (λ (o : Option (Text × Option Text)). flag_word_passes s.rules s.args_override_self o word (waiting_for rows key) && true) (no_long word other)
    ∙ ap (λ (o : Option Text). option_map_or (λ flags. bundle_passes s.rules s.args_override_self flags (waiting_for rows key)) o true && true) (no_short word other))))

-- ---- what is settled

pub settled_at : (form : Form) (c : List Rule) → Knows form c → (form ≡ Launch → ⊥) → (front : List Setting) (last : Option Setting) → AreSettings form (front ++ listed last)
    → settled_rows c (held_at front last).pending (held_at front last).rows ≡ map row_of (front ++ listed last)
settled_at form c knows other front None are = ap (map row_of) (sym (append-nil front))
settled_at form c knows other front (Some (number key n)) are =
    let has = (All_last (IsSetting form) front (number key n) are.each).0 in
    let missing : has_row (id_of key) (map row_of front) ≡ false = absent key front form (All_front (IsSetting form) front (number key n ∷ []) are.each) other (none_before form front key n are) in
    ap (λ (found : Option Rule). used_by_id found (decimal n ∷ []) (map row_of front)) (knows.by_id key has)
    ∙ (used_once (id_of key) (knows.default key) (decimal n) (map row_of front) missing ∙ sym (map-append row_of front (number key n ∷ [])))
settled_at form c knows other front (Some (file name)) are = absurd (other (All_last (IsSetting form) front (file name) are.each).0)

pub settles : (form : Form) (c : List Rule) → Knows form c → (form ≡ Launch → ⊥) → (front : List Setting) (last : Option Setting) → AreSettings form (front ++ listed last) → settle_passes c false (held_at front last) ≡ true
settles form c knows other front None are = refl
settles form c knows other front (Some (number key n)) are =
    let has = (All_last (IsSetting form) front (number key n) are.each).0 in
    let missing : has_row (id_of key) (map row_of front) ≡ false = absent key front form (All_front (IsSetting form) front (number key n ∷ []) are.each) other (none_before form front key n are) in
    ap (λ (found : Option Rule). option_map_or (λ a. use_passes false a (decimal n ∷ []) (map row_of front)) found true) (knows.by_id key has)
    ∙ ap (λ (t : Bool). (not t || false) && values_pass (built_rule (id_of key) (knows.default key)) (decimal n ∷ [])) missing
settles form c knows other front (Some (file name)) are = absurd (other (All_last (IsSetting form) front (file name) are.each).0)

-- ---- all words

pub record Walked (s : Shape) (h : Held) (words : List Text) (all : List Setting) : Type 0 where
  pub before : List Setting
  pub last : Option Setting
  pub walk : fold (walked s.rules []) (walk_from h) words ≡ walk_from (held_at before last)
  pub passes : walk_passes s [] (walk_from h) words ≡ true
  pub is : before ++ listed last ≡ all

no_skip : (before : List Setting) (last : Option Setting) → (held_at before last).skip ≡ 0
no_skip before None = refl
no_skip before (Some setting) = refl

pub walk_all : (form : Form) (s : Shape) → Knows form s.rules → s.args_override_self ≡ false → (form ≡ Launch → ⊥) → (before : List Setting) (last : Option Setting) (given : List Setting)
    → AreSettings form ((before ++ listed last) ++ given) → Walked s (held_at before last) (words_of_all given) ((before ++ listed last) ++ given)
unfolding walk_passes walked
walk_all form s knows again other before last [] are = record { before = before; last = last; walk = refl; passes = refl; is = sym (append-nil (before ++ listed last)) }
walk_all form s knows again other before last (number key n ∷ given) are =
    step (walk_all form s knows again other (before ++ listed last) (Some (number key n)) given (subst (AreSettings form) (sym (append_assoc (before ++ listed last) (number key n ∷ []) given)) are))
  where
    step : Walked s (held_at (before ++ listed last) (Some (number key n))) (words_of_all given) (((before ++ listed last) ++ number key n ∷ []) ++ given)
        → Walked s (held_at before last) (words_of_all (number key n ∷ given)) ((before ++ listed last) ++ number key n ∷ given)
    step rec =
        let now : List Setting = before ++ listed last in
        let here : AreSettings form now = front form now (number key n ∷ given) are in
        let this : AreSettings form (now ++ number key n ∷ []) = front form (now ++ number key n ∷ []) given (subst (AreSettings form) (sym (append_assoc now (number key n ∷ []) given)) are) in
        let setting : IsSetting form (number key n) = All_last (IsSetting form) now (number key n) this.each in
        let below = greatest_below key in
        let small : n < 2 ^ 64 = omega (arith, below, setting.2) in
        let h : Held = held_at before last in
        let rows : settled_rows s.rules h.pending h.rows ≡ map row_of now = settled_at form s.rules knows other before last here in
        let two : walked s.rules [] (walked s.rules [] (walk_from h) (name_of key)) (decimal n) ≡ walk_from (held_at now (Some (number key n))) = two_words form s.rules knows key setting.0 n small h (no_skip before last) now rows in
        let one : walked s.rules [] (walk_from h) (name_of key) ≡ record { held = waiting_for (map row_of now) key; waiting = option (id_of key); position = 1; is_trailing = false; stopped = None } = one_word form s.rules knows key setting.0 h (no_skip before last) now rows in
        let first : turn_passes s [] (walk_from h) (name_of key) ≡ true = first_passes form s knows key setting.0 h ∙ (ap (λ (b : Bool). settle_passes s.rules b h) again ∙ settles form s.rules knows other before last here) in
        let second : turn_passes s [] (walked s.rules [] (walk_from h) (name_of key)) (decimal n) ≡ true =
        second_passes form s knows key setting.0 (map row_of now) (decimal n) (number_undashed n small) (walked s.rules [] (walk_from h) (name_of key)) one in
        record {
          before = rec.before;
          last = rec.last;
          walk = ap (λ (w : Walk). fold (walked s.rules []) w (words_of_all given)) two ∙ rec.walk;
          passes =
              ap (λ (t : Bool). t && (turn_passes s [] (walked s.rules [] (walk_from h) (name_of key)) (decimal n) && walk_passes s [] (walked s.rules [] (walked s.rules [] (walk_from h) (name_of key)) (decimal n)) (words_of_all given))) first
              ∙ (ap (λ (t : Bool). t && walk_passes s [] (walked s.rules [] (walked s.rules [] (walk_from h) (name_of key)) (decimal n)) (words_of_all given)) second
              ∙ (ap (λ (w : Walk). walk_passes s [] w (words_of_all given)) two ∙ rec.passes));
          is = rec.is ∙ append_assoc now (number key n ∷ []) given;
        }
walk_all form s knows again other before last (file name ∷ given) are =
    let this : AreSettings form ((before ++ listed last) ++ file name ∷ []) =
    front form ((before ++ listed last) ++ file name ∷ []) given (subst (AreSettings form) (sym (append_assoc (before ++ listed last) (file name ∷ []) given)) are) in
    absurd (other (All_last (IsSetting form) (before ++ listed last) (file name) this.each).0)
