-- The values that `clap` finds for an option: what is given, or else the default.
use Rattle.std.proofs.Common.{◌≡◌, ℕ, ◌<◌, ◌^◌, ◌&&◌, ◌||◌, List, [], ◌∷◌, ◌++◌, map, Bool, true, false, Option, Some, None, is_some, refl, sym, ap, subst, ◌∙◌, arith, lit<}
use Rattle.std.specs.Prelude.{if◌then◌else◌, All, slice_get, fold, find, codes, option_map, option_and_then, unwrap_or}
use Rattle.std.specs.List.{list_all}
use Rattle.std.specs.Str.{bytes_eq}
use Rattle.std.specs.Fmt.{decimal}
use Rattle.std.proofs.lemmas.Slice.Eq.{bytes_eq-Decides}
use Rattle.std.proofs.lemmas.List.Elements.{All-nil, All-cons, All-head, All-tail, All-push}
use Rattle.clap.specs.Walk.{Rule, Row, Held, has_row, first_of, with_default, default_rows, more_values, settled_rows, finished, nothing_held, walk, reading_by, rows_after, Walk, arg_by_id, arg_by_long}
use Rattle.clap.specs.Simple.{Shape, built, matches_of}
use Rattle.clap.specs.Takes.{takes, level_passes, settle_passes, default_passes, is_valid}
use Rattle.clap.proofs.TakesLemmas.{leaf_takes}
use Rattle.clap.specs.declared.builder.value_parser.Reading.{Reading}
use Rattle.clap.specs.declared.parser.matches.ValueSource.TheVariants.{DefaultValue}
use Rattle.option_words.specs.declared.option_key.OptionKey.{OptionKey}
use Rattle.option_words.specs.declared.option_key.OptionKey.TheVariants.{Nodes, Workers, Every, Records, Shift, PidBase, PortBase}
use Rattle.option_words.specs.declared.option_key.Form.{Form}
use Rattle.option_words.specs.declared.option_key.Form.TheVariants.{Launch, Restart, Ring}
use Rattle.option_words.specs.Options.{Text, Setting, number, file, name_of, has_option, words_of_all, IsSetting, AreSettings, numbers_of, given_for, given_or}
use Rattle.job_words.specs.Parsed.{restart_app, ring_app}
use Rattle.option_words.proofs.Numbers.{zero_written, written}
use Rattle.option_words.proofs.Keys.{greatest_below}
use Rattle.job_words.proofs.Walks.{id_of, same_ids, row_of, Knows, Walked, walk_all, at_row_absent, held_at, listed, settled_at, settles, built_rule}

-- ---- look-ups

same_find : (b c : Bool) (r : Row) (rest : Option Row) → b ≡ c → option_and_then (λ row. slice_get row.values 0) (if b then Some r else rest) ≡ option_and_then (λ row. slice_get row.values 0) (if c then Some r else rest)
same_find b c r rest is = ap (λ (t : Bool). option_and_then (λ (row : Row). slice_get row.values 0) (if t then Some r else rest)) is

pub first_given : (form : Form) (key : OptionKey) (given : List Setting) → All (IsSetting form) given → (form ≡ Launch → ⊥) → first_of (id_of key) (map row_of given) ≡ option_map decimal (given_for key given)
first_given form key [] each other = refl
first_given form key (number k n ∷ rest) each other = step (first_given form key rest (All-tail (IsSetting form) (number k n) rest each) other) (bytes_eq (name_of k) (name_of key)) refl
  where
    step : first_of (id_of key) (map row_of rest) ≡ option_map decimal (given_for key rest) → (b : Bool) → bytes_eq (name_of k) (name_of key) ≡ b → first_of (id_of key) (map row_of (number k n ∷ rest)) ≡ option_map decimal (given_for key (number k n ∷ rest))
    step next true same =
        same_find (bytes_eq (id_of k) (id_of key)) true (row_of (number k n)) (find (λ r. bytes_eq r.id (id_of key)) (map row_of rest)) (same_ids k key ∙ same)
        ∙ ap (λ (t : Bool). option_map decimal (slice_get (if t then n ∷ numbers_of key rest else numbers_of key rest) 0)) (sym same)
    step next false differ =
        same_find (bytes_eq (id_of k) (id_of key)) false (row_of (number k n)) (find (λ r. bytes_eq r.id (id_of key)) (map row_of rest)) (same_ids k key ∙ differ)
        ∙ (next
        ∙ ap (λ (t : Bool). option_map decimal (slice_get (if t then n ∷ numbers_of key rest else numbers_of key rest) 0)) (sym differ))
first_given form key (file name ∷ rest) each other = absurd (other (All-head (IsSetting form) (file name) rest each).0)

abbrev HasValue : Row → Type 0
HasValue r = is_some (slice_get r.values 0) ≡ true

given_filled : (given : List Setting) → All HasValue (map row_of given)
given_filled [] = All-nil HasValue
given_filled (number k n ∷ rest) = All-cons HasValue (row_of (number k n)) (map row_of rest) refl (given_filled rest)
given_filled (file name ∷ rest) = All-cons HasValue (row_of (file name)) (map row_of rest) refl (given_filled rest)

either : (a b : Bool) → (a || b) ≡ false → (a ≡ false) × (b ≡ false)
either false false is = (refl, refl)
either false true is = absurd (cc)
either true b is = absurd (cc)

absent_first : (id : Text) (rows : List Row) → has_row id rows ≡ false → first_of id rows ≡ None
absent_first id [] none = refl
absent_first id (r ∷ rows) none =
    let both = either (bytes_eq r.id id) (has_row id rows) none in
    same_find (bytes_eq r.id id) false r (find (λ row. bytes_eq row.id id) rows) both.0 ∙ absent_first id rows both.1

absent_push : (id : Text) (rows : List Row) (last : Row) → has_row id rows ≡ false → first_of id (rows ++ last ∷ []) ≡ first_of id (last ∷ [])
absent_push id [] last none = refl
absent_push id (r ∷ rows) last none =
    let both = either (bytes_eq r.id id) (has_row id rows) none in
    same_find (bytes_eq r.id id) false r (find (λ row. bytes_eq row.id id) (rows ++ last ∷ [])) both.0 ∙ absent_push id rows last both.1

other_push : (id : Text) (rows : List Row) (last : Row) → bytes_eq last.id id ≡ false → first_of id (rows ++ last ∷ []) ≡ first_of id rows
other_push id [] last differ = same_find (bytes_eq last.id id) false last None differ
other_push id (r ∷ rows) last differ = step (other_push id rows last differ) (bytes_eq r.id id) refl
  where
    step : first_of id (rows ++ last ∷ []) ≡ first_of id rows → (b : Bool) → bytes_eq r.id id ≡ b → first_of id ((r ∷ rows) ++ last ∷ []) ≡ first_of id (r ∷ rows)
    step next true is =
        same_find (bytes_eq r.id id) true r (find (λ row. bytes_eq row.id id) (rows ++ last ∷ [])) is
        ∙ sym (same_find (bytes_eq r.id id) true r (find (λ row. bytes_eq row.id id) rows) is)
    step next false is =
        same_find (bytes_eq r.id id) false r (find (λ row. bytes_eq row.id id) (rows ++ last ∷ [])) is
        ∙ (next ∙ sym (same_find (bytes_eq r.id id) false r (find (λ row. bytes_eq row.id id) rows) is))

present_first : (id : Text) (rows : List Row) → All HasValue rows → has_row id rows ≡ true → is_some (first_of id rows) ≡ true
present_first id [] filled some = absurd (cc)
present_first id (r ∷ rows) filled some = step (present_first id rows (All-tail HasValue r rows filled)) (bytes_eq r.id id) refl some
  where
    step : (has_row id rows ≡ true → is_some (first_of id rows) ≡ true) → (b : Bool) → bytes_eq r.id id ≡ b → (bytes_eq r.id id || has_row id rows) ≡ true → is_some (first_of id (r ∷ rows)) ≡ true
    step next true is _ = ap is_some (same_find (bytes_eq r.id id) true r (find (λ row. bytes_eq row.id id) rows) is) ∙ All-head HasValue r rows filled
    step next false is some =
        ap is_some (same_find (bytes_eq r.id id) false r (find (λ row. bytes_eq row.id id) rows) is)
        ∙ next (ap (λ (t : Bool). t || has_row id rows) (sym is) ∙ some)

-- ---- defaults

abbrev pub first_or : Option Text → Option Text → Option Text
first_or (Some text) default = Some text
first_or None default = default

some_or : (given default : Option Text) → is_some given ≡ true → given ≡ first_or given default
some_or (Some text) default is = refl
some_or None default is = absurd (cc)

or_none : (given : Option Text) → given ≡ first_or given None
or_none (Some text) = refl
or_none None = refl

-- the value of an option after each argument's default is put where no row is
abbrev pub or_default : Text → List Rule → Option Text → Option Text
or_default id [] given = given
or_default id (a ∷ c) given = or_default id c (if bytes_eq a.id id then first_or given (slice_get a.defaults 0) else given)

same_text : (a b : Text) → bytes_eq a b ≡ true → a ≡ b
same_text a b is = (bytes_eq-Decides a b).0 is

default_step : (id own : Text) (how : Reading) (defaults : List Text) (rows : List Row) (h b : Bool) → has_row own rows ≡ h → bytes_eq own id ≡ b → All HasValue rows
    → first_of id (if h then rows else default_rows own how defaults rows) ≡ (if b then first_or (first_of id rows) (slice_get defaults 0) else first_of id rows)
default_step id own how defaults rows true true there same filled =
    some_or (first_of id rows) (slice_get defaults 0) (present_first id rows filled (subst (λ (text : Text). has_row text rows ≡ true) (same_text own id same) there))
default_step id own how defaults rows true false there differ filled = refl
default_step id own how [] rows false true none same filled = or_none (first_of id rows)
default_step id own how [] rows false false none differ filled = refl
default_step id own how (v ∷ vs) rows false true none same filled =
    let gone : has_row id rows ≡ false = subst (λ (text : Text). has_row text rows ≡ false) (same_text own id same) none in
    let last : Row = record { id = own; values = v ∷ vs; count = None; source = Some DefaultValue; reading = how } in
    ap (first_of id) (at_row_absent own (more_values DefaultValue (v ∷ vs)) (last ∷ []) rows none)
    ∙ (absent_push id rows last gone
    ∙ (same_find (bytes_eq own id) true last None same ∙ ap (λ (o : Option Text). first_or o (Some v)) (sym (absent_first id rows gone))))
default_step id own how (v ∷ vs) rows false false none differ filled =
    let last : Row = record { id = own; values = v ∷ vs; count = None; source = Some DefaultValue; reading = how } in
    ap (first_of id) (at_row_absent own (more_values DefaultValue (v ∷ vs)) (last ∷ []) rows none) ∙ other_push id rows last differ

default_filled : (own : Text) (how : Reading) (defaults : List Text) (rows : List Row) (h : Bool) → has_row own rows ≡ h → All HasValue rows → All HasValue (if h then rows else default_rows own how defaults rows)
default_filled own how defaults rows true there filled = filled
default_filled own how [] rows false none filled = filled
default_filled own how (v ∷ vs) rows false none filled =
    let last : Row = record { id = own; values = v ∷ vs; count = None; source = Some DefaultValue; reading = how } in
    subst (All HasValue) (sym (at_row_absent own (more_values DefaultValue (v ∷ vs)) (last ∷ []) rows none)) (All-push HasValue rows last filled refl)

pub defaulted : (id : Text) (c : List Rule) (rows : List Row) → All HasValue rows → first_of id (fold with_default rows c) ≡ or_default id c (first_of id rows)
defaulted id [] rows filled = refl
defaulted id (a ∷ c) rows filled =
    defaulted id c (with_default rows a) (default_filled a.id (reading_by a) a.defaults rows (has_row a.id rows) refl filled)
    ∙ ap (or_default id c) (default_step id a.id (reading_by a) a.defaults rows (has_row a.id rows) (bytes_eq a.id id) refl refl filled)

-- ---- a whole parse

pub parsed_value : (form : Form) (s : Shape) → Knows form s.rules → s.args_override_self ≡ false → (form ≡ Launch → ⊥) → (given : List Setting) → AreSettings form given → (key : OptionKey)
    → first_of (id_of key) (rows_after s.rules [] (words_of_all given)) ≡ or_default (id_of key) s.rules (option_map decimal (given_for key given))
parsed_value form s knows again other given are key = go (walk_all form s knows again other [] None given are)
  where
    go : Walked s nothing_held (words_of_all given) given → first_of (id_of key) (rows_after s.rules [] (words_of_all given)) ≡ or_default (id_of key) s.rules (option_map decimal (given_for key given))
    go w =
        let all : AreSettings form (w.before ++ listed w.last) = subst (AreSettings form) (sym w.is) are in
        let rows : settled_rows s.rules (held_at w.before w.last).pending (held_at w.before w.last).rows ≡ map row_of given = settled_at form s.rules knows other w.before w.last all ∙ ap (map row_of) w.is in
        ap (λ (end : Held). first_of (id_of key) (finished s.rules end)) (ap (λ (w : Walk). w.held) w.walk)
        ∙ (ap (λ (found : List Row). first_of (id_of key) (fold with_default found s.rules)) rows
        ∙ (defaulted (id_of key) s.rules (map row_of given) (given_filled given)
        ∙ ap (or_default (id_of key) s.rules) (first_given form key given are.each other)))

pub parse_passes : (form : Form) (s : Shape) → Knows form s.rules → s.args_override_self ≡ false → (form ≡ Launch → ⊥) → (given : List Setting) → AreSettings form given
    → list_all default_passes s.rules ≡ true → ((rows : List Row) → is_valid s rows false ≡ true) → level_passes s [] nothing_held (words_of_all given) false ≡ true
parse_passes form s knows again other given are defaults valid = go (walk_all form s knows again other [] None given are)
  where
    go : Walked s nothing_held (words_of_all given) given → level_passes s [] nothing_held (words_of_all given) false ≡ true
    go w =
        let all : AreSettings form (w.before ++ listed w.last) = subst (AreSettings form) (sym w.is) are in
        let end : Held = (walk s.rules [] nothing_held (words_of_all given)).held in
        let ended : end ≡ held_at w.before w.last = ap (λ (w : Walk). w.held) w.walk in
        let settle : settle_passes s.rules s.args_override_self end ≡ true =
        ap (λ (b : Bool). settle_passes s.rules b end) again ∙ (ap (settle_passes s.rules false) ended ∙ settles form s.rules knows other w.before w.last all) in
        ap (λ (t : Bool). t && (settle_passes s.rules s.args_override_self end && (list_all default_passes s.rules && is_valid s (finished s.rules end) false))) w.passes
        ∙ (ap (λ (t : Bool). t && (list_all default_passes s.rules && is_valid s (finished s.rules end) false)) settle
        ∙ (ap (λ (t : Bool). t && is_valid s (finished s.rules end) false) defaults ∙ valid (finished s.rules end)))

-- ---- restart

restart_default : OptionKey → List Text
restart_default Nodes = codes "16" ∷ []
restart_default Workers = codes "0" ∷ []
restart_default Every = []
restart_default Records = codes "1000000" ∷ []
restart_default Shift = codes "0" ∷ []
restart_default PidBase = codes "2000" ∷ []
restart_default PortBase = codes "30000" ∷ []

knows_restart : Knows Restart (built restart_app).top.rules
unfolding restart_default
knows_restart = record { default = restart_default; by_id = by_id; by_long = by_long }
  where
    by_id : (key : OptionKey) → has_option Restart key ≡ true → arg_by_id (built restart_app).top.rules (id_of key) ≡ Some (built_rule (id_of key) (restart_default key))
    by_id Nodes has = refl
    by_id Workers has = refl
    by_id Every has = refl
    by_id Records has = refl
    by_id Shift has = refl
    by_id PidBase has = refl
    by_id PortBase has = refl

    by_long : (key : OptionKey) → has_option Restart key ≡ true → arg_by_long (built restart_app).top.rules (id_of key) ≡ Some (built_rule (id_of key) (restart_default key))
    by_long Nodes has = refl
    by_long Workers has = refl
    by_long Every has = refl
    by_long Records has = refl
    by_long Shift has = refl
    by_long PidBase has = refl
    by_long PortBase has = refl

restart_no_launch : Restart ≡ Launch → ⊥
restart_no_launch is = cc

pub restart_takes : (words : List Text) (given : List Setting) → AreSettings Restart given → words ≡ words_of_all given → takes restart_app words ≡ true
restart_takes words given are is =
    ap (takes restart_app) is
    ∙ leaf_takes (built restart_app) nothing_held (words_of_all given) refl (parse_passes Restart (built restart_app).top knows_restart refl restart_no_launch given are refl (λ rows. refl))

pub restart_text : (words : List Text) (given : List Setting) → AreSettings Restart given → words ≡ words_of_all given → (key : OptionKey)
    → first_of (id_of key) (matches_of restart_app words) ≡ or_default (id_of key) (built restart_app).top.rules (option_map decimal (given_for key given))
restart_text words given are is key =
    ap (λ (ws : List Text). first_of (id_of key) (matches_of restart_app ws)) is ∙ parsed_value Restart (built restart_app).top knows_restart refl restart_no_launch given are key

-- ---- ring

ring_default : OptionKey → List Text
ring_default Workers = codes "0" ∷ []
ring_default Every = codes "1000" ∷ []
ring_default _ = []

knows_ring : Knows Ring (built ring_app).top.rules
unfolding ring_default
knows_ring = record { default = ring_default; by_id = by_id; by_long = by_long }
  where
    by_id : (key : OptionKey) → has_option Ring key ≡ true → arg_by_id (built ring_app).top.rules (id_of key) ≡ Some (built_rule (id_of key) (ring_default key))
    by_id Nodes has = absurd (cc)
    by_id Workers has = refl
    by_id Every has = refl
    by_id Records has = absurd (cc)
    by_id Shift has = absurd (cc)
    by_id PidBase has = absurd (cc)
    by_id PortBase has = absurd (cc)

    by_long : (key : OptionKey) → has_option Ring key ≡ true → arg_by_long (built ring_app).top.rules (id_of key) ≡ Some (built_rule (id_of key) (ring_default key))
    by_long Nodes has = absurd (cc)
    by_long Workers has = refl
    by_long Every has = refl
    by_long Records has = absurd (cc)
    by_long Shift has = absurd (cc)
    by_long PidBase has = absurd (cc)
    by_long PortBase has = absurd (cc)

ring_no_launch : Ring ≡ Launch → ⊥
ring_no_launch is = cc

pub ring_takes : (words : List Text) (given : List Setting) → AreSettings Ring given → words ≡ words_of_all given → takes ring_app words ≡ true
ring_takes words given are is =
    ap (takes ring_app) is
    ∙ leaf_takes (built ring_app) nothing_held (words_of_all given) refl (parse_passes Ring (built ring_app).top knows_ring refl ring_no_launch given are refl (λ rows. refl))

pub ring_text : (words : List Text) (given : List Setting) → AreSettings Ring given → words ≡ words_of_all given → (key : OptionKey)
    → first_of (id_of key) (matches_of ring_app words) ≡ or_default (id_of key) (built ring_app).top.rules (option_map decimal (given_for key given))
ring_text words given are is key =
    ap (λ (ws : List Text). first_of (id_of key) (matches_of ring_app ws)) is ∙ parsed_value Ring (built ring_app).top knows_ring refl ring_no_launch given are key

-- ---- numbers

pub default_text : (given : Option ℕ) (text : Text) (n : ℕ) → decimal n ≡ text → first_or (option_map decimal given) (Some text) ≡ Some (decimal (unwrap_or given n))
default_text None text n is = ap (λ (t : Text). Some t) (sym is)
default_text (Some m) text n is = refl

all_small : (form : Form) (key : OptionKey) (given : List Setting) → All (IsSetting form) given → All (λ n. n < 2 ^ 32) (numbers_of key given)
all_small form key [] each = All-nil (λ n. n < 2 ^ 32)
all_small form key (number k n ∷ rest) each = step (bytes_eq (name_of k) (name_of key)) (all_small form key rest (All-tail (IsSetting form) (number k n) rest each))
  where
    step : (b : Bool) → All (λ n. n < 2 ^ 32) (numbers_of key rest) → All (λ n. n < 2 ^ 32) (if b then n ∷ numbers_of key rest else numbers_of key rest)
    step true all =
        let below = greatest_below k in
        let setting : IsSetting form (number k n) = All-head (IsSetting form) (number k n) rest each in
        All-cons (λ n. n < 2 ^ 32) n (numbers_of key rest) (omega (arith, below, setting.2)) all
    step false all = all
all_small form key (file name ∷ rest) each = all_small form key rest (All-tail (IsSetting form) (file name) rest each)

first_small : (ns : List ℕ) (default : ℕ) → All (λ n. n < 2 ^ 32) ns → default < 2 ^ 32 → unwrap_or (slice_get ns 0) default < 2 ^ 32
first_small [] default all small = small
first_small (n ∷ ns) default all small = All-head (λ n. n < 2 ^ 32) n ns all

pub given_small : (form : Form) (given : List Setting) → AreSettings form given → (key : OptionKey) (default : ℕ) → default < 2 ^ 32 → given_or key given default < 2 ^ 32
given_small form given are key default small = first_small (numbers_of key given) default (all_small form key given are.each) small

-- ---- what is found in the rows of a restart and of a ring

pub record Finds (rows : List Row) (id : Text) (n : ℕ) : Type 0 where
  pub small : n < 2 ^ 32
  pub text : first_of id rows ≡ Some (decimal n)

module _ (rows : List Row) (words : List Text) (found : rows ≡ matches_of restart_app words) (given : List Setting) (are : AreSettings Restart given) (text : words ≡ words_of_all given) where
  pub restart_nodes : Finds rows (codes "nodes") (given_or Nodes given 16)
  restart_nodes = record {
    small = given_small Restart given are Nodes 16 (lit< tt);
    text = ap (first_of (codes "nodes")) found ∙ (restart_text words given are text Nodes ∙ default_text (given_for Nodes given) (codes "16") 16 (written (codes "16") 16 refl refl (lit< tt) (λ zero_first. absurd (omega (arith, zero_first))) (lit< tt)));
  }

  pub restart_workers : Finds rows (codes "workers") (given_or Workers given 0)
  restart_workers = record {
    small = given_small Restart given are Workers 0 (lit< tt);
    text = ap (first_of (codes "workers")) found ∙ (restart_text words given are text Workers ∙ default_text (given_for Workers given) (codes "0") 0 zero_written);
  }

  pub restart_every : first_of (codes "every") rows ≡ option_map decimal (given_for Every given)
  restart_every = ap (first_of (codes "every")) found ∙ (restart_text words given are text Every ∙ sym (or_none (option_map decimal (given_for Every given))))

  pub restart_records : Finds rows (codes "records") (given_or Records given 1000000)
  restart_records = record {
    small = given_small Restart given are Records 1000000 (lit< tt);
    text = ap (first_of (codes "records")) found ∙ (restart_text words given are text Records ∙ default_text (given_for Records given) (codes "1000000") 1000000 (written (codes "1000000") 1000000 refl refl (lit< tt) (λ zero_first. absurd (omega (arith, zero_first))) (lit< tt)));
  }

  pub restart_shift : Finds rows (codes "shift") (given_or Shift given 0)
  restart_shift = record {
    small = given_small Restart given are Shift 0 (lit< tt);
    text = ap (first_of (codes "shift")) found ∙ (restart_text words given are text Shift ∙ default_text (given_for Shift given) (codes "0") 0 zero_written);
  }

  pub restart_pid_base : Finds rows (codes "pid-base") (given_or PidBase given 2000)
  restart_pid_base = record {
    small = given_small Restart given are PidBase 2000 (lit< tt);
    text = ap (first_of (codes "pid-base")) found ∙ (restart_text words given are text PidBase ∙ default_text (given_for PidBase given) (codes "2000") 2000 (written (codes "2000") 2000 refl refl (lit< tt) (λ zero_first. absurd (omega (arith, zero_first))) (lit< tt)));
  }

  pub restart_port_base : Finds rows (codes "port-base") (given_or PortBase given 30000)
  restart_port_base = record {
    small = given_small Restart given are PortBase 30000 (lit< tt);
    text = ap (first_of (codes "port-base")) found ∙ (restart_text words given are text PortBase ∙ default_text (given_for PortBase given) (codes "30000") 30000 (written (codes "30000") 30000 refl refl (lit< tt) (λ zero_first. absurd (omega (arith, zero_first))) (lit< tt)));
  }

module _ (rows : List Row) (words : List Text) (found : rows ≡ matches_of ring_app words) (given : List Setting) (are : AreSettings Ring given) (text : words ≡ words_of_all given) where
  pub ring_workers : Finds rows (codes "workers") (given_or Workers given 0)
  ring_workers = record {
    small = given_small Ring given are Workers 0 (lit< tt);
    text = ap (first_of (codes "workers")) found ∙ (ring_text words given are text Workers ∙ default_text (given_for Workers given) (codes "0") 0 zero_written);
  }

  pub ring_every : Finds rows (codes "every") (given_or Every given 1000)
  ring_every = record {
    small = given_small Ring given are Every 1000 (lit< tt);
    text = ap (first_of (codes "every")) found ∙ (ring_text words given are text Every ∙ default_text (given_for Every given) (codes "1000") 1000 (written (codes "1000") 1000 refl refl (lit< tt) (λ zero_first. absurd (omega (arith, zero_first))) (lit< tt)));
  }

pub option_found : (form : Form) (given : List Setting) → AreSettings form given → (key : OptionKey) (found : Option Text) → found ≡ option_map decimal (given_for key given) → (result : Option ℕ)
    → (found ≡ None → result ≡ None) → ((n : ℕ) → n < 2 ^ 32 → found ≡ Some (decimal n) → result ≡ Some n) → result ≡ given_for key given
option_found form given are key found is result none some = go (numbers_of key given) (all_small form key given are.each) is
  where
    go : (ns : List ℕ) → All (λ n. n < 2 ^ 32) ns → found ≡ option_map decimal (slice_get ns 0) → result ≡ slice_get ns 0
    go [] all is = none is
    go (n ∷ ns) all is = some n (All-head (λ n. n < 2 ^ 32) n ns all) is
