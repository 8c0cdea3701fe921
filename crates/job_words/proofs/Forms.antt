-- What the reader of each form answers.
--     AreOf                                        the words are of a command
--     other_word, other_form                       words that begin otherwise than a form does
--     answered, unremembered, refused              when `Usage` is answered, where a job, want of memory or `Usage` is
--     memory_alone, passed_on, not_both_ways       an error is want of memory; a test has one answer
--     LaunchFields, launch_of, launch_answer, launch_refused
--     alone, restart_command_of, restart_answer, restart_refused      `alone`: nothing stands behind the options
--     ring_alone, ring_uncounted                   a ring without its number
--     ring_command_of, ring_answer, ring_refused
--     help_of, help_answer, help_refused
--     job_found, jobs_found, same_usage            of words without a zero byte
--     nothing_spells_nothing                       no command has no words
--     no_words, some_words                         whether a list of words is empty
--     texts_plain, plain_texts, unplain            which words hold a zero byte
--     one_command                                  words are of one command at most
use Rattle.std.proofs.Common.{◌≡◌, ◌==◌, Bool, true, false, ◌↔◌, ℕ, ◌<◌, ◌≤◌, List, [], ◌∷◌, ◌++◌, map, length, Option, Result, Ok, Err, IfOk, refl, sym, ap, subst, ◌∙◌, arith, append-nil, eqb-true, suc}
use Rattle.std.specs.Prelude.{All, codes, string_bytes, unwrap_or, IsErrAnd}
use Rattle.std.specs.Fmt.{decimal}
use Rattle.std.specs.Str.{bytes_eq}
use Rattle.std.proofs.lemmas.Slice.Eq.{bytes_eq-Decides}
use Rattle.std.specs.declared.string.String.{String}
use Rattle.std.proofs.lemmas.List.Elements.{All-nil, All-cons, All-head, All-tail, All-map}
use Rattle.std.proofs.lemmas.Fmt.{decimal_injective}
use Rattle.job_words.specs.declared.word_fault.WordFault.{WordFault}
use Rattle.job_words.specs.declared.word_fault.WordFault.TheVariants.{Usage, Memory}
use Rattle.option_words.specs.declared.option_key.OptionKey.TheVariants.{Nodes, Workers, Every, Records}
use Rattle.option_words.specs.declared.option_key.Form.{Form}
use Rattle.option_words.specs.declared.option_key.Form.TheVariants.{Launch, Restart, Ring}
use Rattle.option_words.specs.declared.options.Options.{Options}
use Rattle.job_words.specs.declared.job.Job.{Job}
use Rattle.job_words.specs.declared.job.Job.TheVariants as job
use Rattle.job_words.specs.declared.job.LaunchJob.{LaunchJob}
use Rattle.job_words.specs.declared.job.RestartJob.{RestartJob}
use Rattle.job_words.specs.declared.job.RingJob.{RingJob}
use Rattle.option_words.specs.Options.{Text, Setting, words_of_all, AreSettings, given_for}
use Rattle.job_words.specs.Programs.{ProgramText, program_word, hosts_of}
use Rattle.job_words.specs.Commands.{OneCommand, Command, launch, restart, ring, help, IsCommand, IsLaunch, words_of_command, HasNoZero, SpellNothing}
use Rattle.job_words.specs.Jobs.{IsRestartOf, IsRingOf, IsJob, start_of}
use Rattle.option_words.specs.Reading.{kept_number, IsRead, NoneFollows, texts_of}
use Rattle.job_words.specs.Parsed.{AreOptions}
use Rattle.job_words.specs.Parts.{ArePrograms, IsNodesOf}
use Rattle.job_words.specs.Answers.{AnswersFor, IsRefusal}
use Rattle.option_words.proofs.Settings.{other_reading, one_reading, nothing_plain}
use Rattle.job_words.proofs.ProgramWords.{programs_plain, one_list}

-- the words are of a command
pub record AreOf (words : List Text) : Type 0 where
  pub command : Command
  pub is : IsCommand command
  pub text : words ≡ words_of_command command

tails : (a b : Text) (xs ys : List Text) → a ∷ xs ≡ b ∷ ys → xs ≡ ys
tails a b xs ys is = cc

heads : (a b : Text) (xs ys : List Text) → a ∷ xs ≡ b ∷ ys → a ≡ b
heads a b xs ys is = cc

pub other_word : (a b : Text) (xs ys : List Text) → bytes_eq a b ≡ false → a ∷ xs ≡ b ∷ ys → ⊥
other_word a b xs ys differ is = let same : bytes_eq a b ≡ true = (bytes_eq-Decides a b).1 (heads a b xs ys is) in let bad : true ≡ false = sym same ∙ differ in cc

-- ---- the two sides of a clause

pub answered : {A : Type 0} (a : A) (words : List Text) → AreOf words → let result : Result A WordFault = Ok a in (result ≡ Err Usage) ↔ IsRefusal words
answered a words of = (λ is. absurd (cc), λ none. absurd (none of.command of.is of.text))

pub unremembered : {A : Type 0} (result : Result A WordFault) (words : List Text) → AreOf words → result ≡ Err Memory → (result ≡ Err Usage) ↔ IsRefusal words
unremembered result words of is = (λ usage. absurd (apart (sym is ∙ usage)), λ none. absurd (none of.command of.is of.text))
  where
    apart : {A : Type 0} → let memory : Result A WordFault = Err Memory in memory ≡ Err Usage → ⊥
    apart is = cc

pub memory_alone : {A : Type 0} (result : Result A WordFault) → IsErrAnd result (λ fault. fault ≡ Memory) → result ≡ Err Memory
memory_alone (Ok a) is = absurd is
memory_alone (Err fault) is = ap (λ (f : WordFault). Err f) is

pub passed_on : {A : Type 0} (result : Result A WordFault) (fault : WordFault) → IsErrAnd result (λ f. f ≡ fault) → fault ≡ Memory → result ≡ Err Memory
passed_on (Ok a) fault is memory = absurd is
passed_on (Err f) fault is memory = ap (λ (f : WordFault). Err f) (is ∙ memory)

pub not_both_ways : (b : Bool) → b ≡ true → b ≡ false → ⊥
not_both_ways b is not = let bad : true ≡ false = sym is ∙ not in cc

pub refused : {A : Type 0} (words : List Text) → IsRefusal words → let result : Result A WordFault = Err Usage in (result ≡ Err Usage) ↔ IsRefusal words
refused words none = (λ is. none, λ none. refl)

-- ---- launch

launch_command : (words : List Text) (options : Options) (rest : List Text) → IsRead Launch words options rest → NoneFollows Launch options rest → (asked : Option ℕ) → asked ≡ kept_number options Nodes
    → (given : List Setting) (programs : List ProgramText) → IsLaunch given programs → words ≡ words_of_all given ++ map program_word programs → IsNodesOf asked rest programs
launch_command words options rest read none asked is given programs launched text =
    let same = other_reading Launch words options rest read none given (map program_word programs) launched.settings (programs_plain programs launched.each) text in
    let number : given_for Nodes given ≡ asked = ap (given_for Nodes) same.0 ∙ sym (is ∙ read.keeps.numbers Nodes) in
    record {
      are = record { each = launched.each; text = sym same.1 };
      some = launched.some;
      few = launched.few;
      placed = subst (λ (count : Option ℕ). All (λ program. program.host < unwrap_or count (hosts_of programs)) programs) number launched.placed;
    }

pub launch_refused : (words : List Text) (options : Options) (rest : List Text) → IsRead Launch words options rest → NoneFollows Launch options rest → (asked : Option ℕ) → asked ≡ kept_number options Nodes
    → ((programs : List ProgramText) → IsNodesOf asked rest programs → ⊥) → IsRefusal (codes "launch" ∷ words)
launch_refused words options rest read none asked is nobody (launch given programs) launched text =
    nobody programs (launch_command words options rest read none asked is given programs launched (tails (codes "launch") (codes "launch") words (words_of_all given ++ map program_word programs) text))
launch_refused words options rest read none asked is nobody (restart given) are text = absurd (other_word (codes "launch") (codes "restart") _ _ refl text)
launch_refused words options rest read none asked is nobody (ring n given) are text = absurd (other_word (codes "launch") (codes "ring") _ _ refl text)
launch_refused words options rest read none asked is nobody help are text = absurd (other_word (codes "launch") (codes "help") _ _ refl text)

is_launch : (given : List Setting) (rest : List Text) (programs : List ProgramText) (asked : Option ℕ) → AreSettings Launch given → asked ≡ given_for Nodes given → IsNodesOf asked rest programs → IsLaunch given programs
is_launch given rest programs asked are is nodes = record {
  settings = are;
  some = nodes.some;
  few = nodes.few;
  each = nodes.are.each;
  placed = subst (λ (count : Option ℕ). All (λ program. program.host < unwrap_or count (hosts_of programs)) programs) is nodes.placed;
}

pub launch_of : (words : List Text) (options : Options) (rest : List Text) → IsRead Launch words options rest → (asked : Option ℕ) → asked ≡ kept_number options Nodes
    → (programs : List ProgramText) → IsNodesOf asked rest programs → AreOf (codes "launch" ∷ words)
launch_of words options rest read asked is programs nodes = record {
  command = launch read.given programs;
  is = is_launch read.given rest programs asked read.settings (is ∙ read.keeps.numbers Nodes) nodes;
  text = ap (λ (ws : List Text). codes "launch" ∷ ws) (read.text ∙ ap (λ (ws : List Text). words_of_all read.given ++ ws) nodes.are.text);
}

-- a job's fields are what was kept, or the defaults
pub record LaunchFields (options : Options) (nodes : ℕ) (asked : LaunchJob) : Type 0 where
  pub nodes_is : asked.nodes ≡ nodes
  pub workers : asked.workers ≡ unwrap_or (kept_number options Workers) 0
  pub every : asked.every ≡ kept_number options Every
  pub records : asked.records ≡ unwrap_or (kept_number options Records) 1000000
  pub file : asked.file ≡ options.files

pub launch_answer : (words : List Text) (options : Options) (rest : List Text) → IsRead Launch words options rest → (asked : Option ℕ) → asked ≡ kept_number options Nodes → (nodes : ℕ)
    → ((programs : List ProgramText) × IsNodesOf asked rest programs × (nodes ≡ unwrap_or asked (hosts_of programs)))
    → (made : LaunchJob) → LaunchFields options nodes made → ((programs : List ProgramText) → ArePrograms rest programs → made.programs ≡ map start_of programs)
    → AnswersFor (codes "launch" ∷ words) (job.Launch made)
unfolding launch_of
launch_answer words options rest read asked is nodes found made fields started =
    let of = launch_of words options rest read asked is found.0 found.1 in
    record {
      command = launch read.given found.0;
      is = of.is;
      text = of.text;
      job = record {
        nodes = fields.nodes_is ∙ (found.2 ∙ ap (λ (count : Option ℕ). unwrap_or count (hosts_of found.0)) (is ∙ read.keeps.numbers Nodes));
        workers = fields.workers ∙ ap (λ (count : Option ℕ). unwrap_or count 0) (read.keeps.numbers Workers);
        every = fields.every ∙ read.keeps.numbers Every;
        records = fields.records ∙ ap (λ (count : Option ℕ). unwrap_or count 1000000) (read.keeps.numbers Records);
        file = fields.file ∙ read.keeps.files;
        programs = started found.0 found.1.are;
      };
    }

-- ---- restart

pub restart_refused : (words : List Text) (options : Options) (rest : List Text) → IsRead Restart words options rest → NoneFollows Restart options rest → (rest ≡ [] → ⊥) → IsRefusal (codes "restart" ∷ words)
restart_refused words options rest read none some (launch given programs) are text = absurd (other_word (codes "restart") (codes "launch") _ _ refl text)
restart_refused words options rest read none some (restart given) are text =
    let behind : words ≡ words_of_all given ++ [] = tails (codes "restart") (codes "restart") words (words_of_all given) text ∙ sym (append-nil (words_of_all given)) in
    some (sym (other_reading Restart words options rest read none given [] are nothing_plain behind).1)
restart_refused words options rest read none some (ring n given) are text = absurd (other_word (codes "restart") (codes "ring") _ _ refl text)
restart_refused words options rest read none some help are text = absurd (other_word (codes "restart") (codes "help") _ _ refl text)

whole : (form : Form) (words : List Text) (options : Options) (rest : List Text) (read : IsRead form words options rest) → rest ≡ [] → words ≡ words_of_all read.given
whole form words options rest read none = read.text ∙ (ap (λ (ws : List Text). words_of_all read.given ++ ws) none ∙ append-nil (words_of_all read.given))

pub alone : (form : Form) (words : List Text) (options : Options) (rest : List Text) → IsRead form words options rest → rest ≡ [] → AreOptions form words
alone form words options rest read none = record { given = read.given; settings = read.settings; text = whole form words options rest read none }

pub restart_command_of : (words : List Text) → AreOptions Restart words → AreOf (codes "restart" ∷ words)
restart_command_of words options = record { command = restart options.given; is = options.settings; text = ap (λ (ws : List Text). codes "restart" ∷ ws) options.text }

pub restart_answer : (words : List Text) (options : AreOptions Restart words) (made : RestartJob) → IsRestartOf options.given made → AnswersFor (codes "restart" ∷ words) (job.Restart made)
restart_answer words options made is = record { command = restart options.given; is = options.settings; text = ap (λ (ws : List Text). codes "restart" ∷ ws) options.text; job = is }

-- ---- ring

pub ring_alone : IsRefusal (codes "ring" ∷ [])
ring_alone (launch given programs) are text = absurd (other_word (codes "ring") (codes "launch") _ _ refl text)
ring_alone (restart given) are text = absurd (other_word (codes "ring") (codes "restart") _ _ refl text)
ring_alone (ring n given) are text = let none : [] ≡ decimal n ∷ words_of_all given = tails (codes "ring") (codes "ring") [] (decimal n ∷ words_of_all given) text in absurd (cc)
ring_alone help are text = absurd (other_word (codes "ring") (codes "help") _ _ refl text)

pub ring_uncounted : (count : Text) (words : List Text) → ((n : ℕ) → 2 ≤ n → n ≤ 16 → count ≡ decimal n → ⊥) → IsRefusal (codes "ring" ∷ count ∷ words)
ring_uncounted count words none (launch given programs) are text = absurd (other_word (codes "ring") (codes "launch") _ _ refl text)
ring_uncounted count words none (restart given) are text = absurd (other_word (codes "ring") (codes "restart") _ _ refl text)
ring_uncounted count words none (ring n given) are text =
    none n are.0 are.1 (heads count (decimal n) words (words_of_all given) (tails (codes "ring") (codes "ring") (count ∷ words) (decimal n ∷ words_of_all given) text))
ring_uncounted count words none help are text = absurd (other_word (codes "ring") (codes "help") _ _ refl text)

pub ring_refused : (count : Text) (words : List Text) (options : Options) (rest : List Text) → IsRead Ring words options rest → NoneFollows Ring options rest → (rest ≡ [] → ⊥) → IsRefusal (codes "ring" ∷ count ∷ words)
ring_refused count words options rest read none some (launch given programs) are text = absurd (other_word (codes "ring") (codes "launch") _ _ refl text)
ring_refused count words options rest read none some (restart given) are text = absurd (other_word (codes "ring") (codes "restart") _ _ refl text)
ring_refused count words options rest read none some (ring n given) are text =
    let behind : words ≡ words_of_all given ++ [] = tails count (decimal n) words (words_of_all given) (tails (codes "ring") (codes "ring") (count ∷ words) (decimal n ∷ words_of_all given) text) ∙ sym (append-nil (words_of_all given)) in
    some (sym (other_reading Ring words options rest read none given [] are.2 nothing_plain behind).1)
ring_refused count words options rest read none some help are text = absurd (other_word (codes "ring") (codes "help") _ _ refl text)

pub ring_command_of : (count : Text) (n : ℕ) → (2 ≤ n) × (n ≤ 16) × (count ≡ decimal n) → (words : List Text) → AreOptions Ring words → AreOf (codes "ring" ∷ count ∷ words)
ring_command_of count n counted words options = record {
  command = ring n options.given;
  is = (counted.0, counted.1, options.settings);
  text = ap (λ (c : Text). codes "ring" ∷ c ∷ words) counted.2 ∙ ap (λ (ws : List Text). codes "ring" ∷ decimal n ∷ ws) options.text;
}

pub ring_answer : (count : Text) (n : ℕ) → (2 ≤ n) × (n ≤ 16) × (count ≡ decimal n) → (words : List Text) (options : AreOptions Ring words) (made : RingJob) → IsRingOf n options.given made
    → AnswersFor (codes "ring" ∷ count ∷ words) (job.Ring made)
ring_answer count n counted words options made is = record {
  command = ring n options.given;
  is = (counted.0, counted.1, options.settings);
  text = ap (λ (c : Text). codes "ring" ∷ c ∷ words) counted.2 ∙ ap (λ (ws : List Text). codes "ring" ∷ decimal n ∷ ws) options.text;
  job = is;
}

-- ---- help

pub help_of : AreOf (codes "help" ∷ [])
help_of = record { command = help; is = tt; text = refl }

pub help_answer : AnswersFor (codes "help" ∷ []) job.Help
help_answer = record { command = help; is = tt; text = refl; job = tt }

pub help_refused : (words : List Text) → (words ≡ [] → ⊥) → IsRefusal (codes "help" ∷ words)
help_refused words some (launch given programs) are text = absurd (other_word (codes "help") (codes "launch") _ _ refl text)
help_refused words some (restart given) are text = absurd (other_word (codes "help") (codes "restart") _ _ refl text)
help_refused words some (ring n given) are text = absurd (other_word (codes "help") (codes "ring") _ _ refl text)
help_refused words some help are text = some (tails (codes "help") (codes "help") words [] text)

-- ---- all forms

pub job_found : (words : List Text) → All HasNoZero words → (asked : Job) → AnswersFor words asked → IsJob words asked
job_found words plain asked answer = record { command = answer.command; spell = record { is = answer.is; text = answer.text; plain = plain }; job = answer.job }

pub jobs_found : (words : List Text) → All HasNoZero words → (result : Result Job WordFault) → IfOk result (AnswersFor words) → IfOk result (IsJob words)
jobs_found words plain (Ok asked) answer = job_found words plain asked answer
jobs_found words plain (Err fault) answer = tt

pub same_usage : (words : List Text) → All HasNoZero words → (P : Type 0) → P ↔ IsRefusal words → P ↔ SpellNothing words
same_usage words plain P tells =
    (λ p command spell. tells.0 p command spell.is spell.text, λ nothing. tells.1 (λ command is text. nothing command (record { is = is; text = text; plain = plain })))

pub nothing_spells_nothing : SpellNothing []
nothing_spells_nothing (launch given programs) spell = let is = spell.text in cc
nothing_spells_nothing (restart given) spell = let is = spell.text in cc
nothing_spells_nothing (ring n given) spell = let is = spell.text in cc
nothing_spells_nothing help spell = let is = spell.text in cc

pub other_form : (word : Text) (rest : List Text) → (word ≡ codes "launch" → ⊥) → (word ≡ codes "restart" → ⊥) → (word ≡ codes "ring" → ⊥) → (word ≡ codes "help" → ⊥) → SpellNothing (word ∷ rest)
other_form word rest l r g h (launch given programs) spell = l (heads word (codes "launch") rest (words_of_all given ++ map program_word programs) spell.text)
other_form word rest l r g h (restart given) spell = r (heads word (codes "restart") rest (words_of_all given) spell.text)
other_form word rest l r g h (ring n given) spell = g (heads word (codes "ring") rest (decimal n ∷ words_of_all given) spell.text)
other_form word rest l r g h help spell = h (heads word (codes "help") rest [] spell.text)

module _ {Z : Type 0} where
  pub no_words : (words : List (String Z)) (empty : Bool) → empty ≡ (length words == 0) → empty ≡ true → texts_of words ≡ []
  no_words [] empty tells is = refl
  no_words (w ∷ ws) empty tells is = absurd (none (length ws) (sym tells ∙ is))
    where
      none : (n : ℕ) → (suc n == 0) ≡ true → ⊥
      none n is = let bad : suc n ≡ 0 = eqb-true (suc n) 0 is in omega (arith, bad)

  pub some_words : (words : List (String Z)) (empty : Bool) → empty ≡ (length words == 0) → empty ≡ false → texts_of words ≡ [] → ⊥
  some_words [] empty tells is none = let bad : true ≡ false = sym tells ∙ is in cc
  some_words (w ∷ ws) empty tells is none = cc

  pub texts_plain : (words : List (String Z)) → All (λ word. HasNoZero (string_bytes word)) words → All HasNoZero (map string_bytes words)
  texts_plain words plain = All-map HasNoZero string_bytes words plain

  pub plain_texts : (words : List (String Z)) → All HasNoZero (map string_bytes words) → All (λ word. HasNoZero (string_bytes word)) words
  plain_texts [] plain = All-nil (λ word. HasNoZero (string_bytes word))
  plain_texts (w ∷ ws) plain =
      All-cons (λ word. HasNoZero (string_bytes word)) w ws (All-head HasNoZero (string_bytes w) (map string_bytes ws) plain) (plain_texts ws (All-tail HasNoZero (string_bytes w) (map string_bytes ws) plain))

pub unplain : (words : List Text) → (All HasNoZero words → ⊥) → SpellNothing words
unplain words none command spell = none spell.plain

-- ---- words are of one command

same_options : (form : Form) (a b : List Setting) → AreSettings form a → AreSettings form b → words_of_all a ≡ words_of_all b → a ≡ b
same_options form a b first second is =
    (one_reading form a b [] [] first second nothing_plain nothing_plain (append-nil (words_of_all a) ∙ (is ∙ sym (append-nil (words_of_all b))))).0

pub one_command : OneCommand
one_command words (launch a ps) (launch b qs) first second =
    let is : words_of_all a ++ map program_word ps ≡ words_of_all b ++ map program_word qs = tails (codes "launch") (codes "launch") _ _ (sym first.text ∙ second.text) in
    let same = one_reading Launch a b (map program_word ps) (map program_word qs) first.is.settings second.is.settings (programs_plain ps first.is.each) (programs_plain qs second.is.each) is in
    ap (λ (given : List Setting). launch given ps) same.0 ∙ ap (λ (programs : List ProgramText). launch b programs) (one_list ps qs first.is.each second.is.each same.1)
one_command words (launch a ps) (restart b) first second = absurd (other_word (codes "launch") (codes "restart") _ _ refl (sym first.text ∙ second.text))
one_command words (launch a ps) (ring n b) first second = absurd (other_word (codes "launch") (codes "ring") _ _ refl (sym first.text ∙ second.text))
one_command words (launch a ps) help first second = absurd (other_word (codes "launch") (codes "help") _ _ refl (sym first.text ∙ second.text))
one_command words (restart a) (launch b qs) first second = absurd (other_word (codes "restart") (codes "launch") _ _ refl (sym first.text ∙ second.text))
one_command words (restart a) (restart b) first second =
    ap restart (same_options Restart a b first.is second.is (tails (codes "restart") (codes "restart") _ _ (sym first.text ∙ second.text)))
one_command words (restart a) (ring n b) first second = absurd (other_word (codes "restart") (codes "ring") _ _ refl (sym first.text ∙ second.text))
one_command words (restart a) help first second = absurd (other_word (codes "restart") (codes "help") _ _ refl (sym first.text ∙ second.text))
one_command words (ring m a) (launch b qs) first second = absurd (other_word (codes "ring") (codes "launch") _ _ refl (sym first.text ∙ second.text))
one_command words (ring m a) (restart b) first second = absurd (other_word (codes "ring") (codes "restart") _ _ refl (sym first.text ∙ second.text))
one_command words (ring m a) (ring n b) first second =
    let is : decimal m ∷ words_of_all a ≡ decimal n ∷ words_of_all b = tails (codes "ring") (codes "ring") _ _ (sym first.text ∙ second.text) in
    let count : m ≡ n = decimal_injective m n (omega (arith, first.is.1)) (omega (arith, second.is.1)) (heads (decimal m) (decimal n) (words_of_all a) (words_of_all b) is) in
    ap (λ (k : ℕ). ring k a) count ∙ ap (λ (given : List Setting). ring n given) (same_options Ring a b first.is.2 second.is.2 (tails (decimal m) (decimal n) (words_of_all a) (words_of_all b) is))
one_command words (ring m a) help first second = absurd (other_word (codes "ring") (codes "help") _ _ refl (sym first.text ∙ second.text))
one_command words help (launch b qs) first second = absurd (other_word (codes "help") (codes "launch") _ _ refl (sym first.text ∙ second.text))
one_command words help (restart b) first second = absurd (other_word (codes "help") (codes "restart") _ _ refl (sym first.text ∙ second.text))
one_command words help (ring n b) first second = absurd (other_word (codes "help") (codes "ring") _ _ refl (sym first.text ∙ second.text))
one_command words help help first second = refl
