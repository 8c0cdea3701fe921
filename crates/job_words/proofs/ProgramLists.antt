-- The programs of a list of words, one word after the other.
--     started                       what is made of a program's parts is the program as it is started
--     text_at, texts_more           the word at a place, and the words up to it
--     texts_length                  as many words as programs
--     not_all, word_of_all          the word at a place is of no program, or is of one as all are
--     none_counted, one_counted     the greatest host of no words, and of one word more
--     one_started                   the programs of one word more, as they are started
--     nodes_found, no_nodes         how many nodes a launch of the programs has, or that it has none
--     some_there                    a list that is told not to be empty has an item
--     are_words                     each word of programs is of one
use Rattle.std.proofs.Common.{◌≡◌, ℕ, zero, suc, ◌+◌, ◌<◌, ◌≤◌, List, [], ◌∷◌, ◌++◌, map, take, get_or, length, refl, sym, ap, subst, ◌∙◌, arith, ◌==◌, Bool, true, false}
use Rattle.std.specs.Prelude.{All, Option, max, string_bytes, unwrap_or}
use Rattle.std.specs.declared.string.String.{String}
use Rattle.std.proofs.lemmas.List.{length-map, map-append, get_or-map, take_more}
use Rattle.std.proofs.lemmas.List.Elements.{All-nil, All-cons, All-head, All-tail, All-push, All-get_or}
use Rattle.std.proofs.lemmas.List.Sums.{fold-append}
use Rattle.job_words.specs.declared.job.NamedProgram.{NamedProgram}
use Rattle.job_words.specs.declared.programs.Parts.{Parts}
use Rattle.option_words.specs.Options.{Text}
use Rattle.job_words.specs.Programs.{ProgramText, IsProgram, program_word, hosts_of}
use Rattle.job_words.specs.Jobs.{start_of}
use Rattle.job_words.specs.Parts.{ArePartsOf, ArePrograms, AreCounted, IsProgramWord, IsNodesOf, with_zeros}
use Rattle.option_words.specs.Reading.{texts_of}
use Rattle.job_words.proofs.ProgramWords.{NoProgram, one_program, one_list, zeros, placed, hosts_below}

same_program : (a b : NamedProgram) → a.host ≡ b.host → a.name ≡ b.name → a.arguments ≡ b.arguments → a ≡ b
same_program a b host name arguments =
    ap (λ (h : ℕ). let p : NamedProgram = record { host = h; name = a.name; arguments = a.arguments } in p) host
    ∙ (ap (λ (n : Text). let p : NamedProgram = record { host = b.host; name = n; arguments = a.arguments } in p) name
    ∙ ap (λ (bytes : List ℕ). let p : NamedProgram = record { host = b.host; name = b.name; arguments = bytes } in p) arguments)

-- what is made of a program's parts is the program as it is started
pub started : (word : Text) (parts : Parts) (named : NamedProgram) → ((program : ProgramText) × IsProgram program × (word ≡ program_word program) × ArePartsOf program parts)
    → named.host ≡ parts.host → named.name ≡ parts.name.now → named.arguments ≡ with_zeros parts.listed.now
    → (program : ProgramText) → IsProgram program → word ≡ program_word program → named ≡ start_of program
started word parts named found host name bytes program is text =
    subst (λ (p : ProgramText). named ≡ start_of p) (one_program found.0 program found.1 is (sym found.2 ∙ text))
    (same_program named (start_of found.0) (host ∙ found.3.host) (name ∙ found.3.name)
    (bytes ∙ (ap with_zeros found.3.listed ∙ zeros found.0.name found.0.arguments found.1.name found.1.arguments)))

-- ---- the word at a place

module _ {Z : Type 0} where
  pub text_at : (words : List (String Z)) (i : ℕ) (item : String Z) (text : Text) → i < length words → item ≡ get_or words i item → text ≡ string_bytes item → get_or (texts_of words) i [] ≡ text
  text_at words i item text inside is same = get_or-map string_bytes words i item [] inside ∙ (ap string_bytes (sym is) ∙ sym same)

  pub texts_more : (words : List (String Z)) (i : ℕ) (item : String Z) (text : Text) → i < length words → item ≡ get_or words i item → text ≡ string_bytes item
      → texts_of (take (i + 1) words) ≡ texts_of (take i words) ++ text ∷ []
  texts_more words i item text inside is same =
      ap texts_of (take_more words i item inside)
      ∙ (map-append string_bytes (take i words) (get_or words i item ∷ [])
      ∙ ap (λ (last : Text). texts_of (take i words) ++ last ∷ []) (ap string_bytes (sym is) ∙ sym same))

  pub texts_length : (words : List (String Z)) (programs : List ProgramText) → ArePrograms (texts_of words) programs → length words ≡ length programs
  texts_length words programs are = sym (length-map words string_bytes) ∙ (ap length are.text ∙ length-map programs program_word)

nobody : ProgramText
nobody = record { host = 0; name = []; arguments = [] }

program_at : (words : List Text) (programs : List ProgramText) (i : ℕ) → ArePrograms words programs → i < length programs → get_or words i [] ≡ program_word (get_or programs i nobody)
program_at words programs i are inside = ap (λ (ws : List Text). get_or ws i []) are.text ∙ get_or-map program_word programs i nobody [] inside

counted_length : (words : List Text) (programs : List ProgramText) → ArePrograms words programs → length words ≡ length programs
counted_length words programs are = ap length are.text ∙ length-map programs program_word

pub not_all : (words : List Text) (i : ℕ) (text : Text) → i < length words → get_or words i [] ≡ text → NoProgram text → (programs : List ProgramText) → ArePrograms words programs → ⊥
not_all words i text inside is none programs are =
    let size : length words ≡ length programs = counted_length words programs are in
    let there : i < length programs = omega (arith, size, inside) in
    none (get_or programs i nobody) (All-get_or IsProgram programs i nobody there are.each) (sym is ∙ program_at words programs i are there)

pub word_of_all : (words : List Text) (i : ℕ) (text : Text) → i < length words → get_or words i [] ≡ text → All IsProgramWord words → IsProgramWord text
word_of_all words i text inside is all = subst IsProgramWord is (All-get_or IsProgramWord words i [] inside all)

-- ---- one more word

pub none_counted : AreCounted [] 0
none_counted = record { programs = []; are = record { each = All-nil IsProgram; text = refl }; count = refl }

pub one_counted : (words : List Text) (hosts : ℕ) (text : Text) (parts : Parts) → AreCounted words hosts → ((program : ProgramText) × IsProgram program × (text ≡ program_word program) × ArePartsOf program parts)
    → AreCounted (words ++ text ∷ []) (max hosts (parts.host + 1))
one_counted words hosts text parts counted found = record {
  programs = counted.programs ++ found.0 ∷ [];
  are = record {
    each = All-push IsProgram counted.programs found.0 counted.are.each found.1;
    text = ap (λ (ws : List Text). ws ++ text ∷ []) counted.are.text ∙ (ap (λ (last : Text). map program_word counted.programs ++ last ∷ []) found.2 ∙ sym (map-append program_word counted.programs (found.0 ∷ [])));
  };
  count = ap (λ (count : ℕ). max count (parts.host + 1)) counted.count ∙ (ap (λ (host : ℕ). max (hosts_of counted.programs) (host + 1)) found.3.host
      ∙ sym (fold-append (λ (count : ℕ) (program : ProgramText). max count (program.host + 1)) 0 counted.programs (found.0 ∷ [])));
}

module _ {Z : Type 0} where
  pub one_started : (words : List (String Z)) (i : ℕ) (list after : List NamedProgram) (text : Text) (named : NamedProgram) → i < length words → get_or (texts_of words) i [] ≡ text
      → ((programs : List ProgramText) → ArePrograms (texts_of words) programs → list ≡ map start_of (take i programs))
      → ((program : ProgramText) → IsProgram program → text ≡ program_word program → named ≡ start_of program)
      → after ≡ list ++ named ∷ []
      → (programs : List ProgramText) → ArePrograms (texts_of words) programs → after ≡ map start_of (take (i + 1) programs)
  one_started words i list after text named inside is so_far here now programs are =
      let size : length words ≡ length programs = texts_length words programs are in
      let there : i < length programs = omega (arith, size, inside) in
      let last : named ≡ start_of (get_or programs i nobody) = here (get_or programs i nobody) (All-get_or IsProgram programs i nobody there are.each) (sym is ∙ program_at (texts_of words) programs i are there) in
      now
      ∙ (ap (λ (front : List NamedProgram). front ++ named ∷ []) (so_far programs are)
      ∙ (ap (λ (p : NamedProgram). map start_of (take i programs) ++ p ∷ []) last
      ∙ (sym (map-append start_of (take i programs) (get_or programs i nobody ∷ []))
      ∙ ap (map start_of) (sym (take_more programs i nobody there)))))

-- ---- how many nodes

pub nodes_found : (asked : Option ℕ) (words : List Text) (hosts nodes : ℕ) → 1 ≤ length words → length words ≤ 128 → AreCounted words hosts → nodes ≡ unwrap_or asked hosts → hosts ≤ nodes
    → (programs : List ProgramText) × IsNodesOf asked words programs × (nodes ≡ unwrap_or asked (hosts_of programs))
nodes_found asked words hosts nodes some few counted is below =
    let size : length words ≡ length counted.programs = counted_length words counted.programs counted.are in
    let same : nodes ≡ unwrap_or asked (hosts_of counted.programs) = is ∙ ap (λ (count : ℕ). unwrap_or asked count) counted.count in
    let fits : hosts_of counted.programs ≤ unwrap_or asked (hosts_of counted.programs) = subst (λ (count : ℕ). hosts_of counted.programs ≤ count) same (subst (λ (count : ℕ). count ≤ nodes) counted.count below) in (
      counted.programs,
      record {
        are = counted.are;
        some = omega (arith, size, some);
        few = omega (arith, size, few);
        placed = placed (unwrap_or asked (hosts_of counted.programs)) counted.programs fits;
      },
      same,
    )

pub no_nodes : (asked : Option ℕ) (words : List Text) (hosts nodes : ℕ) → AreCounted words hosts → nodes ≡ unwrap_or asked hosts → nodes < hosts → (programs : List ProgramText) → IsNodesOf asked words programs → ⊥
no_nodes asked words hosts nodes counted is above programs nodes_of =
    let same : programs ≡ counted.programs = one_list programs counted.programs nodes_of.are.each counted.are.each (sym nodes_of.are.text ∙ counted.are.text) in
    let count : hosts_of programs ≡ hosts = ap hosts_of same ∙ sym counted.count in
    let fits : hosts_of programs ≤ unwrap_or asked (hosts_of programs) = hosts_below (unwrap_or asked (hosts_of programs)) programs nodes_of.placed in
    let fewer : hosts ≤ nodes = subst (λ (n : ℕ). hosts ≤ n) (sym is) (subst (λ (n : ℕ). n ≤ unwrap_or asked n) count fits) in
    omega (arith, fewer, above)

pub some_there : (n : ℕ) (empty : Bool) → empty ≡ (n == 0) → empty ≡ false → 1 ≤ n
some_there zero empty tells is = let bad : true ≡ false = sym tells ∙ is in cc
some_there (suc n) empty tells is = omega arith

pub are_words : (words : List Text) (programs : List ProgramText) → ArePrograms words programs → All IsProgramWord words
are_words words programs are = subst (All IsProgramWord) (sym are.text) (each programs are.each)
  where
    each : (ps : List ProgramText) → All IsProgram ps → All IsProgramWord (map program_word ps)
    each [] all = All-nil IsProgramWord
    each (p ∷ ps) all = All-cons IsProgramWord (program_word p) (map program_word ps) (p, All-head IsProgram p ps all, refl) (each ps (All-tail IsProgram p ps all))
