-- The options' names, which differ, and their places.
use Rattle.std.proofs.Common.{◌≡◌, ◌≢◌, ◌<◌, ◌^◌, List, [], ◌∷◌, true, false, get_or, Option, Some, None, refl, sym, ap, ◌∙◌, lit<}
use Rattle.std.specs.Prelude.{codes, if◌then◌else◌}
use Rattle.std.specs.Str.{bytes_eq}
use Rattle.std.proofs.lemmas.Slice.Eq.{bytes_eq-Decides}
use Rattle.option_words.specs.declared.option_key.OptionKey.{OptionKey}
use Rattle.option_words.specs.declared.option_key.OptionKey.TheVariants.{Nodes, Workers, Every, Records, Shift, PidBase, PortBase}
use Rattle.option_words.specs.Options.{Text, name_of, greatest_of, FILE}
use Rattle.option_words.specs.Reading.{place_of}

-- the option with this name
unfoldable pub key_of : Text → Option OptionKey
key_of word = if bytes_eq word (codes "--nodes") then Some Nodes
    else (if bytes_eq word (codes "--workers") then Some Workers
    else (if bytes_eq word (codes "--every") then Some Every
    else (if bytes_eq word (codes "--records") then Some Records
    else (if bytes_eq word (codes "--shift") then Some Shift
    else (if bytes_eq word (codes "--pid-base") then Some PidBase
    else (if bytes_eq word (codes "--port-base") then Some PortBase else None))))))

pub key_of_name : (key : OptionKey) → key_of (name_of key) ≡ Some key
unfolding key_of
key_of_name Nodes = refl
key_of_name Workers = refl
key_of_name Every = refl
key_of_name Records = refl
key_of_name Shift = refl
key_of_name PidBase = refl
key_of_name PortBase = refl

no_key_of_file : key_of FILE ≡ None
unfolding key_of
no_key_of_file = refl

same_some : {A : Type 0} (a b : A) → Some a ≡ Some b → a ≡ b
same_some a b is = cc

none_is_some : {A : Type 0} (a : A) → Some a ≡ None → ⊥
none_is_some a is = cc

pub same_key : (k j : OptionKey) → name_of k ≡ name_of j → k ≡ j
same_key k j is = same_some k j (sym (key_of_name k) ∙ ap key_of is ∙ key_of_name j)

pub no_key_is_file : (key : OptionKey) → name_of key ≡ FILE → ⊥
no_key_is_file key is = none_is_some key (sym (key_of_name key) ∙ ap key_of is ∙ no_key_of_file)

-- places tell options apart
keys : List OptionKey
keys = Nodes ∷ Workers ∷ Every ∷ Records ∷ Shift ∷ PidBase ∷ PortBase ∷ []

key_at_place : (key : OptionKey) → get_or keys (place_of key) Nodes ≡ key
unfolding keys
key_at_place Nodes = refl
key_at_place Workers = refl
key_at_place Every = refl
key_at_place Records = refl
key_at_place Shift = refl
key_at_place PidBase = refl
key_at_place PortBase = refl

pub same_place : (k j : OptionKey) → place_of k ≡ place_of j → k ≡ j
same_place k j is = sym (key_at_place k) ∙ ap (λ place. get_or keys place Nodes) is ∙ key_at_place j

pub place_below : (key : OptionKey) → place_of key < 7
place_below Nodes = lit< tt
place_below Workers = lit< tt
place_below Every = lit< tt
place_below Records = lit< tt
place_below Shift = lit< tt
place_below PidBase = lit< tt
place_below PortBase = lit< tt

pub greatest_below : (key : OptionKey) → greatest_of key < 2 ^ 32
greatest_below Nodes = lit< tt
greatest_below Workers = lit< tt
greatest_below Every = lit< tt
greatest_below Records = lit< tt
greatest_below Shift = lit< tt
greatest_below PidBase = lit< tt
greatest_below PortBase = lit< tt

pub name_itself : (key : OptionKey) → bytes_eq (name_of key) (name_of key) ≡ true
name_itself key = (bytes_eq-Decides (name_of key) (name_of key)).1 refl

pub other_key : (k j : OptionKey) → bytes_eq (name_of k) (name_of j) ≡ false → k ≢ j
other_key k j differ is = let same : bytes_eq (name_of k) (name_of j) ≡ true = (bytes_eq-Decides (name_of k) (name_of j)).1 (ap name_of is) in
    let bad : true ≡ false = sym same ∙ differ in cc
