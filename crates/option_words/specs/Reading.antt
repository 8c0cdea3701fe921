-- What the reader keeps of the options that it has read.
use Rattle.std.specs.Prelude.{◌≡◌, ℕ, Bool, not, ◌&&◌, nat_lt, true, List, [], ◌∷◌, ◌++◌, length, map, Option, Some, None, is_some, slice_index_or, slice_set, string_bytes}
use Rattle.std.specs.List.{list_any}
use Rattle.std.specs.declared.string.String.{String}
use Rattle.std.specs.Str.{bytes_eq}
use Rattle.views.specs.Limits.{NAMED_FILE_LIMIT}
use Rattle.option_words.specs.declared.option_key.OptionKey.{OptionKey}
use Rattle.option_words.specs.declared.option_key.OptionKey.TheVariants.{Nodes, Workers, Every, Records, Shift, PidBase, PortBase}
use Rattle.option_words.specs.declared.option_key.Form.{Form}
use Rattle.option_words.specs.declared.options.Given.{Given}
use Rattle.option_words.specs.declared.options.Given.TheVariants.{Number, File}
use Rattle.option_words.specs.declared.options.Options.{Options}
use Rattle.option_words.specs.Options.{Text, Setting, number, file, words_of, words_of_all, IsSetting, AreSettings, files_of, given_for}

-- the table's order
abbrev pub place_of : OptionKey → ℕ
place_of Nodes = 0
place_of Workers = 1
place_of Every = 2
place_of Records = 3
place_of Shift = 4
place_of PidBase = 5
place_of PortBase = 6

abbrev pub seen : Given → Setting
seen (Number key n) = number key n
seen (File name) = file name.now

abbrev pub kept_number : Options → OptionKey → Option ℕ
kept_number options key = slice_index_or options.numbers (place_of key) None

-- the setting may be given beside what is kept
abbrev pub has_room : Options → Setting → Bool
has_room options (number key n) = not (is_some (kept_number options key))
has_room options (file name) = nat_lt (length options.files) NAMED_FILE_LIMIT && not (list_any (bytes_eq name) options.files)

abbrev pub with_setting : Options → Setting → Options
with_setting options (number key n) = record { numbers = slice_set options.numbers (place_of key) (Some n); files = options.files }
with_setting options (file name) = record { numbers = options.numbers; files = options.files ++ name ∷ [] }

-- what is kept is what these settings give
pub record Keeps (options : Options) (given : List Setting) : Type 0 where
  pub places : length options.numbers ≡ 7
  pub numbers : (key : OptionKey) → kept_number options key ≡ given_for key given
  pub files : options.files ≡ files_of given

module _ {Z : Type 0} where
  abbrev pub texts_of : List (String Z) → List Text
  texts_of = map string_bytes

-- the words begin with those of settings, whose values are kept, and the rest stands behind them
pub record IsRead (form : Form) (words : List Text) (options : Options) (rest : List Text) : Type 0 where
  pub given : List Setting
  pub settings : AreSettings form given
  pub text : words ≡ words_of_all given ++ rest
  pub keeps : Keeps options given

-- no further setting stands at the beginning of the rest
abbrev pub NoneFollows : Form → Options → List Text → Type 0
NoneFollows form options rest = (setting : Setting) (tail : List Text) → IsSetting form setting → has_room options setting ≡ true → rest ≡ words_of setting ++ tail → ⊥
