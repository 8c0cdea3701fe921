-- The options of a command line. A word is the list of its bytes. An option is two words, its name and its
-- value; a number is written in decimal, without a sign and without leading zeros. Each option is given at
-- most once, but for `--file`.
--
--     option        of                       range
--     --nodes       launch, restart          1 to 16
--     --workers     launch, restart, ring    0 to 64
--     --every       launch, restart, ring    1 to 4,000,000
--     --records     launch, restart          1 to 4,000,000
--     --file        launch                   up to 64 distinct names of 1 to 255 bytes
--     --shift       restart                  0 to 15
--     --pid-base    restart                  1 to 1,000,000,000
--     --port-base   restart                  1,024 to 57,344
use Rattle.std.specs.Prelude.{◌≡◌, ℕ, ◌≤◌, Bool, true, false, if◌then◌else◌, List, [], ◌∷◌, length, codes, All, Option, slice_get, unwrap_or}
use Rattle.std.specs.List.{flat_map, IsDistinct}
use Rattle.std.specs.Str.{bytes_eq}
use Rattle.std.specs.Fmt.{decimal}
use Rattle.views.specs.Limits.{NAMED_FILE_LIMIT, NAME_LIMIT}
use Rattle.option_words.specs.declared.option_key.OptionKey.{OptionKey}
use Rattle.option_words.specs.declared.option_key.OptionKey.TheVariants.{Nodes, Workers, Every, Records, Shift, PidBase, PortBase}
use Rattle.option_words.specs.declared.option_key.Form.{Form}
use Rattle.option_words.specs.declared.option_key.Form.TheVariants.{Launch, Restart, Ring}

abbrev pub Text : Type 0
Text = List ℕ

-- the options whose value is a number
abbrev pub name_of : OptionKey → Text
name_of Nodes = codes "--nodes"
name_of Workers = codes "--workers"
name_of Every = codes "--every"
name_of Records = codes "--records"
name_of Shift = codes "--shift"
name_of PidBase = codes "--pid-base"
name_of PortBase = codes "--port-base"

abbrev pub least_of : OptionKey → ℕ
least_of Nodes = 1
least_of Workers = 0
least_of Every = 1
least_of Records = 1
least_of Shift = 0
least_of PidBase = 1
least_of PortBase = 1024

abbrev pub greatest_of : OptionKey → ℕ
greatest_of Nodes = 16
greatest_of Workers = 64
greatest_of Every = 4000000
greatest_of Records = 4000000
greatest_of Shift = 15
greatest_of PidBase = 1000000000
greatest_of PortBase = 57344

abbrev pub has_option : Form → OptionKey → Bool
has_option Launch Shift = false
has_option Launch PidBase = false
has_option Launch PortBase = false
has_option Launch key = true
has_option Restart key = true
has_option Ring Workers = true
has_option Ring Every = true
has_option Ring key = false

abbrev pub FILE : Text
FILE = codes "--file"

-- an option with its value
pub data Setting : Type 0 where
  number : OptionKey → ℕ → Setting
  file : Text → Setting

abbrev pub words_of : Setting → List Text
words_of (number key n) = name_of key ∷ decimal n ∷ []
words_of (file name) = FILE ∷ name ∷ []

abbrev pub words_of_all : List Setting → List Text
words_of_all = flat_map words_of

abbrev pub IsSetting : Form → Setting → Type 0
IsSetting form (number key n) = (has_option form key ≡ true) × (least_of key ≤ n) × (n ≤ greatest_of key)
IsSetting form (file name) = (form ≡ Launch) × (1 ≤ length name) × (length name ≤ NAME_LIMIT)

-- the numbers that are given for an option
abbrev pub numbers_of : OptionKey → List Setting → List ℕ
numbers_of key [] = []
numbers_of key (number k n ∷ rest) =
    if bytes_eq (name_of k) (name_of key) then n ∷ numbers_of key rest else numbers_of key rest
numbers_of key (file name ∷ rest) = numbers_of key rest

-- the names that are given by `--file`, in order
abbrev pub files_of : List Setting → List Text
files_of [] = []
files_of (number k n ∷ rest) = files_of rest
files_of (file name ∷ rest) = name ∷ files_of rest

pub record AreSettings (form : Form) (given : List Setting) : Type 0 where
  pub each : All (IsSetting form) given
  pub once : (key : OptionKey) → length (numbers_of key given) ≤ 1
  pub few : length (files_of given) ≤ NAMED_FILE_LIMIT
  pub distinct : IsDistinct bytes_eq (files_of given)

-- what is given for an option, if it is given
abbrev pub given_for : OptionKey → List Setting → Option ℕ
given_for key given = slice_get (numbers_of key given) 0

abbrev pub given_or : OptionKey → List Setting → ℕ → ℕ
given_or key given default = unwrap_or (given_for key given) default
