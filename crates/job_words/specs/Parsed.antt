-- The options of a restart and of a ring as `clap` parses them: a long option a number, with its default, and
-- no other argument.
use Rattle.std.specs.Prelude.{◌≡◌, ℕ, ◌<◌, ◌^◌, Bool, true, false, List, [], ◌∷◌, codes, Option, Some}
use Rattle.std.specs.Borrow.{Bor}
use Rattle.std.specs.Fmt.{decimal}
use Rattle.clap.specs.declared.builder.arg.Arg.{Arg}
use Rattle.clap.specs.Walk.{Rule, rule_of, texts}
use Rattle.clap.specs.Simple.{App, new_app, new_rule, on_top, with_rule}
use Rattle.option_words.specs.declared.option_key.Form.{Form}
use Rattle.option_words.specs.Options.{Text, Setting, AreSettings, words_of_all}

abbrev pub option_rule : Text → List Text → Rule
option_rule name defaults = record (new_rule name) { long = Some name; defaults = defaults }

-- a command whose first word is an argument, without a flag for help
abbrev pub plain_app : Text → App
plain_app name = on_top (λ top. record top { no_binary_name = true; disable_help_flag = true }) (new_app name)

-- these options behind those that there are, in order
abbrev pub with_rules : App → List Rule → App
with_rules app [] = app
with_rules app (rule ∷ rest) = with_rules (with_rule app rule) rest

abbrev pub restart_app : App
restart_app = with_rules (plain_app (codes "restart")) (
    option_rule (codes "nodes") (codes "16" ∷ [])
    ∷ option_rule (codes "workers") (codes "0" ∷ [])
    ∷ option_rule (codes "every") []
    ∷ option_rule (codes "records") (codes "1000000" ∷ [])
    ∷ option_rule (codes "shift") (codes "0" ∷ [])
    ∷ option_rule (codes "pid-base") (codes "2000" ∷ [])
    ∷ option_rule (codes "port-base") (codes "30000" ∷ [])
    ∷ [])

abbrev pub ring_app : App
ring_app = with_rules (plain_app (codes "ring")) (
    option_rule (codes "workers") (codes "0" ∷ [])
    ∷ option_rule (codes "every") (codes "1000" ∷ [])
    ∷ [])

-- what a parse reads of an argument, and whether it is global
abbrev pub heard : Arg → Rule × Bool
heard arg = (rule_of arg, arg.global)

-- the option of a name with its defaults
abbrev pub rule_at : Bor (List ℕ) × Bor (List (Bor (List ℕ))) → Rule
rule_at option = option_rule option.0.now (texts option.1.now)

abbrev pub heard_at : Bor (List ℕ) × Bor (List (Bor (List ℕ))) → Rule × Bool
heard_at option = (rule_at option, false)

-- the words are those of settings of this form, and no more
pub record AreOptions (form : Form) (words : List Text) : Type 0 where
  pub given : List Setting
  pub settings : AreSettings form given
  pub text : words ≡ words_of_all given

-- the text is that of a number of 32 bits
abbrev pub IsNumber : Option Text → Type 0
IsNumber text = (n : ℕ) × (n < 2 ^ 32) × (text ≡ Some (decimal n))
