-- What is read of two words behind each other.
use Rattle.std.proofs.Common.{◌≡◌, [], ◌∷◌, Option, Some, None, IfSome, IfNone, sym, ap, subst, ◌∙◌}
use Rattle.std.specs.Fmt.{decimal}
use Rattle.option_words.specs.declared.option_key.Form.{Form}
use Rattle.option_words.specs.declared.options.Given.{Given}
use Rattle.option_words.specs.Options.{Text, Setting, number, file, name_of, FILE, words_of, IsSetting}
use Rattle.option_words.specs.Reading.{seen}
use Rattle.option_words.proofs.Keys.{no_key_is_file}

file_words : (name value : Text) (setting : Setting) → name ≡ FILE → setting ≡ file value → name ∷ value ∷ [] ≡ words_of setting
file_words name value setting is same = ap (λ (word : Text). word ∷ value ∷ []) is ∙ ap words_of (sym same)

pub file_some : (form : Form) (name value : Text) (found : Option Given) → name ≡ FILE → IfSome found (λ given. IsSetting form (seen given) × (seen given ≡ file value))
    → IfSome found (λ given. IsSetting form (seen given) × (name ∷ value ∷ [] ≡ words_of (seen given)))
file_some form name value None is some = tt
file_some form name value (Some given) is some = (some.0, file_words name value (seen given) is some.1)

second : (a b c d : Text) → a ∷ b ∷ [] ≡ c ∷ d ∷ [] → b ≡ d
second a b c d is = cc

first : (a b c d : Text) → a ∷ b ∷ [] ≡ c ∷ d ∷ [] → a ≡ c
first a b c d is = cc

no_file : (form : Form) (name value : Text) → name ≡ FILE → (IsSetting form (file value) → ⊥) → (setting : Setting) → IsSetting form setting → name ∷ value ∷ [] ≡ words_of setting → ⊥
no_file form name value is none (number key n) setting text = no_key_is_file key (sym (first name value (name_of key) (decimal n) text) ∙ is)
no_file form name value is none (file other) setting text = none (subst (λ (text : Text). IsSetting form (file text)) (sym (second name value FILE other text)) setting)

pub file_none : (form : Form) (name value : Text) (found : Option Given) → name ≡ FILE → IfNone found (IsSetting form (file value) → ⊥)
    → IfNone found ((setting : Setting) → IsSetting form setting → name ∷ value ∷ [] ≡ words_of setting → ⊥)
file_none form name value None is none = no_file form name value is none
file_none form name value (Some given) is none = tt
