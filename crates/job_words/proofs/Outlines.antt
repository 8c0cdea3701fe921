-- What an outline says of the words of a launch and of a restart, and of all words.
--     same_settings, kept_is          the settings that were read are those of the words
--     same_hosts                      and so are the programs that were counted
--     launch_fields, restart_fields   outlines of the same numbers are one
use Rattle.std.proofs.Common.{◌≡◌, ℕ, List, [], Option, Some, None, sym, ap, ◌∙◌, append-nil}
use Rattle.std.specs.Prelude.{unwrap_or, IfSome, IfNone}
use Rattle.option_words.specs.declared.option_key.OptionKey.{OptionKey}
use Rattle.option_words.specs.declared.option_key.Form.{Form}
use Rattle.option_words.specs.declared.options.Options.{Options}
use Rattle.option_words.specs.Options.{Text, Setting, words_of_all, AreSettings, given_for}
use Rattle.option_words.specs.Reading.{kept_number, IsRead, NoneFollows}
use Rattle.option_words.proofs.Settings.{other_reading, nothing_plain}
use Rattle.job_words.specs.declared.outline.LaunchOutline.{LaunchOutline}
use Rattle.job_words.specs.declared.outline.RestartOutline.{RestartOutline}
use Rattle.job_words.specs.Programs.{ProgramText, hosts_of}
use Rattle.job_words.specs.Parts.{ArePrograms, AreCounted}
use Rattle.job_words.proofs.ProgramWords.{one_list}

module _ (form : Form) (words : List Text) (options : Options) (rest : List Text) (read : IsRead form words options rest) (none : NoneFollows form options rest) where
  pub kept_is : (given : List Setting) → given ≡ read.given → (key : OptionKey) → kept_number options key ≡ given_for key given
  kept_is given same key = read.keeps.numbers key ∙ ap (given_for key) (sym same)

  pub same_settings : (given : List Setting) → AreSettings form given → words ≡ words_of_all given → given ≡ read.given
  same_settings given are text = (other_reading form words options rest read none given [] are nothing_plain (text ∙ sym (append-nil (words_of_all given)))).0

-- the programs that were counted are those of the words
pub same_hosts : (rest : List Text) (programs : List ProgramText) (counted : Option ℕ) → ArePrograms rest programs → IfSome counted (λ hosts. AreCounted rest hosts) → IfNone counted ((others : List ProgramText) → ArePrograms rest others → ⊥)
    → unwrap_or counted 0 ≡ hosts_of programs
same_hosts rest programs (Some hosts) are some none =
    some.count ∙ ap hosts_of (one_list some.programs programs some.are.each are.each (sym some.are.text ∙ are.text))
same_hosts rest programs None are some none = absurd (none programs are)

pub launch_fields : (nodes n hosts h workers w : ℕ) → nodes ≡ n → hosts ≡ h → workers ≡ w
    → (let o : LaunchOutline = record { nodes = nodes; hosts = hosts; workers = workers } in o) ≡ record { nodes = n; hosts = h; workers = w }
launch_fields nodes n hosts h workers w first second third =
    ap (λ (x : ℕ). let o : LaunchOutline = record { nodes = x; hosts = hosts; workers = workers } in o) first
    ∙ ap (λ (x : ℕ). let o : LaunchOutline = record { nodes = n; hosts = x; workers = workers } in o) second
    ∙ ap (λ (x : ℕ). let o : LaunchOutline = record { nodes = n; hosts = h; workers = x } in o) third

pub restart_fields : (nodes n workers w shift s pid p port q : ℕ) → nodes ≡ n → workers ≡ w → shift ≡ s → pid ≡ p → port ≡ q
    → (let o : RestartOutline = record { nodes = nodes; workers = workers; shift = shift; pid_base = pid; port_base = port } in o)
    ≡ record { nodes = n; workers = w; shift = s; pid_base = p; port_base = q }
restart_fields nodes n workers w shift s pid p port q first second third fourth fifth =
    ap (λ (x : ℕ). let o : RestartOutline = record { nodes = x; workers = workers; shift = shift; pid_base = pid; port_base = port } in o) first
    ∙ ap (λ (x : ℕ). let o : RestartOutline = record { nodes = n; workers = x; shift = shift; pid_base = pid; port_base = port } in o) second
    ∙ ap (λ (x : ℕ). let o : RestartOutline = record { nodes = n; workers = w; shift = x; pid_base = pid; port_base = port } in o) third
    ∙ ap (λ (x : ℕ). let o : RestartOutline = record { nodes = n; workers = w; shift = s; pid_base = x; port_base = port } in o) fourth
    ∙ ap (λ (x : ℕ). let o : RestartOutline = record { nodes = n; workers = w; shift = s; pid_base = p; port_base = x } in o) fifth
