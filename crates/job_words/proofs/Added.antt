-- What clap's adding of arguments in turn makes of what a parse reads of a command.
use Rattle.std.proofs.Common.{◌≡◌, ◌∙◌, ap, sym}
use Rattle.std.specs.Prelude.{ℕ, Bool, List, [], ◌∷◌, map}
use Rattle.std.specs.Borrow.{Bor}
use Rattle.clap.specs.Built.{AddsArg, AddsInTurn}
use Rattle.clap.specs.Simple.{App, app_of, with_rule}
use Rattle.clap.specs.Walk.{Rule}
use Rattle.clap.specs.declared.builder.arg.Arg.{Arg}
use Rattle.clap.specs.declared.builder.command.Command.{Command}
use Rattle.job_words.specs.Parsed.{heard, heard_at, rule_at, with_rules}

pub added_in_turn : (old : Command) (args : List Arg) (new : Command) (options : List (Bor (List ℕ) × Bor (List (Bor (List ℕ)))))
    → AddsInTurn AddsArg old args new → map heard args ≡ map heard_at options → app_of new ≡ with_rules (app_of old) (map rule_at options)
added_in_turn old [] new [] adds are = ap app_of (sym adds)
added_in_turn old [] new (option ∷ options) adds are = absurd (cc)
added_in_turn old (arg ∷ args) new [] adds are = absurd (cc)
added_in_turn old (arg ∷ args) new (option ∷ options) adds are =
    let first : heard arg ≡ heard_at option = cc in
    let others : map heard args ≡ map heard_at options = cc in
    let one : app_of adds.0 ≡ with_rule (app_of old) (rule_at option) = adds.1.shape (ap (λ (h : Rule × Bool). h.1) first) ∙ ap (λ (h : Rule × Bool). with_rule (app_of old) h.0) first in
    added_in_turn adds.0 args new options adds.2 others ∙ ap (λ (app : App). with_rules app (map rule_at options)) one
