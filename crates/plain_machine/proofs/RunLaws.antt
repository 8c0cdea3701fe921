-- One more record at a trace's end: the run goes one step further, and the console shows that record's bytes after the others.
use Rattle.std.proofs.Common.{◌≡◌, [], ◌∷◌, ◌++◌, append_assoc, refl, sym, ap, ◌∙◌, append-nil}
use Rattle.std.specs.Prelude.{Option, Some, None, option_and_then}
use Rattle.std.specs.Option.{option_map}
use Rattle.plain_machine.specs.Records.{outcome, step}
use Rattle.plain_machine.specs.Runs.{run, console, console_from}
use Rattle.plain_machine.specs.Laws.{RunOfOneMore, ConsoleOfOneMore}

then_some : {A : Type 0} (o : Option A) → option_and_then (λ a. Some a) o ≡ o
then_some None = refl
then_some (Some a) = refl

pub run_of_one_more : RunOfOneMore
unfolding run
run_of_one_more g h [] r goes = let same : g ≡ h = cc in then_some (step g r) ∙ ap (λ k. step k r) same
run_of_one_more g h (x ∷ rest) r goes =
    elim (step g x) as (λ o. option_and_then (λ next. run next rest) o ≡ Some h → option_and_then (λ next. run next (rest ++ r ∷ [])) o ≡ step h r) [
      | None ↦ λ e. cc
      | Some next ↦ λ e. run_of_one_more next h rest r e
    ] goes

pub console_of_one_more : ConsoleOfOneMore
unfolding run console
console_of_one_more g h [] r o goes is =
    let same : g ≡ h = cc in ap (λ k. console_from (λ next. console next []) (outcome k r)) same ∙ ap (console_from (λ next. console next [])) is ∙ append-nil o.console
console_of_one_more g h (x ∷ rest) r o goes is =
    elim (outcome g x) as (λ first.
    option_and_then (λ next. run next rest) (option_map (λ out. out.state) first) ≡ Some h
    → console_from (λ next. console next (rest ++ r ∷ [])) first ≡ console_from (λ next. console next rest) first ++ o.console) [
      | None ↦ λ e. cc
      | Some first ↦ λ e. ap (λ later. first.console ++ later) (console_of_one_more first.state h rest r o e is) ∙ sym (append_assoc first.console (console first.state rest) o.console)
    ] goes
