use Rattle.std.proofs.Common.{◌≡◌, ◌↔◌, ap, sym, subst, ◌∙◌, ◌∷◌, List, Err, IfOk}
use Rattle.std.specs.Prelude.{codes}
use Rattle.job_words.specs.declared.word_fault.WordFault.TheVariants.{Usage}
use Rattle.option_words.specs.Options.{Text}
use Rattle.job_words.specs.Answers.{AnswersFor, IsRefusal}
use Rattle.option_words.specs.Reading.{texts_of}
use Rattle.job_words.proofs.reader.read_form.Goals as goal

pub returns-in-launch-clause-found : goal.returns-in-launch-clause-found
returns-in-launch-clause-found c =
    let words : texts_of c.args.words.now ≡ codes "launch" ∷ texts_of c.in-Some.rest.now = ap texts_of c.in-Some.ensures.cases.0 ∙ ap (λ (w : Text). w ∷ texts_of c.in-Some.rest.now) (sym c.as_str.ensures.value ∙ c.in-launch.is) in
    subst (λ (ws : List Text). IfOk c.launch.result (AnswersFor ws)) (sym words) c.launch.ensures.found

pub returns-in-launch-clause-usage : goal.returns-in-launch-clause-usage
returns-in-launch-clause-usage c =
    let words : texts_of c.args.words.now ≡ codes "launch" ∷ texts_of c.in-Some.rest.now = ap texts_of c.in-Some.ensures.cases.0 ∙ ap (λ (w : Text). w ∷ texts_of c.in-Some.rest.now) (sym c.as_str.ensures.value ∙ c.in-launch.is) in
    subst (λ (ws : List Text). (c.launch.result ≡ Err Usage) ↔ IsRefusal ws) (sym words) c.launch.ensures.usage

pub returns-in-restart-clause-found : goal.returns-in-restart-clause-found
returns-in-restart-clause-found c =
    let words : texts_of c.args.words.now ≡ codes "restart" ∷ texts_of c.in-Some.rest.now = ap texts_of c.in-Some.ensures.cases.0 ∙ ap (λ (w : Text). w ∷ texts_of c.in-Some.rest.now) (sym c.as_str.ensures.value ∙ c.in-restart.is) in
    subst (λ (ws : List Text). IfOk c.restart.result (AnswersFor ws)) (sym words) c.restart.ensures.found

pub returns-in-restart-clause-usage : goal.returns-in-restart-clause-usage
returns-in-restart-clause-usage c =
    let words : texts_of c.args.words.now ≡ codes "restart" ∷ texts_of c.in-Some.rest.now = ap texts_of c.in-Some.ensures.cases.0 ∙ ap (λ (w : Text). w ∷ texts_of c.in-Some.rest.now) (sym c.as_str.ensures.value ∙ c.in-restart.is) in
    subst (λ (ws : List Text). (c.restart.result ≡ Err Usage) ↔ IsRefusal ws) (sym words) c.restart.ensures.usage

pub returns-in-ring-clause-found : goal.returns-in-ring-clause-found
returns-in-ring-clause-found c =
    let words : texts_of c.args.words.now ≡ codes "ring" ∷ texts_of c.in-Some.rest.now = ap texts_of c.in-Some.ensures.cases.0 ∙ ap (λ (w : Text). w ∷ texts_of c.in-Some.rest.now) (sym c.as_str.ensures.value ∙ c.in-ring.is) in
    subst (λ (ws : List Text). IfOk c.ring.result (AnswersFor ws)) (sym words) c.ring.ensures.found

pub returns-in-ring-clause-usage : goal.returns-in-ring-clause-usage
returns-in-ring-clause-usage c =
    let words : texts_of c.args.words.now ≡ codes "ring" ∷ texts_of c.in-Some.rest.now = ap texts_of c.in-Some.ensures.cases.0 ∙ ap (λ (w : Text). w ∷ texts_of c.in-Some.rest.now) (sym c.as_str.ensures.value ∙ c.in-ring.is) in
    subst (λ (ws : List Text). (c.ring.result ≡ Err Usage) ↔ IsRefusal ws) (sym words) c.ring.ensures.usage

pub returns-in-help-clause-found : goal.returns-in-help-clause-found
returns-in-help-clause-found c =
    let words : texts_of c.args.words.now ≡ codes "help" ∷ texts_of c.in-Some.rest.now = ap texts_of c.in-Some.ensures.cases.0 ∙ ap (λ (w : Text). w ∷ texts_of c.in-Some.rest.now) (sym c.as_str.ensures.value ∙ c.in-help.is) in
    subst (λ (ws : List Text). IfOk c.help.result (AnswersFor ws)) (sym words) c.help.ensures.found

pub returns-in-help-clause-usage : goal.returns-in-help-clause-usage
returns-in-help-clause-usage c =
    let words : texts_of c.args.words.now ≡ codes "help" ∷ texts_of c.in-Some.rest.now = ap texts_of c.in-Some.ensures.cases.0 ∙ ap (λ (w : Text). w ∷ texts_of c.in-Some.rest.now) (sym c.as_str.ensures.value ∙ c.in-help.is) in
    subst (λ (ws : List Text). (c.help.result ≡ Err Usage) ↔ IsRefusal ws) (sym words) c.help.ensures.usage
