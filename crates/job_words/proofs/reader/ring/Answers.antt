use Rattle.std.proofs.Common.{◌≡◌, ap, sym, subst, ◌∙◌, ◌∷◌, List}
use Rattle.std.specs.Prelude.{codes}
use Rattle.option_words.specs.declared.option_key.Form.TheVariants.{Ring}
use Rattle.job_words.specs.declared.job.Job.TheVariants as job
use Rattle.option_words.specs.Options.{Text}
use Rattle.job_words.specs.Answers.{AnswersFor, IsRefusal}
use Rattle.option_words.specs.Reading.{texts_of}
use Rattle.job_words.proofs.Forms.{AreOf, answered, unremembered, passed_on, refused, no_words, some_words, alone, ring_command_of, ring_answer, ring_refused, ring_uncounted}
use Rattle.job_words.proofs.reader.ring.Goals as goal

pub returns-in_default-number_in-clause-usage : goal.returns-in_default-number_in-clause-usage
returns-in_default-number_in-clause-usage c =
    let words : texts_of c.args.words.now ≡ c.as_str.result.now ∷ texts_of c.in-Some.words.now = ap texts_of c.in-Some.ensures.cases.0 ∙ ap (λ (w : Text). w ∷ texts_of c.in-Some.words.now) (sym c.as_str.ensures.value) in
    refused (codes "ring" ∷ texts_of c.args.words.now)
    (subst (λ (ws : List Text). IsRefusal (codes "ring" ∷ ws)) (sym words) (ring_uncounted c.as_str.result.now (texts_of c.in-Some.words.now) c.in_default-number_in.ensures.none))

pub ring_of-requires : goal.ring_of-requires
ring_of-requires c = alone Ring (texts_of c.in-Some.words.now) c.read_options.result.0 (texts_of c.read_options.result.1.now) c.read_options.ensures.read (no_words c.read_options.result.1.now c.is_empty.result c.is_empty.ensures c.if-is_empty.true)

pub returns-in_err-ring_of-clause-usage : goal.returns-in_err-ring_of-clause-usage
returns-in_err-ring_of-clause-usage c =
    let words : texts_of c.args.words.now ≡ c.as_str.result.now ∷ texts_of c.in-Some.words.now = ap texts_of c.in-Some.ensures.cases.0 ∙ ap (λ (w : Text). w ∷ texts_of c.in-Some.words.now) (sym c.as_str.ensures.value) in
    unremembered c.from_residual.result (codes "ring" ∷ texts_of c.args.words.now)
    (subst (λ (ws : List Text). AreOf (codes "ring" ∷ ws)) (sym words)
    (ring_command_of c.as_str.result.now c.in-Some-number_in.processes c.in-Some-number_in.ensures.some (texts_of c.in-Some.words.now)
    (alone Ring (texts_of c.in-Some.words.now) c.read_options.result.0 (texts_of c.read_options.result.1.now) c.read_options.ensures.read (no_words c.read_options.result.1.now c.is_empty.result c.is_empty.ensures c.if-is_empty.true))))
    (passed_on c.from_residual.result c.in_err-ring_of.field-0.0 c.from_residual.ensures.1 c.in_err-ring_of.ensures.err)

pub returns-in_ok-ring_of-clause-found : goal.returns-in_ok-ring_of-clause-found
returns-in_ok-ring_of-clause-found c =
    let words : texts_of c.args.words.now ≡ c.as_str.result.now ∷ texts_of c.in-Some.words.now = ap texts_of c.in-Some.ensures.cases.0 ∙ ap (λ (w : Text). w ∷ texts_of c.in-Some.words.now) (sym c.as_str.ensures.value) in
    let options = (alone Ring (texts_of c.in-Some.words.now) c.read_options.result.0 (texts_of c.read_options.result.1.now) c.read_options.ensures.read (no_words c.read_options.result.1.now c.is_empty.result c.is_empty.ensures c.if-is_empty.true)) in
    subst (λ (ws : List Text). AnswersFor (codes "ring" ∷ ws) (job.Ring c.in_ok-ring_of.field-0)) (sym words)
    (ring_answer c.as_str.result.now c.in-Some-number_in.processes c.in-Some-number_in.ensures.some (texts_of c.in-Some.words.now) options c.in_ok-ring_of.field-0
    (c.in_ok-ring_of.ensures.ok options.given options.settings options.text))

pub returns-in_ok-ring_of-clause-usage : goal.returns-in_ok-ring_of-clause-usage
returns-in_ok-ring_of-clause-usage c =
    let words : texts_of c.args.words.now ≡ c.as_str.result.now ∷ texts_of c.in-Some.words.now = ap texts_of c.in-Some.ensures.cases.0 ∙ ap (λ (w : Text). w ∷ texts_of c.in-Some.words.now) (sym c.as_str.ensures.value) in
    answered _ (codes "ring" ∷ texts_of c.args.words.now)
    (subst (λ (ws : List Text). AreOf (codes "ring" ∷ ws)) (sym words)
    (ring_command_of c.as_str.result.now c.in-Some-number_in.processes c.in-Some-number_in.ensures.some (texts_of c.in-Some.words.now)
    (alone Ring (texts_of c.in-Some.words.now) c.read_options.result.0 (texts_of c.read_options.result.1.now) c.read_options.ensures.read (no_words c.read_options.result.1.now c.is_empty.result c.is_empty.ensures c.if-is_empty.true))))

pub returns-else-is_empty-clause-usage : goal.returns-else-is_empty-clause-usage
returns-else-is_empty-clause-usage c =
    let words : texts_of c.args.words.now ≡ c.as_str.result.now ∷ texts_of c.in-Some.words.now = ap texts_of c.in-Some.ensures.cases.0 ∙ ap (λ (w : Text). w ∷ texts_of c.in-Some.words.now) (sym c.as_str.ensures.value) in
    refused (codes "ring" ∷ texts_of c.args.words.now)
    (subst (λ (ws : List Text). IsRefusal (codes "ring" ∷ ws)) (sym words)
    (ring_refused c.as_str.result.now (texts_of c.in-Some.words.now) c.read_options.result.0 (texts_of c.read_options.result.1.now) c.read_options.ensures.read c.read_options.ensures.whole
    (some_words c.read_options.result.1.now c.is_empty.result c.is_empty.ensures c.if-is_empty.false)))
