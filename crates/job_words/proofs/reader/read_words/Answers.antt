use Rattle.std.proofs.Common.{◌≡◌, map, Err, refl}
use Rattle.std.specs.Prelude.{string_bytes}
use Rattle.job_words.specs.declared.word_fault.WordFault.TheVariants.{Usage}
use Rattle.job_words.proofs.Forms.{jobs_found, same_usage, texts_plain, plain_texts, unplain, not_both_ways}
use Rattle.job_words.proofs.reader.read_words.Goals as goal

pub returns-then-are_plain-clause-found : goal.returns-then-are_plain-clause-found
returns-then-are_plain-clause-found c =
    jobs_found (map string_bytes c.args.words.now) (texts_plain c.args.words.now (c.are_plain.ensures.0 c.if-are_plain.true)) c.read_form.result c.read_form.ensures.found

pub returns-then-are_plain-clause-usage : goal.returns-then-are_plain-clause-usage
returns-then-are_plain-clause-usage c =
    same_usage (map string_bytes c.args.words.now) (texts_plain c.args.words.now (c.are_plain.ensures.0 c.if-are_plain.true)) (c.read_form.result ≡ Err Usage) c.read_form.ensures.usage

pub returns-else-are_plain-clause-usage : goal.returns-else-are_plain-clause-usage
returns-else-are_plain-clause-usage c =
    (λ is. unplain (map string_bytes c.args.words.now) (λ plain. not_both_ways c.are_plain.result (c.are_plain.ensures.1 (plain_texts c.args.words.now plain)) c.if-are_plain.false), λ none. refl)
