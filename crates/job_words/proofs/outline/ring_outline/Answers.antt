use Rattle.std.proofs.Common.{◌≡◌, ℕ, List, ◌∷◌, ap, sym, ◌∙◌}
use Rattle.std.specs.Prelude.{string_bytes, unwrap_or}
use Rattle.std.specs.Fmt.{decimal}
use Rattle.option_words.specs.declared.option_key.Form.TheVariants.{Ring}
use Rattle.option_words.specs.declared.option_key.OptionKey.TheVariants.{Workers}
use Rattle.option_words.specs.Options.{Text, words_of_all}
use Rattle.option_words.specs.Reading.{texts_of}
use Rattle.job_words.specs.declared.outline.RingOutline.{RingOutline}
use Rattle.job_words.proofs.Outlines.{kept_is, same_settings}
use Rattle.job_words.proofs.outline.ring_outline.Goals as goal

behind : (a b : Text) (first second : List Text) → a ∷ first ≡ b ∷ second → first ≡ second
behind a b first second is = cc

with_workers : ℕ → RingOutline
with_workers n = record { workers = n }

pub returns : goal.returns
unfolding with_workers
returns c n given are text =
    let words = texts_of c.in-Some.words.now in
    let options = c.read_options-options.result.0 in
    let rest = texts_of c.read_options-options.result.1.now in
    let read = c.read_options-options.ensures.read in
    let none = c.read_options-options.ensures.whole in
    let front : texts_of c.args.words.now ≡ string_bytes c.in-Some.field-0-0.now ∷ words = ap texts_of c.in-Some.ensures.cases.0 in
    let same : words ≡ words_of_all given = behind (string_bytes c.in-Some.field-0-0.now) (decimal n) words (words_of_all given) (sym front ∙ text) in
    let kept = kept_is Ring words options rest read none given (same_settings Ring words options rest read none given are same) in
    ap with_workers (c.unwrap_or.ensures ∙ ap (λ o. unwrap_or o 0) (c.get.ensures ∙ kept Workers))
