use Rattle.std.proofs.Common.{ap, ◌∙◌}
use Rattle.std.specs.Prelude.{unwrap_or}
use Rattle.option_words.specs.declared.option_key.Form.TheVariants.{Restart}
use Rattle.option_words.specs.declared.option_key.OptionKey.TheVariants.{Nodes, Workers, Shift, PidBase, PortBase}
use Rattle.option_words.specs.Options.{given_or}
use Rattle.option_words.specs.Reading.{texts_of}
use Rattle.job_words.proofs.Outlines.{kept_is, same_settings, restart_fields}
use Rattle.job_words.proofs.outline.restart_outline.Goals as goal

pub returns : goal.returns
returns c given are text =
    let words = texts_of c.args.words.now in
    let options = c.read_options-options.result.0 in
    let rest = texts_of c.read_options-options.result.1.now in
    let read = c.read_options-options.ensures.read in
    let none = c.read_options-options.ensures.whole in
    let kept = kept_is Restart words options rest read none given (same_settings Restart words options rest read none given are text) in
    restart_fields c.unwrap_or.result (given_or Nodes given 16) c.unwrap_or-2.result (given_or Workers given 0) c.unwrap_or-3.result (given_or Shift given 0)
    c.unwrap_or-4.result (given_or PidBase given 2000) c.unwrap_or-5.result (given_or PortBase given 30000)
    (c.unwrap_or.ensures ∙ ap (λ o. unwrap_or o 16) (c.get.ensures ∙ kept Nodes))
    (c.unwrap_or-2.ensures ∙ ap (λ o. unwrap_or o 0) (c.get-2.ensures ∙ kept Workers))
    (c.unwrap_or-3.ensures ∙ ap (λ o. unwrap_or o 0) (c.get-3.ensures ∙ kept Shift))
    (c.unwrap_or-4.ensures ∙ ap (λ o. unwrap_or o 2000) (c.get-4.ensures ∙ kept PidBase))
    (c.unwrap_or-5.ensures ∙ ap (λ o. unwrap_or o 30000) (c.get-5.ensures ∙ kept PortBase))
