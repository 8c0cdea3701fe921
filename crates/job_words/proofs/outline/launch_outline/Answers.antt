use Rattle.std.proofs.Common.{◌≡◌, ℕ, ap, sym, ◌∙◌, map}
use Rattle.std.specs.Prelude.{unwrap_or}
use Rattle.option_words.specs.declared.option_key.Form.TheVariants.{Launch}
use Rattle.option_words.specs.declared.option_key.OptionKey.TheVariants.{Nodes, Workers}
use Rattle.option_words.specs.Options.{given_for, given_or}
use Rattle.option_words.specs.Reading.{texts_of}
use Rattle.option_words.proofs.Settings.{other_reading}
use Rattle.job_words.specs.Programs.{program_word, hosts_of}
use Rattle.job_words.specs.Commands.{nodes_of}
use Rattle.job_words.proofs.ProgramWords.{programs_plain}
use Rattle.job_words.proofs.Outlines.{kept_is, same_hosts, launch_fields}
use Rattle.job_words.proofs.outline.launch_outline.Goals as goal

pub returns : goal.returns
returns c given programs are text =
    let words = texts_of c.args.words.now in
    let options = c.read_options-options.result.0 in
    let rest = texts_of c.read_options-options.result.1.now in
    let read = c.read_options-options.ensures.read in
    let none = c.read_options-options.ensures.whole in
    let same = other_reading Launch words options rest read none given (map program_word programs) are.settings (programs_plain programs are.each) text in
    let kept = kept_is Launch words options rest read none given same.0 in
    let hosts : c.unwrap_or-hosts.result ≡ hosts_of programs =
    c.unwrap_or-hosts.ensures ∙ same_hosts rest programs c.hosts_in.result (record { each = are.each; text = sym same.1 }) c.hosts_in.ensures.some c.hosts_in.ensures.none in
    launch_fields c.unwrap_or.result (nodes_of given programs) c.unwrap_or-hosts.result (hosts_of programs) c.unwrap_or-2.result (given_or Workers given 0)
    (c.unwrap_or.ensures ∙ ap (λ o. unwrap_or o c.unwrap_or-hosts.result) (c.get.ensures ∙ kept Nodes) ∙ ap (λ (n : ℕ). unwrap_or (given_for Nodes given) n) hosts)
    hosts
    (c.unwrap_or-2.ensures ∙ ap (λ o. unwrap_or o 0) (c.get-2.ensures ∙ kept Workers))
