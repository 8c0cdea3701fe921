use Rattle.std.proofs.Common.{◌≡◌, ap, refl, ◌∙◌}
use Rattle.clap.specs.Matches.{found_of}
use Rattle.clap.specs.Simple.{App, matches_of}
use Rattle.clap.specs.Takes.{takes}
use Rattle.clap.specs.Walk.{rows_of}
use Rattle.option_words.specs.declared.option_key.OptionKey.TheVariants.{Workers, Every}
use Rattle.option_words.specs.Options.{given_or}
use Rattle.job_words.specs.Parsed.{ring_app}
use Rattle.option_words.specs.Reading.{texts_of}
use Rattle.job_words.proofs.Defaults.{ring_takes, ring_workers, ring_every}
use Rattle.job_words.proofs.parsed.ring_of.Goals as goal

pub parse-requires : goal.parse-requires
parse-requires c =
    ap (λ (a : App). takes a (texts_of c.args.words.now)) c.in_ok-ring_command.ensures ∙ ring_takes (texts_of c.args.words.now) c.requires.given c.requires.settings c.requires.text

pub value_of-requires : goal.value_of-requires
value_of-requires c =
    let rows = rows_of (found_of c.in_ok-matches.matches) in
    let found : rows ≡ matches_of ring_app (texts_of c.args.words.now) = c.in_ok-matches.ensures.ok ∙ ap (λ (a : App). matches_of a (texts_of c.args.words.now)) c.in_ok-ring_command.ensures in
    let value = ring_workers rows (texts_of c.args.words.now) found c.requires.given c.requires.settings c.requires.text in
    (given_or Workers c.requires.given 0, value.small, value.text)

pub value_of-requires-2 : goal.value_of-requires-2
value_of-requires-2 c =
    let rows = rows_of (found_of c.in_ok-matches.matches) in
    let found : rows ≡ matches_of ring_app (texts_of c.args.words.now) = c.in_ok-matches.ensures.ok ∙ ap (λ (a : App). matches_of a (texts_of c.args.words.now)) c.in_ok-ring_command.ensures in
    let value = ring_every rows (texts_of c.args.words.now) found c.requires.given c.requires.settings c.requires.text in
    (given_or Every c.requires.given 1000, value.small, value.text)

pub returns-clause-ok : goal.returns-clause-ok
returns-clause-ok c given are text =
    let rows = rows_of (found_of c.in_ok-matches.matches) in
    let found : rows ≡ matches_of ring_app (texts_of c.args.words.now) = c.in_ok-matches.ensures.ok ∙ ap (λ (a : App). matches_of a (texts_of c.args.words.now)) c.in_ok-ring_command.ensures in
    let workers = ring_workers rows (texts_of c.args.words.now) found given are text in
    let every = ring_every rows (texts_of c.args.words.now) found given are text in
    record {
      processes = refl;
      workers = c.value_of.ensures (given_or Workers given 0) workers.small workers.text;
      every = c.value_of-2.ensures (given_or Every given 1000) every.small every.text;
    }
