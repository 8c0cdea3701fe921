use Rattle.std.proofs.Common.{◌≡◌, ap, ◌∙◌}
use Rattle.std.specs.Prelude.{codes}
use Rattle.clap.specs.Matches.{found_of}
use Rattle.clap.specs.Simple.{App, matches_of}
use Rattle.clap.specs.Takes.{takes}
use Rattle.clap.specs.Walk.{first_of, rows_of}
use Rattle.option_words.specs.declared.option_key.OptionKey.TheVariants.{Nodes, Workers, Every, Records, Shift, PidBase, PortBase}
use Rattle.option_words.specs.declared.option_key.Form.TheVariants.{Restart}
use Rattle.option_words.specs.Options.{given_or}
use Rattle.job_words.specs.Parsed.{restart_app}
use Rattle.option_words.specs.Reading.{texts_of}
use Rattle.job_words.proofs.Defaults.{option_found, restart_takes, restart_nodes, restart_workers, restart_every, restart_records, restart_shift, restart_pid_base, restart_port_base}
use Rattle.job_words.proofs.parsed.restart_of.Goals as goal

pub parse-requires : goal.parse-requires
parse-requires c =
    ap (λ (a : App). takes a (texts_of c.args.words.now)) c.in_ok-restart_command.ensures ∙ restart_takes (texts_of c.args.words.now) c.requires.given c.requires.settings c.requires.text

pub value_of-requires : goal.value_of-requires
value_of-requires c =
    let rows = rows_of (found_of c.in_ok-matches.matches) in
    let found : rows ≡ matches_of restart_app (texts_of c.args.words.now) = c.in_ok-matches.ensures.ok ∙ ap (λ (a : App). matches_of a (texts_of c.args.words.now)) c.in_ok-restart_command.ensures in
    let value = restart_nodes rows (texts_of c.args.words.now) found c.requires.given c.requires.settings c.requires.text in
    (given_or Nodes c.requires.given 16, value.small, value.text)

pub value_of-requires-2 : goal.value_of-requires-2
value_of-requires-2 c =
    let rows = rows_of (found_of c.in_ok-matches.matches) in
    let found : rows ≡ matches_of restart_app (texts_of c.args.words.now) = c.in_ok-matches.ensures.ok ∙ ap (λ (a : App). matches_of a (texts_of c.args.words.now)) c.in_ok-restart_command.ensures in
    let value = restart_workers rows (texts_of c.args.words.now) found c.requires.given c.requires.settings c.requires.text in
    (given_or Workers c.requires.given 0, value.small, value.text)

pub value_of-requires-3 : goal.value_of-requires-3
value_of-requires-3 c =
    let rows = rows_of (found_of c.in_ok-matches.matches) in
    let found : rows ≡ matches_of restart_app (texts_of c.args.words.now) = c.in_ok-matches.ensures.ok ∙ ap (λ (a : App). matches_of a (texts_of c.args.words.now)) c.in_ok-restart_command.ensures in
    let value = restart_records rows (texts_of c.args.words.now) found c.requires.given c.requires.settings c.requires.text in
    (given_or Records c.requires.given 1000000, value.small, value.text)

pub value_of-requires-4 : goal.value_of-requires-4
value_of-requires-4 c =
    let rows = rows_of (found_of c.in_ok-matches.matches) in
    let found : rows ≡ matches_of restart_app (texts_of c.args.words.now) = c.in_ok-matches.ensures.ok ∙ ap (λ (a : App). matches_of a (texts_of c.args.words.now)) c.in_ok-restart_command.ensures in
    let value = restart_shift rows (texts_of c.args.words.now) found c.requires.given c.requires.settings c.requires.text in
    (given_or Shift c.requires.given 0, value.small, value.text)

pub value_of-requires-5 : goal.value_of-requires-5
value_of-requires-5 c =
    let rows = rows_of (found_of c.in_ok-matches.matches) in
    let found : rows ≡ matches_of restart_app (texts_of c.args.words.now) = c.in_ok-matches.ensures.ok ∙ ap (λ (a : App). matches_of a (texts_of c.args.words.now)) c.in_ok-restart_command.ensures in
    let value = restart_pid_base rows (texts_of c.args.words.now) found c.requires.given c.requires.settings c.requires.text in
    (given_or PidBase c.requires.given 2000, value.small, value.text)

pub value_of-requires-6 : goal.value_of-requires-6
value_of-requires-6 c =
    let rows = rows_of (found_of c.in_ok-matches.matches) in
    let found : rows ≡ matches_of restart_app (texts_of c.args.words.now) = c.in_ok-matches.ensures.ok ∙ ap (λ (a : App). matches_of a (texts_of c.args.words.now)) c.in_ok-restart_command.ensures in
    let value = restart_port_base rows (texts_of c.args.words.now) found c.requires.given c.requires.settings c.requires.text in
    (given_or PortBase c.requires.given 30000, value.small, value.text)

pub returns-clause-ok : goal.returns-clause-ok
returns-clause-ok c given are text =
    let rows = rows_of (found_of c.in_ok-matches.matches) in
    let found : rows ≡ matches_of restart_app (texts_of c.args.words.now) = c.in_ok-matches.ensures.ok ∙ ap (λ (a : App). matches_of a (texts_of c.args.words.now)) c.in_ok-restart_command.ensures in
    let nodes = restart_nodes rows (texts_of c.args.words.now) found given are text in
    let workers = restart_workers rows (texts_of c.args.words.now) found given are text in
    let records = restart_records rows (texts_of c.args.words.now) found given are text in
    let shift = restart_shift rows (texts_of c.args.words.now) found given are text in
    let pid_base = restart_pid_base rows (texts_of c.args.words.now) found given are text in
    let port_base = restart_port_base rows (texts_of c.args.words.now) found given are text in
    record {
      nodes = c.value_of.ensures (given_or Nodes given 16) nodes.small nodes.text;
      workers = c.value_of-2.ensures (given_or Workers given 0) workers.small workers.text;
      every = option_found Restart given are Every (first_of (codes "every") rows) (restart_every rows (texts_of c.args.words.now) found given are text) c.number_of.result c.number_of.ensures.none c.number_of.ensures.some;
      records = c.value_of-3.ensures (given_or Records given 1000000) records.small records.text;
      shift = c.value_of-4.ensures (given_or Shift given 0) shift.small shift.text;
      pid_base = c.value_of-5.ensures (given_or PidBase given 2000) pid_base.small pid_base.text;
      port_base = c.value_of-6.ensures (given_or PortBase given 30000) port_base.small port_base.text;
    }
