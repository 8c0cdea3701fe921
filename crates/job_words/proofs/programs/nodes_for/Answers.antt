use Rattle.std.proofs.Common.{length, arith}
use Rattle.std.specs.Prelude.{string_bytes}
use Rattle.std.proofs.lemmas.List.{length-map}
use Rattle.option_words.specs.Reading.{texts_of}
use Rattle.job_words.proofs.ProgramLists.{nodes_found, no_nodes, some_there}
use Rattle.job_words.proofs.programs.nodes_for.Goals as goal

pub returns-then-hosts-nodes-clause-some : goal.returns-then-hosts-nodes-clause-some
returns-then-hosts-nodes-clause-some c =
    let size = length-map c.args.words.now string_bytes in
    nodes_found c.args.asked (texts_of c.args.words.now) c.in_ok-hosts.hosts c.unwrap_or-nodes.result
    (omega (arith, size, some_there (length c.args.words.now) c.is_empty.result c.is_empty.ensures c.if-is_empty.false)) (omega (arith, size, c.if-words-gt-MOST_PROGRAMS.false))
    c.in_ok-hosts.ensures.some c.unwrap_or-nodes.ensures c.if-hosts-nodes.true

pub returns-else-hosts-nodes-clause-none : goal.returns-else-hosts-nodes-clause-none
returns-else-hosts-nodes-clause-none c = no_nodes c.args.asked (texts_of c.args.words.now) c.in_ok-hosts.hosts c.unwrap_or-nodes.result c.in_ok-hosts.ensures.some c.unwrap_or-nodes.ensures c.if-hosts-nodes.false
