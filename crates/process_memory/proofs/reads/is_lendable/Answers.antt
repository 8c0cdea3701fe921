use Rattle.std.proofs.Common.{sym, ap, ◌∙◌}
use Rattle.std.specs.Prelude.{is_some}
use Rattle.process_memory.proofs.LendLemmas.{unreadable}
use Rattle.process_memory.proofs.LocalReads.{lent_where_writable}
use Rattle.process_memory.proofs.reads.is_lendable.Goals as goal

pub returns-in_default : goal.returns-in_default
returns-in_default c = sym (ap is_some (unreadable c.args.space.now c.args.request.now c.reads_of.result c.reads_of.ensures.source c.in_default.ensures))

pub returns : goal.returns
returns c =
    c.can_write_all.ensures ∙ lent_where_writable c.args.space.now c.args.request.now c.reads_of.result _ c.reads_of.ensures.source c.written_spans.ensures c.in-Some.ensures.1
