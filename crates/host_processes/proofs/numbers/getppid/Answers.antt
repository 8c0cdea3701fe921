use Rattle.std.proofs.Common.{ap, ◌∙◌}
use Rattle.std.specs.FinMap as map
use Rattle.std.specs.Prelude.{option_and_then}
use Rattle.plain_tables.specs.Tables.{NOBODY}
use Rattle.plain_machine.specs.Rows.Numbers.{parent_in, getppid_row}
use Rattle.host_descriptors.specs.OfHostTables.declared.attempt.Attempt.TheVariants as answer
use Rattle.host_descriptors.specs.OfHostTables.Serves.{ByPidOr}
use Rattle.host_descriptors.proofs.OfHostTables.Replies.{gave}
use Rattle.host_processes.specs.Parents.{parent_value}
use Rattle.host_processes.proofs.Parents.{parent_told}
use Rattle.host_processes.proofs.numbers.getppid.Goals as goal

pub returns : goal.returns
unfolding getppid_row
returns c g k p whole st paired x =
    let real = c.args.kernel.now in
    let parent = option_and_then (λ y. y.parent) (map.get real.procs.processes c.args.who) in
    gave g real x (ByPidOr NOBODY c.args.who) k (parent_value parent) (parent_in k (map.get k.processes p))
    (parent_told g real k st whole p c.args.who paired) real st (answer.Gives c.number_of.result)
    (ap answer.Gives (c.number_of.ensures ∙ ap parent_value c.parent.ensures))
