use Rattle.std.proofs.Common.{refl}
use Rattle.plain_machine.specs.Rows.Numbers.{getpid_row}
use Rattle.host_descriptors.specs.OfHostTables.Serves.{ByPid}
use Rattle.host_descriptors.specs.OfHostTables.declared.attempt.Attempt.TheVariants as answer
use Rattle.host_descriptors.proofs.OfHostTables.Replies.{gave}
use Rattle.host_processes.proofs.numbers.getpid.Goals as goal

pub returns : goal.returns
unfolding getpid_row
returns c kernel g k p whole st paired x =
    gave g kernel x (ByPid c.args.who) k c.args.who.pid p.0 paired kernel st
    (answer.Gives c.args.who.pid) refl
