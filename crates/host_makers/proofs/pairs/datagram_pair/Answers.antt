use Rattle.std.proofs.Common.{refl, sym, ◌∙◌, subst}
use Rattle.std.proofs.lemmas.Result.{IfOk-weaker}
use Rattle.sys_abi.specs.declared.errors.TheConstants.{ENFILE}
use Rattle.plain_machine.specs.Kernel.{has_numbers}
use Rattle.plain_machine.specs.Rows.Channels.{datagram_pair}
use Rattle.host_tables.specs.Serves.{Serves, ByNumber, same}
use Rattle.host_makers.proofs.Answered.{refused_by, none_left}
use Rattle.host_makers.proofs.PairRows.{datagrams_unnumbered, datagrams_told}
use Rattle.host_makers.proofs.pairs.datagram_pair.Goals as goal

pub returns-in_default-clause-ok : goal.returns-in_default-clause-ok
returns-in_default-clause-ok c g k p whole st paired named =
    refused_by same g c.args.kernel.now c.args.kernel.now
    c.args.transfer.now c.args.transfer.now (datagram_pair k p c.args.flags) ENFILE
    (datagrams_unnumbered k p c.args.flags (none_left (has_numbers k p) _ (sym c.in_default.is ∙ named)))
    refl refl

pub returns-clause-ok : goal.returns-clause-ok
returns-clause-ok c =
    IfOk-weaker c.make_datagrams.result _ _ (λ a serves g k p whole st paired named.
    subst (Serves ByNumber same g c.args.kernel.now c.make_datagrams.new.kernel c.args.transfer.now
    c.make_datagrams.new.transfer a)
    (datagrams_told k p c.args.flags c.has_cloexec.result c.status_flags-status.result c.has_cloexec.ensures
    c.status_flags-status.ensures)
    (serves g k p whole st paired (sym c.in-Some.is ∙ named)))
    c.make_datagrams.ensures.ok
