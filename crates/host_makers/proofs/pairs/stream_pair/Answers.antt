use Rattle.std.proofs.Common.{Option, refl, sym, ◌∙◌, subst}
use Rattle.std.proofs.lemmas.Result.{IfOk-weaker}
use Rattle.sys_abi.specs.declared.errors.TheConstants.{ENFILE}
use Rattle.plain_process.specs.Attempts.{Try}
use Rattle.plain_machine.specs.Attempts.{Served}
use Rattle.plain_machine.specs.Kernel.{has_numbers}
use Rattle.plain_machine.specs.Rows.Channels.{stream_pair}
use Rattle.host_tables.specs.declared.request.ChannelIds.{ChannelIds}
use Rattle.host_tables.specs.Serves.{Serves, ByNumber, PAIR, with_new_channel}
use Rattle.host_makers.proofs.Answered.{refused_by, none_left}
use Rattle.host_makers.proofs.PairRows.{streams_unnumbered, streams_told}
use Rattle.host_makers.proofs.pairs.stream_pair.Goals as goal

pub returns-in_default-clause-ok : goal.returns-in_default-clause-ok
returns-in_default-clause-ok c g k p whole st paired named =
    refused_by (λ n m given. with_new_channel given c.args.ids PAIR) g c.args.kernel.now c.args.kernel.now
    c.args.transfer.now c.args.transfer.now (stream_pair k p c.args.flags) ENFILE
    (streams_unnumbered k p c.args.flags (none_left (has_numbers k p) _ (sym c.in_default.is ∙ named))) refl
    refl

pub returns-clause-ok : goal.returns-clause-ok
returns-clause-ok c =
    IfOk-weaker c.make_channel.result _ _ (λ a serves g k p whole st paired named.
    subst (λ (x : Option ChannelIds × Try Served). Serves ByNumber
    (λ n m given. with_new_channel given x.0 PAIR) g
    c.args.kernel.now c.make_channel.new.kernel c.args.transfer.now c.make_channel.new.transfer a x.1)
    (λ i. (
      sym c.in-Some.is i,
      streams_told k p c.args.flags c.has_cloexec.result c.status_flags-status.result c.has_cloexec.ensures
          c.status_flags-status.ensures i,
    )) (serves g k p whole st paired PAIR (sym c.in-Some.is ∙ named)))
    c.make_channel.ensures.ok
