use Rattle.std.proofs.Common.{Option, refl, sym, ◌∙◌, subst}
use Rattle.std.proofs.lemmas.Result.{IfOk-weaker}
use Rattle.sys_abi.specs.declared.errors.TheConstants.{EINVAL, ENFILE}
use Rattle.plain_process.specs.Attempts.{Try}
use Rattle.plain_machine.specs.Attempts.{Served}
use Rattle.plain_machine.specs.Kernel.{has_numbers}
use Rattle.plain_machine.specs.Rows.Channels.{pipe2_row}
use Rattle.host_tables.specs.declared.request.ChannelIds.{ChannelIds}
use Rattle.host_tables.specs.Serves.{Serves, ByNumber, PIPE, with_new_channel}
use Rattle.host_makers.proofs.Answered.{refused_by, none_left}
use Rattle.host_makers.proofs.PairRows.{pipe_refused, pipe_unnumbered, pipe_told}
use Rattle.host_makers.proofs.pipes.pipe2.Goals as goal

pub returns-then-not-are_making_flags-clause-ok : goal.returns-then-not-are_making_flags-clause-ok
returns-then-not-are_making_flags-clause-ok c g k p whole st paired named =
    refused_by (λ n m given. with_new_channel given c.args.ids PIPE) g c.args.kernel.now c.args.kernel.now
    c.args.transfer.now c.args.transfer.now (pipe2_row k p c.args.flags) EINVAL
    (pipe_refused k p c.args.flags (sym c.are_making_flags.ensures ∙ c.if-not-are_making_flags.true)) refl
    refl

pub returns-in_default-clause-ok : goal.returns-in_default-clause-ok
returns-in_default-clause-ok c g k p whole st paired named =
    refused_by (λ n m given. with_new_channel given c.args.ids PIPE) g c.args.kernel.now c.args.kernel.now
    c.args.transfer.now c.args.transfer.now (pipe2_row k p c.args.flags) ENFILE
    (pipe_unnumbered k p c.args.flags (sym c.are_making_flags.ensures ∙ c.if-not-are_making_flags.false)
    (none_left (has_numbers k p) _ (sym c.in_default.is ∙ named))) refl refl

pub returns-clause-ok : goal.returns-clause-ok
returns-clause-ok c =
    IfOk-weaker c.make_channel.result _ _ (λ a serves g k p whole st paired named.
    subst (λ (x : Option ChannelIds × Try Served). Serves ByNumber
    (λ n m given. with_new_channel given x.0 PIPE) g
    c.args.kernel.now c.make_channel.new.kernel c.args.transfer.now c.make_channel.new.transfer a x.1)
    (λ i. (
      sym c.in-Some.is i,
      pipe_told k p c.args.flags (sym c.are_making_flags.ensures ∙ c.if-not-are_making_flags.false)
          c.has_cloexec.result c.status_flags.result c.status_flags-2.result c.has_cloexec.ensures
          c.status_flags.ensures c.status_flags-2.ensures i,
    )) (serves g k p whole st paired PIPE (sym c.in-Some.is ∙ named)))
    c.make_channel.ensures.ok
