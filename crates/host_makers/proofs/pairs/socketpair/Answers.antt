use Rattle.std.proofs.Common.{Bool, true, false, refl, sym, ◌∙◌, subst}
use Rattle.std.specs.Prelude.{◌==◌, ◌%◌, if◌then◌else◌}
use Rattle.std.proofs.lemmas.Bool.{eq-eqb, ne_eqb}
use Rattle.std.proofs.lemmas.Result.{IfOk-weaker}
use Rattle.sys_abi.specs.declared.errors.TheConstants.{EINVAL, EAFNOSUPPORT, EOPNOTSUPP}
use Rattle.plain_process.specs.Attempts.{Try}
use Rattle.plain_machine.specs.Attempts.{Served}
use Rattle.plain_machine.specs.Rows.Channels.{STREAMS, socketpair_row}
use Rattle.host_tables.specs.Serves.{Serves, ByNumber, PAIR, with_new_channel}
use Rattle.host_makers.proofs.Answered.{refused_by}
use Rattle.host_makers.proofs.PairRows.{pair_internet, pair_foreign, pair_refused, pair_is}
use Rattle.host_makers.proofs.pairs.socketpair.Goals as goal

pub returns-then-domain-eq-AF_INET-clause-ok : goal.returns-then-domain-eq-AF_INET-clause-ok
returns-then-domain-eq-AF_INET-clause-ok c g k p whole st paired streams datagrams =
    refused_by (λ n m given. if c.args.socket_type % 16 == STREAMS then with_new_channel given
    c.args.streams PAIR else given)
    g c.args.kernel.now c.args.kernel.now c.args.transfer.now c.args.transfer.now
    (socketpair_row k p c.args.domain c.args.socket_type c.args.protocol) EOPNOTSUPP
    (pair_internet k p c.args.domain c.args.socket_type c.args.protocol
    (eq-eqb c.args.domain 2 c.if-domain-eq-AF_INET.true)) refl refl

pub returns-then-domain-ne-AF_UNIX-clause-ok : goal.returns-then-domain-ne-AF_UNIX-clause-ok
returns-then-domain-ne-AF_UNIX-clause-ok c g k p whole st paired streams datagrams =
    refused_by (λ n m given. if c.args.socket_type % 16 == STREAMS then with_new_channel given
    c.args.streams PAIR else given)
    g c.args.kernel.now c.args.kernel.now c.args.transfer.now c.args.transfer.now
    (socketpair_row k p c.args.domain c.args.socket_type c.args.protocol) EAFNOSUPPORT
    (pair_foreign k p c.args.domain c.args.socket_type c.args.protocol
    (ne_eqb c.args.domain 2 c.if-domain-eq-AF_INET.false)
    (ne_eqb c.args.domain 1 c.if-domain-ne-AF_UNIX.true)) refl refl

pub returns-then-not-is_pair-clause-ok : goal.returns-then-not-is_pair-clause-ok
returns-then-not-is_pair-clause-ok c g k p whole st paired streams datagrams =
    refused_by (λ n m given. if c.args.socket_type % 16 == STREAMS then with_new_channel given
    c.args.streams PAIR else given)
    g c.args.kernel.now c.args.kernel.now c.args.transfer.now c.args.transfer.now
    (socketpair_row k p c.args.domain c.args.socket_type c.args.protocol) EINVAL
    (pair_refused k p c.args.domain c.args.socket_type c.args.protocol
    (ne_eqb c.args.domain 2 c.if-domain-eq-AF_INET.false)
    (eq-eqb c.args.domain 1 c.if-domain-ne-AF_UNIX.false)
    (sym c.is_pair.ensures ∙ c.if-not-is_pair.true)) refl refl

pub returns-then-socket_type-eq-STREAMS-clause-ok : goal.returns-then-socket_type-eq-STREAMS-clause-ok
returns-then-socket_type-eq-STREAMS-clause-ok c =
    let is_streams = eq-eqb (c.args.socket_type % 16) STREAMS c.if-socket_type-eq-STREAMS.true in
    IfOk-weaker c.stream_pair.result _ _ (λ a serves g k p whole st paired streams datagrams.
    subst (λ (x : Bool × Try Served). Serves ByNumber
    (λ n m given. if x.0 then with_new_channel given c.args.streams PAIR else given) g c.args.kernel.now
    c.stream_pair.new.kernel c.args.transfer.now c.stream_pair.new.transfer a x.1)
    (λ i. (
      sym is_streams i,
      sym (pair_is k p c.args.domain c.args.socket_type c.args.protocol true
          (ne_eqb c.args.domain 2 c.if-domain-eq-AF_INET.false)
          (eq-eqb c.args.domain 1 c.if-domain-ne-AF_UNIX.false)
          (sym c.is_pair.ensures ∙ c.if-not-is_pair.false) is_streams) i,
    )) (serves g k p whole st paired streams))
    c.stream_pair.ensures.ok

pub returns-else-socket_type-eq-STREAMS-clause-ok : goal.returns-else-socket_type-eq-STREAMS-clause-ok
returns-else-socket_type-eq-STREAMS-clause-ok c =
    let is_streams = ne_eqb (c.args.socket_type % 16) STREAMS c.if-socket_type-eq-STREAMS.false in
    IfOk-weaker c.datagram_pair.result _ _ (λ a serves g k p whole st paired streams datagrams.
    subst (λ (x : Bool × Try Served). Serves ByNumber
    (λ n m given. if x.0 then with_new_channel given c.args.streams PAIR else given) g c.args.kernel.now
    c.datagram_pair.new.kernel c.args.transfer.now c.datagram_pair.new.transfer a x.1)
    (λ i. (
      sym is_streams i,
      sym (pair_is k p c.args.domain c.args.socket_type c.args.protocol false
          (ne_eqb c.args.domain 2 c.if-domain-eq-AF_INET.false)
          (eq-eqb c.args.domain 1 c.if-domain-ne-AF_UNIX.false)
          (sym c.is_pair.ensures ∙ c.if-not-is_pair.false) is_streams) i,
    )) (serves g k p whole st paired datagrams))
    c.datagram_pair.ensures.ok
