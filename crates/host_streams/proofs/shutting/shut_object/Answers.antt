use Rattle.std.proofs.Common.{◌≡◌, true, false, refl, sym, ap, ◌∙◌, subst, arith}
use Rattle.std.specs.Prelude.{nat_le}
use Rattle.std.proofs.lemmas.Bool.Decides.{nat_tests}
use Rattle.sys_abi.specs.declared.errors.TheConstants.{EINVAL, ENOTCONN}
use Rattle.plain_machine.specs.Rows.Sockets.{shut, shut_object}
use Rattle.host_processes.specs.OfHostTables.declared.attempt.Attempt.TheVariants as answer
use Rattle.host_processes.specs.OfHostTables.Descriptions.{seen_object}
use Rattle.host_processes.specs.OfHostTables.Serves.{Serves, ByNumber, same}
use Rattle.host_processes.proofs.OfHostTables.Replies.{gave, refused}
use Rattle.host_streams.proofs.SocketRows.{shut_gives, shut_invalid, shut_refused, stream_is}
use Rattle.host_streams.proofs.shutting.shut_object.Goals as goal

pub returns-then-how-gt2-clause-row : goal.returns-then-how-gt2-clause-row
returns-then-how-gt2-clause-row c g k id x st =
    let real = c.args.kernel.now in
    let far = c.if-how-gt2.true in
    let unknown : nat_le c.args.how 2 ≡ false = grind (arith, nat_tests, far) in
    refused g real x ByNumber EINVAL
    (shut_object k c.args.how (seen_object g.names real.datagrams id c.args.object))
    (shut_invalid k g.names real.datagrams id c.args.how unknown c.args.object
    (stream_is c.args.object c.in-Stream.conn c.in-Stream.side c.in-Stream.is))

pub returns-then-how-gt2-2 : goal.returns-then-how-gt2-2
returns-then-how-gt2-2 c = record {
  row = λ g k id x st.
      let real = c.args.kernel.now in
      let far = c.if-how-gt2-2.true in
      let unknown : nat_le c.args.how 2 ≡ false = grind (arith, nat_tests, far) in
      refused g real x ByNumber EINVAL
      (shut_object k c.args.how (seen_object g.names real.datagrams id c.args.object))
      (shut_invalid k g.names real.datagrams id c.args.how unknown c.args.object c.in_default.not-Datagram);
  nodes = refl;
  next = refl;
}

pub returns-else-how-gt2-clause-row : goal.returns-else-how-gt2-clause-row
returns-else-how-gt2-clause-row c g k id x st =
    let real = c.args.kernel.now in
    let conn = c.in-Stream.conn in
    let side = c.in-Stream.side in
    let near = c.if-how-gt2.false in
    let known : nat_le c.args.how 2 ≡ true = grind (arith, nat_tests, near) in
    subst (Serves ByNumber same g real c.shut.new.kernel x x (answer.Gives 0))
    (sym (ap (λ o. shut_object k c.args.how (seen_object g.names real.datagrams id o)) c.in-Stream.is
    ∙ shut_gives k g.names real.datagrams id c.args.how known conn side))
    (gave g real x ByNumber (record k { directions = shut k.directions conn side c.args.how }) 0 0 refl
    c.shut.new.kernel (c.shut.ensures.stands g k st) (answer.Gives 0) refl)

pub returns-else-how-gt2-2 : goal.returns-else-how-gt2-2
returns-else-how-gt2-2 c = record {
  row = λ g k id x st.
      let real = c.args.kernel.now in
      let near = c.if-how-gt2-2.false in
      let known : nat_le c.args.how 2 ≡ true = grind (arith, nat_tests, near) in
      refused g real x ByNumber ENOTCONN
      (shut_object k c.args.how (seen_object g.names real.datagrams id c.args.object))
      (shut_refused k g.names real.datagrams id c.args.how known c.args.object c.in_default.not-Datagram
      c.in_default.not-Stream);
  nodes = refl;
  next = refl;
}
