use Rattle.std.proofs.Common.{List, refl, ap, subst, length}
use Rattle.std.proofs.lemmas.Result.{IfOk-weaker}
use Rattle.views.specs.Numbers.{Byte}
use Rattle.sys_abi.specs.declared.identity.DescId.{DescId}
use Rattle.fd_tables.specs.declared.description.Object.TheVariants as object
use Rattle.plain_tables.specs.declared.description.Object.TheVariants as plain
use Rattle.plain_machine.specs.Rows.Write.{write_object}
use Rattle.host_tables.specs.declared.attempt.Attempt.TheVariants as answer
use Rattle.host_tables.specs.Serves.{Serves, ByNumber, same}
use Rattle.host_files.specs.OfHostDescriptors.Held.{seen_held}
use Rattle.host_kernel.proofs.Objects.{for_object}
use Rattle.host_kernel.proofs.writing.write_object.Goals as goal

pub returns-in-Console-clause-ok : goal.returns-in-Console-clause-ok
returns-in-Console-clause-ok c g k p whole st paired t thread =
    let real = c.args.kernel.now in
    let given = c.args.transfer.now in
    for_object g real c.args.held
    (λ o. Serves ByNumber same g real real given given (answer.Gives (length c.as_slice.result.now))
    (write_object k p t (seen_held g real c.args.held) c.args.count given o))
    object.Console c.in-Console.is
    (record { reply = ap (λ (x : List Byte). length x) c.as_slice.ensures.value; bytes = refl; stands = st })

pub returns-in-File-clause-ok : goal.returns-in-File-clause-ok
returns-in-File-clause-ok c =
    let real = c.args.kernel.now in
    let given = c.args.transfer.now in
    IfOk-weaker c.write_file.result _ _ (λ a serves g k p whole st paired t thread.
    for_object g real c.args.held (λ o. Serves ByNumber same g real c.write_file.new.kernel given given a
    (write_object k p t (seen_held g real c.args.held) c.args.count given o))
    (object.File c.in-File.number c.in-File.offset) c.in-File.is
    (serves g k st))
    c.write_file.ensures.ok

pub returns-in-Stream-clause-ok : goal.returns-in-Stream-clause-ok
returns-in-Stream-clause-ok c g k p whole st paired t thread =
    let real = c.args.kernel.now in
    let given = c.args.transfer.now in
    for_object g real c.args.held
    (λ o. Serves ByNumber same g real c.write_stream.new.kernel given given c.write_stream.result
    (write_object k p t (seen_held g real c.args.held) c.args.count given o))
    (object.Stream c.in-Stream.conn c.in-Stream.side) c.in-Stream.is
    (c.write_stream.ensures.row g k p whole st paired t thread)

pub returns-in-Socket-clause-ok : goal.returns-in-Socket-clause-ok
returns-in-Socket-clause-ok c g k p whole st paired t thread =
    let real = c.args.kernel.now in
    let given = c.args.transfer.now in
    for_object g real c.args.held
    (λ o. Serves ByNumber same g real c.broken_pipe.new.kernel given given c.broken_pipe.result
    (write_object k p t (seen_held g real c.args.held) c.args.count given o))
    object.Socket c.in-Socket.is
    (c.broken_pipe.ensures.row g k p whole st paired t given thread)

pub returns-in-Listener-clause-ok : goal.returns-in-Listener-clause-ok
returns-in-Listener-clause-ok c g k p whole st paired t thread =
    let real = c.args.kernel.now in
    let given = c.args.transfer.now in
    for_object g real c.args.held
    (λ o. Serves ByNumber same g real c.broken_pipe-in-Listener.new.kernel given given
    c.broken_pipe-in-Listener.result
    (write_object k p t (seen_held g real c.args.held) c.args.count given o))
    (object.Listener c.in-Listener.at) c.in-Listener.is
    (c.broken_pipe-in-Listener.ensures.row g k p whole st paired t given thread)

pub returns-in-Datagram-clause-ok : goal.returns-in-Datagram-clause-ok
returns-in-Datagram-clause-ok c =
    let real = c.args.kernel.now in
    let given = c.args.transfer.now in
    IfOk-weaker c.write_message.result _ _ (λ a serves g k p whole st paired t thread.
    for_object g real c.args.held (λ o. Serves ByNumber same g real c.write_message.new.kernel given given a
    (write_object k p t (seen_held g real c.args.held) c.args.count given o))
    (object.Datagram c.in-Datagram.queue c.in-Datagram.side) c.in-Datagram.is
    (subst (λ (peer : DescId). Serves ByNumber same g real c.write_message.new.kernel given given a
    (write_object k p t (seen_held g real c.args.held) c.args.count given (plain.Datagram peer)))
    c.peer_at-peer.ensures (serves g k st)))
    c.write_message.ensures.ok

pub returns-in-Counter-clause-ok : goal.returns-in-Counter-clause-ok
returns-in-Counter-clause-ok c g k p whole st paired t thread =
    let real = c.args.kernel.now in
    let given = c.args.transfer.now in
    for_object g real c.args.held
    (λ o. Serves ByNumber same g real c.write_counter.new.kernel given given c.write_counter.result
    (write_object k p t (seen_held g real c.args.held) c.args.count given o))
    (object.Counter c.in-Counter.value) c.in-Counter.is
    (c.write_counter.ensures.row g k st)
