use Rattle.std.proofs.Common.{refl}
use Rattle.sys_abi.specs.declared.errors.TheConstants.{ENOTCONN}
use Rattle.fd_tables.specs.declared.description.Object.TheVariants as object
use Rattle.plain_machine.specs.Rows.Read.{read_object}
use Rattle.host_tables.specs.declared.attempt.Attempt.TheVariants as answer
use Rattle.host_tables.specs.Serves.{Serves, ByNumber, same}
use Rattle.host_files.specs.OfHostDescriptors.Held.{seen_held}
use Rattle.host_kernel.proofs.Objects.{for_object}
use Rattle.host_kernel.proofs.reading.read_object.Goals as goal

pub returns-in-Console : goal.returns-in-Console
returns-in-Console c g k st =
    let real = c.args.kernel.now in
    let x = c.args.transfer.now in
    for_object g real c.args.held
    (λ o. Serves ByNumber same g real real x x (answer.Gives 0)
    (read_object k (seen_held g real c.args.held) c.args.count o))
    object.Console c.in-Console.is (record { reply = refl; bytes = refl; stands = st })

pub returns-in-File : goal.returns-in-File
returns-in-File c g k st =
    let real = c.args.kernel.now in
    for_object g real c.args.held (λ o. Serves ByNumber same g real c.read_file.new.kernel c.args.transfer.now
    c.read_file.new.transfer c.read_file.result (read_object k (seen_held g real c.args.held) c.args.count o))
    (object.File c.in-File.number c.in-File.offset) c.in-File.is (c.read_file.ensures g k st)

pub returns-in-Stream : goal.returns-in-Stream
returns-in-Stream c g k st =
    let real = c.args.kernel.now in
    for_object g real c.args.held (λ o. Serves ByNumber same g real c.read_stream.new.kernel
    c.args.transfer.now
    c.read_stream.new.transfer c.read_stream.result
    (read_object k (seen_held g real c.args.held) c.args.count o))
    (object.Stream c.in-Stream.conn c.in-Stream.side) c.in-Stream.is (c.read_stream.ensures.row g k st)

pub returns-in-Socket : goal.returns-in-Socket
returns-in-Socket c g k st =
    let real = c.args.kernel.now in
    let x = c.args.transfer.now in
    for_object g real c.args.held (λ o. Serves ByNumber same g real real x x
    (answer.Fails (record { 0 = ENOTCONN })) (read_object k (seen_held g real c.args.held) c.args.count o))
    object.Socket c.in-Socket.is (record { answer = refl; kernel = refl; bytes = refl })

pub returns-in-Listener : goal.returns-in-Listener
returns-in-Listener c g k st =
    let real = c.args.kernel.now in
    let x = c.args.transfer.now in
    for_object g real c.args.held (λ o. Serves ByNumber same g real real x x
    (answer.Fails (record { 0 = ENOTCONN })) (read_object k (seen_held g real c.args.held) c.args.count o))
    (object.Listener c.in-Listener.at) c.in-Listener.is
    (record { answer = refl; kernel = refl; bytes = refl })

pub returns-in-Datagram : goal.returns-in-Datagram
returns-in-Datagram c g k st =
    let real = c.args.kernel.now in
    for_object g real c.args.held (λ o. Serves ByNumber same g real c.read_message.new.kernel
    c.args.transfer.now
    c.read_message.new.transfer c.read_message.result
    (read_object k (seen_held g real c.args.held) c.args.count o))
    (object.Datagram c.in-Datagram.queue c.in-Datagram.side) c.in-Datagram.is (c.read_message.ensures g k st)

pub returns-in-Counter : goal.returns-in-Counter
returns-in-Counter c g k st =
    let real = c.args.kernel.now in
    for_object g real c.args.held (λ o. Serves ByNumber same g real c.read_counter.new.kernel
    c.args.transfer.now
    c.read_counter.new.transfer c.read_counter.result
    (read_object k (seen_held g real c.args.held) c.args.count o))
    (object.Counter c.in-Counter.value) c.in-Counter.is (c.read_counter.ensures.row g k st)
