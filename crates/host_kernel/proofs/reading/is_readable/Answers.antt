use Rattle.std.proofs.Common.{◌≡◌, true, refl, ap, ◌∙◌}
use Rattle.fd_tables.specs.declared.description.Object.TheVariants as object
use Rattle.plain_machine.specs.Rows.Read.{is_readable}
use Rattle.plain_machine.specs.Transfers.Datagrams.{has_message}
use Rattle.host_files.specs.OfHostDescriptors.Held.{seen_held}
use Rattle.host_kernel.proofs.Objects.{for_object}
use Rattle.host_kernel.proofs.reading.is_readable.Goals as goal

pub returns-in-Stream : goal.returns-in-Stream
returns-in-Stream c g k whole st =
    let real = c.args.kernel.now in
    let h = c.args.held in
    for_object g real h (λ o. c.is_receivable.result ≡ is_readable k (seen_held g real h) c.args.count o)
    (object.Stream c.in-Stream.conn c.in-Stream.side) c.in-Stream.is
    (c.is_receivable.ensures g k st)

pub returns-in-Datagram : goal.returns-in-Datagram
returns-in-Datagram c g k whole st =
    let real = c.args.kernel.now in
    let h = c.args.held in
    for_object g real h (λ o. c.has_message.result ≡ is_readable k (seen_held g real h) c.args.count o)
    (object.Datagram c.in-Datagram.queue c.in-Datagram.side) c.in-Datagram.is
    (c.has_message.ensures g k st ∙ ap (has_message k h.desc) c.peer_at.ensures)

pub returns-in-Counter : goal.returns-in-Counter
returns-in-Counter c g k whole st =
    let real = c.args.kernel.now in
    let h = c.args.held in
    for_object g real h (λ o. c.is_counted.result ≡ is_readable k (seen_held g real h) c.args.count o)
    (object.Counter c.in-Counter.value) c.in-Counter.is c.is_counted.ensures

pub returns-in-Console : goal.returns-in-Console
returns-in-Console c g k whole st =
    let real = c.args.kernel.now in
    let h = c.args.held in
    for_object g real h (λ o. true ≡ is_readable k (seen_held g real h) c.args.count o) object.Console
    c.in-Console.is refl

pub returns-in-File : goal.returns-in-File
returns-in-File c g k whole st =
    let real = c.args.kernel.now in
    let h = c.args.held in
    for_object g real h (λ o. true ≡ is_readable k (seen_held g real h) c.args.count o)
    (object.File c.in-File.number c.in-File.offset) c.in-File.is refl

pub returns-in-Socket : goal.returns-in-Socket
returns-in-Socket c g k whole st =
    let real = c.args.kernel.now in
    let h = c.args.held in
    for_object g real h (λ o. true ≡ is_readable k (seen_held g real h) c.args.count o) object.Socket
    c.in-Socket.is refl

pub returns-in-Listener : goal.returns-in-Listener
returns-in-Listener c g k whole st =
    let real = c.args.kernel.now in
    let h = c.args.held in
    for_object g real h (λ o. true ≡ is_readable k (seen_held g real h) c.args.count o)
    (object.Listener c.in-Listener.at) c.in-Listener.is refl
