use Rattle.std.proofs.Common.{◌≡◌, true, refl, sym, ap, ◌∙◌, subst}
use Rattle.fd_tables.specs.declared.description.Object as real_object
use Rattle.fd_tables.specs.declared.description.Object.TheVariants as object
use Rattle.plain_machine.specs.Rows.Write.{is_writable}
use Rattle.plain_machine.specs.Transfers.Datagrams.{takes_message}
use Rattle.host_kernel.specs.Access.{MayTake}
use Rattle.host_kernel.proofs.Objects.{for_object}
use Rattle.host_kernel.proofs.writing.is_writable.Goals as goal

pub returns-in-Stream-clause-ready : goal.returns-in-Stream-clause-ready
returns-in-Stream-clause-ready c g k whole st =
    let real = c.args.kernel.now in
    let h = c.args.held in
    for_object g real h (λ o. c.is_sendable.result ≡ is_writable k c.args.count c.args.front.now o)
    (object.Stream c.in-Stream.conn c.in-Stream.side) c.in-Stream.is
    (c.is_sendable.ensures g k st)

pub returns-in-Stream-clause-takes : goal.returns-in-Stream-clause-takes
returns-in-Stream-clause-takes c is =
    subst (λ (o : real_object.Object). MayTake o c.args.count c.args.front.now) (sym c.in-Stream.is) tt

pub returns-in-Datagram-clause-ready : goal.returns-in-Datagram-clause-ready
returns-in-Datagram-clause-ready c g k whole st =
    let real = c.args.kernel.now in
    let h = c.args.held in
    for_object g real h (λ o. c.takes_message.result ≡ is_writable k c.args.count c.args.front.now o)
    (object.Datagram c.in-Datagram.queue c.in-Datagram.side) c.in-Datagram.is
    (c.takes_message.ensures g k st ∙ ap (λ peer. takes_message k peer c.args.count) c.peer_at.ensures)

pub returns-in-Datagram-clause-takes : goal.returns-in-Datagram-clause-takes
returns-in-Datagram-clause-takes c is =
    subst (λ (o : real_object.Object). MayTake o c.args.count c.args.front.now) (sym c.in-Datagram.is) tt

pub returns-in-Counter-clause-ready : goal.returns-in-Counter-clause-ready
returns-in-Counter-clause-ready c g k whole st =
    let real = c.args.kernel.now in
    let h = c.args.held in
    for_object g real h (λ o. c.takes_more.result ≡ is_writable k c.args.count c.args.front.now o)
    (object.Counter c.in-Counter.value) c.in-Counter.is
    c.takes_more.ensures

pub returns-in-Counter-clause-takes : goal.returns-in-Counter-clause-takes
returns-in-Counter-clause-takes c is =
    subst (λ (o : real_object.Object). MayTake o c.args.count c.args.front.now) (sym c.in-Counter.is)
    (sym c.takes_more.ensures ∙ is)

pub returns-in-Console-clause-ready : goal.returns-in-Console-clause-ready
returns-in-Console-clause-ready c g k whole st =
    let real = c.args.kernel.now in
    let h = c.args.held in
    for_object g real h (λ o. true ≡ is_writable k c.args.count c.args.front.now o)
    object.Console c.in-Console.is
    refl

pub returns-in-Console-clause-takes : goal.returns-in-Console-clause-takes
returns-in-Console-clause-takes c is =
    subst (λ (o : real_object.Object). MayTake o c.args.count c.args.front.now) (sym c.in-Console.is) tt

pub returns-in-File-clause-ready : goal.returns-in-File-clause-ready
returns-in-File-clause-ready c g k whole st =
    let real = c.args.kernel.now in
    let h = c.args.held in
    for_object g real h (λ o. true ≡ is_writable k c.args.count c.args.front.now o)
    (object.File c.in-File.number c.in-File.offset) c.in-File.is
    refl

pub returns-in-File-clause-takes : goal.returns-in-File-clause-takes
returns-in-File-clause-takes c is =
    subst (λ (o : real_object.Object). MayTake o c.args.count c.args.front.now) (sym c.in-File.is) tt

pub returns-in-Socket-clause-ready : goal.returns-in-Socket-clause-ready
returns-in-Socket-clause-ready c g k whole st =
    let real = c.args.kernel.now in
    let h = c.args.held in
    for_object g real h (λ o. true ≡ is_writable k c.args.count c.args.front.now o)
    object.Socket c.in-Socket.is
    refl

pub returns-in-Socket-clause-takes : goal.returns-in-Socket-clause-takes
returns-in-Socket-clause-takes c is =
    subst (λ (o : real_object.Object). MayTake o c.args.count c.args.front.now) (sym c.in-Socket.is) tt

pub returns-in-Listener-clause-ready : goal.returns-in-Listener-clause-ready
returns-in-Listener-clause-ready c g k whole st =
    let real = c.args.kernel.now in
    let h = c.args.held in
    for_object g real h (λ o. true ≡ is_writable k c.args.count c.args.front.now o)
    (object.Listener c.in-Listener.at) c.in-Listener.is
    refl

pub returns-in-Listener-clause-takes : goal.returns-in-Listener-clause-takes
returns-in-Listener-clause-takes c is =
    subst (λ (o : real_object.Object). MayTake o c.args.count c.args.front.now) (sym c.in-Listener.is) tt
