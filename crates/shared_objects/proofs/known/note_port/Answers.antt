use Rattle.shared_objects.proofs.KnownKeys.{port_noted}
use Rattle.shared_objects.proofs.known.note_port.Goals as goal

pub returns-in_ok-insert-in-Socket : goal.returns-in_ok-insert-in-Socket
returns-in_ok-insert-in-Socket c = rw c.in-Socket.is (port_noted c.args.ports.now c.insert.new.self _ c.in_ok-insert-in-Socket.ensures.ok)

pub returns-in_ok-insert-in-Listener : goal.returns-in_ok-insert-in-Listener
returns-in_ok-insert-in-Listener c = rw c.in-Listener.is (port_noted c.args.ports.now c.insert-in-Listener.new.self _ c.in_ok-insert-in-Listener.ensures.ok)
