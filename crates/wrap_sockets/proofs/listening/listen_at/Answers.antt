use Rattle.wrap_sockets.proofs.ListenedCalls.{undone}
use Rattle.wrap_sockets.proofs.listening.listen_at.Goals as goal

pub returns-in_default : goal.returns-in_default
returns-in_default c =
    let s = c.args.system.now in
    let net = undone s.kernel.net c.listen.new.self c.close_listener.new.self c.in-Ok.at c.waiting_room.result
    c.in-Ok.ensures.port.free c.in-Ok.ensures.ok c.close_listener.ensures in
    λ i. record s {
      kernel = record s.kernel { net = net i };
      ids = c.in_default.ensures.ids i;
      conns = c.in_default.ensures.conns i;
    }
