use Rattle.host_sockets.proofs.Accepts.{first_there, accept_gives}
use Rattle.host_sockets.proofs.accepting.take_waiting.Goals as goal

pub accept-requires : goal.accept-requires
accept-requires c =
    first_there c.args.kernel.now.net c.args.found.at c.args.found.conn c.requires.first

pub returns-in-Ok-clause-ok : goal.returns-in-Ok-clause-ok
returns-in-Ok-clause-ok c =
    let net =
    accept_gives c.args.kernel.now.net c.args.found.at c.args.found.conn c.accept.result
    c.accept.ensures.answer
    c.requires.first _ c.accept.ensures.ok in
    record {
      lowest = c.in-Ok.ensures.lowest;
      after = λ i. record c.args.kernel.now { book = c.in-Ok.ensures.ok i; net = net i };
    }
