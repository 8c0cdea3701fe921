use Rattle.edge_io.specs.Sunk.{sunk}
use Rattle.drive.proofs.HandedOn.{took_nothing}
use Rattle.dmtcp_top.proofs.RingHalves.{told_so}
use Rattle.dmtcp_top.proofs.ring.go_round.Goals as goal

pub returns-in-Ok-clause-ends : goal.returns-in-Ok-clause-ends
returns-in-Ok-clause-ends g c =
    let console = sunk (g.O.Sink.seen c.args.out.now).taken (g.O.Sink.seen c.tell_values.new.out).taken in
    let log = sunk (g.L.Sink.seen c.args.log.now).taken (g.L.Sink.seen c.both_halves.new.log).taken in
    told_so c.args.ring c.both_halves.new.trace.records (g.F.Folder.seen c.args.disk.now) (g.F.Folder.seen c.both_halves.new.disk) c.in-Ok.values console log
    (c.in-Ok.ensures.ends c.args.ring c.requires.halves) c.tell_values.result c.tell_values.ensures.told

pub returns-in-Err-clause-ends : goal.returns-in-Err-clause-ends
returns-in-Err-clause-ends g c =
    let taken = (g.O.Sink.seen c.args.out.now).taken in
    c.in-Err.ensures.ends c.args.ring c.requires.halves (sunk taken taken) (took_nothing taken)
