use Rattle.rebuild_tables.proofs.FilledDirections.{put_told}
use Rattle.rebuild_tables.proofs.directions.put_bytes.Goals as goal

pub returns : goal.returns
returns c =
    put_told c.args.net.now c.send.new.self c.move_bytes.new.self c.move_bytes-2.new.self c.args.d
    c.args.bytes.now c.in-Ok.count c.requires.new c.requires.fits c.in-Ok.ensures.answer c.in-Ok.ensures.ok
    c.move_bytes.ensures.after c.move_bytes-2.ensures.after
