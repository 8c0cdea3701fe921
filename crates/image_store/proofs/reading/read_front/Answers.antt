use Rattle.image_store.proofs.Passing.{nothing_none}
use Rattle.image_store.proofs.reading.read_front.Goals as goal

pub returns-in_err-bytes-clause-nothing : goal.returns-in_err-bytes-clause-nothing
returns-in_err-bytes-clause-nothing g c = nothing_none (g.F.Folder.seen c.args.disk.now)
