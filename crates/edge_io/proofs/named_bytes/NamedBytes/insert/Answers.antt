use Rattle.edge_io.proofs.FilesOf.{files_of-insert_at}
use Rattle.edge_io.proofs.named_bytes.NamedBytes.insert.Goals as goal

pub returns-clause-ok : goal.returns-clause-ok
returns-clause-ok c =
    files_of-insert_at c.self.inside.entries c.insert.new.self c.in_ok-name.name c.in_ok-bytes.bytes c.args.self.now c.args.name.now c.args.bytes.now
    c.in_ok-insert.ensures.updates c.self.view_is c.in_ok-name.ensures.ok c.in_ok-bytes.ensures.items
