use Rattle.disk_folder.specs.declared.request.Request.TheVariants.{Sync}
use Rattle.disk_folder.proofs.MemoryFolders.{passes, settled_by}
use Rattle.disk_folder.proofs.mem_folder.MemFolderFolder.sync.Goals as goal

pub returns-clause-durable : goal.returns-clause-durable
returns-clause-durable c = settled_by c.args.self.now c.make.new.self c.make.result c.make.ensures

pub returns-clause-crash : goal.returns-clause-crash
returns-clause-crash c = passes Sync c.args.self.now c.make.new.self c.make.result c.make.ensures
