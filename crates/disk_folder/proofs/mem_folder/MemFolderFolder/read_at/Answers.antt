use Rattle.disk_folder.specs.declared.request.Request.TheVariants.{Look}
use Rattle.disk_folder.proofs.MemoryFolders.{passes}
use Rattle.disk_folder.proofs.mem_folder.MemFolderFolder.read_at.Goals as goal

pub returns-in_err-make-clause-crash : goal.returns-in_err-make-clause-crash
returns-in_err-make-clause-crash c = passes Look c.args.self.now c.make.new.self c.make.result c.make.ensures

pub returns-clause-crash : goal.returns-clause-crash
returns-clause-crash c = passes Look c.args.self.now c.make.new.self c.make.result c.make.ensures
