use Rattle.std.proofs.Common.{inl, refl}
use Rattle.disk_folder.specs.declared.request.Request.TheVariants.{Cut}
use Rattle.disk_folder.proofs.MemoryFolders.{passes, memory_passes, failed_reads}
use Rattle.disk_folder.proofs.mem_folder.MemFolderFolder.cut.Goals as goal

pub returns-clause-failed : goal.returns-clause-failed
returns-clause-failed c is = (_, failed_reads (Cut c.args.name c.args.len) c.args.self.now c.make.new.self c.make.result c.make.ensures is, inl refl)

pub returns-clause-crash : goal.returns-clause-crash
returns-clause-crash c = passes (Cut c.args.name c.args.len) c.args.self.now c.make.new.self c.make.result c.make.ensures

pub returns-clause-memory_crash : goal.returns-clause-memory_crash
returns-clause-memory_crash c = memory_passes (Cut c.args.name c.args.len) c.args.self.now c.make.new.self c.make.result c.make.ensures
