use Rattle.std.proofs.Common.{refl, inl}
use Rattle.disk_folder.specs.Crash.{Same, CutOrNot}
use Rattle.set_disk.proofs.UntoldPasses.{untold_passes}
use Rattle.set_disk.proofs.host_folder.HostFolderFolder.cut.Goals as goal

pub returns-clause-crash : goal.returns-clause-crash
returns-clause-crash g c = untold_passes (CutOrNot c.args.name c.args.len) (λ files. inl refl) c.args.self.now.faults c.count.new.self.faults

pub returns-clause-memory_crash : goal.returns-clause-memory_crash
returns-clause-memory_crash g c _ = untold_passes Same (λ files. refl) c.args.self.now.faults c.count.new.self.faults
