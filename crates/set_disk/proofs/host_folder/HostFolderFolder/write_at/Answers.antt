use Rattle.std.proofs.Common.{refl, length}
use Rattle.disk_folder.specs.Crash.{Same, Torn}
use Rattle.disk_folder.proofs.TornFiles.{same_torn}
use Rattle.set_disk.proofs.UntoldPasses.{untold_passes}
use Rattle.set_disk.proofs.host_folder.HostFolderFolder.write_at.Goals as goal

pub returns-clause-crash : goal.returns-clause-crash
returns-clause-crash g c = untold_passes (Torn c.args.name c.args.at (length c.args.bytes.now)) (same_torn c.args.name c.args.at (length c.args.bytes.now)) c.args.self.now.faults c.count_write.new.self.faults

pub returns-clause-memory_crash : goal.returns-clause-memory_crash
returns-clause-memory_crash g c _ = untold_passes Same (λ files. refl) c.args.self.now.faults c.count_write.new.self.faults
