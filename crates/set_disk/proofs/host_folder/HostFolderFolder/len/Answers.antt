use Rattle.std.proofs.Common.{refl}
use Rattle.disk_folder.specs.Crash.{Same}
use Rattle.set_disk.proofs.UntoldPasses.{untold_passes}
use Rattle.set_disk.proofs.host_folder.HostFolderFolder.len.Goals as goal

pub returns-clause-crash : goal.returns-clause-crash
returns-clause-crash g c = untold_passes Same (λ files. refl) c.args.self.now.faults c.count.new.self.faults
