use Rattle.checkpointer.proofs.FilesOfProcesses.{file_of}
use Rattle.checkpointer.proofs.set_files.process_file.Goals as goal

pub returns : goal.returns
returns c =
    let image = c.in_ok-image.ensures in
    file_of c.args.guest.now c.in_ok-image.image c.in_ok-file.file.items c.from_vec.result image.pid image.user image.threads c.in_ok-file.ensures c.from_vec.ensures
