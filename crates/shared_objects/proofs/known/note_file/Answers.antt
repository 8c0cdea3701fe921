use Rattle.shared_objects.proofs.KnownKeys.{file_noted}
use Rattle.shared_objects.proofs.known.note_file.Goals as goal

pub returns-in_ok-insert-in-File : goal.returns-in_ok-insert-in-File
returns-in_ok-insert-in-File c = rw c.in-File.is (file_noted c.args.numbers.now c.insert.new.self _ c.in_ok-insert-in-File.ensures.ok)
