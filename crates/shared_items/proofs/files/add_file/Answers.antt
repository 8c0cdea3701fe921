use Rattle.shared_items.proofs.Names.{name_pushed}
use Rattle.shared_items.proofs.files.add_file.Goals as goal

pub returns-clause-names : goal.returns-clause-names
returns-clause-names c =
    rw c.in_ok-push.ensures.ok (name_pushed c.args.names.now c.note_name.new.names c.args.files.now c.in_ok-file.file c.as_slice-2.result.now c.as_slice-2.ensures c.in_ok-note_name.ensures c.requires.names)
