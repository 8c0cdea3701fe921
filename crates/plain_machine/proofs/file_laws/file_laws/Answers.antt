use Rattle.plain_machine.proofs.MadeDescriptions.{whole_made}
use Rattle.plain_machine.proofs.MarkedDescriptors.{whole_marked}
use Rattle.plain_machine.proofs.WholeObjects.{whole_described, whole_object, whole_rewritten}
use Rattle.plain_machine.proofs.WholeUnnamed.{whole_unnamed}
use Rattle.plain_machine.proofs.file_laws.file_laws.Goals as goal

pub returns-clause-made : goal.returns-clause-made
returns-clause-made c = whole_made

pub returns-clause-mark : goal.returns-clause-mark
returns-clause-mark c = whole_marked

pub returns-clause-description : goal.returns-clause-description
returns-clause-description c = whole_described

pub returns-clause-object : goal.returns-clause-object
returns-clause-object c = whole_object

pub returns-clause-bytes : goal.returns-clause-bytes
returns-clause-bytes c = whole_rewritten

pub returns-clause-unlink : goal.returns-clause-unlink
returns-clause-unlink c = whole_unnamed
