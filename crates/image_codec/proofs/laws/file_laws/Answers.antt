use Rattle.image_format.proofs.ManifestLaws as manifest
use Rattle.image_process.proofs.ProcessFiles as process
use Rattle.shared_items.proofs.SharedLaws as shared
use Rattle.image_codec.proofs.SetDamages.{files_apart, files_either, one_damage_of_files}
use Rattle.image_codec.proofs.laws.file_laws.Goals as goal

pub returns-clause-manifest : goal.returns-clause-manifest
returns-clause-manifest c = manifest.laws

pub returns-clause-process : goal.returns-clause-process
returns-clause-process c = process.laws

pub returns-clause-shared : goal.returns-clause-shared
returns-clause-shared c = shared.laws

pub returns-clause-apart : goal.returns-clause-apart
returns-clause-apart c = files_apart

pub returns-clause-place : goal.returns-clause-place
returns-clause-place c = one_damage_of_files

pub returns-clause-either : goal.returns-clause-either
returns-clause-either c = files_either
