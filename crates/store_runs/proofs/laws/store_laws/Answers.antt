use Rattle.image_store.proofs.SetLaws.{apart, one_damage, one_set}
use Rattle.store_runs.proofs.LastInfo.{last_info}
use Rattle.store_runs.proofs.laws.store_laws.Goals as goal

pub returns-clause-info : goal.returns-clause-info
returns-clause-info c = last_info

pub returns-clause-one : goal.returns-clause-one
returns-clause-one c = one_set

pub returns-clause-apart : goal.returns-clause-apart
returns-clause-apart c = apart

pub returns-clause-place : goal.returns-clause-place
returns-clause-place c = one_damage
