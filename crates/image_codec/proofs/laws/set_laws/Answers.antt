use Rattle.image_codec.proofs.LiveParts.{parts_have_places, images_are_parts}
use Rattle.image_codec.proofs.SetLaws.{one_set_of_state, one_state_of_set}
use Rattle.image_codec.proofs.StateSets.{state_has_set}
use Rattle.image_codec.proofs.ValidSets.{set_is_valid}
use Rattle.image_codec.proofs.laws.set_laws.Goals as goal

pub returns-clause-set : goal.returns-clause-set
returns-clause-set c = one_state_of_set

pub returns-clause-spelling : goal.returns-clause-spelling
returns-clause-spelling c = one_set_of_state

pub returns-clause-image : goal.returns-clause-image
returns-clause-image c = state_has_set

pub returns-clause-valid : goal.returns-clause-valid
returns-clause-valid c = set_is_valid

pub returns-clause-places : goal.returns-clause-places
returns-clause-places c = parts_have_places

pub returns-clause-parts : goal.returns-clause-parts
returns-clause-parts c = images_are_parts
