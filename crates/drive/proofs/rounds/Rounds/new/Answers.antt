use Rattle.std.proofs.Common.{refl}
use Rattle.drive.specs.Scheduling.{IsComeSo}
use Rattle.drive.proofs.rounds.Rounds.new.Goals as goal

pub returns-clause-come : goal.returns-clause-come
unfolding IsComeSo
returns-clause-come c = λ g. refl
