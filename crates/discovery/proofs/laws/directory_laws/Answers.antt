use Rattle.discovery.proofs.UseLaws.{last_counts, asked_since, nothing_else}
use Rattle.discovery.proofs.laws.directory_laws.Goals as goal

pub returns-clause-last : goal.returns-clause-last
returns-clause-last c = last_counts

pub returns-clause-asked : goal.returns-clause-asked
returns-clause-asked c = asked_since

pub returns-clause-none : goal.returns-clause-none
returns-clause-none c = nothing_else
