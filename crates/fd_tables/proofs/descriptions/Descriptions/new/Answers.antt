use Rattle.fd_tables.proofs.DescriptionViews.{new_good, new_seen}
use Rattle.fd_tables.proofs.descriptions.Descriptions.new.Goals as goal

pub invariant_of-result : goal.invariant_of-result
invariant_of-result c = new_good c.new.result c.new-2.result c.new.ensures.empty

pub returns : goal.returns
returns c = new_seen c.new.result c.new-2.result c.new.ensures.empty
