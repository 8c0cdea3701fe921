use Rattle.fd_tables.proofs.TableViews.{seen_empty}
use Rattle.fd_tables.proofs.InRange.{empty_in_range}
use Rattle.fd_tables.proofs.tables.Tables.new.Goals as goal

pub returns : goal.returns
returns c = seen_empty c.new.result c.new.ensures.empty

pub invariant_of-result : goal.invariant_of-result
invariant_of-result c = empty_in_range _ (seen_empty c.new.result c.new.ensures.empty)
