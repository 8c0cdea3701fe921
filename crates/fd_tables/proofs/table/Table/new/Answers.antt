use Rattle.fd_tables.proofs.Places.{empty_places}
use Rattle.fd_tables.proofs.table.Table.new.Goals as goal

pub returns : goal.returns
returns c = empty_places _ _ 256 c.in_ok-from_slice.ensures.items c.as_slice.ensures
