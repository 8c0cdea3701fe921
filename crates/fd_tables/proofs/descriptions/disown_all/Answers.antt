use Rattle.std.proofs.Common.{rules}
use Rattle.fd_tables.specs.Counts.{disowned_open}
use Rattle.fd_tables.proofs.SlabLaws.{retained_slots}
use Rattle.fd_tables.proofs.descriptions.disown_all.Goals as goal

pub returns : goal.returns
returns c = retained_slots _ (disowned_open c.args.p) _ (λ key v b w next t. search rules) 0 _ _ c.retain.ensures.retained
