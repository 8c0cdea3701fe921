use Rattle.std.proofs.Common.{sym, subst}
use Rattle.run_start.specs.Starts.{AreNumbered}
use Rattle.run_start.proofs.start.Start.into_system.Goals as goal

pub listed-requires : goal.listed-requires
listed-requires c = subst AreNumbered (sym c.into_guests.ensures) c.requires.can.numbered
