use Rattle.fd_tables.proofs.TableViews.{told_remove_any}
use Rattle.std.proofs.Common.{None}
use Rattle.fd_tables.proofs.InRange.{set_in_range}
use Rattle.fd_tables.proofs.tables.Tables.clear.Goals as goal

pub returns : goal.returns
returns c =
    told_remove_any c.set_place.result c.self.inside.tables c.set_place.new.tables c.args.self.now c.args.p c.args.fd
    c.set_place.ensures.set c.set_place.ensures.absent c.set_place.ensures.no_table c.self.view_is

pub invariant_of-self : goal.invariant_of-self
invariant_of-self c =
    set_in_range c.set_place.result c.self.inside.tables c.set_place.new.tables c.args.p c.args.fd None c.requires
    c.set_place.ensures.set c.set_place.ensures.absent c.self.invariant
