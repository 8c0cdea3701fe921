use Rattle.fd_tables.proofs.TableViews.{put_over}
use Rattle.std.proofs.Common.{Some}
use Rattle.fd_tables.proofs.InRange.{set_in_range}
use Rattle.fd_tables.proofs.tables.Tables.replace.Goals as goal

pub returns : goal.returns
returns c =
    put_over c.set_place.result c.self.inside.tables c.set_place.new.tables c.args.self.now c.args.p c.args.fd c.args.descriptor
    c.set_place.ensures.set c.set_place.ensures.no_table c.self.view_is c.requires.there

pub invariant_of-self : goal.invariant_of-self
invariant_of-self c =
    set_in_range c.set_place.result c.self.inside.tables c.set_place.new.tables c.args.p c.args.fd (Some c.args.descriptor) c.requires.in_range
    c.set_place.ensures.set c.set_place.ensures.absent c.self.invariant
