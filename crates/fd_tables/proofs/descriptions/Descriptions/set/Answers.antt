use Rattle.fd_tables.proofs.DescriptionViews.{set_none, key_at, set_described}
use Rattle.fd_tables.proofs.descriptions.Descriptions.set.Goals as goal

pub set_value-requires : goal.set_value-requires
set_value-requires c = c.self.invariant.there c.args.id c.in-Some.key.now (key_at c.self.inside.index c.args.id c.in-Some.key.now c.in-Some.ensures.value)

pub returns-in-Some : goal.returns-in-Some
returns-in-Some c = set_described c.self.inside.index c.self.inside.slab c.set_value.new.slab c.args.self.now c.args.id c.in-Some.key.now c.args.value c.self.invariant c.in-Some.ensures.value c.self.view_is c.set_value.ensures

pub returns-in_default : goal.returns-in_default
returns-in_default c = set_none c.self.inside.index c.self.inside.slab c.args.self.now c.args.id c.in_default.ensures.value c.self.view_is c.requires
