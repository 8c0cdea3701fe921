use Rattle.std.proofs.Common.{sym, Some, None}
use Rattle.shared_items.specs.declared.shared.ChannelImage.{ChannelImage}
use Rattle.shared_items.specs.Sides.{same_channel}
use Rattle.shared_items.proofs.Searched.{some_here}
use Rattle.shared_objects.proofs.object_tests.is_channel.Goals as goal

pub returns-in-None : goal.returns-in-None
returns-in-None c = sym (some_here (λ (channel : ChannelImage). same_channel c.args.name channel.id) c.args.channels.now None c.in-None.ensures)

pub returns-in-Some : goal.returns-in-Some
returns-in-Some c = sym (some_here (λ (channel : ChannelImage). same_channel c.args.name channel.id) c.args.channels.now (Some c.in-Some.field-0.now) c.in-Some.ensures)
