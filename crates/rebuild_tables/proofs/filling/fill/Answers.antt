use Rattle.std.proofs.Common.{ap, ◌∙◌}
use Rattle.std.specs.FinMap as map
use Rattle.plain_tables.specs.Objects.{dir}
use Rattle.wire_channels.specs.Channels.{direction_at}
use Rattle.wire_net.specs.Networks.{Network}
use Rattle.rebuild_tables.specs.Steps.{filled}
use Rattle.rebuild_tables.proofs.FilledChannels.{second_there, is_filled}
use Rattle.rebuild_tables.proofs.filling.fill.Goals as goal

pub fill_direction-requires-2-clause-new : goal.fill_direction-requires-2-clause-new
fill_direction-requires-2-clause-new c =
    let id = c.args.id in
    ap (λ (t : Network). direction_at t.channels (dir id 1)) c.fill_direction.ensures
    ∙ second_there c.args.net.now.channels id c.requires.new
    (filled (map.get c.args.kernel.now.directions (dir id 0)))

pub returns : goal.returns
returns c =
    let k = c.args.kernel.now in
    is_filled k.channels k.directions c.requires.whole.channels c.args.id c.args.channel.now
    c.requires.channel c.args.net.now c.fill_direction.new.net c.fill_direction-2.new.net
    c.close_unless.new.net c.close_unless-2.new.net c.requires.new c.fill_direction.ensures
    c.fill_direction-2.ensures c.close_unless.ensures c.close_unless-2.ensures
