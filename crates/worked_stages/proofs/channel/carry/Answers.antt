use Rattle.std.proofs.Common.{ap}
use Rattle.wire_channels.specs.declared.place.Place.TheVariants.{Send, Wire}
use Rattle.wire_channels.specs.Directions.{after_move}
use Rattle.wire_net.specs.Networks.{Network}
use Rattle.worked_stages.specs.declared.channel.TheConstants.{CONN, FIRST}
use Rattle.worked_stages.proofs.OneChannel.{alone_kept}
use Rattle.worked_stages.proofs.channel.carry.Goals as goal

pub returns : goal.returns
returns c =
    alone_kept CONN c.move_bytes.new.self.channels c.move_bytes-2.new.self.channels FIRST (after_move Wire c.args.off) (ap (λ (t : Network). t.channels) c.move_bytes-2.ensures.after)
    (alone_kept CONN c.args.net.now.channels c.move_bytes.new.self.channels FIRST (after_move Send c.args.onto) (ap (λ (t : Network). t.channels) c.move_bytes.ensures.after) c.requires)
