use Rattle.std.proofs.Common.{ap, ◌∙◌}
use Rattle.std.specs.FinMap as map
use Rattle.wire_channels.specs.Channels.{new_channel}
use Rattle.wire_net.specs.Networks.{Network}
use Rattle.worked_stages.specs.declared.channel.TheConstants.{CONN}
use Rattle.worked_stages.proofs.OneChannel.{alone_made}
use Rattle.worked_stages.proofs.channel.one_channel.Goals as goal

pub returns-clause-new : goal.returns-clause-new
returns-clause-new g c = ap (λ (t : Network). t.channels) c.in_ok-pair.ensures.ok ∙ ap (λ (t : Network). map.insert t.channels CONN new_channel) c.in_ok-net.ensures

pub returns-clause-alone : goal.returns-clause-alone
returns-clause-alone g c =
    alone_made CONN c.in_ok-net.net.channels c.pair.new.self.channels new_channel (ap (λ (t : Network). t.channels) c.in_ok-net.ensures) (ap (λ (t : Network). t.channels) c.in_ok-pair.ensures.ok)
