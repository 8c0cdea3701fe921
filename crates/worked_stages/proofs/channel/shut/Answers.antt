use Rattle.std.proofs.Common.{ap}
use Rattle.wire_channels.specs.Directions.{after_end}
use Rattle.worked_stages.specs.declared.channel.TheConstants.{CONN}
use Rattle.worked_stages.proofs.OneChannel.{alone_kept}
use Rattle.worked_stages.proofs.channel.shut.Goals as goal

pub returns : goal.returns
returns c = alone_kept CONN c.args.net.now.channels c.end.new.self.channels c.args.d after_end (ap (λ t. t.channels) c.end.ensures) c.requires.alone
