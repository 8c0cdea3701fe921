use Rattle.worked_stages.specs.declared.channel.TheConstants.{CONN}
use Rattle.worked_stages.proofs.OneChannel.{alone_after}
use Rattle.worked_stages.proofs.channel.say.Goals as goal

pub returns : goal.returns
returns g c = alone_after CONN c.args.net.now c.send.new.self c.args.d c.args.text.now c.send.result c.send.ensures.ok c.send.ensures.err c.requires.alone
