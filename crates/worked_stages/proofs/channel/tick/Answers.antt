use Rattle.std.proofs.Common.{ap, ◌∙◌}
use Rattle.wire_channels.specs.declared.place.Place.TheVariants.{Send, Wire}
use Rattle.worked_stages.specs.Ticks.{moved}
use Rattle.worked_stages.specs.declared.channel.TheConstants.{FIRST, SECOND}
use Rattle.worked_stages.proofs.channel.tick.Goals as goal

pub returns : goal.returns
returns c =
    c.move_bytes-4.ensures.after ∙ ap (moved SECOND Wire 9) (c.move_bytes-3.ensures.after ∙ ap (moved SECOND Send 9) (c.move_bytes-2.ensures.after ∙ ap (moved FIRST Wire 9) c.move_bytes.ensures.after))
