use Rattle.std.proofs.Common.{refl, sym, ap, ◌∙◌, not, Bool, true, false, ◌≡◌, Some, None}
use Rattle.shared_items.specs.declared.shared.ChannelImage.{ChannelImage}
use Rattle.shared_items.specs.Sides.{same_channel}
use Rattle.shared_items.specs.WholeShared.{is_of_host, is_end_of_host, side_of}
use Rattle.shared_items.proofs.Searched.{all_here}
use Rattle.shared_reader.proofs.whole.is_side_of_host.Goals as goal

pub returns-in-None : goal.returns-in-None
returns-in-None c =
    sym (all_here (λ (channel : ChannelImage). same_channel c.args.conn channel.id) (λ channel. is_of_host c.args.host (side_of channel c.args.side).address) c.args.channels.now None c.in-None.ensures
    (is_end_of_host c.args.host c.args.conn c.args.side) (λ _. refl))

pub returns-in-Some : goal.returns-in-Some
returns-in-Some c =
    c.is_of_host.ensures ∙ ap (λ side. is_of_host c.args.host side.address) c.side_of.ensures
    ∙ sym (all_here (λ (channel : ChannelImage). same_channel c.args.conn channel.id) (λ channel. is_of_host c.args.host (side_of channel c.args.side).address) c.args.channels.now (Some c.in-Some.channel.now) c.in-Some.ensures
    (is_end_of_host c.args.host c.args.conn c.args.side) (λ _. refl))
