use Rattle.std.proofs.Common.{ap, ◌∙◌, rules}
use Rattle.std.specs.Ordering.{is_eq}
use Rattle.std.proofs.lemmas.List.Sorted.{answers_always}
use Rattle.sys_abi.specs.Orders.{conn_cmp}
use Rattle.sys_abi.proofs.OrderLaws.{conn_total}
use Rattle.shared_items.specs.declared.shared.ChannelImage.{ChannelImage}
use Rattle.shared_items.specs.Sides.{same_channel}
use Rattle.shared_items.proofs.Searched.{found_at, found_none, parted, turned_equal}
use Rattle.shared_items.proofs.found.channel_of.Goals as goal

pub returns-in-Ok : goal.returns-in-Ok
returns-in-Ok c =
    found_at conn_total (λ (channel : ChannelImage). channel.id) c.args.name (λ channel. same_channel c.args.name channel.id) (λ channel. turned_equal conn_total c.args.name channel.id)
    c.args.channels.now c.in-Ok.place c.index-channels-place.result c.requires c.in-Ok.ensures.bound
    (c.in-Ok.ensures.position (λ channel. channel.id) (answers_always _ _ _ (λ f a r g called. search rules))) c.index-channels-place.is

pub returns-in-Err : goal.returns-in-Err
returns-in-Err c =
    found_none conn_total (λ (channel : ChannelImage). channel.id) c.args.name (λ channel. same_channel c.args.name channel.id) (λ channel. turned_equal conn_total c.args.name channel.id)
    c.args.channels.now _
    (parted conn_total (λ (channel : ChannelImage). channel.id) c.args.name c.args.channels.now _ c.requires (c.in-Err.ensures.position (λ channel. channel.id) (answers_always _ _ _ (λ f a r g called. search rules))))
