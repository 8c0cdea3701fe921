use Rattle.std.proofs.Common.{refl, sym, rules}
use Rattle.std.proofs.lemmas.List.Sorted.{answers_always}
use Rattle.sys_abi.proofs.OrderLaws.{conn_total}
use Rattle.shared_items.specs.declared.shared.ChannelImage.{ChannelImage}
use Rattle.shared_items.proofs.Searched.{parted}
use Rattle.shared_items.proofs.MadeNumbers.{at_number, all_below, next_other}
use Rattle.shared_items.proofs.made.is_above_channels.Goals as goal

pub returns-in-Ok : goal.returns-in-Ok
returns-in-Ok c =
    sym (at_number conn_total (λ (channel : ChannelImage). channel.id) (λ channel. channel.id.pid.0) (λ channel. channel.id.num) (record { pid = record { 0 = c.args.pid }; num = c.args.made }) c.args.pid c.args.made (λ _. refl) (λ _ _. refl) c.args.channels.now c.in-Ok.field-0 c.in-Ok.ensures.bound (c.in-Ok.ensures.position (λ channel. channel.id) (answers_always _ _ _ (λ f a r g called. search rules))))

pub returns-in-None : goal.returns-in-None
returns-in-None c =
    sym (all_below conn_total (λ (channel : ChannelImage). channel.id) (λ channel. channel.id.pid.0) (λ channel. channel.id.num) (record { pid = record { 0 = c.args.pid }; num = c.args.made }) c.args.pid c.args.made (λ _. refl) (λ _ _. refl) c.args.channels.now c.in-Err.place
    (parted conn_total (λ (channel : ChannelImage). channel.id) (record { pid = record { 0 = c.args.pid }; num = c.args.made }) c.args.channels.now c.in-Err.place c.requires (c.in-Err.ensures.position (λ channel. channel.id) (answers_always _ _ _ (λ f a r g called. search rules))))
    c.in-None.ensures.lookup.3)

pub returns-in-Some : goal.returns-in-Some
returns-in-Some c =
    sym (next_other conn_total (λ (channel : ChannelImage). channel.id) (λ channel. channel.id.pid.0) (λ channel. channel.id.num) (record { pid = record { 0 = c.args.pid }; num = c.args.made }) c.args.pid c.args.made (λ _. refl) (λ _ _. refl) c.args.channels.now c.in-Err.place
    (parted conn_total (λ (channel : ChannelImage). channel.id) (record { pid = record { 0 = c.args.pid }; num = c.args.made }) c.args.channels.now c.in-Err.place c.requires (c.in-Err.ensures.position (λ channel. channel.id) (answers_always _ _ _ (λ f a r g called. search rules))))
    c.requires c.in-Some.next.now c.in-Some.ensures.lookup.3.0 c.in-Some.ensures.lookup.1)
