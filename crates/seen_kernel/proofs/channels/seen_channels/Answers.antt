use Rattle.std.proofs.Common.{Some, None, sym, subst}
use Rattle.seen_kernel.proofs.SeenChannels.{ChannelsFront, channels_begun, channels_on, channels_fewer, channels_done}
use Rattle.seen_kernel.proofs.channels.seen_channels.Goals as goal

pub loop-id-init : goal.loop-id-init
loop-id-init c =
    subst (λ seen. ChannelsFront c.args.conns.now.conns seen None) (sym c.new-seen.ensures)
    (channels_begun c.args.conns.now.conns)

pub loop-id-preserved : goal.loop-id-preserved
loop-id-preserved c =
    subst (λ seen. ChannelsFront c.args.conns.now.conns seen (Some c.in-Some.id))
    (sym c.in_ok-add_channel.ensures.ok)
    (channels_on c.args.conns.now.conns c.loop-id.above c.in-Some.id (sym c.in-Some.ensures) c.loop-id.seen
    c.loop-id.invariant)

pub loop-id-smaller : goal.loop-id-smaller
loop-id-smaller c =
    channels_fewer c.args.conns.now.conns c.loop-id.above c.in-Some.id (sym c.in-Some.ensures)

pub returns : goal.returns
returns c =
    channels_done c.args.conns.now.conns c.loop-id.seen c.loop-id.above (sym c.in_default.ensures)
    c.loop-id.invariant
