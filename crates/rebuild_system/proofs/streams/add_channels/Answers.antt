use Rattle.std.proofs.Common.{◌≡◌, List, ◌∷◌, refl, ap, subst, ◌∙◌}
use Rattle.std.specs.FinMap as map
use Rattle.sys_abi.specs.declared.identity.ConnId.{ConnId}
use Rattle.sys_abi.proofs.OrderLaws.{conn_total, conn_exact}
use Rattle.plain_tables.specs.declared.channel.Channel.{Channel}
use Rattle.wire_net.specs.Networks.{Network}
use Rattle.rebuild_system.specs.Making.{AreFilled, AreReached, is_done}
use Rattle.rebuild_system.proofs.Walks.{IsWalk, IsWalk-begin, IsWalk-next}
use Rattle.rebuild_system.proofs.Done.{AreFilled-begin, AreReached-begin, AreFilled-added, AreReached-added}
use Rattle.rebuild_system.proofs.streams.add_channels.Goals as goal

abbrev Entries : Type 0
Entries = List (ConnId × Channel)

pub loop-id-init : goal.loop-id-init
loop-id-init c =
    let k = c.args.kernel.now in
    let es = c.into_iter-id-iterator.result in
    let begins : es ≡ map.entries k.channels =
    c.into_iter-id-iterator.ensures.into_iter_gives ∙ c.iter-id-items.ensures in
    record {
      walk = IsWalk-begin conn_total conn_exact k.channels es begins;
      kept = refl;
      made = AreFilled-begin k es begins c.args.net.now.channels c.requires.waiting;
      reached = AreReached-begin k es begins c.args.hosts.now c.args.directory.now c.requires.reached;
    }

pub loop-id-preserved : goal.loop-id-preserved
loop-id-preserved c =
    let h = c.args.hosts.now in
    let k = c.args.kernel.now in
    let e : ConnId × Channel = (c.in-Some.id.now, c.in-Some.channel.now) in
    let es = c.next.new.self in
    let steps : c.loop-id.id-iterator ≡ e ∷ es = c.in-Some.ensures.steps in
    let walk : IsWalk k.channels (e ∷ es) =
    subst (λ (fs : Entries). IsWalk k.channels fs) steps c.loop-id.invariant.walk in
    let made : AreFilled k (is_done k (e ∷ es)) c.loop-id.net.channels =
    subst (λ (fs : Entries). AreFilled k (is_done k fs) c.loop-id.net.channels) steps
    c.loop-id.invariant.made in
    let reached : AreReached h k (is_done k (e ∷ es)) c.loop-id.directory =
    subst (λ (fs : Entries). AreReached h k (is_done k fs) c.loop-id.directory) steps
    c.loop-id.invariant.reached in
    let told = c.in_ok-add_channel.ensures in
    let now = c.add_channel.new in
    record {
      walk = IsWalk-next conn_total conn_exact k.channels e es walk;
      kept = told.kept
          ∙ ap (λ (n : Network). record n { channels = now.net.channels }) c.loop-id.invariant.kept;
      made = AreFilled-added k e es walk c.loop-id.net.channels made now.net.channels told.channels;
      reached = AreReached-added k e es walk h c.loop-id.directory now.directory reached told.reached
          told.others;
    }
