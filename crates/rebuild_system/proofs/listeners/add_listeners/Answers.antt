use Rattle.std.proofs.Common.{◌≡◌, List, ◌∷◌, refl, subst, sym, ◌∙◌}
use Rattle.std.specs.FinMap as map
use Rattle.sys_abi.specs.declared.identity.VirtAddr.{VirtAddr}
use Rattle.sys_abi.proofs.OrderLaws.{address_total, address_exact}
use Rattle.plain_tables.specs.declared.channel.Listening.{Listening}
use Rattle.rebuild_system.specs.Making.{IsListened, AreReached, is_done_waiting}
use Rattle.rebuild_system.proofs.Walks.{IsWalk, IsWalk-begin, IsWalk-next}
use Rattle.rebuild_system.proofs.Waiting.{AreReached-none, AreReached-listener}
use Rattle.rebuild_system.proofs.Listened.{IsListened-next, port_above}
use Rattle.rebuild_system.proofs.listeners.add_listeners.Goals as goal

abbrev Entries : Type 0
Entries = List (VirtAddr × Listening)

pub loop-a-init : goal.loop-a-init
loop-a-init c =
    let h = c.args.hosts.now in
    let k = c.args.kernel.now in
    let es = c.into_iter-a-iterator.result in
    let begins : es ≡ map.entries k.listeners =
    c.into_iter-a-iterator.ensures.into_iter_gives ∙ c.iter-a-items.ensures in
    record {
      walk = IsWalk-begin address_total address_exact k.listeners es begins;
      made = subst (λ (fs : Entries). IsListened h k fs c.args.ids.now c.args.net.now) (sym begins)
          c.requires.before;
      reached = AreReached-none h k es begins c.args.directory.now;
      pids = refl;
      virts = refl;
    }

pub loop-a-preserved : goal.loop-a-preserved
loop-a-preserved c =
    let h = c.args.hosts.now in
    let k = c.args.kernel.now in
    let whole = c.requires.whole in
    let e : VirtAddr × Listening = (c.in-Some.a.now, c.in-Some.listening.now) in
    let es = c.next.new.self in
    let steps : c.loop-a.a-iterator ≡ e ∷ es = c.in-Some.ensures.steps in
    let walk : IsWalk k.listeners (e ∷ es) =
    subst (λ (fs : Entries). IsWalk k.listeners fs) steps c.loop-a.invariant.walk in
    let was : IsListened h k (e ∷ es) c.loop-a.ids c.loop-a.net =
    subst (λ (fs : Entries). IsListened h k fs c.loop-a.ids c.loop-a.net) steps c.loop-a.invariant.made in
    let reached : AreReached h k (is_done_waiting k (e ∷ es)) c.loop-a.directory =
    subst (λ (fs : Entries). AreReached h k (is_done_waiting k fs) c.loop-a.directory) steps
    c.loop-a.invariant.reached in
    let made = c.in_ok-add_listener.ensures.made in
    let now = c.add_listener.new in
    record {
      walk = IsWalk-next address_total address_exact k.listeners e es walk;
      made = IsListened-next h k whole e es walk c.loop-a.ids now.ids c.loop-a.net now.net c.loop-a.directory
          now.directory was made;
      reached = AreReached-listener k whole e es walk h made.at made.node
          (port_above h k whole e es walk c.loop-a.ids now.ids c.loop-a.net now.net c.loop-a.directory
          now.directory was made)
          c.loop-a.directory now.directory reached made.found;
      pids = c.in_ok-add_listener.ensures.numbers.0 ∙ c.loop-a.invariant.pids;
      virts = c.in_ok-add_listener.ensures.numbers.1 ∙ c.loop-a.invariant.virts;
    }
