-- A listener goes with its description.
--     listener_closed      the accepting ends of the connections that wait at it close
--     listener_let_go      this is what a call that lets go of it owes
use Rattle.std.proofs.Common.{◌≡◌, ℕ, List, Option, Some, None, sym, subst}
use Rattle.std.specs.FinMap as map
use Rattle.views.specs.Seen.{Agree}
use Rattle.sys_abi.specs.declared.identity.ConnId.{ConnId}
use Rattle.sys_abi.specs.declared.identity.RealAddr.{RealAddr}
use Rattle.sys_abi.specs.declared.identity.VirtAddr.{VirtAddr}
use Rattle.fd_tables.specs.declared.description.Object.TheVariants as object
use Rattle.host_tables.specs.OfPlainTables.declared.channel.Listening.{Listening}
use Rattle.host_tables.specs.OfPlainMachine.declared.kernel.PlainKernel.{PlainKernel}
use Rattle.host_tables.specs.OfPlainMachine.Channels.{close_pending, close_queue, without_listener, close_listener}
use Rattle.wire_channels.specs.declared.listener.Listener.{Listener}
use Rattle.wire_channels.specs.Channels as channels
use Rattle.host_tables.specs.HandedOn.{waiting_at}
use Rattle.host_tables.specs.declared.kernel.Kernel.{Kernel}
use Rattle.host_tables.specs.Descriptions.{address_of}
use Rattle.host_tables.specs.Network.{SameListener}
use Rattle.host_tables.specs.Stands.{Given, Stands}
use Rattle.host_tables.proofs.ListenerChanges.{listener_taken}
use Rattle.host_descriptors.specs.LetGo.{HasLetGo}
use Rattle.host_descriptors.proofs.ClosedEnds.{ends_closed}

abbrev without_place : Kernel → RealAddr → List ConnId → Kernel
without_place real at queue = record real {
  net = record real.net {
    listeners = map.remove real.net.listeners at;
    channels = channels.after_closes 1 real.net.channels queue;
  };
}

module _ (g : Given) (real : Kernel) (k : PlainKernel) (st : Stands g None real k) (a : VirtAddr) (at : RealAddr)
    (paired : map.get g.addresses a ≡ Some at) where
  by_both : (o : Option Listening) (q : Option Listener) → Agree (SameListener a at) o q
      → Stands g None (without_place real at (waiting_at q)) (close_queue (without_listener k a) o)
  by_both None None h = listener_taken g None real k st a at paired
  by_both None (Some y) h = absurd h
  by_both (Some x) None h = absurd h
  by_both (Some x) (Some y) h =
      subst (λ queue. Stands g None (without_place real at queue) (close_pending (without_listener k a) x.queue))
      h.queue
      (ends_closed g (record real { net = record real.net { listeners = map.remove real.net.listeners at } })
      (without_listener k a) (listener_taken g None real k st a at paired) x.queue)

  pub listener_closed : Stands g None (without_place real at (waiting_at (map.get real.net.listeners at)))
      (close_listener k a)
  unfolding close_listener
  listener_closed =
      by_both (map.get k.listeners a) (map.get real.net.listeners at) (st.listeners.each.at a at paired)

module _ (old new : Kernel) where
  pub listener_let_go : (at : RealAddr)
      → new ≡ without_place old at (waiting_at (map.get old.net.listeners at))
      → HasLetGo old new (object.Listener at)
  listener_let_go at is = record {
    goes = λ g k id st may. subst (λ (r : Kernel). Stands g None r (close_listener k (address_of g.names id)))
        (sym is) (listener_closed g old k st (address_of g.names id) at may);
    end = λ queue side e. absurd (differ queue side e);
  }
    where
      differ : (queue side : ℕ) → object.Listener at ≡ object.Datagram queue side → ⊥
      differ queue side e = cc
