-- The whole network, once both walks are over.
--     IsNet-whole
use Rattle.std.proofs.Common.{◌≡◌, ◌+◌, ◌<◌, ℕ, suc, zero, false, [], refl, sym, ap, subst, arith, ◌∙◌, map as each}
use Rattle.std.specs.Prelude.{Option, Some, None, is_some, slice_index}
use Rattle.std.specs.List.{range_with_len}
use Rattle.std.specs.FinMap as map
use Rattle.views.specs.Seen.{Agree}
use Rattle.views.proofs.MapLaws.{true_false}
use Rattle.sys_abi.specs.declared.identity.VirtAddr.{VirtAddr}
use Rattle.plain_machine.specs.declared.kernel.PlainKernel.{PlainKernel}
use Rattle.plain_machine.specs.Kernels.{IsKernel}
use Rattle.virt_ids.specs.Pairs.{Pairs, AreInverse}
use Rattle.wire_channels.specs.Listeners.{Listeners}
use Rattle.wire_net.specs.Networks.{Network}
use Rattle.host_tables.specs.declared.kernel.Hosts.{Hosts}
use Rattle.host_tables.specs.Numbers.{node_of}
use Rattle.host_tables.specs.Network.{SameListener}
use Rattle.rebuild_tables.specs.Hosts.{node_at, nodes_from}
use Rattle.rebuild_system.specs.Nets.{IsNet}
use Rattle.rebuild_system.specs.Making.{IsListened, AreFilled, is_done}
use Rattle.rebuild_system.proofs.Reached.{and_true}
use Rattle.rebuild_system.proofs.Listened.{host_below}
use Rattle.rebuild_system.proofs.Done.{filled_all}

at_range : (f : ℕ → ℕ) (a n i : ℕ) → i < n → slice_index (each f (range_with_len a n)) i ≡ f (a + i)
at_range f a zero i less = absurd (omega (arith, less))
at_range f a (suc n) zero less = ap f (omega arith)
at_range f a (suc n) (suc i) less = at_range f (a + 1) n i (omega (arith, less)) ∙ ap f (omega arith)

node_is : (h : Hosts) (host : ℕ) → host < 16 → node_at h host ≡ node_of (nodes_from h) host
node_is h host less = sym (at_range (node_at h) 0 16 host less ∙ ap (node_at h) (none_more host))
  where
    none_more : (n : ℕ) → 0 + n ≡ n
    none_more n = omega arith

nothing_by : {X : Type 0} (o : Option X) → false ≡ is_some o → o ≡ None
nothing_by None is = refl
nothing_by (Some x) is = absurd (true_false (sym is))

module _ (h : Hosts) (k : PlainKernel) (whole : IsKernel k) (ids : Pairs) (old net : Network)
    (listened : IsListened h k [] ids old) (inverse : AreInverse ids.addresses ids.ports)
    (kept : net ≡ record old { channels = net.channels })
    (filled : AreFilled k (is_done k []) net.channels) where
  places : (a : VirtAddr) → is_some (map.get ids.addresses a) ≡ is_some (map.get k.listeners a)
  places a = listened.places a ∙ and_true (is_some (map.get k.listeners a))

  same_listeners : net.listeners ≡ old.listeners
  same_listeners = ap (λ (n : Network). n.listeners) kept

  pub IsNet-whole : IsNet h k ids net
  IsNet-whole = record {
    places = places;
    ports = listened.ports;
    listeners = record {
      inverse = inverse;
      node = λ a at is. listened.node a at is
          ∙ node_is h a.host (host_below k whole a (sym (places a) ∙ ap is_some is));
      each = record {
        at = λ a at is.
            subst (λ (m : Listeners). Agree (SameListener a at) (map.get k.listeners a) (map.get m at))
            (sym same_listeners) (listened.same a at is);
        virt_alone = λ a none. nothing_by (map.get k.listeners a) (sym (ap is_some none) ∙ places a);
        real_alone = λ at none. ap (λ (m : Listeners). map.get m at) same_listeners
            ∙ listened.alone at none;
      };
    };
    channels = filled_all k net.channels filled;
  }
