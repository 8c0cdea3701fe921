-- The listeners that a walk has come to, with one more.
--     IsListened-none, IsListened-next, IsListened-all
--     host_below      the host of a listener's address
use Rattle.std.proofs.Common.{◌≡◌, ◌≢◌, ◌≤◌, ◌<◌, ◌&&◌, ◌||◌, Bool, true, false, List, ◌∷◌, inl, inr, refl, sym, ap, subst, ◌∙◌}
use Rattle.std.specs.Prelude.{not, Option, Some, None, is_some}
use Rattle.std.specs.FinMap as map
use Rattle.std.proofs.lemmas.Option.{same_Some, none-some}
use Rattle.views.specs.Seen.{Agree}
use Rattle.views.proofs.Seen.{agree_by, agree_none}
use Rattle.views.proofs.MapLaws.{true_false, same_key, other_key, same_or_other, get_insert_same, get_insert_other}
use Rattle.sys_abi.specs.declared.identity.RealAddr.{RealAddr}
use Rattle.sys_abi.specs.declared.identity.VirtAddr.{VirtAddr}
use Rattle.sys_abi.specs.Orders.{address_cmp, real_address_cmp}
use Rattle.sys_abi.proofs.OrderLaws.{address_total, address_exact, real_address_total, real_address_exact, desc_total, desc_exact}
use Rattle.plain_tables.specs.declared.description.Description.{Description}
use Rattle.plain_tables.specs.declared.description.Object.{Object}
use Rattle.plain_tables.specs.declared.description.Object.TheVariants.{Console, File, Stream, Socket, Listener, Datagram, Counter}
use Rattle.plain_tables.specs.declared.channel.Listening.{Listening}
use Rattle.plain_tables.specs.Objects.{is_listener_at}
use Rattle.plain_tables.specs.Valid.Sockets.{IsAddressed}
use Rattle.plain_machine.specs.declared.kernel.PlainKernel.{PlainKernel}
use Rattle.plain_machine.specs.Kernels.{IsKernel}
use Rattle.virt_ids.specs.Pairs.{Pairs}
use Rattle.discovery.specs.Directories.{Publications}
use Rattle.wire_channels.specs.declared.listener.Listener as real
use Rattle.wire_channels.specs.Listeners.{Listeners}
use Rattle.wire_net.specs.Networks.{Network}
use Rattle.host_tables.specs.declared.kernel.Hosts.{Hosts}
use Rattle.host_tables.specs.Network.{SameListener}
use Rattle.rebuild_tables.specs.Hosts.{node_at}
use Rattle.rebuild_system.specs.Making.{is_left, IsListened}
use Rattle.rebuild_system.specs.Steps.{HasListener}
use Rattle.rebuild_system.proofs.Walks.{IsWalk, IsWalk-all, next_left, left_all, some_left, any_all}
use Rattle.rebuild_system.proofs.Waiting.{AreFilled-none, AreFilled-listener}

-- a listener's address is that of its description
addressed : (a : VirtAddr) (o : Object) → is_listener_at a o ≡ true → IsAddressed o → a.host < 16
addressed a (Listener b) is has = subst (λ (v : VirtAddr). v.host < 16)
    (sym (same_key address_total address_exact a b is)) has.0
addressed a Console is has = absurd (true_false (sym is))
addressed a (File number offset) is has = absurd (true_false (sym is))
addressed a (Stream conn side) is has = absurd (true_false (sym is))
addressed a (Socket b) is has = absurd (true_false (sym is))
addressed a (Datagram peer) is has = absurd (true_false (sym is))
addressed a (Counter value) is has = absurd (true_false (sym is))

pub host_below : (k : PlainKernel) → IsKernel k → (a : VirtAddr) → is_some (map.get k.listeners a) ≡ true
    → a.host < 16
host_below k whole a there =
    let test : Description → Bool = λ x. is_listener_at a x.object in
    let one = some_left test k.descriptions desc_total desc_exact (map.entries k.descriptions)
    (IsWalk-all desc_total desc_exact k.descriptions).entries
    (any_all test k.descriptions ∙ sym (whole.listeners.described a) ∙ there) in
    addressed a one.value.object one.passes (whole.addresses.each one.key one.value one.there)

both_some : (a b : Bool) → true ≡ (a && b) → a ≡ true
both_some true b is = refl
both_some false b is = absurd (true_false is)

nothing_some : {X : Type 0} (o : Option X) → is_some o ≡ false → o ≡ None
nothing_some None is = refl
nothing_some (Some x) is = absurd (true_false is)

pub IsListened-none : (h : Hosts) (k : PlainKernel) (ids : Pairs) (net : Network)
    → net.port_base ≡ h.port_base → ids.addresses ≡ map.empty → ids.ports ≡ map.empty
    → net.listeners ≡ map.empty → net.channels ≡ map.empty → IsListened h k (map.entries k.listeners) ids net
IsListened-none h k ids net base addresses ports listeners channels = record {
  base = base;
  places = λ a.
      ap is_some (unpaired a)
      ∙ sym (ap (λ b. is_some (map.get k.listeners a) && not b) (left_all address_cmp k.listeners a)
      ∙ never (is_some (map.get k.listeners a)));
  node = λ a at is. absurd (none-some at (sym (unpaired a) ∙ is));
  ports = λ a at is. absurd (none-some at (sym (unpaired a) ∙ is));
  same = λ a at is. absurd (none-some at (sym (unpaired a) ∙ is));
  alone = λ at _. ap (λ (m : Listeners). map.get m at) listeners
      ∙ map.get-empty {X = real.Listener} real_address_cmp at;
  channels = AreFilled-none k net.channels channels;
}
  where
    unpaired : (a : VirtAddr) → map.get ids.addresses a ≡ None
    unpaired a = ap (λ (m : map.FinMap address_cmp RealAddr). map.get m a) addresses
        ∙ map.get-empty {X = RealAddr} address_cmp a

    never : (b : Bool) → (b && not b) ≡ false
    never true = refl
    never false = refl

module _ (h : Hosts) (k : PlainKernel) (whole : IsKernel k) (e : VirtAddr × Listening)
    (es : List (VirtAddr × Listening)) (walk : IsWalk k.listeners (e ∷ es))
    (old_ids ids : Pairs) (old net : Network) (before now : Publications)
    (was : IsListened h k (e ∷ es) old_ids old)
    (made : HasListener h k e.0 e.1 old_ids ids old net before now) where
  at_own : map.get ids.addresses e.0 ≡ Some made.at
  at_own = ap (λ (m : map.FinMap address_cmp RealAddr). map.get m e.0) made.addresses
      ∙ get_insert_same address_total address_exact old_ids.addresses e.0 made.at

  at_other : (a : VirtAddr) → a ≢ e.0 → map.get ids.addresses a ≡ map.get old_ids.addresses a
  at_other a differ = ap (λ (m : map.FinMap address_cmp RealAddr). map.get m a) made.addresses
      ∙ get_insert_other address_total address_exact old_ids.addresses e.0 made.at a differ

  new_one : real.Listener
  new_one = record { backlog = e.1.backlog; queue = e.1.queue }

  heard : map.get net.listeners made.at ≡ Some (record { backlog = e.1.backlog; queue = e.1.queue })
  heard = ap (λ (m : Listeners). map.get m made.at) made.listeners
      ∙ get_insert_same real_address_total real_address_exact old.listeners made.at
      (record { backlog = e.1.backlog; queue = e.1.queue })

  heard_other : (at : RealAddr) → at ≢ made.at → map.get net.listeners at ≡ map.get old.listeners at
  heard_other at differ = ap (λ (m : Listeners). map.get m at) made.listeners
      ∙ get_insert_other real_address_total real_address_exact old.listeners made.at
      (record { backlog = e.1.backlog; queue = e.1.queue }) at differ

  -- a listener that is there has another port
  port_differs : (a : VirtAddr) (at : RealAddr) → map.get old_ids.addresses a ≡ Some at → at ≢ made.at
  port_differs a at is same =
      let none : map.get old.listeners at ≡ None = ap (map.get old.listeners) same ∙ made.free in
      let gone : map.get k.listeners a ≡ None =
      agree_none (SameListener a at) (map.get k.listeners a) (map.get old.listeners at)
      (was.same a at is) none in
      true_false (sym (both_some (is_some (map.get k.listeners a)) (not (is_left address_cmp (e ∷ es) a))
      (sym (ap is_some is) ∙ was.places a)) ∙ ap is_some gone)

  places_now : (a : VirtAddr) → is_some (map.get ids.addresses a)
      ≡ (is_some (map.get k.listeners a) && not (is_left address_cmp es a))
  places_now a = elim (same_or_other address_total address_exact a e.0) [
    | inl same ↦
        ap (λ b. is_some (map.get ids.addresses b)) same ∙ ap is_some at_own
        ∙ sym (ap (λ b. is_some (map.get k.listeners b) && not (is_left address_cmp es b)) same
        ∙ (λ i. is_some (walk.entries.0 i)
        && not (next_left address_total address_exact k.listeners e es walk i)))
    | inr differ ↦
        ap is_some (at_other a differ) ∙ was.places a
        ∙ ap (λ b. is_some (map.get k.listeners a) && not (b || is_left address_cmp es a))
        (other_key address_total address_exact a e.0 differ)
  ]

  -- what holds of the new place and of those before
  each_place : (P : VirtAddr → RealAddr → Type 0) → P e.0 made.at
      → ((a : VirtAddr) (at : RealAddr) → map.get old_ids.addresses a ≡ Some at → P a at)
      → (a : VirtAddr) (at : RealAddr) → map.get ids.addresses a ≡ Some at → P a at
  each_place P own others a at is = elim (same_or_other address_total address_exact a e.0) [
    | inl same ↦
        let port : at ≡ made.at = same_Some at made.at (sym is ∙ ap (map.get ids.addresses) same ∙ at_own) in
        subst (λ b. P b at) (sym same) (subst (P e.0) (sym port) own)
    | inr differ ↦ others a at (sym (at_other a differ) ∙ is)
  ]

  same_own : Agree (SameListener e.0 made.at) (map.get k.listeners e.0) (map.get net.listeners made.at)
  same_own =
      agree_by (SameListener e.0 made.at) (Some e.1) (map.get k.listeners e.0)
      (Some (record { backlog = e.1.backlog; queue = e.1.queue })) (map.get net.listeners made.at)
      walk.entries.0 heard (record { backlog = refl; queue = refl })

  same_before : (a : VirtAddr) (at : RealAddr) → map.get old_ids.addresses a ≡ Some at
      → Agree (SameListener a at) (map.get k.listeners a) (map.get net.listeners at)
  same_before a at is =
      agree_by (SameListener a at) (map.get k.listeners a) (map.get k.listeners a) (map.get old.listeners at)
      (map.get net.listeners at) refl (heard_other at (port_differs a at is)) (was.same a at is)

  alone_now : (at : RealAddr) → map.get ids.ports at ≡ None → map.get net.listeners at ≡ None
  alone_now at none = elim (same_or_other real_address_total real_address_exact at made.at) [
    | inl same ↦ absurd (none-some e.0 (sym none ∙ ap (map.get ids.ports) same
        ∙ ap (λ (m : map.FinMap real_address_cmp VirtAddr). map.get m made.at) made.ports
        ∙ get_insert_same real_address_total real_address_exact old_ids.ports made.at e.0))
    | inr differ ↦ heard_other at differ ∙ was.alone at
        (sym (ap (λ (m : map.FinMap real_address_cmp VirtAddr). map.get m at) made.ports
        ∙ get_insert_other real_address_total real_address_exact old_ids.ports made.at e.0 at differ) ∙ none)
  ]

  pub port_above : h.port_base ≤ made.at.port
  port_above = subst (λ n. n ≤ made.at.port) was.base made.port

  pub IsListened-next : IsListened h k es ids net
  IsListened-next = record {
    base = made.base ∙ was.base;
    places = places_now;
    node = each_place (λ a at. at.node ≡ node_at h a.host) made.node was.node;
    ports = each_place (λ a at. h.port_base ≤ at.port) port_above was.ports;
    same = each_place (λ a at. Agree (SameListener a at) (map.get k.listeners a) (map.get net.listeners at))
        same_own same_before;
    alone = alone_now;
    channels = AreFilled-listener k whole e es walk old.channels was.channels net.channels made.channels;
  }
