-- A listen of a guest, by what its tests find and what the system is then.
--     listen_fails       where a test fails
--     undone             a listener that goes again at once
--     listen_done        where the socket listens
use Rattle.std.proofs.Common.{◌≡◌, ℕ, true, List, Some, None, inl, inr, refl, sym, ap, ◌∙◌, subst}
use Rattle.std.specs.Prelude.{IsSome, is_some, min, max}
use Rattle.std.specs.FinMap as map
use Rattle.views.specs.Numbers.{Byte}
use Rattle.views.proofs.MapLaws.{same_or_other, get_insert_same, get_insert_other, remove_insert_new}
use Rattle.sys_abi.specs.declared.identity.VPid.{VPid}
use Rattle.sys_abi.specs.declared.identity.DescId.{DescId}
use Rattle.sys_abi.specs.declared.identity.RealPid.{RealPid}
use Rattle.sys_abi.specs.declared.identity.RealAddr.{RealAddr}
use Rattle.sys_abi.specs.declared.identity.VirtAddr.{VirtAddr}
use Rattle.sys_abi.specs.declared.reply.Errno.{Errno}
use Rattle.sys_abi.proofs.OrderLaws.{desc_total, desc_exact, address_total, address_exact, real_address_total, real_address_exact}
use Rattle.call_table.specs.declared.request.Request.TheVariants.{Listen}
use Rattle.fd_tables.specs.Slots as slots
use Rattle.plain_process.specs.Attempts.{Try, Fails, and_then}
use Rattle.plain_machine.specs.declared.kernel.PlainKernel.{PlainKernel}
use Rattle.plain_machine.specs.Attempts.{Served, replied}
use Rattle.plain_machine.specs.Kernels.{IsKernel}
use Rattle.plain_machine.specs.RowLaws.{IsAsked}
use Rattle.plain_machine.specs.Rows.Sockets.{listening}
use Rattle.plain_machine.specs.Serve.{row}
use Rattle.wire_channels.specs.Channels as channels
use Rattle.wire_channels.specs.Listeners.{AllPortsUsed, IsNextPort, new_listener}
use Rattle.wire_net.specs.Networks.{Network, waiting_at}
use Rattle.host_descriptors.specs.Held.{seen_held}
use Rattle.host_descriptors.proofs.HeldChanges.{held_by}
use Rattle.host_sockets.proofs.ListenTests.{then_listens, listen_is}
use Rattle.host_sockets.proofs.Listens.{listens}
use Rattle.host_sockets.proofs.PlacesListened.{IsNewPlace, new_place}
use Rattle.host_sockets.proofs.SocketTold.{described, plain_slot}
use Rattle.host_tables.specs.declared.reply.KernelReply.{KernelReply}
use Rattle.host_tables.specs.declared.reply.KernelReply.TheVariants.{Done, Error, Memory}
use Rattle.host_tables.specs.declared.reply.KernelReply.TheVariants as reply
use Rattle.host_tables.specs.declared.system.System.{System}
use Rattle.host_tables.specs.Descriptions.{address_of, seen_object, seen_desc}
use Rattle.host_tables.specs.Serves.{listened_at}
use Rattle.host_tables.specs.Stands.{Given, Stands}
use Rattle.host_tables.specs.Systems.{given_of, is_named_in, AreExact}
use Rattle.host_tables.proofs.PortsLeft.{ports_left}
use Rattle.wrap_names.specs.Wrapping.{IsWrapped, StandsAfter, kernel_left}
use Rattle.wrap_names.proofs.Kept.{whole_left}
use Rattle.wrap_sockets.specs.declared.listening.Unbound.{Unbound}
use Rattle.wrap_sockets.specs.Listening.{IsFound, listening_at, Listens}

-- a listener that goes again at once, when nobody waits at it yet
pub undone : (t t' t'' : Network) (at : RealAddr) (backlog : ℕ) → map.get t.listeners at ≡ None
    → t' ≡ record t { listeners = map.insert t.listeners at (new_listener backlog) }
    → t'' ≡ record t' {
      listeners = map.remove t'.listeners at;
      channels = channels.after_closes 1 t'.channels (waiting_at (map.get t'.listeners at));
    } → t'' ≡ t
undone t t' t'' at backlog free is back =
    back
    ∙ (λ i. record (is i) {
      listeners = map.remove (is i).listeners at;
      channels = channels.after_closes 1 (is i).channels (waiting_at (map.get (is i).listeners at));
    })
    ∙ (λ i. record t {
      listeners = remove_insert_new real_address_total real_address_exact t.listeners at
          (new_listener backlog)
          free i;
      channels = channels.after_closes 1 t.channels (waiting_at
          (get_insert_same real_address_total real_address_exact t.listeners at (new_listener backlog) i));
    })

module _ (s : System) (next_id : ℕ) (k : PlainKernel) (w : IsWrapped s next_id k) (p : VPid)
    (t fd backlog : ℕ)
    (before : List Byte) (asked : IsAsked k p t (Listen fd backlog) before) where
  abbrev g : Given
  g = given_of s

  st : Stands g None s.kernel k
  st = w.stands.tables

  fails_by : (e : Errno) (m : Try Served) → m ≡ Fails e.0 → StandsAfter s next_id k before before (Error e) m
  fails_by e m is = subst (StandsAfter s next_id k before before (Error e)) (sym is) (w, (refl, refl))

  pub listen_fails : (e : Errno) → listened_at k p fd ≡ Fails e.0
      → StandsAfter s next_id k before before (Error e) (row k p t (Listen fd backlog) before)
  unfolding row and_then
  listen_fails e is =
      fails_by e _ (listen_is k backlog p fd ∙ ap (λ m. and_then m (then_listens k backlog)) is)

  module _ (who : RealPid) (paired : map.get s.ids.pids p.0 ≡ Some who) (u : Unbound)
      (found : IsFound s k p who fd u) where
    abbrev room : ℕ
    room = max 1 (min backlog 128)

    abbrev k' : PlainKernel
    k' = listening k (seen_held g s.kernel u.held) u.address backlog

    row_is : row k p t (Listen fd backlog) before ≡ replied k' 0
    unfolding row and_then
    row_is = listen_is k backlog p fd ∙ ap (λ m. and_then m (then_listens k backlog)) found.found

    module _ (at : RealAddr)
        (next : IsNextPort s.kernel.net.listeners who.node s.kernel.net.port_base at) where
      place : IsNewPlace g s.kernel k u.address at
      place =
          new_place g s.kernel k st w.stands.kernel p who paired fd
          (record { desc = u.held.desc; cloexec = u.held.cloexec })
          (seen_desc g.virts g.names s.kernel.datagrams None u.held.desc u.held.description)
          (plain_slot g s.kernel k st p who paired fd u.held found.at)
          (described g s.kernel k st p who paired fd u.held found.at) (address_of g.names u.held.desc)
          (ap (seen_object g.names s.kernel.datagrams u.held.desc) found.socket) u.address found.bound
          w.stands.exact.places at s.kernel.net.port_base next

      abbrev s' : System
      s' = listening_at s u at room

      tables' : Stands (given_of s') None s'.kernel k'
      tables' =
          listens g s.kernel k st u.held (held_by s.kernel.book (slots.slot who fd) u.held found.at).described
          found.socket u.address at place next.free backlog

      place_is : (a : VirtAddr) (to : RealAddr) → map.get s'.ids.addresses a ≡ Some to
          → IsSome (map.get k'.listeners a)
      place_is a to is = elim (same_or_other address_total address_exact a u.address) [
        | inl same ↦
            ap is_some (ap (map.get k'.listeners) same
            ∙ get_insert_same address_total address_exact k.listeners u.address _)
        | inr differ ↦
            ap is_some (get_insert_other address_total address_exact k.listeners u.address _ a differ)
            ∙ w.stands.exact.places a to
            (sym (get_insert_other address_total address_exact s.ids.addresses u.address at a differ) ∙ is)
      ]

      name_is : (id : DescId) (a : VirtAddr) → map.get s'.conns.names id ≡ Some a
          → is_named_in (map.get k'.descriptions id) ≡ true
      name_is id a is = elim (same_or_other desc_total desc_exact id u.held.desc) [
        | inl same ↦
            ap is_named_in (ap (map.get k'.descriptions) same
            ∙ get_insert_same desc_total desc_exact k.descriptions u.held.desc _)
        | inr differ ↦
            ap is_named_in (get_insert_other desc_total desc_exact k.descriptions u.held.desc _ id differ)
            ∙ w.stands.exact.names id a
            (sym (get_insert_other desc_total desc_exact s.conns.names u.held.desc u.address id differ) ∙ is)
      ]

      exact' : AreExact s' k'
      exact' = record {
        makers = w.stands.exact.makers;
        numbers = w.stands.exact.numbers;
        places = place_is;
        names = name_is;
        open_ends = w.stands.exact.open_ends;
        entries = w.stands.exact.entries;
      }

      wrapped : IsWrapped s' next_id k'
      wrapped = record {
        stands = record {
          kernel = subst (λ m. IsKernel (kernel_left k m)) row_is
              (whole_left s next_id k w p t (Listen fd backlog) before asked);
          tables = tables';
          exact = exact';
          room = w.stands.room;
        };
        next = w.next;
      }

    left : AllPortsUsed s.kernel.net.listeners who.node s.kernel.net.port_base → ⊥
    left =
        ports_left k s.kernel.nodes g.addresses g.ports s.kernel.net.listeners w.stands.kernel st.listeners
        who.node
        s.kernel.net.port_base

    pub listen_done : (s'' : System) (r : KernelReply) → Listens s s'' who.node u room r
        → StandsAfter s'' next_id k before before r (row k p t (Listen fd backlog) before)
    listen_done s'' (Done n) l =
        subst (λ m. StandsAfter s'' next_id k before before (Done n) m) (sym row_is)
        (subst (λ x. IsWrapped x next_id k') (sym l.after) (wrapped l.at l.next), (l.value, refl))
    listen_done s'' (Error e) l = absurd (left l.all)
    listen_done s'' reply.NotReady l = absurd l
    listen_done s'' Memory l = (subst (λ x. IsWrapped x next_id k) (sym l) w, refl)
