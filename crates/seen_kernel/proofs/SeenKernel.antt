-- What a system that stands for a kernel part tells of each of its tables.
--     processes_stand, makers_same           of processes
--     descriptors_stand, descriptions_stand      of what they hold
--     listeners_valid, none_unnamed, no_inbox      of listeners;  no file has the empty name;  nobody has an
--                                            inbox
--     kernel_is                              parts that are those of a kernel part make it up
use Rattle.std.proofs.Common.{◌≡◌, ◌≤◌, ℕ, true, false, [], Option, Some, None, length, refl, sym, ap, subst, ◌∙◌, arith}
use Rattle.std.specs.Prelude.{is_some, option_map}
use Rattle.std.specs.Option.{option_map_or}
use Rattle.std.specs.FinMap as map
use Rattle.std.proofs.lemmas.Option.{none-some, same_Some}
use Rattle.views.specs.Seen.{Agree}
use Rattle.views.proofs.MapLaws.{true_false}
use Rattle.views.proofs.Seen.{virt_of}
use Rattle.sys_abi.specs.declared.descriptor.Descriptor.{Descriptor}
use Rattle.sys_abi.specs.declared.identity.DescId.{DescId}
use Rattle.sys_abi.specs.declared.identity.RealPid.{RealPid}
use Rattle.sys_abi.specs.declared.identity.Slot.{Slot}
use Rattle.sys_abi.specs.declared.identity.VPid.{VPid}
use Rattle.sys_abi.specs.Lives.{lives}
use Rattle.sys_abi.specs.Orders.{desc_cmp}
use Rattle.sys_abi.proofs.OrderLaws.{desc_total, desc_exact, slot_total, slot_exact}
use Rattle.fd_tables.specs.declared.real_slot.RealSlot.{RealSlot}
use Rattle.fd_tables.specs.Slots as slots
use Rattle.fd_tables.proofs.OrderLaws as fd_orders
use Rattle.proc_book.specs.declared.process.Process as real_process
use Rattle.proc_book.specs.Ends.{is_live_at}
use Rattle.plain_tables.specs.declared.description.Description.{Description}
use Rattle.plain_tables.specs.declared.process.Process.{Process}
use Rattle.plain_tables.specs.Tables.{Processes, Makers, Descriptors, Descriptions, Names, Files, Channels, Directions, Listeners, Inboxes, is_live_process}
use Rattle.plain_tables.specs.Valid.Sockets.{AreListeners}
use Rattle.plain_tables.specs.Valid.Datagrams.{is_datagram_in}
use Rattle.plain_machine.specs.declared.kernel.PlainKernel.{PlainKernel}
use Rattle.host_tables.specs.declared.system.System.{System}
use Rattle.host_tables.specs.Descriptions.{Stage}
use Rattle.host_tables.specs.Processes.{IsSame, SameProcess, to_slot, from_slot}
use Rattle.host_tables.specs.Stands.{Stands}
use Rattle.host_tables.specs.Systems.{given_of, StandsFor}
use Rattle.host_tables.proofs.Ways.{lead_slot}
use Rattle.seen_kernel.specs.Processes.{StandForProcesses}
use Rattle.seen_kernel.specs.Descriptors.{StandForDescriptors}
use Rattle.seen_kernel.specs.Descriptions.{StandForDescriptions, HasNoDatagrams}
use Rattle.seen_kernel.specs.Makers.{SameKeys}
use Rattle.seen_kernel.specs.Seen.{Owners, Lists, IsToldBy, all_in, holders_of, stored_of, connected_of}

module _ (s : System) (held : Option Stage) (k : PlainKernel) (is : StandsFor s held k) where
  st : Stands (given_of s) held s.kernel k
  st = is.tables

  pub processes_stand : StandForProcesses s.ids s.kernel.procs k.processes
  processes_stand = record { paired = st.paired; same = st.processes }

  pub makers_same : (processes : Processes) → processes ≡ k.processes → SameKeys s.conns.makers processes
  makers_same processes are p =
      ap (λ makers. is_some (map.get makers p)) (sym is.exact.makers) ∙ is.kernel.makers.same p
      ∙ ap (λ processes. is_some (map.get processes p)) (sym are)

  of_slot : (at : RealSlot) (q : Slot) (o : Option RealPid) → map.get s.ids.pids q.pid.0 ≡ o
      → option_map (λ r. slots.slot r q.fd) o ≡ Some at → map.get s.ids.pids q.pid.0 ≡ Some at.pid
  of_slot at q None paired leads = absurd (none-some at leads)
  of_slot at q (Some r) paired leads =
      paired ∙ ap (λ (w : RealSlot). Some w.pid) (same_Some (slots.slot r q.fd) at leads)

  same_life : (p : VPid) (r : RealPid) (o : Option Process) (q : Option real_process.Process)
      → Agree (SameProcess s.ids.pids s.ids.virts p r) o q
      → option_map_or (λ y. lives y.life) q false ≡ is_live_process o
  same_life p r None None agree = refl
  same_life p r None (Some y) agree = absurd agree
  same_life p r (Some x) None agree = absurd agree
  same_life p r (Some x) (Some y) agree = sym (ap lives agree.life)

  alive : (at : RealSlot) (d : Descriptor) → map.get s.kernel.book.descriptors at ≡ Some d
      → is_live_at s.kernel.procs.processes at.pid ≡ true
  alive at d there =
      let v = virt_of slot_total slot_exact fd_orders.real_slot_total fd_orders.real_slot_exact
      (to_slot s.ids.pids) (from_slot s.ids.virts) (lead_slot s.ids.pids s.ids.virts st.paired.inverse) IsSame
      k.descriptors s.kernel.book.descriptors st.descriptors at d there in
      same_life v.0.pid at.pid (map.get k.processes v.0.pid) (map.get s.kernel.procs.processes at.pid)
      (st.processes.at v.0.pid at.pid (of_slot at v.0 (map.get s.ids.pids v.0.pid.0) refl v.1.0))
      ∙ is.kernel.descriptors.alive v.0 v.1.1.0 v.1.1.1.0

  pub listeners_valid : (descriptions : Descriptions) → descriptions ≡ k.descriptions
      → AreListeners descriptions k.listeners k.channels
  listeners_valid descriptions are =
      subst (λ ds. AreListeners ds k.listeners k.channels) (sym are) is.kernel.listeners

  pub descriptors_stand : StandForDescriptors s.ids s.kernel.procs s.kernel.book k.descriptors
  descriptors_stand = record { alive = alive; same = st.descriptors }

  not_empty : (n : ℕ) → 1 ≤ length {A = ℕ} [] → ⊥
  not_empty n some = omega (arith, some)

  pub none_unnamed : map.get s.kernel.files.names [] ≡ None
  none_unnamed = by (map.get s.kernel.files.names []) refl
    where
      by : (found : Option ℕ) → map.get s.kernel.files.names [] ≡ found → found ≡ None
      by None at = refl
      by (Some n) at =
          absurd (not_empty n (is.kernel.files.named [] n
          (ap (λ names. map.get names []) st.files.names_are ∙ at)).0.some)

  pub no_inbox : HasNoDatagrams k.descriptions → map.empty ≡ k.inboxes
  no_inbox plain =
      map.same_map desc_total desc_exact map.empty k.inboxes
      (λ id. map.get-empty desc_cmp id ∙ sym (by id (map.get k.inboxes id) refl (map.get k.descriptions id)
      refl))
    where
      by : (id : DescId) (inbox : Option _) → map.get k.inboxes id ≡ inbox → (found : Option Description)
          → map.get k.descriptions id ≡ found → map.get k.inboxes id ≡ None
      by id None none found at = none
      by id (Some x) some None at =
          true_false (sym (ap is_some some) ∙ is.kernel.inboxes.same id ∙ ap is_datagram_in at)
      by id (Some x) some (Some d) at =
          true_false (sym (ap is_some some) ∙ is.kernel.inboxes.same id ∙ ap is_datagram_in at
          ∙ plain id d at)

module _ (s : System) (held : Option Stage) (owners : Owners) (lists : Lists) (k : PlainKernel)
    (told : IsToldBy s held owners lists k) where
  pub descriptions_stand : StandForDescriptions s.ids s.conns.names s.kernel.book owners k.descriptions
  descriptions_stand = record {
    pairs = s.kernel.datagrams;
    held = held;
    kept = told.owners_are;
    same = told.stands.tables.descriptions;
    no_datagram = told.plain;
  }

-- parts that are those of a kernel part make it up
pub kernel_is : (k : PlainKernel) (processes : Processes) (makers : Makers) (descriptors : Descriptors)
    (descriptions : Descriptions) (names : Names) (files : Files) (channels : Channels)
    (directions : Directions) (listeners : Listeners) (inboxes : Inboxes) (next_file next_id : ℕ)
    → (processes, makers, descriptors, descriptions) ≡ holders_of k → (names, files) ≡ stored_of k
    → (channels, directions, listeners) ≡ connected_of k → inboxes ≡ k.inboxes → next_file ≡ k.next_file
    → next_id ≡ k.next_id → record {
      processes = processes;
      makers = makers;
      descriptors = descriptors;
      descriptions = descriptions;
      names = names;
      files = files;
      next_file = next_file;
      channels = channels;
      directions = directions;
      listeners = listeners;
      inboxes = inboxes;
      next_id = next_id;
    } ≡ all_in k
kernel_is k processes makers descriptors descriptions names files channels directions listeners inboxes
    next_file next_id held stored connected no_inboxes file_is id_is = λ i. record {
      processes = (held i).0;
      makers = (held i).1;
      descriptors = (held i).2;
      descriptions = (held i).3;
      names = (stored i).0;
      files = (stored i).1;
      next_file = file_is i;
      channels = (connected i).0;
      directions = (connected i).1;
      listeners = (connected i).2;
      inboxes = no_inboxes i;
      next_id = id_is i;
    }
