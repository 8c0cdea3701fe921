-- What a caller of the kernel owes, of a system that stands for a kernel part of which a thread asks.
--     caller_there             the real process and thread are found
--     paired, thread_paired    they are paired with those that ask
--     sound, asking            the conditions on the tables and on the caller
use Rattle.std.proofs.Common.{◌≡◌, ℕ, Bool, true, false, cond, List, Option, Some, None, refl, sym, ap, ◌∙◌, subst}
use Rattle.std.specs.Prelude.{◌==◌, IsSome, is_some, option_map, option_and_then}
use Rattle.std.specs.FinMap as map
use Rattle.std.proofs.lemmas.Option.{none-some, same_Some}
use Rattle.std.proofs.lemmas.Bool.{eqb-true, eq-eqb}
use Rattle.views.proofs.MapLaws.{true_false, key_tied}
use Rattle.views.proofs.MapValues.{some_among-values}
use Rattle.views.proofs.Seen.{agree_found, virt_of}
use Rattle.sys_abi.specs.declared.identity.VPid.{VPid}
use Rattle.sys_abi.specs.declared.identity.DescId.{DescId}
use Rattle.sys_abi.specs.declared.identity.RealPid.{RealPid}
use Rattle.sys_abi.specs.declared.identity.RealAddr.{RealAddr}
use Rattle.sys_abi.specs.declared.identity.Slot.{Slot}
use Rattle.sys_abi.specs.declared.descriptor.Descriptor.{Descriptor}
use Rattle.sys_abi.proofs.OrderLaws.{desc_total, desc_exact, slot_total, slot_exact, address_total, address_exact}
use Rattle.call_table.specs.declared.request.Request.{Request}
use Rattle.fd_tables.specs.declared.real_slot.RealSlot.{RealSlot}
use Rattle.fd_tables.specs.declared.description.Desc.{Desc}
use Rattle.fd_tables.specs.declared.description.Object.{Object}
use Rattle.fd_tables.specs.declared.description.Object.TheVariants.{Console, File, Stream, Socket, Listener, Datagram, Counter}
use Rattle.fd_tables.specs.Slots as slots
use Rattle.fd_tables.proofs.OrderLaws as fd_orders
use Rattle.proc_book.specs.declared.process.Process as real_process
use Rattle.proc_book.specs.Ends.{is_live_at}
use Rattle.plain_tables.specs.declared.process.Process.{Process}
use Rattle.plain_tables.specs.declared.description.Description.{Description}
use Rattle.plain_tables.specs.declared.description.Object as plain_object
use Rattle.plain_tables.specs.declared.description.Object.TheVariants as plain_listener
use Rattle.plain_tables.specs.Tables.{is_live_process, has_thread_in}
use Rattle.plain_tables.specs.Objects.{is_listener_at}
use Rattle.plain_tables.specs.Valid.Files.{IsOpenFile}
use Rattle.plain_tables.specs.Valid.Channels.{IsStream}
use Rattle.plain_machine.specs.declared.kernel.PlainKernel.{PlainKernel}
use Rattle.plain_machine.specs.Kernel.{is_live}
use Rattle.plain_machine.specs.Kernels.{IsKernel}
use Rattle.plain_machine.specs.RowLaws.{IsAsked}
use Rattle.host_streams.specs.OfHostTables.Conditions.{IsThere, IsSound, IsAsking}
use Rattle.host_streams.specs.OfHostTables.declared.kernel.Kernel.{Kernel}
use Rattle.host_streams.specs.OfHostTables.declared.system.System.{System}
use Rattle.host_streams.specs.OfHostTables.Datagrams.{told_end}
use Rattle.host_streams.specs.OfHostTables.Descriptions.{address_of, seen_desc, seen_object, IsTold}
use Rattle.host_streams.specs.OfHostTables.Network.{SameListener}
use Rattle.host_streams.specs.OfHostTables.Numbers.{real, number_on, to_real_thread}
use Rattle.host_streams.specs.OfHostTables.Processes.{IsSame, to_slot, from_slot}
use Rattle.host_streams.specs.OfHostTables.Stands.{Given, Stands}
use Rattle.host_streams.specs.OfHostTables.Systems.{given_of}
use Rattle.host_streams.proofs.OfHostTables.LookUps.{some_value, lives_of, real_process_of}
use Rattle.host_streams.proofs.OfHostTables.Ways.{lead_slot}
use Rattle.wrap_names.specs.declared.numbers.Caller.{Caller}
use Rattle.wrap_names.specs.Naming.{caller_on, caller_by, caller_in}
use Rattle.wrap_names.specs.Wrapping.{IsWrapped}

pub mapped_some : {A B : Type 0} (f : A → B) (o : Option A) (b : B) → option_map f o ≡ Some b
    → (a : A) × ((o ≡ Some a) × (f a ≡ b))
mapped_some f None b e = absurd (none-some b e)
mapped_some f (Some a) b e = (a, (refl, same_Some (f a) b e))

live_there : (o : Option Process) → is_live_process o ≡ true → (x : Process) × (o ≡ Some x)
live_there None e = true_false (sym e)
live_there (Some x) e = (x, refl)

-- what descriptions name is there
module _ (g : Given) (old : Kernel) (k : PlainKernel) (st : Stands g None old k) (whole : IsKernel k) where
  module _ (id : DescId) (d : Desc) (at : map.get old.book.descriptions id ≡ Some d) where
    told : map.get k.descriptions id ≡ Some (seen_desc g.virts g.names old.datagrams None id d)
    told = st.descriptions.each id ∙ ap (option_map (seen_desc g.virts g.names old.datagrams None id)) at

    abbrev seen_as : Object → plain_object.Object
    seen_as o = seen_object g.names old.datagrams id o

    listens : (address : _) (port : RealAddr) → seen_as d.object ≡ plain_listener.Listener address
        → map.get g.addresses address ≡ Some port → IsSome (map.get old.net.listeners port)
    listens address port is paired =
        let named = whole.listeners.described address
        ∙ some_among-values desc_total desc_exact (λ (x : Description). is_listener_at address x.object)
        k.descriptions id (seen_desc g.virts g.names old.datagrams None id d) told
        (ap (is_listener_at address) is ∙ key_tied address_total address_exact address) in
        let x = some_value (map.get k.listeners address) named in
        let y = agree_found (SameListener address port) (map.get k.listeners address)
        (map.get old.net.listeners port) x.0 (st.listeners.each.at address port paired) x.1 in
        ap is_some y.1.0

    there : (o : Object) → d.object ≡ o → IsThere old.files.files old.net.listeners old.datagrams o
    there Console e = tt
    there (File number offset) e =
        subst (λ files. IsSome (map.get files number)) st.files.files_are
        (subst (λ w. IsOpenFile k.files (seen_as w)) e (whole.open_files.there id _ told)).0
    there (Stream conn side) e =
        (subst (λ w. IsStream k.channels d.flags (seen_as w)) e (whole.streams.each id _ told)).2.is_side
    there Socket e = tt
    there (Listener port) e =
        let named = subst (λ w. IsTold g.names g.addresses old.datagrams id w) e (st.descriptions.objects id d at) in
        listens (address_of g.names id) port (ap seen_as e) named.1
    there (Datagram queue side) e =
        let opened = subst (λ w. IsTold g.names g.addresses old.datagrams id w) e (st.descriptions.objects id d at) in
        (opened.0, mapped_there (map.get old.datagrams queue) opened.1)
      where
        mapped_there : (o : Option _) → option_map (told_end side) o ≡ Some (id, true) → IsSome o
        mapped_there None h = absurd (none-some (id, true) h)
        mapped_there (Some pair) h = refl
    there (Counter value) e = tt

  of_slot : (at : RealSlot) (q : Slot) → to_slot g.pids q ≡ Some at → map.get g.pids q.pid.0 ≡ Some at.pid
  of_slot at q leads =
      let r = mapped_some (λ r. slots.slot r q.fd) (map.get g.pids q.pid.0) at leads in
      r.1.0 ∙ ap (λ (w : RealSlot). Some w.pid) r.1.1

  alive : (at : RealSlot) (d : Descriptor) → map.get old.book.descriptors at ≡ Some d
      → is_live_at old.procs.processes at.pid ≡ true
  unfolding is_live
  alive at d is =
      let v = virt_of slot_total slot_exact fd_orders.real_slot_total fd_orders.real_slot_exact
      (to_slot g.pids) (from_slot g.virts) (lead_slot g.pids g.virts st.paired.inverse) IsSame
      k.descriptors old.book.descriptors st.descriptors at d is in
      sym (lives_of g old k st v.0.pid at.pid (of_slot at v.0 v.1.0))
      ∙ whole.descriptors.alive v.0 v.1.1.0 v.1.1.1.0

  pub is_sound : IsSound old
  is_sound = record {
    objects = λ id d at. there id d at d.object refl;
    alive = alive;
  }

-- the caller
module _ (s : System) (next_id : ℕ) (k : PlainKernel) (w : IsWrapped s next_id k) where
  abbrev g : Given
  g = given_of s

  st : Stands g None s.kernel k
  st = w.stands.tables

  pub sound : IsSound s.kernel
  sound = is_sound g s.kernel k st w.stands.kernel

  module _ (p : VPid) (t : ℕ) (q : Request) (given : List ℕ) (asked : IsAsked k p t q given) where
    pub its_process : (x : Process) × (map.get k.processes p ≡ Some x)
    unfolding is_live
    its_process = live_there (map.get k.processes p) asked.alive

    pub its_thread : IsSome (map.get its_process.0.threads t)
    its_thread = by_found (map.get k.processes p) its_process.0 its_process.1 asked.thread
      where
        by_found : (o : Option Process) (x : Process) → o ≡ Some x
            → has_thread_in t o ≡ true → IsSome (map.get x.threads t)
        by_found None x e h = absurd (none-some x e)
        by_found (Some y) x e h =
            subst (λ (z : Process). IsSome (map.get z.threads t)) (same_Some y x e) h

    on_node : (who r : RealPid) → r.node ≡ who.node → caller_on who (cond (r.node == who.node) (Some r.pid) None)
        ≡ Some (record { who = who; thread = r.pid })
    on_node who r e =
        ap (λ b. caller_on who (cond b (Some r.pid) None)) (ap (λ n. n == who.node) e ∙ eq-eqb who.node who.node refl)

    pub caller_there : (c : Caller) × (caller_in s.ids.pids p t ≡ Some c)
    caller_there =
        let x = its_process in
        let who = some_value (map.get g.pids p.0) (st.numbered.process p x.0 x.1) in
        let r = some_value (map.get g.pids t) (st.numbered.thread p x.0 t x.1 its_thread) in
        let node = st.numbered.thread_node p x.0 t who.0 r.0 x.1 its_thread who.1 r.1 in (
          record { who = who.0; thread = r.0.pid },
          ap (caller_by g.pids t) who.1
              ∙ ap (λ o. caller_on who.0 (option_and_then (number_on who.0.node) o)) r.1
              ∙ on_node who.0 r.0 node,
        )

    module _ (c : Caller) (is : caller_in s.ids.pids p t ≡ Some c) where
      found_by : (o : Option RealPid) → map.get g.pids p.0 ≡ o → caller_by g.pids t o ≡ Some c
          → (map.get g.pids p.0 ≡ Some c.who) × (to_real_thread g.pids c.who.node t ≡ Some c.thread)
      found_by None e h = absurd (none-some c h)
      found_by (Some who) e h = on_thread (to_real_thread g.pids who.node t) refl h
        where
          on_thread : (o : Option ℕ) → to_real_thread g.pids who.node t ≡ o → caller_on who o ≡ Some c
              → (map.get g.pids p.0 ≡ Some c.who) × (to_real_thread g.pids c.who.node t ≡ Some c.thread)
          on_thread None f h = absurd (none-some c h)
          on_thread (Some thread) f h =
              let same = same_Some (record { who = who; thread = thread }) c h in (
                e ∙ ap (λ (x : Caller). Some x.who) same,
                subst (λ (x : Caller). to_real_thread g.pids x.who.node t ≡ Some x.thread) same f,
              )

      pub paired : map.get s.ids.pids p.0 ≡ Some c.who
      paired = (found_by (map.get g.pids p.0) refl is).0

      pub thread_leads : to_real_thread g.pids c.who.node t ≡ Some c.thread
      thread_leads = (found_by (map.get g.pids p.0) refl is).1

      pair_by : (o : Option RealPid) → map.get g.pids t ≡ o
          → option_and_then (number_on c.who.node) o ≡ Some c.thread
          → map.get g.pids t ≡ Some (real c.who.node c.thread)
      pair_by None e h = absurd (none-some c.thread h)
      pair_by (Some r) e h = e ∙ ap Some (of_node (r.node == c.who.node) refl h)
        where
          of_node : (b : Bool) → (r.node == c.who.node) ≡ b → cond b (Some r.pid) None ≡ Some c.thread
              → r ≡ real c.who.node c.thread
          of_node true f h =
              λ i. real (eqb-true r.node c.who.node f i) (same_Some r.pid c.thread h i)
          of_node false f h = absurd (none-some c.thread h)

      pub thread_paired : map.get s.ids.pids t ≡ Some (real c.who.node c.thread)
      thread_paired = pair_by (map.get g.pids t) refl thread_leads

      pub asking : IsAsking s.kernel.procs c.who c.thread
      asking =
          let x = its_process in
          let y = real_process_of g s.kernel k st p c.who paired x.0 x.1 in
          let out = st.paired.handed_out p.0 c.who paired in
          let signals = some_value (map.get x.0.threads t) its_thread in
          let there = agree_found (IsSame t c.thread) (map.get x.0.threads t) (map.get y.0.threads c.thread)
          signals.0 (y.1.1.threads.at t c.thread thread_leads) signals.1 in
          record {
            node = out.node;
            below = out.below;
            alive = sym (lives_of g s.kernel k st p c.who paired) ∙ asked.alive;
            there = ap (λ (o : Option real_process.Process). is_some (option_and_then (λ z. map.get z.threads c.thread) o)) y.1.0
                ∙ ap is_some there.1.0;
          }
