-- A child that was waited for is gone, and its pair and its maker with it.
--     IsNobody k v         the number is no process's and no thread's, and nothing names it
--     nobody_left          so it is with that of a child that is gone
--     Stands-shrinks       the kernel goes on to stand by the pairs without it
use Rattle.std.proofs.Common.{◌≡◌, ◌≢◌, ℕ, ◌≤◌, false, Option, Some, None, inl, inr, refl, sym, ap, ◌∙◌, arith}
use Rattle.std.specs.Prelude.{is_some}
use Rattle.std.specs.FinMap as map
use Rattle.std.proofs.lemmas.Bool.{false_from_ne_true}
use Rattle.std.proofs.lemmas.Option.{none-some}
use Rattle.views.proofs.MapLaws.{true_false, same_or_other, same_key, get_remove_same, get_remove_other}
use Rattle.views.proofs.MapValues.{none_among-values}
use Rattle.sys_abi.specs.declared.identity.VPid.{VPid}
use Rattle.sys_abi.specs.declared.identity.DescId.{DescId}
use Rattle.sys_abi.specs.declared.identity.RealPid.{RealPid}
use Rattle.sys_abi.specs.declared.identity.Slot.{Slot}
use Rattle.sys_abi.specs.declared.descriptor.Descriptor.{Descriptor}
use Rattle.sys_abi.specs.declared.life.Life.{Life}
use Rattle.sys_abi.specs.declared.life.Life.TheVariants.{Live, Zombie}
use Rattle.sys_abi.proofs.OrderLaws.{vpid_total, vpid_exact, slot_total, slot_exact, desc_total, desc_exact}
use Rattle.plain_tables.specs.declared.description.Description.{Description}
use Rattle.plain_tables.specs.declared.process.Process.{Process}
use Rattle.plain_tables.specs.Tables.{FIRST_PID, pid, is_held, is_live_process, lives_in, refers_to, has_thread_in}
use Rattle.plain_tables.specs.Valid.Descriptions.{IsOwner}
use Rattle.plain_tables.specs.Valid.Processes.{HasParent}
use Rattle.plain_machine.specs.declared.kernel.PlainKernel.{PlainKernel}
use Rattle.plain_machine.specs.Kernel.{without_process}
use Rattle.plain_machine.specs.Kernels.{IsKernel}
use Rattle.plain_machine.proofs.ReapedKernels.{IsEnded, whole_reaped}
use Rattle.host_streams.specs.OfHostTables.declared.kernel.Kernel.{Kernel}
use Rattle.host_streams.specs.OfHostTables.Stands.{Given, Stands}
use Rattle.wrap_names.proofs.FewerPairs.{fewer_pids, fewer_virts, SameProcesses-shrink, SameDescriptors-shrink, SameDescriptions-shrink, AreNumbered-shrinks, ArePaired-shrinks}

pub record IsNobody (k : PlainKernel) (v : ℕ) : Type 0 where
  pub process : map.get k.processes (pid v) ≡ None
  pub thread : (p : VPid) (x : Process) → map.get k.processes p ≡ Some x → map.get x.threads v ≡ None
  pub parent : (p : VPid) (x : Process) → map.get k.processes p ≡ Some x → x.parent ≢ v
  pub owner : (id : DescId) (x : Description) → map.get k.descriptions id ≡ Some x → x.owner ≢ v
  pub slot : (at : Slot) → at.pid.0 ≡ v → map.get k.descriptors at ≡ None

module _ (k : PlainKernel) (whole : IsKernel k) (v : ℕ) (above : FIRST_PID ≤ v)
    (gone : map.get k.processes (pid v) ≡ None) where
  dead : (n : ℕ) → n ≡ v → lives_in k.processes (pid n) ≡ false
  dead n same = ap is_live_process (ap (λ w. map.get k.processes (pid w)) same ∙ gone)

  no_parent_by : (p : VPid) (parent : ℕ) (life : Life) → HasParent k.processes k.makers p parent life → parent ≢ v
  no_parent_by p parent Live (inl nobody) same = absurd (let a : FIRST_PID ≤ v = above in omega (arith, nobody, same, a))
  no_parent_by p parent Live (inr is) same = true_false (sym is.alive ∙ dead parent same)
  no_parent_by p parent (Zombie status) is same = true_false (sym is.0.alive ∙ dead parent same)

  no_owner_by : (holder : VPid) (owner : ℕ) → IsOwner k.processes k.makers holder owner → owner ≢ v
  no_owner_by holder owner (inl nobody) same = absurd (let a : FIRST_PID ≤ v = above in omega (arith, nobody, same, a))
  no_owner_by holder owner (inr is) same = true_false (sym is.0 ∙ dead owner same)

  no_owner : (id : DescId) (x : Description) → map.get k.descriptions id ≡ Some x → x.owner ≢ v
  unfolding is_held
  no_owner id x is same =
      let none = none_among-values slot_total slot_exact (refers_to id) k.descriptors (λ at d found.
      false_from_ne_true (refers_to id d) (λ refers.
      no_owner_by at.pid x.owner
      (whole.holders.owner at d x found
      (ap (map.get k.descriptions) (sym (same_key desc_total desc_exact id d.desc refers)) ∙ is)) same)) in
      true_false (sym (whole.descriptions.held id x is) ∙ none)

  no_slot_by : (at : Slot) (o : Option Descriptor) → map.get k.descriptors at ≡ o → at.pid.0 ≡ v
      → map.get k.descriptors at ≡ None
  no_slot_by at None e same = e
  no_slot_by at (Some d) e same = true_false (sym (whole.descriptors.alive at d e) ∙ dead at.pid.0 same)

  pub nobody : ((p : VPid) (x : Process) → map.get k.processes p ≡ Some x → map.get x.threads v ≡ None) → IsNobody k v
  nobody no_thread = record {
    process = gone;
    thread = no_thread;
    parent = λ p x is. no_parent_by p x.parent x.life (whole.parents.each p x is);
    owner = no_owner;
    slot = λ at same. no_slot_by at (map.get k.descriptors at) refl same;
  }

module _ (k : PlainKernel) (whole : IsKernel k) (q : VPid) (status : ℕ) (ended : IsEnded k.processes q status) where
  abbrev pub left : PlainKernel
  left = without_process q k

  pub still_there : (p : VPid) (x : Process) → map.get left.processes p ≡ Some x
      → (p ≢ q) × (map.get k.processes p ≡ Some x)
  still_there p x is = elim (same_or_other vpid_total vpid_exact p q) [
    | inl here ↦ absurd (none-some x
        (sym (get_remove_same vpid_total vpid_exact k.processes q) ∙ ap (map.get left.processes) (sym here) ∙ is))
    | inr differ ↦ (differ, sym (get_remove_other vpid_total vpid_exact k.processes q p differ) ∙ is)
  ]

  no_thread_by : (p : VPid) (x : Process) → map.get left.processes p ≡ Some x → (o : Option ℕ)
      → map.get x.threads q.0 ≡ o → map.get x.threads q.0 ≡ None
  no_thread_by p x is None e = e
  no_thread_by p x is (Some signals) e =
      let was = still_there p x is in
      absurd (was.0 (whole.processes.own_number p q
      (ap (has_thread_in q.0) was.1 ∙ ap is_some e) (ap is_some ended.there)))

  pub first : FIRST_PID ≤ q.0
  first = (whole.processes.each q ended.process ended.there).number.0

  pub nobody_left : IsNobody left q.0
  nobody_left =
      nobody left (whole_reaped k q status whole ended) q.0 first
      (get_remove_same vpid_total vpid_exact k.processes q)
      (λ p x is. no_thread_by p x is (map.get x.threads q.0) refl)

module _ (g : Given) (real : Kernel) (k : PlainKernel) (st : Stands g None real k) (v : ℕ) (r : RealPid)
    (paired : map.get g.pids v ≡ Some r) (nobody : IsNobody k v) where
  abbrev pub fewer : Given
  fewer = record g {
    pids = fewer_pids g.pids g.virts st.paired.inverse v r paired;
    virts = fewer_virts g.pids g.virts st.paired.inverse v r paired;
  }

  pub Stands-shrinks : Stands fewer None real k
  Stands-shrinks = record {
    paired = ArePaired-shrinks g.pids g.virts st.paired.inverse v r paired g.next real.procs.next st.paired;
    numbered = AreNumbered-shrinks g.pids g.virts st.paired.inverse v r paired real.nodes k.processes k.makers
        nobody.process nobody.thread st.numbered;
    processes = SameProcesses-shrink g.pids g.virts st.paired.inverse v r paired k.processes real.procs.processes
        st.processes nobody.process nobody.thread nobody.parent;
    descriptors = SameDescriptors-shrink g.pids g.virts st.paired.inverse v r paired k.descriptors
        real.book.descriptors st.descriptors nobody.slot;
    descriptions = SameDescriptions-shrink g.pids g.virts st.paired.inverse v r paired g.names g.addresses
        real.datagrams k.descriptions real.book.descriptions st.descriptions nobody.owner;
    inboxes = st.inboxes;
    files = st.files;
    channels = st.channels;
    directions = st.directions;
    listeners = st.listeners;
  }
