-- Each topic by the pairs with one more.
--     IsNumberOf-grows                          a number of a parent
--     SameProcess-grows, SameProcesses-grows    processes and their threads
--     SameDescriptors-grows                     descriptors, where the pair is nobody's who has any
--     SameDescriptions-grows                    descriptions and their owners
use Rattle.std.proofs.Common.{◌≡◌, ◌≢◌, ◌⊎◌, ℕ, Bool, true, false, cond, Option, Some, None, inl, inr, refl, sym, ap, ◌∙◌}
use Rattle.std.specs.Prelude.{option_map, option_and_then, is_some, IsSome, ◌==◌, unwrap_or}
use Rattle.std.specs.Ordering.{nat_cmp}
use Rattle.std.specs.Cmp.{nat_cmp_total}
use Rattle.std.specs.FinMap as map
use Rattle.std.specs.FinMap.{FinMap, nat_cmp-IsAntisymmetric}
use Rattle.std.proofs.lemmas.Option.{same_Some, none-some}
use Rattle.std.proofs.lemmas.Bool.{eqb-true}
use Rattle.views.specs.Seen.{SeenBy}
use Rattle.views.proofs.MapLaws.{true_false}
use Rattle.views.proofs.Seen.{grown}
use Rattle.sys_abi.specs.declared.identity.VPid.{VPid}
use Rattle.sys_abi.specs.declared.identity.DescId.{DescId}
use Rattle.sys_abi.specs.declared.identity.RealPid.{RealPid}
use Rattle.sys_abi.specs.declared.identity.Slot.{Slot}
use Rattle.sys_abi.proofs.OrderLaws.{slot_total, slot_exact, vpid_total, vpid_exact, real_pid_total, real_pid_exact}
use Rattle.conn_table.specs.Pairs.{Pairs}
use Rattle.fd_tables.specs.declared.description.Desc.{Desc}
use Rattle.fd_tables.specs.declared.real_slot.RealSlot.{RealSlot}
use Rattle.fd_tables.specs.Slots as slots
use Rattle.fd_tables.proofs.OrderLaws.{real_slot_total, real_slot_exact}
use Rattle.proc_book.specs.declared.process.Process as real_process
use Rattle.proc_book.specs.Ends as procs
use Rattle.proc_book.specs.OfVirtIds.Pairs.{AreInverse}
use Rattle.plain_machine.specs.OfPlainTables.declared.process.Process.{Process}
use Rattle.plain_machine.specs.OfPlainTables.Tables.{NOBODY, Processes, Descriptors, Descriptions, pid, slot}
use Rattle.host_tables.specs.Numbers.{Pids, Virts, real, to_real, to_virt, number_on, to_real_thread, to_virt_thread, IsNumberOf, number_of, IsKnown}
use Rattle.host_tables.specs.Processes.{IsSame, SameProcess, SameProcesses, RealDescriptors, SameDescriptors, to_slot, from_slot}
use Rattle.host_tables.specs.Datagrams.{RealDescriptions}
use Rattle.host_tables.specs.Descriptions.{Names, Addresses, Stage, owner_of, seen_desc, SameDescriptions}
use Rattle.host_tables.proofs.MorePairs.{pids', virts', virt_kept, real_was, real_none, virt_none}
use Rattle.host_tables.proofs.Ways.{lead_process, lead_slot, lead_thread}

module _ (pids : Pids) (virts : Virts) (inverse : AreInverse pids virts) (v : ℕ) (r : RealPid)
    (new_v : map.get pids v ≡ None) (new_r : map.get virts r ≡ None) where
  abbrev then_pids : Pids
  then_pids = pids' pids virts inverse v r new_v new_r

  abbrev then_virts : Virts
  then_virts = virts' pids virts inverse v r new_v new_r

  was : (w : ℕ) (s : RealPid) → map.get then_pids w ≡ Some s
      → ((w ≡ v) × (s ≡ r)) ⊎ ((w ≢ v) × (map.get pids w ≡ Some s))
  was = real_was pids virts inverse v r new_v new_r

  pub IsNumberOf-grows : (none : ℕ) (o : Option RealPid) (n : ℕ) → IsNumberOf virts none o n
      → IsNumberOf then_virts none o n
  IsNumberOf-grows none None n is = is
  IsNumberOf-grows none (Some s) n is = virt_kept pids virts inverse v r new_v new_r s n is

  -- threads of one node

  abbrev picked : ℕ → Option RealPid → Option ℕ
  picked node o = option_and_then (number_on node) o

  on_node : (node n : ℕ) (s : RealPid) (b : Bool) → (s.node == node) ≡ b → cond b (Some s.pid) None ≡ Some n
      → s ≡ r → (n ≡ r.pid) × (r.node ≡ node)
  on_node node n s true e h same = (
    sym (same_Some s.pid n h) ∙ ap (λ (x : RealPid). x.pid) same,
    ap (λ (x : RealPid). x.node) (sym same) ∙ eqb-true s.node node e,
  )
  on_node node n s false e h same = absurd (none-some n h)

  thread_was : (node t n : ℕ) (o : Option RealPid) → map.get then_pids t ≡ o → picked node o ≡ Some n
      → (to_real_thread pids node t ≡ Some n) ⊎ ((t ≡ v) × ((n ≡ r.pid) × (r.node ≡ node)))
  thread_was node t n None e h = absurd (none-some n h)
  thread_was node t n (Some s) e h = elim (was t s e) [
    | inl here ↦ inr (here.0, on_node node n s (s.node == node) refl h here.1)
    | inr before ↦ inl (ap (picked node) before.1 ∙ h)
  ]

  module _ (node : ℕ) (a : FinMap nat_cmp ℕ) (b : FinMap nat_cmp ℕ)
      (seen : SeenBy (to_real_thread pids node) (to_virt_thread virts node) IsSame a b) where
    no_virt : map.get a v ≡ None
    no_virt = seen.virt_alone v (ap (picked node) new_v)

    no_real : r.node ≡ node → map.get b r.pid ≡ None
    no_real same = seen.real_alone r.pid ((λ i. map.get virts (real (sym same i) r.pid)) ∙ new_r)

    none_was : (t : ℕ) (o : Option RealPid) → map.get then_pids t ≡ o → picked node o ≡ None
        → to_real_thread pids node t ≡ None
    none_was t None e h = ap (picked node) (real_none pids virts inverse v r new_v new_r t e)
    none_was t (Some s) e h = elim (was t s e) [
      | inl here ↦ ap (λ x. picked node (map.get pids x)) here.0 ∙ ap (picked node) new_v
      | inr before ↦ ap (picked node) before.1 ∙ h
    ]

    pub threads_grow : SeenBy (to_real_thread then_pids node) (to_virt_thread then_virts node) IsSame a b
    threads_grow =
        grown nat_cmp_total nat_cmp-IsAntisymmetric nat_cmp_total nat_cmp-IsAntisymmetric
        (to_real_thread pids node) (to_virt_thread virts node) (lead_thread pids virts inverse node) IsSame
        (to_real_thread then_pids node) (to_virt_thread then_virts node) IsSame a b seen
        (λ t n leads. elim (thread_was node t n (map.get then_pids t) refl leads) [
          | inl before ↦ inl before
          | inr here ↦ inr (ap (map.get a) here.0 ∙ no_virt, ap (map.get b) here.1.0 ∙ no_real here.1.1)
        ])
        (λ t n x y leads e f is. is)
        (λ t none. none_was t (map.get then_pids t) refl none)
        (λ n none. virt_none pids virts inverse v r new_v new_r (real node n) none)

  pub SameProcess-grows : (p : VPid) (s : RealPid) (x : Process) (y : real_process.Process)
      → SameProcess pids virts p s x y → SameProcess then_pids then_virts p s x y
  SameProcess-grows p s x y same = record {
    life = same.life;
    pending = same.pending;
    parent = IsNumberOf-grows NOBODY y.parent x.parent same.parent;
    threads = threads_grow s.node x.threads y.threads same.threads;
  }

  -- processes

  to_virt_none : (s : RealPid) (o : Option ℕ) → map.get then_virts s ≡ o → option_map pid o ≡ None
      → to_virt virts s ≡ None
  to_virt_none s None e h = ap (option_map pid) (virt_none pids virts inverse v r new_v new_r s e)
  to_virt_none s (Some w) e h = absurd (none-some (pid w) (sym h))

  module _ (virt : Processes) (table : procs.Processes) (same : SameProcesses pids virts virt table) where
    process_was : (q : VPid) (s : RealPid) → to_real then_pids q ≡ Some s
        → (to_real pids q ≡ Some s) ⊎ ((map.get virt q ≡ None) × (map.get table s ≡ None))
    process_was q s leads = elim (was q.0 s leads) [
      | inl here ↦ inr (
        same.virt_alone q (ap (map.get pids) here.0 ∙ new_v),
        same.real_alone s (ap (to_virt virts) here.1 ∙ ap (option_map pid) new_r),
      )
      | inr before ↦ inl before.1
    ]

    pub SameProcesses-grows : SameProcesses then_pids then_virts virt table
    SameProcesses-grows =
        grown vpid_total vpid_exact real_pid_total real_pid_exact (to_real pids) (to_virt virts)
        (lead_process pids virts inverse) (SameProcess pids virts) (to_real then_pids) (to_virt then_virts)
        (SameProcess then_pids then_virts) virt table same process_was
        (λ q s x y leads e f is. SameProcess-grows q s x y is)
        (λ q none. real_none pids virts inverse v r new_v new_r q.0 none)
        (λ s none. to_virt_none s (map.get then_virts s) refl none)

  -- descriptors

  module _ (virt : Descriptors) (table : RealDescriptors) (same : SameDescriptors pids virts virt table) where
    slot_was : (at : Slot) (s : RealSlot) (o : Option RealPid) → map.get then_pids at.pid.0 ≡ o
        → option_map (λ x. slots.slot x at.fd) o ≡ Some s
        → (to_slot pids at ≡ Some s) ⊎ ((map.get virt at ≡ None) × (map.get table s ≡ None))
    slot_was at s None e h = absurd (none-some s h)
    slot_was at s (Some x) e h = elim (was at.pid.0 x e) [
      | inl here ↦ inr (
        same.virt_alone at (ap (λ w. option_map (λ x. slots.slot x at.fd) (map.get pids w)) here.0
            ∙ ap (option_map (λ x. slots.slot x at.fd)) new_v),
        same.real_alone s (ap (from_slot virts) (sym (same_Some _ s h))
            ∙ ap (λ x. option_map (λ p. slot p at.fd) (to_virt virts x)) here.1
            ∙ ap (λ o. option_map (λ p. slot p at.fd) (option_map pid o)) new_r),
      )
      | inr before ↦ inl (ap (option_map (λ x. slots.slot x at.fd)) before.1 ∙ h)
    ]

    no_slot : (at : Slot) (o : Option RealPid) → map.get then_pids at.pid.0 ≡ o
        → option_map (λ x. slots.slot x at.fd) o ≡ None → to_slot pids at ≡ None
    no_slot at None e h =
        ap (option_map (λ x. slots.slot x at.fd)) (real_none pids virts inverse v r new_v new_r at.pid.0 e)
    no_slot at (Some x) e h = absurd (none-some (slots.slot x at.fd) (sym h))

    no_virt_slot : (s : RealSlot) (o : Option ℕ) → map.get then_virts s.pid ≡ o
        → option_map (λ p. slot p s.fd) (option_map pid o) ≡ None → from_slot virts s ≡ None
    no_virt_slot s None e h =
        ap (λ o. option_map (λ p. slot p s.fd) (option_map pid o))
        (virt_none pids virts inverse v r new_v new_r s.pid e)
    no_virt_slot s (Some w) e h = absurd (none-some (slot (pid w) s.fd) (sym h))

    pub SameDescriptors-grows : SameDescriptors then_pids then_virts virt table
    SameDescriptors-grows =
        grown slot_total slot_exact real_slot_total real_slot_exact (to_slot pids) (from_slot virts)
        (lead_slot pids virts inverse) IsSame (to_slot then_pids) (from_slot then_virts) IsSame virt table same
        (λ at s leads. slot_was at s (map.get then_pids at.pid.0) refl leads)
        (λ at s x y leads e f is. is)
        (λ at none. no_slot at (map.get then_pids at.pid.0) refl none)
        (λ s none. no_virt_slot s (map.get then_virts s.pid) refl none)

  -- owners

  number_by : (s : RealPid) (o : Option ℕ) → map.get virts s ≡ o → IsSome o
      → unwrap_or (map.get then_virts s) 0 ≡ unwrap_or (map.get virts s) 0
  number_by s None e h = true_false (sym h)
  number_by s (Some w) e h =
      ap (λ o. unwrap_or o 0) (virt_kept pids virts inverse v r new_v new_r s w e ∙ sym e)

  number_grows : (o : Option RealPid) → IsKnown virts o → number_of then_virts 0 o ≡ number_of virts 0 o
  number_grows None known = refl
  number_grows (Some s) known = number_by s (map.get virts s) refl known

  known_by : (s : RealPid) (o : Option ℕ) → map.get virts s ≡ o → IsSome o → IsSome (map.get then_virts s)
  known_by s None e h = true_false (sym h)
  known_by s (Some w) e h = ap is_some (virt_kept pids virts inverse v r new_v new_r s w e)

  pub known_grows : (o : Option RealPid) → IsKnown virts o → IsKnown then_virts o
  known_grows None known = tt
  known_grows (Some s) known = known_by s (map.get virts s) refl known

  module _ (names : Names) (addresses : Addresses) (pairs : Pairs) (held : Option Stage) (virt : Descriptions)
      (table : RealDescriptions) (same : SameDescriptions virts names addresses pairs held virt table) where
    seen_by : (id : DescId) (o : Option Desc) → map.get table id ≡ o
        → option_map (seen_desc virts names pairs held id) o ≡ option_map (seen_desc then_virts names pairs held id) o
    seen_by id None e = refl
    seen_by id (Some d) e =
        ap (λ n. Some (record (seen_desc virts names pairs held id d) { owner = n }))
        (sym (number_grows (owner_of held id d) (same.owners id d e)))

    pub SameDescriptions-grows : SameDescriptions then_virts names addresses pairs held virt table
    SameDescriptions-grows = record {
      each = λ id. same.each id ∙ seen_by id (map.get table id) refl;
      owners = λ id d is. known_grows (owner_of held id d) (same.owners id d is);
      objects = same.objects;
    }
