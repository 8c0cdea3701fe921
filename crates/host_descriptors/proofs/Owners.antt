-- The owner of a description that a process holds is of the process's node.
--     owner_told           the number that tells an owner
use Rattle.std.proofs.Common.{◌≡◌, ℕ, ◌≤◌, Bool, true, false, Option, Some, None, inl, inr, refl, sym, ap, ◌∙◌, subst, arith}
use Rattle.std.specs.Prelude.{◌==◌, option_map, unwrap_or}
use Rattle.std.specs.FinMap as map
use Rattle.std.proofs.lemmas.Bool.{eqb-true}
use Rattle.sys_abi.specs.declared.identity.VPid.{VPid}
use Rattle.sys_abi.specs.declared.identity.RealPid.{RealPid}
use Rattle.fd_tables.specs.Slots as slots
use Rattle.host_tables.specs.OfPlainTables.Tables.{FIRST_PID, slot, pid, lives_in}
use Rattle.host_tables.specs.OfPlainTables.Valid.Descriptions.{IsOwner}
use Rattle.host_tables.specs.OfPlainMachine.declared.kernel.PlainKernel.{PlainKernel}
use Rattle.host_tables.specs.OfPlainMachine.Kernels.{IsKernel}
use Rattle.host_tables.specs.declared.kernel.Kernel.{Kernel}
use Rattle.host_tables.specs.Descriptions.{seen_desc}
use Rattle.host_tables.specs.Numbers.{real, number_of, IsKnown}
use Rattle.host_tables.specs.Serves.{ByPidOr, ByPidUnless}
use Rattle.host_tables.specs.Stands.{Given, Stands}
use Rattle.host_tables.proofs.LookUps.{some_value, at_slot}
use Rattle.host_tables.proofs.Neighbours.{there_by, neighbours_node}
use Rattle.host_descriptors.specs.declared.held.Held.{Held}
use Rattle.host_descriptors.specs.Held.{held_in, owner_value}
use Rattle.host_descriptors.proofs.HeldChanges.{held_by}

module _ (g : Given) (old : Kernel) (k : PlainKernel) (st : Stands g None old k) where
  module _ (whole : IsKernel k) (p : VPid) (who : RealPid) (paired : map.get g.pids p.0 ≡ Some who) (fd : ℕ)
      (h : Held) (held : held_in old.book (slots.slot who fd) ≡ Some h) where
    plain_slot : map.get k.descriptors (slot p fd) ≡ Some (record { desc = h.desc; cloexec = h.cloexec })
    plain_slot =
        at_slot g.pids g.virts old.book.descriptors k.descriptors st.descriptors p who paired fd
        ∙ (held_by old.book (slots.slot who fd) h held).slot_is

    plain_desc : map.get k.descriptions h.desc ≡ Some (seen_desc g.virts g.names old.datagrams None h.desc h.description)
    plain_desc =
        st.descriptions.each h.desc
        ∙ ap (option_map (seen_desc g.virts g.names old.datagrams None h.desc))
        (held_by old.book (slots.slot who fd) h held).described

    lives : lives_in k.processes p ≡ true
    lives = whole.descriptors.alive (slot p fd) (record { desc = h.desc; cloexec = h.cloexec }) plain_slot

    owns : IsOwner k.processes k.makers p (number_of g.virts 0 h.description.owner)
    owns = whole.holders.owner (slot p fd) (record { desc = h.desc; cloexec = h.cloexec })
        (seen_desc g.virts g.names old.datagrams None h.desc h.description) plain_slot plain_desc

    known : IsKnown g.virts h.description.owner
    known = st.descriptions.owners h.desc h.description (held_by old.book (slots.slot who fd) h held).described

    -- a process that owns
    module _ (s : RealPid) (v : ℕ) (virt : map.get g.virts s ≡ Some v) where
      to_s : map.get g.pids v ≡ Some s
      to_s = st.paired.inverse.leads_there v s virt

      not_zero : (b : Bool) → (s.pid == 0) ≡ b → (s.pid == 0) ≡ false
      not_zero true e = absurd (above s.pid (st.paired.handed_out v s to_s).first (eqb-true s.pid 0 e))
        where
          above : (n : ℕ) → 1 ≤ n → n ≡ 0 → ⊥
          above n h e = omega (arith, h, e)
      not_zero false e = e

      not_nobody : v ≡ 0 → ⊥
      not_nobody e = above v (st.paired.handed_out v s to_s).virt e
        where
          above : (n : ℕ) → FIRST_PID ≤ n → n ≡ 0 → ⊥
          above n h e = omega (arith, h, e)

      node_by : IsOwner k.processes k.makers p v → s.node ≡ who.node
      node_by own = elim own [
        | inl nobody ↦ absurd (not_nobody nobody)
        | inr neighbour ↦
            let x = there_by (map.get k.processes p) lives in
            let y = there_by (map.get k.processes (pid v)) neighbour.0 in
            neighbours_node g old k st p (pid v) who s x.0 y.0 x.1 y.1 neighbour.1 paired to_s
      ]

      by_owner : (m : ℕ) → m ≡ v → IsOwner k.processes k.makers p m → ByPidOr 0 who s.pid m g
      by_owner m is own =
          subst (λ b. ByPidUnless b 0 who s.pid m g) (sym (not_zero (s.pid == 0) refl))
          (ap (map.get g.pids) is ∙ to_s
          ∙ (λ i. Some (real (node_by (subst (IsOwner k.processes k.makers p) is own) i) s.pid)))

    told_by : (owner : Option RealPid) → IsKnown g.virts owner
        → IsOwner k.processes k.makers p (number_of g.virts 0 owner)
        → ByPidOr 0 who (owner_value owner) (number_of g.virts 0 owner) g
    told_by None is own = refl
    told_by (Some s) is own =
        let v = some_value (map.get g.virts s) is in
        by_owner s v.0 v.1 (number_of g.virts 0 (Some s)) (ap (λ o. unwrap_or o 0) v.1) own

    pub owner_told : ByPidOr 0 who (owner_value h.description.owner) (number_of g.virts 0 h.description.owner) g
    owner_told = told_by h.description.owner known owns
