-- The processes, makers and descriptors of a kernel part come back from what is made of them.
use Rattle.std.proofs.Common.{◌≡◌, ◌≢◌, ℕ, ◌==◌, Bool, true, false, cond, List, [], ◌∷◌, filter, map as each, refl, sym, ap, subst, ◌∙◌, ⊎_elim, arith}
use Rattle.std.specs.Prelude.{Option, Some, None, is_some}
use Rattle.std.specs.List.{flat_map}
use Rattle.std.specs.Ordering.{nat_cmp, eq_by_cmp}
use Rattle.std.specs.Cmp.{nat_cmp_total}
use Rattle.std.specs.FinMap as map
use Rattle.std.specs.FinMap.{nat_cmp-IsAntisymmetric}
use Rattle.std.proofs.lemmas.Bool.Decides.{nat_tests}
use Rattle.views.proofs.MapLaws.{same_or_other, other_key, true_false}
use Rattle.views.proofs.MapValues.{EachEntry, each_entry}
use Rattle.sys_abi.specs.declared.identity.VPid.{VPid}
use Rattle.sys_abi.specs.declared.identity.Slot.{Slot}
use Rattle.sys_abi.specs.Orders.{slot_cmp}
use Rattle.sys_abi.proofs.OrderLaws.{vpid_total, vpid_exact, slot_total, slot_exact}
use Rattle.plain_machine.specs.declared.kernel.PlainKernel.{PlainKernel}
use Rattle.plain_machine.specs.Kernels.{IsKernel}
use Rattle.plain_tables.specs.declared.process.Process.{Process}
use Rattle.sys_abi.specs.declared.descriptor.Descriptor.{Descriptor}
use Rattle.plain_tables.specs.Tables.{is_live_process}
use Rattle.plain_tables.proofs.Entries.{found_at}
use Rattle.image_codec.specs.KernelParts.{process_entry, maker_entry, descriptor_entries, descriptor_entry, signals_entry}
use Rattle.image_codec.specs.KernelImages.{process_image, maker_or, thread_image, descriptor_image, is_of}
use Rattle.image_codec.proofs.MadeMaps.{each_back, flat_back, later, there_at}

-- the threads of a process
thread_entries_back : (es : List (ℕ × ℕ)) → each signals_entry (each thread_image es) ≡ es
thread_entries_back [] = refl
thread_entries_back (e ∷ es) = ap (λ (rest : List (ℕ × ℕ)). e ∷ rest) (thread_entries_back es)

pub threads_back : (threads : map.FinMap nat_cmp ℕ) → map.from_entries {R = nat_cmp} (each signals_entry (each thread_image (map.entries threads))) ≡ threads
threads_back threads =
    ap map.from_entries (thread_entries_back (map.entries threads))
    ∙ map.same_map nat_cmp_total nat_cmp-IsAntisymmetric (map.from_entries (map.entries threads)) threads (λ q. map.get-from_entries nat_cmp_total (map.entries threads) q ∙ sym (map.get-entries threads q))

-- a process that lives is there
live_is_there : (found : Option Process) → is_live_process found ≡ true → is_some found ≡ true
live_is_there None alive = true_false (sym alive)
live_is_there (Some process) alive = refl

same_slot : (at : Slot) (p : VPid) → (at.pid.0 == p.0) ≡ true → record { pid = p; fd = at.fd } ≡ at
same_slot at p same =
    let number : p.0 ≡ at.pid.0 = grind (arith, nat_tests) in
    λ i. record { pid = record { 0 = number i }; fd = at.fd }

-- the descriptors of one process, as they stand among all
module _ (p : VPid) where
  own_entries : List (Slot × Descriptor) → List (Slot × Descriptor)
  own_entries es = each (descriptor_entry p) (each descriptor_image (filter (is_of p) es))

  own_are : (P : Slot → Descriptor → Type 0) (es : List (Slot × Descriptor)) → EachEntry P es → EachEntry P (own_entries es)
  unfolding own_entries
  own_are P [] are = tt
  own_are P (e ∷ es) are = by_test (is_of p e) refl (own_are P es are.1)
    where
      by_test : (b : Bool) → is_of p e ≡ b → EachEntry P (own_entries es) → EachEntry P (each (descriptor_entry p) (each descriptor_image (cond b (e ∷ filter (is_of p) es) (filter (is_of p) es))))
      by_test true own rest = (subst (λ at. P at e.1) (sym (same_slot e.0 p own)) are.0, rest)
      by_test false own rest = rest

  own_there : (es : List (Slot × Descriptor)) (at : Slot) (x : Descriptor) → at.pid ≡ p → map.find slot_cmp at es ≡ Some x → is_some (map.find slot_cmp at (own_entries es)) ≡ true
  unfolding own_entries
  own_there [] at x mine found = cc
  own_there (e ∷ es) at x mine found = ⊎_elim
      (λ (here : at ≡ e.0).
      let own : is_of p e ≡ true =
      let number : e.0.pid.0 ≡ p.0 = ap (λ (s : Slot). s.pid.0) (sym here) ∙ ap (λ (q : VPid). q.0) mine in
      grind (arith, nat_tests, number) in
      rw own (subst (λ s. is_some (map.find slot_cmp s ((record { pid = p; fd = e.0.fd }, e.1) ∷ own_entries es)) ≡ true) (same_slot e.0 p own ∙ sym here)
      (there_at slot_total slot_exact (record { pid = p; fd = e.0.fd }) e.1 (own_entries es))))
      (λ (other : at ≢ e.0).
      let rest = own_there es at x mine (sym (ap (λ b. cond b (Some e.1) (map.find slot_cmp at es)) (other_key slot_total slot_exact at e.0 other)) ∙ found) in
      by_test (is_of p e) rest)
      (same_or_other slot_total slot_exact at e.0)
    where
      by_test : (b : Bool) → is_some (map.find slot_cmp at (own_entries es)) ≡ true
          → is_some (map.find slot_cmp at (each (descriptor_entry p) (each descriptor_image (cond b (e ∷ filter (is_of p) es) (filter (is_of p) es))))) ≡ true
      by_test true rest = later slot_total slot_exact (eq_by_cmp slot_cmp at (record { pid = p; fd = e.0.fd })) e.1 (map.find slot_cmp at (own_entries es)) rest
      by_test false rest = rest

module _ (k : PlainKernel) (is : IsKernel k) where
  pub processes_back : map.from_entries (each process_entry (each (process_image k) (map.entries k.processes))) ≡ k.processes
  processes_back = each_back vpid_total vpid_exact vpid_total vpid_exact (process_image k) k.processes k.processes process_entry
      (λ p process there. there ∙ (λ i. Some (record process { threads = sym (threads_back process.threads) i })))
      (λ p process there. (p, process, there, refl))

  pub makers_back : map.from_entries (each maker_entry (each (process_image k) (map.entries k.processes))) ≡ k.makers
  makers_back = each_back vpid_total vpid_exact vpid_total vpid_exact (process_image k) k.makers k.processes maker_entry
      (λ p process there.
      let (maker, known) = found_at vpid_total vpid_exact k.makers p (is.makers.same p ∙ ap is_some there) in
      known ∙ (λ i. Some (maker_or (sym known i))))
      (λ p maker there.
      let (process, known) = found_at vpid_total vpid_exact k.processes p (sym (is.makers.same p) ∙ ap is_some there) in
      (p, process, known, refl))

  pub descriptors_back : map.from_entries (flat_map descriptor_entries (each (process_image k) (map.entries k.processes))) ≡ k.descriptors
  unfolding own_entries
  descriptors_back = flat_back slot_total slot_exact vpid_total vpid_exact (process_image k) k.descriptors k.processes descriptor_entries
      (λ p process there. own_are p (λ at x. map.get k.descriptors at ≡ Some x) (map.entries k.descriptors) (each_entry slot_total slot_exact (λ at x. map.get k.descriptors at ≡ Some x) k.descriptors (λ at x found. found)))
      (λ at x found.
      let (process, known) = found_at vpid_total vpid_exact k.processes at.pid (live_is_there (map.get k.processes at.pid) (is.descriptors.alive at x found)) in
      (at.pid, process, known, own_there at.pid (map.entries k.descriptors) at x refl (sym (map.get-entries k.descriptors at) ∙ found)))
