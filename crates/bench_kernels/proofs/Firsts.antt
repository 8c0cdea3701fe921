-- The kernel part of one process, from which a benchmark begins.
--     first_is
use Rattle.std.proofs.Common.{◌≡◌, ◌≢◌, ℕ, true, [], Some, inl, inr, refl, sym, ap, subst, ◌∙◌, arith}
use Rattle.std.specs.Prelude.{◌⊎◌, is_some}
use Rattle.std.specs.FinMap as map
use Rattle.std.specs.Cmp.{nat_cmp_total}
use Rattle.std.proofs.lemmas.List.Elements.{All-nil}
use Rattle.std.proofs.lemmas.Option.{none-some, same_Some}
use Rattle.views.proofs.MapLaws.{true_false, same_or_other, get_insert_same, get_insert_other}
use Rattle.sys_abi.specs.declared.identity.VPid.{VPid}
use Rattle.sys_abi.specs.Orders.{vpid_cmp, dir_cmp, desc_cmp}
use Rattle.sys_abi.proofs.OrderLaws.{vpid_total, vpid_exact, desc_total, desc_exact}
use Rattle.plain_tables.specs.declared.channel.Direction.{Direction}
use Rattle.plain_tables.specs.declared.description.Description.{Description}
use Rattle.plain_tables.specs.declared.process.Process.{Process}
use Rattle.plain_tables.specs.Objects.{is_datagram}
use Rattle.plain_tables.specs.Start.{start_process}
use Rattle.plain_tables.specs.Tables.{FIRST_PID, Processes, pid, is_live_process, has_thread_in}
use Rattle.plain_machine.specs.declared.kernel.PlainKernel.{PlainKernel}
use Rattle.plain_machine.specs.Kernel.{is_live, has_thread}
use Rattle.plain_machine.specs.Kernels.{IsKernel, AreNamed}
use Rattle.plain_machine.specs.Start.{empty_kernel, start_kernel, with_files, with_process, with_processes, console_description, console_of}
use Rattle.plain_machine.proofs.WholeStarts.{start_is_whole, whole_process}
use Rattle.rebuild_tables.specs.Rebuilt.{HasNoDatagrams}
use Rattle.rebuild_system.specs.Restarts.{AllArrived}
use Rattle.bench_kernels.specs.Owning.{IsFirst}

nothing_named : AreNamed []
nothing_named = record {
  count = omega arith;
  names = All-nil _;
  bytes = All-nil _;
  total = omega arith;
  apart = λ i j d before inside. absurd (omega arith);
}

nothing_started : start_kernel [] [] ≡ empty_kernel
unfolding start_kernel with_processes with_files
nothing_started = refl

empty_whole : IsKernel empty_kernel
empty_whole = subst IsKernel nothing_started (start_is_whole [] [] (omega arith) (All-nil _) nothing_named)

first_counts : (map.len empty_kernel.processes ≡ 0) × (empty_kernel.next_id ≡ FIRST_PID)
unfolding empty_kernel
first_counts = (map.len-empty vpid_cmp Process, refl)

first_whole : IsKernel (with_process empty_kernel FIRST_PID 0)
first_whole =
    let none = first_counts.0 in
    let number = first_counts.1 in
    subst (λ (p : ℕ). IsKernel (with_process empty_kernel p 0)) number
    (whole_process empty_kernel 0 empty_whole (omega (arith, none)) (omega arith) (omega (arith, number)))

first_thread : (p : VPid) → is_live (with_process empty_kernel FIRST_PID 0) p ≡ true
    → has_thread (with_process empty_kernel FIRST_PID 0) p p.0 ≡ true
unfolding with_process is_live empty_kernel
first_thread p lives = either (same_or_other vpid_total vpid_exact p (pid FIRST_PID))
  where
    none : Processes
    none = map.empty

    one : Processes
    one = map.insert none (pid FIRST_PID) (start_process FIRST_PID)

    here : map.get one (pid FIRST_PID) ≡ Some (start_process FIRST_PID)
    here = get_insert_same vpid_total vpid_exact none (pid FIRST_PID) (start_process FIRST_PID)

    either : (p ≡ pid FIRST_PID) ⊎ (p ≢ pid FIRST_PID) → has_thread_in p.0 (map.get one p) ≡ true
    either (inl is) =
        subst (λ (q : VPid). has_thread_in q.0 (map.get one q) ≡ true) (sym is)
        (ap (has_thread_in FIRST_PID) here
        ∙ ap is_some (get_insert_same nat_cmp_total map.nat_cmp-IsAntisymmetric map.empty FIRST_PID 0))
    either (inr other) =
        true_false (sym lives ∙ ap is_live_process
        (get_insert_other vpid_total vpid_exact none (pid FIRST_PID) (start_process FIRST_PID) p other
        ∙ map.get-empty vpid_cmp p))

first_arrived : AllArrived (with_process empty_kernel FIRST_PID 0).directions
unfolding with_process empty_kernel
first_arrived at direction there = absurd (none-some direction (sym (map.get-empty {X = Direction} dir_cmp at) ∙ there))

first_plain : HasNoDatagrams (with_process empty_kernel FIRST_PID 0).descriptions
unfolding with_process empty_kernel
first_plain id x there = elim (same_or_other desc_total desc_exact id (console_of FIRST_PID)) [
  | inl here ↦
      let found = sym (get_insert_same desc_total desc_exact (map.empty {X = Description} {R = desc_cmp}) (console_of FIRST_PID) console_description)
      ∙ ap (map.get (map.insert map.empty (console_of FIRST_PID) console_description)) (sym here) ∙ there in
      ap (λ (d : Description). is_datagram d.object) (sym (same_Some console_description x found))
  | inr other ↦
      absurd (none-some x (sym (map.get-empty {X = Description} desc_cmp id)
      ∙ sym (get_insert_other desc_total desc_exact map.empty (console_of FIRST_PID) console_description id other) ∙ there))
]

pub first_is : (k : PlainKernel) → k ≡ with_process empty_kernel FIRST_PID 0 → IsFirst k
first_is k is = subst IsFirst (sym is) (record {
  own = record { whole = first_whole; first = first_thread };
  arrived = first_arrived;
  plain = first_plain;
})
