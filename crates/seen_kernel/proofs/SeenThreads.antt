-- The threads of a process, seen one after the other.
--     ThreadsTo ids t r threads above      all up to this real number are seen
--     threads_begun, threads_on, threads_fewer, threads_done
use Rattle.std.proofs.Common.{◌≡◌, ◌<◌, ◌≤◌, ℕ, true, false, cond, Option, Some, None, refl, sym, ap, subst, ◌∙◌, arith}
use Rattle.std.specs.Prelude.{find, nat_lt, ◌==◌, unwrap_or}
use Rattle.std.specs.Option.{option_map_or}
use Rattle.std.specs.Ordering.{nat_cmp, is_lt}
use Rattle.std.specs.Cmp.{nat_cmp_total}
use Rattle.std.specs.declared.cmp.Ordering.TheVariants.{Less, Equal, Greater}
use Rattle.std.specs.FinMap as map
use Rattle.std.specs.FinMap.{nat_cmp-IsAntisymmetric}
use Rattle.std.proofs.lemmas.Option.{none-some}
use Rattle.std.proofs.lemmas.Bool.Decides.{nat_tests}
use Rattle.views.specs.NumberMap.{is_above}
use Rattle.views.proofs.Seen.{virt_of}
use Rattle.views.specs.Seen.{LeadBack}
use Rattle.sys_abi.specs.declared.identity.RealPid.{RealPid}
use Rattle.virt_ids.specs.Pairs.{Pairs}
use Rattle.proc_book.specs.declared.process.Process as real_process
use Rattle.proc_book.specs.Procs.{ProcTable, next_thread, pending_of}
use Rattle.plain_tables.specs.declared.process.Process.{Process}
use Rattle.host_tables.specs.Numbers.{real, to_real_thread, to_virt_thread}
use Rattle.host_tables.specs.Processes.{IsSame}
use Rattle.host_tables.proofs.LookUps.{some_value}
use Rattle.host_tables.proofs.Ways.{lead_thread}
use Rattle.leader_vote.proofs.Walks.{count_of, next_is, walked, none_left, fewer_left}
use Rattle.seen_kernel.specs.Filling.{IsFilled}
use Rattle.seen_kernel.specs.Processes.{StandsForProcess, Threads, threads_in, with_thread}
use Rattle.seen_kernel.proofs.Filling.{filled_none, filled_past, filled_on, filled_seen}

abbrev pub ThreadsTo : Pairs → ProcTable → RealPid → Threads → ℕ → Type 0
ThreadsTo ids t r threads above =
    (v : ℕ) (x : Process) (told : StandsForProcess ids t r v x)
    → IsFilled (to_virt_thread ids.virts r.node) told.real.threads (is_above (Some above)) x.threads threads

first : (k : ℕ) → is_above None k ≡ true
first k = refl

later : (a k : ℕ) → is_above (Some a) k ≡ is_lt (nat_cmp a k)
later a k = elim (nat_lt a k) as (λ b. b ≡ is_lt (cond b Less (cond (a == k) Equal Greater))) [
  | true ↦ refl
  | false ↦ elim (a == k) as (λ b. false ≡ is_lt (cond b Equal Greater)) [ true ↦ refl | false ↦ refl ]
]

positive : (n : ℕ) → 1 ≤ n → nat_lt 0 n ≡ true
positive n h = grind (arith, nat_tests)

module _ (ids : Pairs) (t : ProcTable) (r : RealPid) (v : ℕ) (x : Process)
    (told : StandsForProcess ids t r v x) where
  abbrev from : ℕ → Option ℕ
  from = to_virt_thread ids.virts r.node

  lead : LeadBack (to_real_thread ids.pids r.node) (to_virt_thread ids.virts r.node)
  lead = lead_thread ids.pids ids.virts told.paired.inverse r.node

  begun : IsFilled from told.real.threads (is_above (Some 0)) x.threads map.empty
  begun =
      filled_past nat_cmp_total nat_cmp-IsAntisymmetric from told.real.threads x.threads (λ l. true)
      (is_above (Some 0)) map.empty
      (λ l k y is leads behind.
      let out = told.paired.handed_out k (real r.node l)
      (told.paired.inverse.leads_there k (real r.node l) leads) in
      sym (positive l out.first) ∙ behind)
      (filled_none nat_cmp_total nat_cmp-IsAntisymmetric from told.real.threads x.threads (λ l. true)
      (λ l. refl))

  module _ (above : ℕ) (threads : Threads)
      (filled : IsFilled from told.real.threads (is_above (Some above)) x.threads threads) where
    on : (number : ℕ) → find (is_above (Some above)) (map.keys told.real.threads) ≡ Some number
        → IsFilled from told.real.threads (is_above (Some number)) x.threads
        (with_thread ids.virts (map.get t.processes r) r.node number threads)
    on number next =
        let its = next_is nat_cmp_total nat_cmp-IsAntisymmetric told.real.threads is_above first later
        (Some above) number next in
        let n = some_value (map.get told.real.threads number) its.0 in
        let found = virt_of nat_cmp_total nat_cmp-IsAntisymmetric nat_cmp_total nat_cmp-IsAntisymmetric
        (to_real_thread ids.pids r.node) from lead IsSame x.threads told.real.threads told.same.threads
        number n.0 n.1 in
        let number_is = lead.back found.0 number found.1.0 in
        let signals = ap (pending_of (Some number)) told.there ∙ ap (λ o. unwrap_or o 0) n.1
        ∙ sym found.1.1.1.1 in
        subst (IsFilled from told.real.threads (is_above (Some number)) x.threads)
        (sym (ap (λ o. option_map_or
        (λ k. map.insert threads k (pending_of (Some number) (map.get t.processes r))) o threads) number_is
        ∙ ap (map.insert threads found.0) signals))
        (filled_on nat_cmp_total nat_cmp-IsAntisymmetric from told.real.threads x.threads
        (is_above (Some above)) (is_above (Some number)) threads number found.0 found.1.1.0 number_is
        found.1.1.1.0
        (λ l y is behind. walked nat_cmp_total nat_cmp-IsAntisymmetric told.real.threads is_above first later
        (Some above) number l y next is behind)
        filled)

    whole : find (is_above (Some above)) (map.keys told.real.threads) ≡ None → threads ≡ x.threads
    whole none =
        filled_seen nat_cmp_total nat_cmp-IsAntisymmetric nat_cmp_total nat_cmp-IsAntisymmetric
        (to_real_thread ids.pids r.node) from lead IsSame x.threads told.real.threads told.same.threads
        (is_above (Some above)) threads
        (λ l n is. none_left nat_cmp_total nat_cmp-IsAntisymmetric told.real.threads is_above first later
        (Some above) l n none is)
        filled

pub threads_begun : (ids : Pairs) (t : ProcTable) (r : RealPid) → ThreadsTo ids t r map.empty 0
threads_begun ids t r v x told = begun ids t r v x told

pub threads_on : (ids : Pairs) (t : ProcTable) (r : RealPid) (threads : Threads) (above number : ℕ)
    → next_thread above (map.get t.processes r) ≡ Some number → ThreadsTo ids t r threads above
    → ThreadsTo ids t r (with_thread ids.virts (map.get t.processes r) r.node number threads) number
threads_on ids t r threads above number next seen v x told =
    on ids t r v x told above threads (seen v x told) number
    (sym (ap (next_thread above) told.there) ∙ next)

pub threads_fewer : (found : Option real_process.Process) (above number : ℕ)
    → next_thread above found ≡ Some number
    → count_of (is_above (Some number)) (map.keys (threads_in found))
    < count_of (is_above (Some above)) (map.keys (threads_in found))
threads_fewer None above number next = absurd (none-some number next)
threads_fewer (Some y) above number next =
    let its = next_is nat_cmp_total nat_cmp-IsAntisymmetric y.threads is_above first later (Some above) number
    next in
    fewer_left nat_cmp_total nat_cmp-IsAntisymmetric y.threads is_above first later (Some above) number
    its.0 its.1

pub threads_done : (ids : Pairs) (t : ProcTable) (r : RealPid) (threads : Threads) (above : ℕ)
    → next_thread above (map.get t.processes r) ≡ None → ThreadsTo ids t r threads above
    → (v : ℕ) (x : Process) → StandsForProcess ids t r v x → threads ≡ x.threads
threads_done ids t r threads above none seen v x told =
    whole ids t r v x told above threads (seen v x told) (sym (ap (next_thread above) told.there) ∙ none)
