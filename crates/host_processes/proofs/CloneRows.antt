-- The rows of clone, through the pairs.
--     fork_full, fork_serves            a child: too many processes, or one more
--     thread_full, thread_serves        a thread: too many of the process, or one more
use Rattle.std.proofs.Common.{◌≡◌, ◌⊎◌, ℕ, ◌<◌, ◌≤◌, Bool, true, false, Some, None, Ok, Err, Result, inl, inr, refl, sym, ap, ◌∙◌, subst, List, arith}
use Rattle.std.specs.Prelude.{nat_lt, nat_le, ◌&&◌, IsOkUnless}
use Rattle.std.specs.FinMap as map
use Rattle.std.proofs.lemmas.Bool.Decides.{nat_tests}
use Rattle.views.specs.Limits.{PROCESS_LIMIT, THREAD_LIMIT}
use Rattle.views.specs.Numbers.{Byte, Flags}
use Rattle.sys_abi.specs.declared.errors.TheConstants.{EAGAIN}
use Rattle.sys_abi.specs.declared.identity.VPid.{VPid}
use Rattle.sys_abi.specs.declared.identity.RealPid.{RealPid}
use Rattle.fd_book.specs.Books.{Books}
use Rattle.proc_book.specs.declared.proc_fault.ProcFault.{ProcFault}
use Rattle.proc_book.specs.declared.proc_fault.ProcFault.TheVariants.{Full, Memory}
use Rattle.proc_book.specs.Ends.{is_live_at}
use Rattle.proc_book.specs.Procs.{ProcTable, next_of, is_full, threads_at, after_start, after_add_thread}
use Rattle.plain_process.specs.Attempts.{Try, Gives, and_then, need}
use Rattle.plain_machine.specs.declared.kernel.PlainKernel.{PlainKernel}
use Rattle.plain_machine.specs.Attempts.{Served}
use Rattle.plain_machine.specs.Kernel.{thread_count}
use Rattle.plain_machine.specs.Kernels.{IsKernel}
use Rattle.plain_machine.specs.Rows.Clone.{LAST_ID, cloned, clone_thread, forked, clone_process}
use Rattle.host_descriptors.specs.OfHostTables.declared.kernel.Kernel.{Kernel}
use Rattle.host_descriptors.specs.OfHostTables.declared.attempt.Attempt.{Attempt}
use Rattle.host_descriptors.specs.OfHostTables.declared.attempt.Attempt.TheVariants as answer
use Rattle.host_descriptors.specs.OfHostTables.Numbers.{real}
use Rattle.host_descriptors.specs.OfHostTables.Requests.{AreBelow}
use Rattle.host_descriptors.specs.OfHostTables.Serves.{Serves, ByPid, silent}
use Rattle.host_descriptors.specs.OfHostTables.Stands.{Given, Stands}
use Rattle.host_descriptors.proofs.OfHostTables.MorePairs.{real_here}
use Rattle.host_descriptors.proofs.OfHostTables.ProcessChanges.{same_count}
use Rattle.host_processes.specs.Forks.{HasShared, paired_with}
use Rattle.host_processes.proofs.Forked.{forked_kept}
use Rattle.host_processes.proofs.MoreThreads.{same_thread_count, threaded_kept}
use Rattle.host_processes.proofs.NewNumbers.{born, unpaired_v, unpaired_r}

-- a row that asks for room and for a number, of which there is one
abbrev tested : Bool → Served → Try Served
tested b s = and_then (need b EAGAIN) (λ _. Gives s)

and_true : (b c : Bool) → c ≡ true → (b && c) ≡ b
and_true true c e = e
and_true false c e = refl

passes : (n m limit : ℕ) → n ≡ m → n < limit → nat_lt m limit ≡ true
passes n m limit e h = grind (arith, nat_tests)

fails : (n m limit : ℕ) → n ≡ m → limit ≤ n → nat_lt m limit ≡ false
fails n m limit e h = grind (arith, nat_tests)

at_least : (n limit : ℕ) → nat_le limit n ≡ true → limit ≤ n
at_least n limit e = grind (arith, nat_tests)

below_limit : (n limit : ℕ) → nat_le limit n ≡ false → n < limit
below_limit n limit e = grind (arith, nat_tests)

low_or_high : (n m : ℕ) → (n < m) ⊎ (m ≤ n)
low_or_high n m = grind arith

-- what an answer of a thread's start tells of the room

pub has_room : (n : ℕ) (r : Result ℕ ProcFault) (t : ℕ) → r ≡ Ok t → (THREAD_LIMIT ≤ n → r ≡ Err Full)
    → n < THREAD_LIMIT
has_room n r t ok refused = elim (low_or_high n THREAD_LIMIT) [
  | inl low ↦ low
  | inr high ↦ absurd (ok_err t (sym ok ∙ refused high))
]
  where
    ok_err : (t : ℕ) → Ok t ≡ Err Full → ⊥
    ok_err t e = cc

pub no_room : (n : ℕ) (r : Result ℕ ProcFault) → r ≡ Err Full → (n < THREAD_LIMIT → IsOkUnless r Memory)
    → THREAD_LIMIT ≤ n
no_room n r full granted = elim (low_or_high n THREAD_LIMIT) [
  | inl low ↦ absurd (differ (subst (λ q. IsOkUnless q Memory) full (granted low)))
  | inr high ↦ high
]
  where
    differ : Full ≡ Memory → ⊥
    differ e = cc

module _ (g : Given) (old : Kernel) (k : PlainKernel) (whole : IsKernel k) (st : Stands g None old k)
    (p : VPid) (who : RealPid) (paired : map.get g.pids p.0 ≡ Some who) (flags : Flags) (x : List Byte) where
  abbrev Says : Kernel → Attempt → Try Served → Type 0
  Says new a m = Serves (ByPid who) (paired_with who) g old new x x a m

  abbrev again : Attempt
  again = answer.Fails (record { 0 = EAGAIN })

  full_by : (s : Served) (m : Try Served) → m ≡ silent (tested false s) → Says old again m
  unfolding and_then need
  full_by s m is = subst (Says old again) (sym is) (record { answer = refl; kernel = refl; bytes = refl })

  module _ (last : nat_lt k.next_id LAST_ID ≡ true) where
    fork_is : (b : Bool) → nat_lt (map.len k.processes) PROCESS_LIMIT ≡ b
        → silent (clone_process k p flags) ≡ silent (tested b (forked k p flags))
    unfolding clone_process
    fork_is b is =
        ap (λ c. silent (tested c (forked k p flags)))
        (and_true (nat_lt (map.len k.processes) PROCESS_LIMIT) (nat_lt k.next_id LAST_ID) last ∙ is)

    pub fork_full : is_full old.procs ≡ true → Says old again (silent (clone_process k p flags))
    fork_full full =
        full_by (forked k p flags) (silent (clone_process k p flags))
        (fork_is false (fails (map.len old.procs.processes) (map.len k.processes) PROCESS_LIMIT
        (same_count g None old k st) (at_least (map.len old.procs.processes) PROCESS_LIMIT full)))

    thread_is : (b : Bool) → nat_lt (thread_count k p) THREAD_LIMIT ≡ b
        → silent (clone_thread k p flags) ≡ silent (tested b (cloned k p flags))
    unfolding clone_thread
    thread_is b is =
        ap (λ c. silent (tested c (cloned k p flags)))
        (and_true (nat_lt (thread_count k p) THREAD_LIMIT) (nat_lt k.next_id LAST_ID) last ∙ is)

    pub thread_full : THREAD_LIMIT ≤ threads_at old.procs.processes who
        → Says old again (silent (clone_thread k p flags))
    thread_full full =
        full_by (cloned k p flags) (silent (clone_thread k p flags))
        (thread_is false (fails (threads_at old.procs.processes who) (thread_count k p) THREAD_LIMIT
        (sym (same_thread_count g old k whole st p who paired)) full))

    module _ (alive : is_live_at old.procs.processes who ≡ true) (below : AreBelow g k.next_id) where
      abbrev child : RealPid
      child = born g old k whole st p who paired below

      its_number : map.get (map.insert g.pids k.next_id child) k.next_id ≡ Some child
      its_number =
          real_here g.pids g.virts st.paired.inverse k.next_id child
          (unpaired_v g old k whole st p who paired below) (unpaired_r g old k whole st p who paired below)

      pub fork_serves : is_full old.procs ≡ false → (new : Books) (procs : ProcTable) (n : ℕ)
          → n ≡ next_of old.procs who.node → HasShared (real who.node n) who old.book new
          → procs ≡ after_start old.procs who.node (Some who)
          → Says (record old { book = new; procs = procs }) (answer.Gives n)
          (silent (clone_process k p flags))
      unfolding and_then need
      fork_serves room new procs n number shared started =
          subst (λ w. Says (record old { book = new; procs = procs }) (answer.Gives w)
          (silent (clone_process k p flags))) (sym number)
          (subst (λ (t : ProcTable). Says (record old { book = new; procs = t }) (answer.Gives child.pid)
          (silent (clone_process k p flags))) (sym started)
          (subst (Says (record old { book = new; procs = after_start old.procs who.node (Some who) })
          (answer.Gives child.pid))
          (sym (fork_is true (passes (map.len old.procs.processes) (map.len k.processes) PROCESS_LIMIT
          (same_count g None old k st) (below_limit (map.len old.procs.processes) PROCESS_LIMIT room))))
          (record {
            reply = its_number;
            bytes = refl;
            stands = forked_kept g old k whole st p who paired alive below new
                (subst (λ w. HasShared (real who.node w) who old.book new) number shared);
          })))

      pub thread_serves : threads_at old.procs.processes who < THREAD_LIMIT → (procs : ProcTable) (n : ℕ)
          → n ≡ next_of old.procs who.node → procs ≡ after_add_thread old.procs who
          → Says (record old { procs = procs }) (answer.Gives n) (silent (clone_thread k p flags))
      unfolding and_then need
      thread_serves room procs n number added =
          subst (λ w. Says (record old { procs = procs }) (answer.Gives w)
          (silent (clone_thread k p flags))) (sym number)
          (subst (λ (t : ProcTable). Says (record old { procs = t }) (answer.Gives child.pid)
          (silent (clone_thread k p flags))) (sym added)
          (subst (Says (record old { procs = after_add_thread old.procs who }) (answer.Gives child.pid))
          (sym (thread_is true (passes (threads_at old.procs.processes who) (thread_count k p) THREAD_LIMIT
          (sym (same_thread_count g old k whole st p who paired)) room)))
          (record {
            reply = its_number;
            bytes = refl;
            stands = threaded_kept g old k whole st p who paired alive below;
          })))
