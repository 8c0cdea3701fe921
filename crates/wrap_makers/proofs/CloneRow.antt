-- The row of clone: where it gives, the answer is the next number, and the kernel part has one thread or
-- process more.
--     row_is                  the call's row is that of its flags
--     IsCloned k p made flags m      it fails, or gives that, and never waits
--     row_cloned              so it is for flags of a form
--     no_form, none_left      it fails for flags of none, and where no number is left
use Rattle.std.proofs.Common.{◌≡◌, ℕ, ◌+◌, ◌<◌, ◌≤◌, ◌^◌, Bool, true, false, List, [], ◌++◌, Some, None, refl, sym, ap, ◌∙◌, subst, arith}
use Rattle.std.specs.Prelude.{nat_lt, ◌&&◌}
use Rattle.std.specs.FinMap as map
use Rattle.std.proofs.lemmas.Bool.Decides.{nat_tests}
use Rattle.views.specs.Limits.{PROCESS_LIMIT, THREAD_LIMIT}
use Rattle.views.specs.Numbers.{Byte, Flags}
use Rattle.views.proofs.MapLaws.{true_false}
use Rattle.sys_abi.specs.declared.cloning.CloneForm.{CloneForm}
use Rattle.sys_abi.specs.declared.cloning.CloneForm.TheVariants.{Fork, Thread}
use Rattle.sys_abi.specs.declared.errors.TheConstants.{EAGAIN, EINVAL}
use Rattle.sys_abi.specs.declared.flags.TheConstants.{CLONE_PARENT_SETTID}
use Rattle.sys_abi.specs.declared.identity.VPid.{VPid}
use Rattle.sys_abi.specs.declared.reply.Reply.TheVariants.{Value}
use Rattle.sys_abi.specs.Clones.{clone_form}
use Rattle.sys_abi.specs.Flags.{has_flag}
use Rattle.call_table.specs.declared.request.Request.{Request}
use Rattle.call_table.specs.declared.request.Request.TheVariants.{Clone}
use Rattle.plain_process.specs.Attempts.{Try, Fails, NotReady, Gives, and_then, need}
use Rattle.plain_machine.specs.declared.kernel.PlainKernel.{PlainKernel}
use Rattle.plain_machine.specs.Attempts.{Served}
use Rattle.plain_machine.specs.Ends.{after_fork}
use Rattle.plain_machine.specs.Kernel.{is_live, thread_count, with_next_thread}
use Rattle.plain_machine.specs.Kernels.{IsKernel}
use Rattle.plain_machine.specs.Rows.Clone.{LAST_ID, number_if, cloned, forked, clone_thread, clone_process, clone_by, clone_row}
use Rattle.plain_machine.specs.Serve.{row}
use Rattle.plain_machine.proofs.WholeChanges.{whole_next_thread}
use Rattle.plain_machine.proofs.WholeForks.{whole_fork}
use Rattle.wrap_makers.specs.Cloning.{is_clone, flags_in, number_places}

pub row_is : (k : PlainKernel) (p : VPid) (t : ℕ) (q : Request) (given : List Byte) → is_clone q ≡ true
    → row k p t q given ≡ clone_row k p (flags_in q)
unfolding row is_clone flags_in
row_is k p t (Clone flags stack parent_tid tls child_tid) given is = refl
row_is k p t _ given is = true_false (sym is)

abbrev pub left_by : PlainKernel → VPid → CloneForm → PlainKernel
left_by k p Fork = after_fork k p
left_by k p Thread = with_next_thread k p

abbrev pub given_by : PlainKernel → VPid → CloneForm → Flags → Served
given_by k p form flags = record {
  kernel = left_by k p form;
  reply = Value k.next_id;
  bytes = number_places form flags k.next_id;
  console = [];
}

abbrev pub IsCloned : PlainKernel → VPid → CloneForm → Flags → Try Served → Type 0
IsCloned k p made flags (Fails e) = Unit {0}
IsCloned k p made flags NotReady = ⊥
IsCloned k p made flags (Gives served) = (served ≡ given_by k p made flags) × IsKernel (left_by k p made)

-- a test that refuses by itself
abbrev tested : Bool → Served → Try Served
tested b s = and_then (need b EAGAIN) (λ _. Gives s)

both : (b c : Bool) → (b && c) ≡ true → (b ≡ true) × (c ≡ true)
both true c e = (refl, e)
both false c e = true_false (sym e)

less : (n m : ℕ) → nat_lt n m ≡ true → n < m
less n m e = grind (arith, nat_tests)

once : (b : Bool) (number : ℕ) → number_if b number ≡ number_if b number ++ number_if false number
once true number = refl
once false number = refl

module _ (k : PlainKernel) (p : VPid) (flags : Flags) where
  by_test : (made : CloneForm) (s : Served) (b : Bool) → s ≡ given_by k p made flags
      → (b ≡ true → IsKernel (left_by k p made)) → IsCloned k p made flags (tested b s)
  unfolding and_then need
  by_test made s true is whole = (is, whole refl)
  by_test made s false is whole = tt

  module _ (kernel : IsKernel k) (alive : is_live k p ≡ true) where
    below : k.next_id < LAST_ID → k.next_id + 1 < 2 ^ 31
    below low = let h : k.next_id < LAST_ID = low in omega (arith, h)

    cloned_by : (form : CloneForm) → IsCloned k p form flags (clone_by k p flags (Some form))
    unfolding clone_process clone_thread
    cloned_by Fork =
        by_test Fork (forked k p flags)
        (nat_lt (map.len k.processes) PROCESS_LIMIT && nat_lt k.next_id LAST_ID)
        (λ i. record (forked k p flags) { bytes = once (has_flag flags CLONE_PARENT_SETTID) k.next_id i })
        (λ passes.
        let room = both (nat_lt (map.len k.processes) PROCESS_LIMIT) (nat_lt k.next_id LAST_ID) passes in
        whole_fork k p kernel alive (less (map.len k.processes) PROCESS_LIMIT room.0)
        (below (less k.next_id LAST_ID room.1)))
    cloned_by Thread =
        by_test Thread (cloned k p flags)
        (nat_lt (thread_count k p) THREAD_LIMIT && nat_lt k.next_id LAST_ID) refl
        (λ passes.
        let room = both (nat_lt (thread_count k p) THREAD_LIMIT) (nat_lt k.next_id LAST_ID) passes in
        whole_next_thread k p kernel alive (less (thread_count k p) THREAD_LIMIT room.0)
        (below (less k.next_id LAST_ID room.1)))

    pub row_cloned : (form : CloneForm) → clone_form flags ≡ Some form
        → IsCloned k p form flags (clone_row k p flags)
    unfolding clone_row
    row_cloned form is =
        subst (λ o. IsCloned k p form flags (clone_by k p flags o)) (sym is) (cloned_by form)

  pub no_form : clone_form flags ≡ None → clone_row k p flags ≡ Fails EINVAL
  unfolding clone_row
  no_form is = ap (clone_by k p flags) is

  refused : (b c : Bool) (s : Served) → c ≡ false → tested (b && c) s ≡ Fails EAGAIN
  unfolding and_then need
  refused true c s e = ap (λ d. tested d s) e
  refused false c s e = refl

  high : LAST_ID ≤ k.next_id → nat_lt k.next_id LAST_ID ≡ false
  high h = not_less k.next_id LAST_ID h
    where
      not_less : (n m : ℕ) → m ≤ n → nat_lt n m ≡ false
      not_less n m h = grind (arith, nat_tests)

  pub none_left : (form : CloneForm) → clone_form flags ≡ Some form → LAST_ID ≤ k.next_id
      → clone_row k p flags ≡ Fails EAGAIN
  unfolding clone_row clone_process clone_thread
  none_left form is last = ap (clone_by k p flags) is ∙ by_form form
    where
      by_form : (form : CloneForm) → clone_by k p flags (Some form) ≡ Fails EAGAIN
      by_form Fork =
          refused (nat_lt (map.len k.processes) PROCESS_LIMIT) (nat_lt k.next_id LAST_ID)
          (forked k p flags) (high last)
      by_form Thread =
          refused (nat_lt (thread_count k p) THREAD_LIMIT) (nat_lt k.next_id LAST_ID)
          (cloned k p flags) (high last)
