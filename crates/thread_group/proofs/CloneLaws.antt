-- The thread that a clone makes of its caller, where the call has its answer and where the caller still stands at it.
--     clone_is, called_is
use Rattle.std.proofs.Common.{◌≡◌, ℕ, ap, ◌∙◌, if◌then◌else◌}
use Rattle.std.specs.Prelude.{Option, Some, None, option_map}
use Rattle.std.specs.FinMap as map
use Rattle.sys_abi.specs.declared.flags.TheConstants.{CLONE_CHILD_CLEARTID}
use Rattle.plain_process.specs.declared.regs.Regs.{Regs}
use Rattle.plain_process.specs.declared.user_part.UserPart.{UserPart}
use Rattle.plain_process.specs.declared.user_part.ThreadPart.{ThreadPart}
use Rattle.plain_process.specs.Registers.{A0, with_reg, at_pc, next_pc}
use Rattle.plain_process.specs.Threads.{new_regs, with_new_thread_by, with_new_thread, with_called_thread_by}
use Rattle.thread_group.specs.Groups.{with_threads}
use Rattle.guest_threads.specs.Threads.{fresh}
use Rattle.sys_abi.specs.Flags.{has_flag}

module _ (user : UserPart) (t new flags stack tls child_tid : ℕ) where
  abbrev cleared : ℕ
  cleared = if has_flag flags CLONE_CHILD_CLEARTID then child_tid else 0

  by_caller : (regs : Regs) (mask : ℕ) (caller : Option ThreadPart) → option_map (λ thread. thread.regs) caller ≡ Some regs → option_map (λ thread. thread.mask) caller ≡ Some mask
      → with_threads user (map.insert user.threads new (fresh (new_regs regs flags stack tls) mask cleared)) ≡ with_new_thread_by user new flags stack tls child_tid caller
  by_caller regs mask None has_regs has_mask = cc
  by_caller regs mask (Some caller) has_regs has_mask =
      let same_regs : regs ≡ caller.regs = cc in
      let same_mask : mask ≡ caller.mask = cc in
      λ i. with_threads user (map.insert user.threads new (fresh (new_regs (same_regs i) flags stack tls) (same_mask i) cleared))

  pub clone_is : (regs after : Regs) (mask clear_tid : ℕ) → option_map (λ thread. thread.regs) (map.get user.threads t) ≡ Some regs
      → option_map (λ thread. thread.mask) (map.get user.threads t) ≡ Some mask → after ≡ new_regs regs flags stack tls → clear_tid ≡ cleared
      → with_threads user (map.insert user.threads new (fresh after mask clear_tid)) ≡ with_new_thread user t new flags stack tls child_tid
  unfolding with_new_thread
  clone_is regs after mask clear_tid has_regs has_mask is_after is_cleared =
      (λ i. with_threads user (map.insert user.threads new (fresh (is_after i) mask (is_cleared i)))) ∙ by_caller regs mask (map.get user.threads t) has_regs has_mask

  -- the registers after the call that answers 0
  abbrev after_zero : Regs → Regs
  after_zero regs = at_pc (with_reg regs A0 0) (next_pc regs)

  called_by : (regs : Regs) (mask : ℕ) (caller : Option ThreadPart) → option_map (λ thread. thread.regs) caller ≡ Some regs → option_map (λ thread. thread.mask) caller ≡ Some mask
      → with_threads user (map.insert user.threads new (fresh (new_regs (after_zero regs) flags stack tls) mask cleared)) ≡ with_called_thread_by user new flags stack tls child_tid caller
  called_by regs mask None has_regs has_mask = cc
  called_by regs mask (Some caller) has_regs has_mask =
      let same_regs : regs ≡ caller.regs = cc in
      let same_mask : mask ≡ caller.mask = cc in
      λ i. with_threads user (map.insert user.threads new (fresh (new_regs (after_zero (same_regs i)) flags stack tls) (same_mask i) cleared))

  pub called_is : (regs called after : Regs) (mask clear_tid : ℕ) → option_map (λ thread. thread.regs) (map.get user.threads t) ≡ Some regs
      → option_map (λ thread. thread.mask) (map.get user.threads t) ≡ Some mask → called ≡ after_zero regs → after ≡ new_regs called flags stack tls → clear_tid ≡ cleared
      → with_threads user (map.insert user.threads new (fresh after mask clear_tid)) ≡ with_called_thread_by user new flags stack tls child_tid (map.get user.threads t)
  called_is regs called after mask clear_tid has_regs has_mask is_called is_after is_cleared =
      (λ i. with_threads user (map.insert user.threads new (fresh ((is_after ∙ ap (λ r. new_regs r flags stack tls) is_called) i) mask (is_cleared i))))
      ∙ called_by regs mask (map.get user.threads t) has_regs has_mask
