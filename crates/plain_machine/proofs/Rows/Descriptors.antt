-- The laws of dup, dup3, fcntl and close.
use Rattle.std.proofs.Common.{◌≡◌, ◌≢◌, ℕ, ◌<◌, Bool, true, false, cond, ◌&&◌, List, refl, sym, ap, ◌∙◌, inl, inr, arith}
use Rattle.std.specs.Prelude.{◌==◌, ◌%◌, ◌⊎◌, not, nat_lt, Option, Some, None}
use Rattle.std.specs.FinMap as map
use Rattle.std.proofs.lemmas.Bool.Decides.{nat_tests}
use Rattle.plain_tables.specs.OfViews.Limits.{DESCRIPTOR_LIMIT}
use Rattle.plain_tables.proofs.OfViews.MapLaws.{get_remove_same, get_remove_other, true_false}
use Rattle.plain_tables.specs.OfSysAbi.declared.identity.VPid.{VPid}
use Rattle.plain_tables.specs.OfSysAbi.declared.identity.Slot.{Slot}
use Rattle.plain_tables.specs.OfSysAbi.declared.errors.TheConstants.{EBADF, EINVAL, ESRCH}
use Rattle.plain_tables.specs.OfSysAbi.declared.flags.TheConstants.{O_CLOEXEC}
use Rattle.plain_tables.specs.OfCallTable.declared.request.Request.{Request}
use Rattle.plain_tables.specs.OfCallTable.declared.request.Request.TheVariants.{Dup, Dup3, Fcntl, Close}
use Rattle.plain_tables.proofs.OfSysAbi.OrderLaws.{slot_total, slot_exact}
use Rattle.plain_machine.specs.declared.kernel.PlainKernel.{PlainKernel}
use Rattle.plain_tables.specs.OfPlainProcess.declared.commands.FcntlCommand.{FcntlCommand}
use Rattle.plain_tables.specs.OfPlainProcess.declared.commands.FcntlCommand.TheVariants.{DupFd, GetFd, SetFd, GetFl, SetFl, SetOwn, GetOwn, DupFdCloexec}
use Rattle.plain_tables.specs.OfSysAbi.declared.maker.Maker.{Maker}
use Rattle.plain_tables.specs.OfSysAbi.declared.descriptor.Descriptor.{Descriptor}
use Rattle.plain_tables.specs.Tables.{pid, slot, same_host}
use Rattle.plain_tables.specs.Valid.Descriptions.{IsOwner}
use Rattle.plain_tables.specs.OfPlainProcess.Attempts.{need}
use Rattle.plain_tables.specs.OfPlainProcess.Valid.{IsWord}
use Rattle.plain_machine.specs.Closing.{close_fd}
use Rattle.plain_tables.specs.OfPlainProcess.Commands.{fcntl_command}
use Rattle.plain_machine.specs.Kernel.{Held, is_live, is_neighbour, held, free_from, with_descriptor}
use Rattle.plain_machine.specs.Kernels.{IsKernel}
use Rattle.plain_machine.specs.Rows.Descriptors.{dup_from, dup_row, is_cloexec_at_most, moved_to, dup3_row, dup_above, set_flags, with_flags, with_owner, may_own, set_owner, fcntl_by, fcntl_row, close_row}
use Rattle.plain_machine.specs.Serve.{row, is_ready}
use Rattle.plain_machine.proofs.ClosedDescriptors.{closed_descriptors}
use Rattle.plain_machine.proofs.HeldDescriptors.{IsHeldAt, held_is, held_prompt, free_is, free_prompt}
use Rattle.plain_machine.proofs.LocalReplies.{needed}
use Rattle.plain_machine.proofs.MarkedDescriptors.{whole_marked}
use Rattle.plain_machine.proofs.Prompt.{is_prompt, prompt_then, prompt_need, settles}
use Rattle.plain_machine.proofs.QuietRows.{unchanged_meets}
use Rattle.plain_machine.proofs.RowBounds.{RowLaw, Meets, row_law, quiet, leaves_threads}
use Rattle.plain_machine.proofs.StatusFlags.{flags_small, set_are, set_mode}
use Rattle.plain_machine.proofs.Trying.{Trying, succeeds, fails, after}
use Rattle.plain_machine.proofs.WholeClosing.{whole_close, close_closes}
use Rattle.plain_machine.proofs.WholeObjects.{whole_described, owned_still}
use Rattle.plain_machine.proofs.WholePlaced.{whole_again, number_of}

bit_small : (b : Bool) → IsWord (cond b 1 0)
bit_small true = omega arith
bit_small false = omega arith

near_both : (a b c : Option Maker) → same_host a b ≡ true → same_host b c ≡ true → same_host a c ≡ true
near_both None b c first second = true_false (sym first)
near_both (Some a) None c first second = true_false (sym first)
near_both (Some a) (Some b) None first second = true_false (sym second)
near_both (Some a) (Some b) (Some c) first second = grind (arith, nat_tests, first, second)

-- who may own is nobody, or a live process of the host
may_own_is : (k : PlainKernel) (p : VPid) (owner : ℕ) → may_own k p owner ≡ true
    → (owner ≡ 0) ⊎ ((is_live k (pid owner) ≡ true) × (same_host (map.get k.makers p) (map.get k.makers (pid owner)) ≡ true))
unfolding is_neighbour
may_own_is k p owner may = chosen (owner == 0) refl
  where
    chosen : (b : Bool) → (owner == 0) ≡ b → (owner ≡ 0) ⊎ ((is_live k (pid owner) ≡ true) × (same_host (map.get k.makers p) (map.get k.makers (pid owner)) ≡ true))
    chosen true nobody = inl (grind (arith, nat_tests, nobody))
    chosen false somebody = inr (grind (arith, may, somebody), grind (arith, may, somebody))

owns : (k : PlainKernel) (p : VPid) (fd : ℕ) (h : Held) (owner : ℕ) → IsKernel k → IsHeldAt k.descriptors k.descriptions p fd h → may_own k p owner ≡ true
    → (a : Slot) (z : Descriptor) → map.get k.descriptors a ≡ Some z → z.desc ≡ h.desc → IsOwner k.processes k.makers a.pid owner
unfolding is_live
owns k p fd h owner is held may a z found here = by_owner (may_own_is k p owner may)
  where
    by_owner : (owner ≡ 0) ⊎ ((is_live k (pid owner) ≡ true) × (same_host (map.get k.makers p) (map.get k.makers (pid owner)) ≡ true)) → IsOwner k.processes k.makers a.pid owner
    by_owner (inl nobody) = inl nobody
    by_owner (inr lives) = inr (lives.0, near_both (map.get k.makers a.pid) (map.get k.makers p) (map.get k.makers (pid owner)) (is.holders.host a (slot p fd) z _ found held.descriptor here) lives.1)

owner_small : (k : PlainKernel) (p : VPid) (fd : ℕ) (h : Held) → IsKernel k → IsHeldAt k.descriptors k.descriptions p fd h → IsWord h.description.owner
owner_small k p fd h is held = by_owner (is.holders.owner (slot p fd) _ h.description held.descriptor held.description)
  where
    by_owner : IsOwner k.processes k.makers p h.description.owner → IsWord h.description.owner
    by_owner (inl nobody) = omega arith
    by_owner (inr lives) = let low = number_of k is (pid h.description.owner) lives.0 in let last = is.numbers.last_id in omega arith

module _ (k : PlainKernel) (p : VPid) (t : ℕ) (given : List ℕ) where
  -- a descriptor more of a description
  dup_served : (q : Request) → leaves_threads q ≡ true → (fd : ℕ) (h : Held) → IsHeldAt k.descriptors k.descriptions p fd h → (from : ℕ) (cloexec : Bool) → Trying (dup_from k p h from cloexec) (Meets k p t q given)
  dup_served q other fd h held from cloexec = after (free_from k p from) (λ n there.
      let free = free_is k p from n there in
      let low = free.low in
      succeeds _ (unchanged_meets k p t q given (with_descriptor k p n (record { desc = h.desc; cloexec = cloexec })) n other refl (omega arith) (λ asked. record {
        word = omega arith;
        kernel = whole_again k p n (record { desc = h.desc; cloexec = cloexec }) asked.kernel low free.free fd (record { desc = h.desc; cloexec = h.cloexec }) held.descriptor refl;
      })))

  dup_prompt : (h : Held) (from : ℕ) (cloexec : Bool) → is_prompt (dup_from k p h from cloexec) ≡ true
  dup_prompt h from cloexec = prompt_then (free_from k p from) _ (free_prompt k p from) (λ n. refl)

  pub dup_law : (fd : ℕ) → RowLaw k p t (Dup fd) given
  unfolding row is_ready dup_row
  dup_law fd = row_law k p t (Dup fd) given (λ e. quiet t (Dup fd) _ refl)
      (after (held k p fd) (λ h there. dup_served (Dup fd) refl fd h (held_is k p fd h there) 0 false))
      (settles k _ (prompt_then (held k p fd) _ (held_prompt k p fd) (λ h. dup_prompt h 0 false)))

  -- another descriptor closes first
  moved_whole : (fd to : ℕ) (h : Held) (cloexec : Bool) → IsHeldAt k.descriptors k.descriptions p fd h → to ≢ fd → to < 256 → IsKernel k → IsKernel (moved_to k p h to cloexec)
  moved_whole fd to h cloexec held differ low is = whole_again (close_fd k p to) p to (record { desc = h.desc; cloexec = cloexec }) (whole_close k p to is) low
      (ap (λ descriptors. map.get descriptors (slot p to)) (closed_descriptors k p to) ∙ get_remove_same slot_total slot_exact k.descriptors (slot p to))
      fd (record { desc = h.desc; cloexec = h.cloexec })
      (ap (λ descriptors. map.get descriptors (slot p fd)) (closed_descriptors k p to)
      ∙ get_remove_other slot_total slot_exact k.descriptors (slot p to) (slot p fd) (λ same. differ (sym (ap (λ (s : Slot). s.fd) same))) ∙ held.descriptor)
      refl

  pub dup3_law : (fd to flags : ℕ) → RowLaw k p t (Dup3 fd to flags) given
  unfolding row is_ready dup3_row
  dup3_law fd to flags = row_law k p t (Dup3 fd to flags) given (λ e. quiet t (Dup3 fd to flags) _ refl)
      (after (held k p fd) (λ h there. after (need (not (to == fd) && is_cloexec_at_most flags) EINVAL) (λ done apart. after (need (nat_lt to DESCRIPTOR_LIMIT) EBADF) (λ allowed low.
      let tests = needed _ EINVAL done apart in
      let test = needed _ EBADF allowed low in
      let differ : to ≢ fd = grind (arith, nat_tests, tests) in
      let less : to < 256 = grind (arith, nat_tests, test) in
      let closes = close_closes k p to in
      let next = closes.next_id in
      succeeds _ (unchanged_meets k p t (Dup3 fd to flags) given (moved_to k p h to (flags == O_CLOEXEC)) to refl closes.processes (omega arith) (λ asked. record {
        word = omega arith;
        kernel = moved_whole fd to h (flags == O_CLOEXEC) (held_is k p fd h there) differ less asked.kernel;
      }))))))
      (settles k _ (prompt_then (held k p fd) _ (held_prompt k p fd) (λ h. prompt_then (need (not (to == fd) && is_cloexec_at_most flags) EINVAL) _ (prompt_need _ EINVAL)
      (λ done. prompt_then (need (nat_lt to DESCRIPTOR_LIMIT) EBADF) _ (prompt_need _ EBADF) (λ allowed. refl)))))

  pub close_law : (fd : ℕ) → RowLaw k p t (Close fd) given
  unfolding row is_ready close_row
  close_law fd = row_law k p t (Close fd) given (λ e. quiet t (Close fd) _ refl)
      (after (held k p fd) (λ h there.
      let closes = close_closes k p fd in
      let next = closes.next_id in
      succeeds _ (unchanged_meets k p t (Close fd) given (close_fd k p fd) 0 refl closes.processes (omega arith) (λ asked. record { word = omega arith; kernel = whole_close k p fd asked.kernel }))))
      (settles k _ (prompt_then (held k p fd) _ (held_prompt k p fd) (λ h. refl)))

  module _ (fd command argument : ℕ) where
    abbrev call : Request
    call = Fcntl fd command argument

    above_served : (h : Held) → IsHeldAt k.descriptors k.descriptions p fd h → (cloexec : Bool) → Trying (dup_above k p h argument cloexec) (Meets k p t call given)
    unfolding dup_above
    above_served h held cloexec = after (need (nat_lt argument DESCRIPTOR_LIMIT) EINVAL) (λ done low. dup_served call refl fd h held argument cloexec)

    owner_served : (h : Held) → IsHeldAt k.descriptors k.descriptions p fd h → Trying (set_owner k p h argument) (Meets k p t call given)
    unfolding set_owner
    owner_served h held = after (need (may_own k p argument) ESRCH) (λ done may.
        succeeds _ (unchanged_meets k p t call given (with_owner k h argument) 0 refl refl (omega arith) (λ asked. record {
          word = omega arith;
          kernel = let is = asked.kernel in
              whole_described k h.desc h.description (record h.description { owner = argument }) is held.description refl refl (is.descriptions.flags h.desc h.description held.description)
              (is.open_files.there h.desc h.description held.description) (is.counters.each h.desc h.description held.description)
              (owns k p fd h argument is held (needed _ ESRCH done may));
        })))

    flags_whole : (h : Held) → IsHeldAt k.descriptors k.descriptions p fd h → IsKernel k → IsKernel (with_flags k h (set_flags h.description.flags argument))
    flags_whole h held is =
        let are = is.descriptions.flags h.desc h.description held.description in
        whole_described k h.desc h.description (record h.description { flags = set_flags h.description.flags argument }) is held.description refl (set_mode h.description.flags argument are)
        (set_are h.description.flags argument are) (is.open_files.there h.desc h.description held.description) (is.counters.each h.desc h.description held.description)
        (owned_still k h.desc h.description is held.description)

    by_command : (h : Held) → IsHeldAt k.descriptors k.descriptions p fd h → (c : Option FcntlCommand) → Trying (fcntl_by k p fd h argument c) (Meets k p t call given)
    by_command h held None = fails EINVAL
    by_command h held (Some DupFd) = above_served h held false
    by_command h held (Some DupFdCloexec) = above_served h held true
    by_command h held (Some GetFd) = succeeds _ (unchanged_meets k p t call given k (cond h.cloexec 1 0) refl refl (omega arith) (λ asked. record { word = bit_small h.cloexec; kernel = asked.kernel }))
    by_command h held (Some SetFd) = succeeds _ (unchanged_meets k p t call given (with_descriptor k p fd (record { desc = h.desc; cloexec = argument % 2 == 1 })) 0 refl refl (omega arith) (λ asked. record {
      word = omega arith;
      kernel = whole_marked k p fd (record { desc = h.desc; cloexec = h.cloexec }) (record { desc = h.desc; cloexec = argument % 2 == 1 }) asked.kernel held.descriptor refl;
    }))
    by_command h held (Some GetFl) = succeeds _ (unchanged_meets k p t call given k h.description.flags refl refl (omega arith) (λ asked. record {
      word = flags_small h.description.flags (asked.kernel.descriptions.flags h.desc h.description held.description);
      kernel = asked.kernel;
    }))
    by_command h held (Some SetFl) = succeeds _ (unchanged_meets k p t call given (with_flags k h (set_flags h.description.flags argument)) 0 refl refl (omega arith) (λ asked. record {
      word = omega arith;
      kernel = flags_whole h held asked.kernel;
    }))
    by_command h held (Some SetOwn) = owner_served h held
    by_command h held (Some GetOwn) = succeeds _ (unchanged_meets k p t call given k h.description.owner refl refl (omega arith) (λ asked. record {
      word = owner_small k p fd h asked.kernel held;
      kernel = asked.kernel;
    }))

    above_prompt : (h : Held) (cloexec : Bool) → is_prompt (dup_above k p h argument cloexec) ≡ true
    unfolding dup_above
    above_prompt h cloexec = prompt_then (need (nat_lt argument DESCRIPTOR_LIMIT) EINVAL) _ (prompt_need _ EINVAL) (λ done. dup_prompt h argument cloexec)

    owner_prompt : (h : Held) → is_prompt (set_owner k p h argument) ≡ true
    unfolding set_owner
    owner_prompt h = prompt_then (need (may_own k p argument) ESRCH) _ (prompt_need _ ESRCH) (λ done. refl)

    command_prompt : (h : Held) (c : Option FcntlCommand) → is_prompt (fcntl_by k p fd h argument c) ≡ true
    command_prompt h None = refl
    command_prompt h (Some DupFd) = above_prompt h false
    command_prompt h (Some DupFdCloexec) = above_prompt h true
    command_prompt h (Some SetOwn) = owner_prompt h
    command_prompt h (Some _) = refl

    pub fcntl_law : RowLaw k p t call given
    unfolding row is_ready fcntl_row
    fcntl_law = row_law k p t call given (λ e. quiet t call _ refl)
        (after (held k p fd) (λ h there. by_command h (held_is k p fd h there) (fcntl_command command)))
        (settles k _ (prompt_then (held k p fd) _ (held_prompt k p fd) (λ h. command_prompt h (fcntl_command command))))
