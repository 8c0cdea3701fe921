-- The answer of the guest's call, with the bytes that its row gives.
--     no_form, no_number      where its flags are of no form, and where no number is left
--     not_made                where nothing is made
--     made                    where the number is told in the bytes
use Rattle.std.proofs.Common.{◌≡◌, ℕ, ◌+◌, ◌≤◌, true, false, List, [], Some, None, refl, sym, ap, ◌∙◌, subst}
use Rattle.views.specs.Numbers.{Byte, Flags}
use Rattle.views.proofs.MapLaws.{true_false}
use Rattle.sys_abi.specs.declared.cloning.CloneForm.{CloneForm}
use Rattle.sys_abi.specs.declared.errors.TheConstants.{EAGAIN, EINVAL}
use Rattle.sys_abi.specs.declared.identity.VPid.{VPid}
use Rattle.sys_abi.specs.declared.reply.Errno.{Errno}
use Rattle.sys_abi.specs.Clones.{clone_form}
use Rattle.call_table.specs.declared.request.Request.{Request}
use Rattle.plain_process.specs.Attempts.{Try, Fails, NotReady, Gives}
use Rattle.plain_machine.specs.declared.kernel.PlainKernel.{PlainKernel}
use Rattle.plain_machine.specs.Attempts.{Served}
use Rattle.plain_machine.specs.RowLaws.{IsAsked}
use Rattle.plain_machine.specs.Rows.Clone.{LAST_ID, clone_row}
use Rattle.plain_machine.specs.Serve.{row}
use Rattle.host_tables.specs.declared.attempt.Attempt.TheVariants as answer
use Rattle.host_tables.specs.declared.reply.KernelReply.{KernelReply}
use Rattle.host_tables.specs.declared.reply.KernelReply.TheVariants.{Done, Error, Memory}
use Rattle.host_tables.specs.declared.reply.KernelReply.TheVariants as reply
use Rattle.host_tables.specs.declared.system.System.{System}
use Rattle.host_tables.specs.Serves.{IsReply, bytes_or, silent}
use Rattle.wrap_names.specs.Wrapping.{IsWrapped, StandsAfter, is_done}
use Rattle.wrap_makers.specs.Cloning.{is_clone, flags_in, number_places, next_after}
use Rattle.wrap_makers.proofs.CloneRow.{IsCloned, row_is, row_cloned, no_form as refused_form, none_left}
use Rattle.wrap_makers.proofs.Started.{no_gift, no_wait}

module _ (s : System) (number : ℕ) (k : PlainKernel) (next : k.next_id ≡ number) (p : VPid) (form : CloneForm)
    (flags : Flags) where
  abbrev Quiet : KernelReply → Try Served → Type 0
  Quiet answered m =
      (bytes : List Byte) → StandsAfter s (next_after number answered) k bytes bytes answered (silent m)

  failed : (e : Errno) (m : Try Served) → IsCloned k p form flags m → Quiet (Error e) m → (before : List Byte)
      → StandsAfter s number k before before (Error e) m
  failed e (Fails f) cloned quiet before = quiet before
  failed e NotReady cloned quiet before = absurd cloned
  failed e (Gives served) cloned quiet before =
      absurd (subst (λ (z : Served). IsReply (λ a b. a ≡ b) (answer.Fails e) z.reply) cloned.0 (quiet []).1.0)

  waited : (m : Try Served) → IsCloned k p form flags m → Quiet reply.NotReady m → (before : List Byte)
      → StandsAfter s number k before before reply.NotReady m
  waited (Fails f) cloned quiet before = absurd (no_wait (record { 0 = f }) (quiet []).1.0)
  waited NotReady cloned quiet before = absurd cloned
  waited (Gives served) cloned quiet before = absurd (quiet []).1.0

  not_done : (answered : KernelReply) (m : Try Served) → IsCloned k p form flags m → Quiet answered m
      → is_done answered ≡ false → (before : List Byte) → StandsAfter s number k before before answered m
  not_done (Done n) m cloned quiet done before = true_false done
  not_done (Error e) m cloned quiet done before = failed e m cloned quiet before
  not_done reply.NotReady m cloned quiet done before = waited m cloned quiet before
  not_done Memory m cloned quiet done before = quiet before

  gave : (n : ℕ) (m : Try Served) → IsCloned k p form flags m → Quiet (Done n) m → (before now : List Byte)
      → now ≡ bytes_or before (number_places form flags number)
      → StandsAfter s (number + 1) k before now (Done n) m
  gave n (Fails f) cloned quiet before now is = absurd (no_gift n (record { 0 = f }) (quiet []).1.0)
  gave n NotReady cloned quiet before now is = absurd cloned
  gave n (Gives served) cloned quiet before now is = (
    (quiet []).0,
    (
      (quiet []).1.0,
      is ∙ ap (λ v. bytes_or before (number_places form flags v)) (sym next)
          ∙ ap (λ (z : Served). bytes_or before z.bytes) (sym cloned.0),
    ),
  )

  told : (answered : KernelReply) (m : Try Served) → IsCloned k p form flags m → Quiet answered m
      → is_done answered ≡ true → (before now : List Byte)
      → now ≡ bytes_or before (number_places form flags number)
      → StandsAfter s (number + 1) k before now answered m
  told (Done n) m cloned quiet done before now is = gave n m cloned quiet before now is
  told (Error e) m cloned quiet done before now is = true_false (sym done)
  told reply.NotReady m cloned quiet done before now is = true_false (sym done)
  told Memory m cloned quiet done before now is = true_false (sym done)

module _ (s : System) (number : ℕ) (k : PlainKernel) (w : IsWrapped s number k) (p : VPid) (t : ℕ)
    (q : Request) (given : List Byte) (asked : IsAsked k p t q given) (is : is_clone q ≡ true) (flags : Flags)
    (flags_is : flags ≡ flags_in q) where
  abbrev its_row : Try Served
  its_row = row k p t q given

  its_row_is : its_row ≡ clone_row k p flags
  its_row_is = row_is k p t q given is ∙ ap (clone_row k p) (sym flags_is)

  abbrev FailsWith : ℕ → Try Served → Type 0
  FailsWith e m = StandsAfter s number k given given (Error (record { 0 = e })) m

  refused : (e : ℕ) → its_row ≡ Fails e → FailsWith e its_row
  refused e fails = subst (FailsWith e) (sym fails) (w, (refl, refl))

  pub no_form : clone_form flags ≡ None → FailsWith EINVAL its_row
  no_form none = refused EINVAL (its_row_is ∙ refused_form k p flags none)

  module _ (form : CloneForm) (is_form : clone_form flags ≡ Some form) where
    pub no_number : LAST_ID ≤ number → FailsWith EAGAIN its_row
    no_number high =
        refused EAGAIN (its_row_is
        ∙ none_left k p flags form is_form (subst (λ v. LAST_ID ≤ v) (sym w.next) high))

    cloned : IsCloned k p form flags its_row
    cloned =
        subst (IsCloned k p form flags) (sym its_row_is)
        (row_cloned k p flags w.stands.kernel asked.alive form is_form)

    module _ (s' : System) (answered : KernelReply)
        (quiet : Quiet s' number k w.next p form flags answered (clone_row k p flags)) where
      its_quiet : Quiet s' number k w.next p form flags answered its_row
      its_quiet = subst (Quiet s' number k w.next p form flags answered) (sym its_row_is) quiet

      pub not_made : is_done answered ≡ false → StandsAfter s' number k given given answered its_row
      not_made none = not_done s' number k w.next p form flags answered its_row cloned its_quiet none given

      pub made : is_done answered ≡ true → (now : List Byte)
          → now ≡ bytes_or given (number_places form flags number)
          → StandsAfter s' (number + 1) k given now answered its_row
      made done now told_is =
          told s' number k w.next p form flags answered its_row cloned its_quiet done given now told_is
