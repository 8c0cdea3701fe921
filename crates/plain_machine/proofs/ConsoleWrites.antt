-- A write on the console, which is served before writes of other objects are: it changes nothing and never waits.
--     console_write, console_is_ready
use Rattle.std.proofs.Common.{◌≡◌, ℕ, Bool, true, false, List, refl, sym, subst}
use Rattle.std.specs.Prelude.{not}
use Rattle.plain_tables.proofs.OfViews.MapLaws.{true_false}
use Rattle.plain_tables.specs.OfSysAbi.declared.identity.VPid.{VPid}
use Rattle.plain_tables.specs.OfSysAbi.declared.errors.TheConstants.{EBADF}
use Rattle.plain_machine.specs.declared.kernel.PlainKernel.{PlainKernel}
use Rattle.plain_tables.specs.declared.description.Object.{Object}
use Rattle.plain_tables.specs.declared.description.Object.TheVariants.{Console}
use Rattle.plain_tables.specs.Tables.{may_write}
use Rattle.plain_tables.specs.OfPlainProcess.Attempts.{Try, Fails, NotReady, Gives, and_then, need}
use Rattle.plain_machine.specs.Kernel.{Held, held, description_at}
use Rattle.plain_machine.specs.Rows.Write.{is_writable, write_object, write_access, write_row, is_write_ready}
use Rattle.plain_machine.specs.Serve.{is_console, is_on_console}
use Rattle.plain_machine.specs.Waiting.{need_ready, waits}
use Rattle.plain_machine.proofs.Flows.{described}
use Rattle.plain_machine.proofs.HeldDescriptors.{held_prompt}
use Rattle.plain_machine.proofs.Prompt.{is_prompt}
use Rattle.plain_machine.proofs.Trying.{Trying, succeeds, after}

module _ (k : PlainKernel) (p : VPid) (fd count : ℕ) (is : is_on_console (description_at k p fd) ≡ true) where
  its_console : (h : Held) → held k p fd ≡ Gives h → is_console h.description.object ≡ true
  its_console h found = subst (λ there. is_on_console there ≡ true) (described k p fd h found) is

  pub console_write : (t : ℕ) (given : List ℕ) → Trying (write_row k p t fd count given) (λ served. served.kernel ≡ k)
  unfolding write_row write_access
  console_write t given = after (write_access k p fd count given) (λ h access. shown h h.description.object (its_console h (access_held.each h access)))
    where
      access_held : Trying (write_access k p fd count given) (λ h. held k p fd ≡ Gives h)
      access_held = after (held k p fd) (λ h found. after (need (may_write h.description.flags) EBADF) (λ may allowed.
          after (need_ready h.description.flags (is_writable k count given h.description.object)) (λ done ready. succeeds h found)))

      shown : (h : Held) (object : Object) → is_console object ≡ true → Trying (write_object k p t h count given object) (λ served. served.kernel ≡ k)
      shown h Console console = succeeds _ refl
      shown h _ console = true_false (sym console)

  pub console_is_ready : (front : List ℕ) → is_write_ready k p fd count front ≡ true
  unfolding is_write_ready write_access and_then need need_ready
  console_is_ready front = by_held (held k p fd) (held_prompt k p fd) (λ h found. its_console h found)
    where
      writable : (object : Object) → is_console object ≡ true → is_writable k count front object ≡ true
      writable Console console = refl
      writable _ console = true_false (sym console)

      by_mode : (h : Held) (may ready : Bool) → ready ≡ true → not (waits (and_then (need may EBADF) (λ _. and_then (need_ready h.description.flags ready) (λ _. Gives h)))) ≡ true
      by_mode h true true yet = refl
      by_mode h true false yet = true_false (sym yet)
      by_mode h false ready yet = refl

      by_held : (attempt : Try Held) → is_prompt attempt ≡ true → ((h : Held) → attempt ≡ Gives h → is_console h.description.object ≡ true)
          → not (waits (and_then attempt (λ h. and_then (need (may_write h.description.flags) EBADF) (λ _. and_then (need_ready h.description.flags (is_writable k count front h.description.object)) (λ _. Gives h))))) ≡ true
      by_held (Fails e) prompt shows = refl
      by_held NotReady prompt shows = true_false (sym prompt)
      by_held (Gives h) prompt shows = by_mode h (may_write h.description.flags) (is_writable k count front h.description.object) (writable h.description.object (shows h refl))
