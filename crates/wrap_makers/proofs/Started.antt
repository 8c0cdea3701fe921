-- The kernel's answer to a clone, and the system with the pair of the new number that was put in before.
--     after_it           the system then
--     done_on            where the kernel gave a number
--     undone_on          where it gave none: it is as it was
use Rattle.std.proofs.Common.{◌≡◌, ℕ, ◌+◌, ◌<◌, true, false, List, [], Option, Some, None, Result, Ok, Err, refl, sym, ◌∙◌, subst, length}
use Rattle.std.specs.Prelude.{IfOk, OnErr}
use Rattle.std.specs.FinMap as map
use Rattle.views.specs.Numbers.{Byte, Flags}
use Rattle.views.proofs.MapLaws.{true_false}
use Rattle.sys_abi.specs.declared.cloning.CloneForm.{CloneForm}
use Rattle.sys_abi.specs.declared.identity.VPid.{VPid}
use Rattle.sys_abi.specs.declared.identity.RealPid.{RealPid}
use Rattle.sys_abi.specs.declared.maker.Maker.{Maker}
use Rattle.sys_abi.specs.declared.reply.Errno.{Errno}
use Rattle.proc_book.specs.Procs.{next_of}
use Rattle.plain_process.specs.Attempts.{Try, Fails, NotReady, Gives}
use Rattle.plain_tables.specs.declared.process.Process.{Process}
use Rattle.plain_machine.specs.declared.kernel.PlainKernel.{PlainKernel}
use Rattle.plain_machine.specs.Attempts.{Served}
use Rattle.plain_machine.specs.Rows.Clone.{LAST_ID}
use Rattle.host_tables.specs.declared.attempt.Attempt.{Attempt}
use Rattle.host_tables.specs.declared.attempt.Attempt.TheVariants as answer
use Rattle.host_tables.specs.declared.kernel.Kernel.{Kernel}
use Rattle.host_tables.specs.declared.reply.KernelReply.{KernelReply}
use Rattle.host_tables.specs.declared.reply.KernelReply.TheVariants.{Done, Error}
use Rattle.host_tables.specs.declared.reply.KernelReply.TheVariants as reply
use Rattle.host_tables.specs.declared.system.System.{System}
use Rattle.host_tables.specs.Numbers.{real}
use Rattle.host_tables.specs.Serves.{IsReply, bytes_or, Serves, ByPid, reply_value, silent}
use Rattle.host_tables.specs.Stands.{Stands, with_number}
use Rattle.host_tables.specs.Systems.{given_of}
use Rattle.wrap_names.specs.OfHostProcesses.Forks.{paired_with, IsNext}
use Rattle.wrap_names.specs.Wrapping.{IsWrapped, StandsAfter, is_done}
use Rattle.wrap_makers.specs.Cloning.{maker_in, with_pair, with_maker, told_as, next_after}
use Rattle.wrap_makers.proofs.CloneRow.{IsCloned, given_by, left_by}
use Rattle.wrap_makers.proofs.Grown.{grown, next_more}

pub no_gift : (n : ℕ) (e : Errno) → answer.Gives n ≡ answer.Fails e → ⊥
no_gift n e h = cc

pub no_wait : (e : Errno) → answer.NotReady ≡ answer.Fails e → ⊥
no_wait e h = cc

module _ (s : System) (number : ℕ) (k : PlainKernel) (w : IsWrapped s number k) (p : VPid) (who : RealPid)
    (form : CloneForm) (flags : Flags) (new : Kernel) where
  abbrev pub Says : Attempt → Try Served → Type 0
  Says a m = (x : List Byte) → Serves (ByPid who) (paired_with who) (given_of s) s.kernel new x x a (silent m)

  -- where the kernel gave a number
  module _ (x : Process) (there : map.get k.processes p ≡ Some x)
      (on_node : who.node < length s.kernel.procs.next) (last : number < LAST_ID) (n : ℕ)
      (n_is : n ≡ next_of s.kernel.procs who.node) (maker : Option Maker)
      (maker_is : maker ≡ maker_in s.conns.makers p form)
      (new_v : map.get s.ids.pids number ≡ None) (new_r : map.get s.ids.virts (real who.node n) ≡ None) where
    abbrev with_new : ℕ → RealPid → Option Maker → System
    with_new v r m = record s { kernel = new; ids = with_pair s.ids v r; conns = with_maker s.conns v m }

    abbrev pub after_it : System
    after_it = with_new number (real who.node n) maker

    abbrev IsGrown : ℕ → ℕ → Option Maker → Type 0
    IsGrown v r m = IsWrapped (with_new v (real who.node r) m) (v + 1) (left_by k p form)

    -- by the pairs with the plain number m and the real one r
    abbrev StandsWith : ℕ → ℕ → PlainKernel → Type 0
    StandsWith m r k' = Stands (with_number (given_of s) m (real who.node r)) None new k'

    grown_by : (served : Served) → served ≡ given_by k p form flags → IsCloned k p form flags (Gives served)
        → StandsWith (reply_value served.reply) n served.kernel → IsGrown number n maker
    grown_by served is cloned stands =
        let at_next : StandsWith k.next_id (next_of s.kernel.procs who.node) (left_by k p form) =
        subst (λ r. StandsWith k.next_id r (left_by k p form)) n_is
        (subst (λ (z : Served). StandsWith (reply_value z.reply) n z.kernel) is stands) in
        subst (IsGrown number n) (sym maker_is)
        (subst (λ r. IsGrown number r (maker_in s.conns.makers p form)) (sym n_is)
        (subst (λ v. IsGrown v (next_of s.kernel.procs who.node) (maker_in s.conns.makers p form)) w.next
        (record {
          stands = grown s k w.stands p x there who on_node form
              (subst (λ v. v < LAST_ID) (sym w.next) last) new
              (subst (λ v. map.get s.ids.pids v ≡ None) (sym w.next) new_v)
              (subst (λ r. map.get s.ids.virts (real who.node r) ≡ None) n_is new_r)
              cloned.1 at_next;
          next = next_more k p form;
        })))

    gave : (v : ℕ) (m : Try Served) → IsCloned k p form flags m → Says (answer.Gives v) m → v ≡ n
        → (bytes : List Byte) → StandsAfter after_it (number + 1) k bytes bytes (Done number) (silent m)
    gave v (Fails e) cloned says same bytes = absurd (no_gift v (record { 0 = e }) (says bytes).answer)
    gave v NotReady cloned says same bytes = absurd cloned
    gave v (Gives served) cloned says same bytes =
        let stands =
        subst (λ r. StandsWith (reply_value served.reply) r served.kernel) same (says bytes).stands in
        subst (λ (z : Served). IsWrapped after_it (number + 1) z.kernel
        × (IsReply (λ a b. a ≡ b) (answer.Gives number) z.reply × (bytes ≡ bytes_or bytes []))) (sym cloned.0)
        (grown_by served cloned.0 cloned stands, (sym w.next, refl))

    pub done_on : {E : Type 0} (r : Result Attempt E) (m : Try Served) → IsCloned k p form flags m
        → IfOk r (λ a. Says a m) → IfOk r (IsNext (next_of s.kernel.procs who.node))
        → is_done (told_as number r) ≡ true → (bytes : List Byte)
        → StandsAfter after_it (next_after number (told_as number r)) k bytes bytes (told_as number r)
        (silent m)
    done_on (Ok (answer.Gives v)) m cloned says next done bytes = gave v m cloned says (next ∙ sym n_is) bytes
    done_on (Ok (answer.Fails e)) m cloned says next done bytes = true_false (sym done)
    done_on (Ok answer.NotReady) m cloned says next done bytes = true_false (sym done)
    done_on (Err e) m cloned says next done bytes = true_false (sym done)

  -- where it gave none
  abbrev pub Undone : KernelReply → Try Served → Type 0
  Undone answered m =
      (new ≡ s.kernel)
      × ((bytes : List Byte) → StandsAfter s (next_after number answered) k bytes bytes answered (silent m))

  failed : (e : Errno) (m : Try Served) → IsCloned k p form flags m → Says (answer.Fails e) m
      → Undone (Error e) m
  failed e (Fails f) cloned says = ((says []).kernel, λ bytes. (w, ((says bytes).answer, refl)))
  failed e NotReady cloned says = absurd cloned
  failed e (Gives served) cloned says =
      absurd (subst (λ (z : Served).
      IsReply (λ a b. ByPid who a b (with_number (given_of s) (reply_value z.reply) (real who.node 0)))
      (answer.Fails e) z.reply) cloned.0 (says []).reply)

  waited : (m : Try Served) → IsCloned k p form flags m → Says answer.NotReady m
      → Undone reply.NotReady m
  waited (Fails f) cloned says = absurd (no_wait (record { 0 = f }) (says []).answer)
  waited NotReady cloned says = absurd cloned
  waited (Gives served) cloned says = absurd (says []).reply

  pub undone_on : {E : Type 0} (r : Result Attempt E) (m : Try Served) → IsCloned k p form flags m
      → IfOk r (λ a. Says a m) → OnErr r (new ≡ s.kernel) → is_done (told_as number r) ≡ false
      → Undone (told_as number r) m
  undone_on (Ok (answer.Gives v)) m cloned says same done = true_false done
  undone_on (Ok (answer.Fails e)) m cloned says same done = failed e m cloned says
  undone_on (Ok answer.NotReady) m cloned says same done = waited m cloned says
  undone_on (Err e) m cloned says same done = (same, λ bytes. (w, refl))
