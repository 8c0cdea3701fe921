-- Which threads a kernel part has of each process that lives, over a signal that is taken; and that this is what a valid state says of its parts.
--     SameProcesses before after      the same processes live      take_threads
--     known_threads, valid_from      of a valid state
use Rattle.std.proofs.Common.{◌≡◌, ℕ, Bool, true, false, cond, refl, sym, ap, ◌∙◌, arith}
use Rattle.std.specs.Prelude.{◌==◌, not, bit_and, Option, Some, None, is_some, unwrap_or}
use Rattle.std.specs.FinMap as map
use Rattle.std.proofs.lemmas.Nat.{and_le_l}
use Rattle.plain_tables.proofs.OfViews.MapLaws.{true_false}
use Rattle.plain_tables.specs.OfSysAbi.declared.identity.VPid.{VPid}
use Rattle.plain_tables.specs.OfSysAbi.Signals.{bit_of, has_signal, without_signal}
use Rattle.plain_machine.specs.declared.plain.Plain.{Plain}
use Rattle.plain_machine.specs.declared.kernel.PlainKernel.{PlainKernel}
use Rattle.plain_tables.specs.declared.process.Process.{Process}
use Rattle.plain_tables.specs.OfPlainProcess.declared.user_part.UserPart.{UserPart}
use Rattle.plain_tables.specs.Tables.{is_live_process, signals_of, with_signals, taken_from, has_thread_in}
use Rattle.plain_machine.specs.Kernel.{is_live, at_process, after_take, has_thread}
use Rattle.plain_machine.specs.Valid.{IsKernel, IsValid}
use Rattle.plain_tables.specs.OfPlainProcess.Valid.{IsUser, Each}
use Rattle.plain_machine.proofs.ThreadKeys.{same_there}
use Rattle.plain_machine.proofs.ChangedProcesses.{changed_test}
use Rattle.plain_tables.specs.OfSysAbi.Lives.{lives}

pub record SameProcesses (before after : PlainKernel) : Type 0 where
  pub live : (q : VPid) → is_live after q ≡ is_live before q
  pub threads : (q : VPid) (u : ℕ) → has_thread after q u ≡ has_thread before q u

-- a change of one process
pub record SameThreadsIn (before after : Process) : Type 0 where
  pub life : after.life ≡ before.life
  pub threads : (u : ℕ) → is_some (map.get after.threads u) ≡ is_some (map.get before.threads u)

pub change_keeps : (k : PlainKernel) (p : VPid) (change : Process → Process) → ((process : Process) → map.get k.processes p ≡ Some process → SameThreadsIn process (change process))
    → SameProcesses k (at_process k p change)
unfolding is_live
change_keeps k p change keeps = record {
  live = changed_test k.processes p change is_live_process (λ process there. ap lives (keeps process there).life);
  threads = λ q u. changed_test k.processes p change (has_thread_in u) (λ process there. (keeps process there).threads u) q;
}

-- a signal that is taken
no_signal : (s : ℕ) → has_signal 0 s ≡ false
no_signal s = let none : bit_and 0 (bit_of s) ≡ 0 = let less = and_le_l 0 (bit_of s) in omega arith in ap (λ n. not (n == 0)) none

pub there_if_signal : (found : Option ℕ) (s : ℕ) → has_signal (unwrap_or found 0) s ≡ true → is_some found ≡ true
there_if_signal None s has = true_false (sym has ∙ no_signal s)
there_if_signal (Some signals) s has = refl

pub signals_change : (process : Process) (t signals : ℕ) → is_some (map.get process.threads t) ≡ true → SameThreadsIn process (with_signals process t signals)
signals_change process t signals there = record { life = refl; threads = λ u. same_there process.threads t signals there u }

taken_change : (t s : ℕ) (process : Process) → SameThreadsIn process (taken_from t s process)
taken_change t s process = chosen (has_signal (signals_of t process) s) refl
  where
    chosen : (b : Bool) → has_signal (signals_of t process) s ≡ b
        → SameThreadsIn process (cond b (with_signals process t (without_signal (signals_of t process) s)) (record process { pending = without_signal process.pending s }))
    chosen true has = signals_change process t _ (there_if_signal (map.get process.threads t) s has)
    chosen false other = record { life = refl; threads = λ u. refl }

pub take_threads : (k : PlainKernel) (p : VPid) (t s : ℕ) → SameProcesses k (after_take k p t s)
unfolding after_take
take_threads k p t s = change_keeps k p (taken_from t s) (λ process there. taken_change t s process)

-- a valid state's parts
known_by : (g : Plain) (p : VPid) (user : UserPart) (u : ℕ) (found : Option Process) → IsValid g → map.get g.users p ≡ Some user → map.get g.kernel.processes p ≡ found → is_live_process found ≡ true
    → is_some (map.get user.threads u) ≡ has_thread_in u found
known_by g p user u None is there known alive = true_false (sym alive)
known_by g p user u (Some process) is there known alive = is.threads p process user known there u

pub user_lives : (g : Plain) (p : VPid) (user : UserPart) → IsValid g → map.get g.users p ≡ Some user → is_live g.kernel p ≡ true
user_lives g p user is there = sym (is.alive p) ∙ ap is_some there

pub known_threads : (g : Plain) (p : VPid) (user : UserPart) → IsValid g → map.get g.users p ≡ Some user → (u : ℕ) → is_some (map.get user.threads u) ≡ has_thread g.kernel p u
unfolding is_live
known_threads g p user is there u = known_by g p user u (map.get g.kernel.processes p) is there refl (user_lives g p user is there)

pub valid_from : (g : Plain) → IsKernel g.kernel → Each g.users (λ p user. IsUser user) → ((p : VPid) → is_some (map.get g.users p) ≡ is_live g.kernel p)
    → ((p : VPid) (user : UserPart) → map.get g.users p ≡ Some user → (u : ℕ) → is_some (map.get user.threads u) ≡ has_thread g.kernel p u) → IsValid g
valid_from g kernel users alive threads = record {
  kernel = kernel;
  users = users;
  alive = alive;
  threads = λ p process user known found u. threads p user found u ∙ ap (has_thread_in u) known;
}
