-- The threads of a process of a valid state: they have numbers that were given out, and there are few of them.
--     threads_of user      those of a process's own part, none where there is no part
use Rattle.std.proofs.Common.{◌≡◌, ℕ, ◌<◌, ◌≤◌, true, Option, Some, None, refl, sym, ap, ◌∙◌, arith}
use Rattle.std.specs.Prelude.{is_some}
use Rattle.std.specs.Ordering.{nat_cmp}
use Rattle.std.specs.Cmp.{nat_cmp_total}
use Rattle.std.specs.FinMap as map
use Rattle.views.proofs.MapLaws.{keys-empty}
use Rattle.sys_abi.specs.declared.identity.VPid.{VPid}
use Rattle.plain_tables.specs.declared.process.Process.{Process}
use Rattle.plain_tables.specs.Tables.{is_live_process}
use Rattle.plain_process.specs.declared.user_part.UserPart.{UserPart}
use Rattle.plain_process.specs.declared.user_part.ThreadPart.{ThreadPart}
use Rattle.plain_machine.specs.declared.plain.Plain.{Plain}
use Rattle.plain_machine.specs.Kernel.{is_live}
use Rattle.plain_machine.specs.Valid.{IsValid}
use Rattle.trace_log.specs.Turns.{threads_in}

abbrev pub threads_of : Option UserPart → map.FinMap nat_cmp ThreadPart
threads_of None = map.empty
threads_of (Some user) = user.threads

pub keys_of : (found : Option UserPart) → map.keys (threads_of found) ≡ threads_in found
keys_of None = keys-empty nat_cmp_total map.nat_cmp-IsAntisymmetric ThreadPart
keys_of (Some user) = refl

value_at : {A : Type 0} (o : Option A) → is_some o ≡ true → (a : A) × (o ≡ Some a)
value_at None there = absurd (cc)
value_at (Some a) there = (a, refl)

there_is : (found : Option Process) → is_live_process found ≡ true → (process : Process) × (found ≡ Some process)
there_is None alive = absurd (cc)
there_is (Some process) alive = (process, refl)

module _ (g : Plain) (p : VPid) (valid : IsValid g) where
  the_process : (user : UserPart) → map.get g.users p ≡ Some user → (process : Process) × (map.get g.kernel.processes p ≡ Some process)
  unfolding is_live
  the_process user known = there_is (map.get g.kernel.processes p) (sym (valid.alive p) ∙ ap is_some known)

  few_in : (found : Option UserPart) → map.get g.users p ≡ found → map.len (threads_of found) ≤ 64
  few_in None known = let none = map.len-empty nat_cmp ThreadPart in omega arith
  few_in (Some user) known = (valid.users p user known).thread_count

  numbers_in : (found : Option UserPart) → map.get g.users p ≡ found → (t : ℕ) (thread : ThreadPart) → map.get (threads_of found) t ≡ Some thread → 0 < t
  numbers_in None known t thread is = let none : Some thread ≡ None = sym is ∙ map.get-empty nat_cmp t in absurd (cc)
  numbers_in (Some user) known t thread is =
      let process = the_process user known in
      let same = valid.threads p process.0 user process.1 known t in
      let there = value_at (map.get process.0.threads t) (sym same ∙ ap is_some is) in
      let given = (valid.kernel.processes.each p process.0 process.1).threads t there.0 there.1 in
      let least = given.0.0 in
      omega arith

  pub few_threads : map.len (threads_of (map.get g.users p)) ≤ 64
  few_threads = few_in (map.get g.users p) refl

  pub numbers : (t : ℕ) (thread : ThreadPart) → map.get (threads_of (map.get g.users p)) t ≡ Some thread → 0 < t
  numbers = numbers_in (map.get g.users p) refl
