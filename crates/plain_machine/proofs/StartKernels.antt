-- The user parts at a start are those of the processes that live, each valid and with its process's threads; so a start is valid.
use Rattle.std.proofs.Common.{◌≡◌, ◌≢◌, ℕ, ◌+◌, ◌<◌, ◌≤◌, Bool, true, false, cond, List, [], ◌∷◌, ◌^◌, length, refl, sym, ap, subst, ◌∙◌, arith, ⊎_elim}
use Rattle.std.specs.Prelude.{Option, Some, None, is_some, All}
use Rattle.std.specs.Ordering.{nat_cmp, eq_by_cmp}
use Rattle.std.specs.Cmp.{nat_cmp_total}
use Rattle.std.specs.FinMap as map
use Rattle.plain_tables.proofs.OfViews.MapLaws.{get_insert_same, get_insert_other, same_or_other}
use Rattle.plain_tables.specs.OfSysAbi.declared.identity.VPid.{VPid}
use Rattle.plain_tables.specs.OfSysAbi.Orders.{vpid_cmp}
use Rattle.plain_tables.proofs.OfSysAbi.OrderLaws.{vpid_total, vpid_exact}
use Rattle.plain_machine.specs.declared.kernel.PlainKernel.{PlainKernel}
use Rattle.plain_tables.specs.declared.process.Process.{Process}
use Rattle.plain_tables.specs.OfPlainProcess.declared.user_part.UserPart.{UserPart}
use Rattle.plain_tables.specs.Tables.{pid, is_live_process}
use Rattle.plain_machine.specs.Kernel.{is_live}
use Rattle.plain_tables.specs.OfPlainProcess.Start.{Launched, start_user}
use Rattle.plain_tables.specs.Start.{start_process}
use Rattle.plain_machine.specs.Start.{NamedFile, FIRST_PID, with_process, with_processes, with_file, with_files, with_users, empty_kernel, start_kernel, start}
use Rattle.plain_machine.specs.Valid.{IsValid, SameThreads}
use Rattle.plain_tables.specs.OfPlainProcess.Valid.{IsUser, Each}
use Rattle.plain_tables.specs.OfPlainProcess.Launches.{IsLaunched}
use Rattle.plain_machine.specs.Laws.{StartIsValid}
use Rattle.plain_machine.proofs.Entries.{each_with, no_entry}
use Rattle.plain_tables.proofs.OfPlainProcess.StartPages.{all_tail}
use Rattle.plain_machine.proofs.StartUsers.{start_user_is}
use Rattle.plain_machine.proofs.WholeStarts.{start_is_whole}

abbrev Users : Type 0
Users = map.FinMap vpid_cmp UserPart

-- what is valid of a state beside its kernel part
record AreParts (k : PlainKernel) (users : Users) : Type 0 where
  each : Each users (λ p user. IsUser user)
  alive : (p : VPid) → is_some (map.get users p) ≡ is_live k p
  threads : (p : VPid) (process : Process) (user : UserPart) → map.get k.processes p ≡ Some process → map.get users p ≡ Some user → SameThreads process user

module _ (k : PlainKernel) (p host : ℕ) where
  live_new : is_live (with_process k p host) (pid p) ≡ true
  unfolding is_live with_process
  live_new = ap is_live_process (get_insert_same vpid_total vpid_exact k.processes (pid p) (start_process p))

  live_other : (q : VPid) → q ≢ pid p → is_live (with_process k p host) q ≡ is_live k q
  unfolding is_live with_process
  live_other q other = ap is_live_process (get_insert_other vpid_total vpid_exact k.processes (pid p) (start_process p) q other)

-- a map of one entry has it at one key
one_key : {X : Type 0} (t q : ℕ) (v : X) → is_some (map.get (map.insert (map.empty {R = nat_cmp}) t v) q) ≡ eq_by_cmp nat_cmp q t
one_key {X} t q v =
    let none : map.get (map.empty {X = X} {R = nat_cmp}) q ≡ None = map.get-empty nat_cmp q in
    ap is_some (map.get-insert nat_cmp_total map.empty t v q ∙ ap (cond (eq_by_cmp nat_cmp q t) (Some v)) none) ∙ chosen (eq_by_cmp nat_cmp q t)
  where
    chosen : (b : Bool) → is_some (cond b (Some v) None) ≡ b
    chosen true = refl
    chosen false = refl

start_threads : (launched : Launched) (p : ℕ) → SameThreads (start_process p) (start_user launched.program launched.arguments p)
unfolding start_user
start_threads launched p t = one_key p t _ ∙ sym (one_key p t 0)

threads_added : (k : PlainKernel) (users : Users) (p host : ℕ) (user : UserPart)
    → ((q : VPid) (process : Process) (u : UserPart) → map.get k.processes q ≡ Some process → map.get users q ≡ Some u → SameThreads process u) → SameThreads (start_process p) user
    → (q : VPid) (process : Process) (u : UserPart) → map.get (with_process k p host).processes q ≡ Some process → map.get (map.insert users (pid p) user) q ≡ Some u → SameThreads process u
unfolding with_process
threads_added k users p host user old new q process u known found =
    each_with vpid_total vpid_exact (λ q process. (v : UserPart) → map.get (map.insert users (pid p) user) q ≡ Some v → SameThreads process v) k.processes (pid p) (start_process p)
    (λ v there. let same : user ≡ v = let put = get_insert_same vpid_total vpid_exact users (pid p) user in cc in subst (SameThreads (start_process p)) same new)
    (λ q process other known v there. old q process v known (sym (get_insert_other vpid_total vpid_exact users (pid p) user q other) ∙ there))
    q process known u found

launched_parts : (k : PlainKernel) (users : Users) (p : ℕ) (launched : Launched) → p < 2 ^ 31 → IsLaunched launched → AreParts k users
    → AreParts (with_process k p launched.host) (map.insert users (pid p) (start_user launched.program launched.arguments p))
launched_parts k users p launched last starts are =
    let user = start_user launched.program launched.arguments p in
    record {
      each = each_with vpid_total vpid_exact (λ q u. IsUser u) users (pid p) user (start_user_is launched p starts (omega arith)) (λ q u other found. are.each q u found);
      alive = λ q. ⊎_elim
          (λ here. subst (λ x. is_some (map.get (map.insert users (pid p) user) x) ≡ is_live (with_process k p launched.host) x) (sym here)
          (ap is_some (get_insert_same vpid_total vpid_exact users (pid p) user) ∙ sym (live_new k p launched.host)))
          (λ other. ap is_some (get_insert_other vpid_total vpid_exact users (pid p) user q other) ∙ are.alive q ∙ sym (live_other k p launched.host q other))
          (same_or_other vpid_total vpid_exact q (pid p));
      threads = threads_added k users p launched.host user are.threads (start_threads launched p);
    }

-- the processes of a job's programs, one after the other
launched_all : (jobs : List Launched) (k : PlainKernel) (users : Users) (p : ℕ) → p + length jobs < 2 ^ 31 → All IsLaunched jobs → AreParts k users
    → AreParts (with_processes k p jobs) (with_users users p jobs)
unfolding with_processes with_users
launched_all [] k users p fits starts are = are
launched_all (launched ∷ rest) k users p fits starts are =
    launched_all rest (with_process k p launched.host) _ (p + 1) (omega arith) (all_tail IsLaunched launched rest starts)
    (launched_parts k users p launched (omega arith) (starts 0 launched (omega arith)) are)

-- named files are no part of it
file_parts : (k : PlainKernel) (users : Users) (file : NamedFile) → AreParts k users → AreParts (with_file k file) users
unfolding with_file is_live
file_parts k users file are = record { each = are.each; alive = are.alive; threads = are.threads }

files_parts : (files : List NamedFile) (k : PlainKernel) (users : Users) → AreParts k users → AreParts (with_files k files) users
unfolding with_files
files_parts [] k users are = are
files_parts (file ∷ rest) k users are = files_parts rest (with_file k file) users (file_parts k users file are)

empty_parts : AreParts empty_kernel map.empty
unfolding empty_kernel is_live
empty_parts = record {
  each = λ q user found. absurd (no_entry vpid_total vpid_exact q user found);
  alive = λ q. ap is_some (map.get-empty vpid_cmp q) ∙ sym (ap is_live_process (map.get-empty vpid_cmp q));
  threads = λ q process user known found. absurd (no_entry vpid_total vpid_exact q user found);
}

pub start_is_valid : StartIsValid
unfolding start start_kernel
start_is_valid jobs files few starts named =
    let parts = launched_all jobs (with_files empty_kernel files) map.empty FIRST_PID (omega arith) starts (files_parts files empty_kernel map.empty empty_parts) in
    record { kernel = start_is_whole jobs files few starts named; users = parts.each; alive = parts.alive; threads = parts.threads }
