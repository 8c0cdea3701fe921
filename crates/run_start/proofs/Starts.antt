-- The start of a job with one more file, and with one more program.
--     file_added, file_fits, no_guests      program_added
--     all_arrived_at, no_datagrams_at       a system can be made for it
use Rattle.std.proofs.Common.{◌≡◌, ℕ, zero, suc, All, ◌+◌, ◌<◌, ◌≤◌, ◌^◌, List, [], ◌∷◌, ◌++◌, length, Some, None, inl, inr, refl, sym, ap, subst, ◌∙◌, arith}
use Rattle.std.specs.Option.{option_map}
use Rattle.std.specs.FinMap as map
use Rattle.std.proofs.lemmas.Grind.{common_steps}
use Rattle.std.proofs.lemmas.Option.{none-some, same_Some}
use Rattle.std.proofs.lemmas.List.Elements.{All-append, All-nil}
use Rattle.plain_machine.specs.Valid.{AreNamed, IsValid}
use Rattle.plain_process.specs.Launches.{IsLaunched}
use Rattle.views.specs.Maps.{map_values}
use Rattle.views.proofs.MapValues.{get-map_values, map_values-insert}
use Rattle.views.proofs.MapLaws.{same_or_other, get_insert_same, get_insert_other}
use Rattle.sys_abi.specs.declared.identity.VPid.{VPid}
use Rattle.sys_abi.specs.declared.identity.DescId.{DescId}
use Rattle.sys_abi.specs.Orders.{vpid_cmp, dir_cmp, desc_cmp}
use Rattle.sys_abi.proofs.OrderLaws.{vpid_total, vpid_exact, desc_total, desc_exact}
use Rattle.plain_tables.specs.declared.channel.Direction.{Direction}
use Rattle.plain_tables.specs.declared.description.Description.{Description}
use Rattle.plain_tables.specs.Objects.{is_datagram}
use Rattle.plain_tables.specs.Tables.{Descriptions, pid}
use Rattle.plain_process.specs.declared.user_part.UserPart.{UserPart}
use Rattle.plain_process.specs.Start.{Launched, start_user}
use Rattle.plain_machine.specs.declared.kernel.PlainKernel.{PlainKernel}
use Rattle.plain_machine.specs.declared.plain.Plain.{Plain}
use Rattle.plain_machine.specs.Records.{Users}
use Rattle.plain_machine.specs.Start.{NamedFile, FIRST_PID, start, start_kernel, with_file, with_files, with_process, with_processes, with_users, empty_kernel, console_description, console_of}
use Rattle.rebuild_tables.specs.Rebuilt.{HasNoDatagrams}
use Rattle.rebuild_system.specs.Restarts.{AllArrived}
use Rattle.computation.specs.OfGuestProc.Guests.{GuestPart}
use Rattle.computation.specs.declared.computation.Computation.{Computation}
use Rattle.computation.specs.Computations.{IsReady}
use Rattle.computation.proofs.States.{Guests, seen, plain_is}
use Rattle.run_start.specs.declared.start.Start.{Start}
use Rattle.run_start.specs.Starts.{CanBegin, IsStart}

pub all_launched : (jobs : List Launched) (job : Launched) → All IsLaunched jobs → IsLaunched job → All IsLaunched (jobs ++ job ∷ [])
all_launched jobs job all is = All-append IsLaunched jobs (job ∷ []) all one
  where
    one : All IsLaunched (job ∷ [])
    one zero x low = is
    one (suc i) x low = absurd (omega arith)

kernel_of : (g h : Plain) → g ≡ h → g.kernel ≡ h.kernel
kernel_of g h is = ap (λ (x : Plain). x.kernel) is

users_of : (g h : Plain) → g ≡ h → g.users ≡ h.users
users_of g h is = ap (λ (x : Plain). x.users) is

-- one more file
files_more : (files : List NamedFile) (k : PlainKernel) (file : NamedFile) → with_files k (files ++ file ∷ []) ≡ with_file (with_files k files) file
unfolding with_files
files_more [] k file = refl
files_more (first ∷ rest) k file = files_more rest (with_file k first) file

next_file_of : (files : List NamedFile) (k : PlainKernel) → (with_files k files).next_file ≡ k.next_file + length files
unfolding with_files with_file
next_file_of [] k = omega arith
next_file_of (first ∷ rest) k = let later = next_file_of rest (with_file k first) in grind (arith, common_steps)

files_keep : (files : List NamedFile) (k : PlainKernel) → (with_files k files).next_id ≡ k.next_id
unfolding with_files with_file
files_keep [] k = refl
files_keep (first ∷ rest) k = files_keep rest (with_file k first)

only_files : (files : List NamedFile) → start_kernel [] files ≡ with_files empty_kernel files
unfolding start_kernel with_processes
only_files files = refl

no_users : (files : List NamedFile) → (start [] files).users ≡ map.empty
unfolding start with_users
no_users files = refl

start_is : (programs : List Launched) (files : List NamedFile) → (start programs files).kernel ≡ start_kernel programs files
unfolding start
start_is programs files = refl

first_file : empty_kernel.next_file ≡ 1
unfolding empty_kernel
first_file = refl

pub file_fits : (before : Start) (files : List NamedFile) (file : NamedFile) → IsStart before [] files → length (files ++ file ∷ []) ≤ 64 → before.kernel.next_file + 1 < 2 ^ 32
file_fits before files file is few =
    let number : before.kernel.next_file ≡ empty_kernel.next_file + length files =
    ap (λ (k : PlainKernel). k.next_file) (kernel_of _ _ is ∙ start_is [] files ∙ only_files files) ∙ next_file_of files empty_kernel in
    let first = first_file in
    let count : length (files ++ file ∷ []) ≡ length files + 1 = grind (arith, common_steps) in
    omega arith

pub file_added : (before : Start) (k : PlainKernel) (files : List NamedFile) (file : NamedFile) → IsStart before [] files → k ≡ with_file before.kernel file
    → seen k before.guests ≡ start [] (files ++ file ∷ [])
unfolding start with_users
file_added before k files file is kernel =
    plain_is _ _ _ _
    (kernel ∙ ap (λ k. with_file k file) (kernel_of _ _ is ∙ only_files files) ∙ sym (files_more files empty_kernel file) ∙ sym (only_files (files ++ file ∷ [])))
    (users_of _ _ is)

pub no_guests : (before : Start) (files : List NamedFile) (p : VPid) (guest : GuestPart) → IsStart before [] files → map.get before.guests p ≡ Some guest → ⊥
no_guests before files p guest is there =
    let found : option_map (λ (guest : GuestPart). guest.user) (map.get before.guests p) ≡ None =
    sym (get-map_values (λ (guest : GuestPart). guest.user) before.guests p) ∙ ap (λ m. map.get m p) (users_of _ _ is ∙ no_users files) ∙ map.get-empty {X = UserPart} vpid_cmp p in
    let none : Some guest.user ≡ None = sym (ap (option_map (λ (guest : GuestPart). guest.user)) there) ∙ found in
    cc

-- one more program
processes_more : (jobs : List Launched) (k : PlainKernel) (p : ℕ) (job : Launched) → with_processes k p (jobs ++ job ∷ []) ≡ with_process (with_processes k p jobs) (p + length jobs) job.host
unfolding with_processes
processes_more [] k p job = let same : p ≡ p + length {A = Launched} [] = omega arith in ap (λ n. with_process k n job.host) same
processes_more (first ∷ rest) k p job =
    let same : p + 1 + length rest ≡ p + length (first ∷ rest) = grind (arith, common_steps) in
    processes_more rest (with_process k p first.host) (p + 1) job ∙ ap (λ n. with_process (with_processes (with_process k p first.host) (p + 1) rest) n job.host) same

users_more : (jobs : List Launched) (users : Users) (p : ℕ) (job : Launched)
    → with_users users p (jobs ++ job ∷ []) ≡ map.insert (with_users users p jobs) (pid (p + length jobs)) (start_user job.program job.arguments (p + length jobs))
unfolding with_users
users_more [] users p job = let same : p ≡ p + length {A = Launched} [] = omega arith in ap (λ n. map.insert users (pid n) (start_user job.program job.arguments n)) same
users_more (first ∷ rest) users p job =
    let same : p + 1 + length rest ≡ p + length (first ∷ rest) = grind (arith, common_steps) in
    let more = map.insert users (pid p) (start_user first.program first.arguments p) in
    users_more rest more (p + 1) job ∙ ap (λ n. map.insert (with_users more (p + 1) rest) (pid n) (start_user job.program job.arguments n)) same

next_of : (k : PlainKernel) (p host : ℕ) → (with_process k p host).next_id ≡ p + 1
unfolding with_process
next_of k p host = refl

next_id_of : (jobs : List Launched) (k : PlainKernel) (p : ℕ) → k.next_id ≡ p → (with_processes k p jobs).next_id ≡ p + length jobs
unfolding with_processes
next_id_of [] k p is = omega arith
next_id_of (first ∷ rest) k p is = let later = next_id_of rest (with_process k p first.host) (p + 1) (next_of k p first.host) in grind (arith, common_steps)

first_id : empty_kernel.next_id ≡ FIRST_PID
unfolding empty_kernel
first_id = refl

next_number : (before : Start) (programs : List Launched) (files : List NamedFile) → IsStart before programs files → before.kernel.next_id ≡ FIRST_PID + length programs
unfolding start_kernel
next_number before programs files is =
    ap (λ (k : PlainKernel). k.next_id) (kernel_of _ _ is ∙ start_is programs files) ∙ next_id_of programs (with_files empty_kernel files) FIRST_PID (files_keep files empty_kernel ∙ first_id)

pub program_added : (before : Start) (k : PlainKernel) (after : Guests) (programs : List Launched) (files : List NamedFile) (job : Launched) (guest : GuestPart) → IsStart before programs files
    → k ≡ with_process before.kernel before.kernel.next_id job.host → after ≡ map.insert before.guests (pid before.kernel.next_id) guest
    → guest.user ≡ start_user job.program job.arguments before.kernel.next_id → seen k after ≡ start (programs ++ job ∷ []) files
unfolding start start_kernel
program_added before k after programs files job guest is kernel guests user =
    let number = next_number before programs files is in
    plain_is _ _ _ _
    (kernel ∙ ap (λ k. with_process k before.kernel.next_id job.host) (kernel_of _ _ is) ∙ ap (λ n. with_process (with_processes (with_files empty_kernel files) FIRST_PID programs) n job.host) number
    ∙ sym (processes_more programs (with_files empty_kernel files) FIRST_PID job))
    (ap (λ m. map_values (λ (guest : GuestPart). guest.user) m) guests ∙ map_values-insert vpid_total vpid_exact (λ (guest : GuestPart). guest.user) before.guests (pid before.kernel.next_id) guest
    ∙ ap (λ (u : UserPart). map.insert (map_values (λ (guest : GuestPart). guest.user) before.guests) (pid before.kernel.next_id) u) user
    ∙ ap (λ m. map.insert m (pid before.kernel.next_id) (start_user job.program job.arguments before.kernel.next_id)) (users_of _ _ is)
    ∙ ap (λ n. map.insert (with_users map.empty FIRST_PID programs) (pid n) (start_user job.program job.arguments n)) number
    ∙ sym (users_more programs map.empty FIRST_PID job))

-- nothing yet
no_parts : map_values (λ (guest : GuestPart). guest.user) (map.empty {R = vpid_cmp}) ≡ map.empty
no_parts = map.same_map vpid_total vpid_exact _ _ (λ q.
    get-map_values (λ (guest : GuestPart). guest.user) map.empty q ∙ ap (option_map (λ (guest : GuestPart). guest.user)) (map.get-empty {X = GuestPart} vpid_cmp q) ∙ sym (map.get-empty {X = UserPart} vpid_cmp q))

pub nothing_starts : (k : PlainKernel) (guests : Guests) → k ≡ empty_kernel → guests ≡ map.empty → seen k guests ≡ start [] []
unfolding start start_kernel with_processes with_files with_users
nothing_starts k guests kernel none = plain_is _ _ _ _ kernel (ap (λ m. map_values (λ (guest : GuestPart). guest.user) m) none ∙ no_parts)

pub nothing_named : AreNamed []
nothing_named = record { count = omega arith; names = All-nil _; bytes = All-nil _; total = omega arith; apart = λ i j d before inside. absurd (omega arith) }

-- no bytes are on the way, and no end of a datagram pair is open
record IsQuiet (k : PlainKernel) : Type 0 where
  arrived : AllArrived k.directions
  plain : HasNoDatagrams k.descriptions

empty_is_quiet : IsQuiet empty_kernel
unfolding empty_kernel
empty_is_quiet = record {
  arrived = λ at direction there. absurd (none-some direction (sym (map.get-empty {X = Direction} dir_cmp at) ∙ there));
  plain = λ id x there. absurd (none-some x (sym (map.get-empty {X = Description} desc_cmp id) ∙ there));
}

file_is_quiet : (k : PlainKernel) (file : NamedFile) → IsQuiet k → IsQuiet (with_file k file)
unfolding with_file
file_is_quiet k file is = record { arrived = is.arrived; plain = is.plain }

files_are_quiet : (files : List NamedFile) (k : PlainKernel) → IsQuiet k → IsQuiet (with_files k files)
unfolding with_files
files_are_quiet [] k is = is
files_are_quiet (file ∷ rest) k is = files_are_quiet rest (with_file k file) (file_is_quiet k file is)

console_is_plain : (descriptions : Descriptions) (at : DescId) → HasNoDatagrams descriptions
    → HasNoDatagrams (map.insert descriptions at console_description)
console_is_plain descriptions at is id x there = elim (same_or_other desc_total desc_exact id at) [
  | inl here ↦
      let found = sym (get_insert_same desc_total desc_exact descriptions at console_description)
      ∙ ap (map.get (map.insert descriptions at console_description)) (sym here) ∙ there in
      ap (λ (d : Description). is_datagram d.object) (sym (same_Some console_description x found))
  | inr other ↦
      is id x (sym (get_insert_other desc_total desc_exact descriptions at console_description id other) ∙ there)
]

process_is_quiet : (k : PlainKernel) (p host : ℕ) → IsQuiet k → IsQuiet (with_process k p host)
unfolding with_process
process_is_quiet k p host is =
    record { arrived = is.arrived; plain = console_is_plain k.descriptions (console_of p) is.plain }

processes_are_quiet : (jobs : List Launched) (k : PlainKernel) (p : ℕ) → IsQuiet k
    → IsQuiet (with_processes k p jobs)
unfolding with_processes
processes_are_quiet [] k p is = is
processes_are_quiet (first ∷ rest) k p is =
    processes_are_quiet rest (with_process k p first.host) (p + 1) (process_is_quiet k p first.host is)

start_is_quiet : (programs : List Launched) (files : List NamedFile) → IsQuiet (start_kernel programs files)
unfolding start_kernel
start_is_quiet programs files =
    processes_are_quiet programs (with_files empty_kernel files) FIRST_PID
    (files_are_quiet files empty_kernel empty_is_quiet)

module _ (k : PlainKernel) (guests : Guests) (programs : List Launched) (files : List NamedFile)
    (is : seen k guests ≡ start programs files) where
  quiet : IsQuiet k
  quiet = subst IsQuiet (sym (kernel_of _ _ is ∙ start_is programs files)) (start_is_quiet programs files)

  pub all_arrived_at : AllArrived k.directions
  all_arrived_at = quiet.arrived

  pub no_datagrams_at : HasNoDatagrams k.descriptions
  no_datagrams_at = quiet.plain

-- a computation that begins there
pub begun_ready : (s : Start) (c : Computation) → c.kernel ≡ s.kernel → c.guests ≡ s.guests → CanBegin s
    → IsReady c
begun_ready s c kernel guests can = record {
  valid = subst IsValid (sym (plain_is c.kernel s.kernel _ _ kernel
      (ap (λ m. map_values (λ (guest : GuestPart). guest.user) m) guests))) can.valid;
  numbered = λ p guest there. can.numbered p guest (ap (λ m. map.get m p) (sym guests) ∙ there);
}
