-- Laws of runs, each of which the contract of `run_laws` promises.
use Rattle.std.specs.Prelude.{◌≡◌, ◌≢◌, ◌<◌, ◌≤◌, ℕ, Bool, true, List, [], ◌∷◌, ◌++◌, length, Option, Some, None, is_some, All}
use Rattle.std.specs.FinMap as map
use Rattle.plain_tables.specs.OfViews.Limits.{HOST_LIMIT, PROCESS_LIMIT}
use Rattle.plain_tables.specs.OfSysAbi.declared.identity.VPid.{VPid}
use Rattle.plain_tables.specs.OfSysAbi.declared.reply.Reply.{Reply}
use Rattle.plain_tables.specs.OfCallTable.declared.request.Request.{Request}
use Rattle.plain_tables.specs.OfSysAbi.declared.record.Record.{Record}
use Rattle.plain_tables.specs.OfSysAbi.declared.record.Record.TheVariants.{User, Call, Deliver}
use Rattle.plain_machine.specs.declared.plain.Plain.{Plain}
use Rattle.plain_machine.specs.declared.kernel.PlainKernel.{PlainKernel}
use Rattle.plain_tables.specs.OfPlainProcess.declared.user_part.UserPart.{UserPart}
use Rattle.plain_machine.specs.Kernel.{is_live}
use Rattle.plain_tables.specs.Tables.{pid}
use Rattle.plain_machine.specs.Attempts.{Served}
use Rattle.plain_tables.specs.OfPlainProcess.Steps.{Asks, user_step, user_steps}
use Rattle.plain_tables.specs.OfPlainProcess.Deliveries.{Enters, deliver}
use Rattle.plain_tables.specs.OfPlainProcess.Buffers.{lent, filled_spans}
use Rattle.plain_tables.specs.OfPlainProcess.Put.{word_of, added_thread, put, put_fault, CanTake}
use Rattle.plain_tables.specs.OfPlainProcess.Local.{local_row}
use Rattle.plain_machine.specs.Serve.{serve, is_ready, front_of}
use Rattle.plain_machine.specs.RowLaws.{IsAsked, IsServed, MayAdd}
use Rattle.plain_machine.specs.Records.{Outcome, outcome, step}
use Rattle.plain_machine.specs.Runs.{run, console}
use Rattle.plain_tables.specs.OfElf32.Pages.{page_count}
use Rattle.plain_tables.specs.OfElf32.Programs.{program_of, IsWellPlaced}
use Rattle.plain_tables.specs.OfPlainProcess.Start.{Launched, start_user}
use Rattle.plain_machine.specs.Start.{NamedFile, start}
use Rattle.plain_tables.specs.OfPlainProcess.Valid.{IsWord, IsByte, IsUser, IsRequest, CanAdd}
use Rattle.plain_machine.specs.Valid.{IsValid, AreNamed}
use Rattle.plain_tables.specs.OfPlainProcess.Launches.{IsLaunched}

-- the process that a record is of
abbrev pub subject : Record → Option VPid
subject (User p t n) = Some p
subject (Call p t) = Some p
subject (Deliver p t s) = Some p
subject _ = None

-- a record of one process leaves the part of every other process that lives after it, but for one that it
-- made
abbrev pub RecordIsLocal : Type 0
RecordIsLocal =
    (g next : Plain) (r : Record) (q : VPid) → step g r ≡ Some next → subject r ≢ Some q → q ≢ pid g.kernel.next_id → is_live next.kernel q ≡ true → map.get next.users q ≡ map.get g.users q

-- a start is valid
abbrev pub StartIsValid : Type 0
StartIsValid = (jobs : List Launched) (files : List NamedFile) → length jobs ≤ PROCESS_LIMIT → All IsLaunched jobs → AreNamed files → IsValid (start jobs files)

-- each step from a valid state leads to a valid one
abbrev pub StepKeepsValid : Type 0
StepKeepsValid = (g next : Plain) (r : Record) → IsValid g → step g r ≡ Some next → IsValid next

-- what a program of a file gives a job, where the file's reader accepts it
abbrev pub ReadIsLaunched : Type 0
ReadIsLaunched =
    (host : ℕ) (file arguments : List ℕ) → All IsByte file → All IsByte arguments → All IsWellPlaced (program_of file).segments → page_count (program_of file).segments ≤ 1536 → host < HOST_LIMIT
    → IsLaunched (record { host = host; program = program_of file; arguments = arguments })

-- a process's part is valid at its start, and stays so over its steps and over the answers to its calls
abbrev pub StartIsUser : Type 0
StartIsUser = (launched : Launched) (t : ℕ) → IsLaunched launched → IsWord t → IsUser (start_user launched.program launched.arguments t)

abbrev pub UserStepsKeepUser : Type 0
UserStepsKeepUser = (n : ℕ) (user after : UserPart) (t : ℕ) → IsUser user → user_steps n user t ≡ Some after → IsUser after

abbrev pub PutKeepsUser : Type 0
PutKeepsUser =
    (user : UserPart) (t : ℕ) (q : Request) (reply : Reply) (bytes : List ℕ) → IsUser user → IsRequest q → IsWord (word_of reply) → All IsByte bytes
    → CanTake user.memory (filled_spans user.memory q) bytes → CanAdd user q reply
    → IsUser (put user t q reply bytes)

abbrev pub FaultKeepsUser : Type 0
FaultKeepsUser = (user : UserPart) (t : ℕ) (q : Request) → IsUser user → IsUser (put_fault user t q)

abbrev pub LocalKeepsUser : Type 0
LocalKeepsUser = (user : UserPart) (t : ℕ) (q : Request) → IsUser user → user_step user t ≡ Asks q → IsUser (local_row user t q)

abbrev pub DeliveryKeepsUser : Type 0
DeliveryKeepsUser = (user after : UserPart) (t s : ℕ) (unready : Bool) → IsUser user → deliver user t s unready ≡ Enters after → IsUser after

abbrev pub AskedIsRequest : Type 0
AskedIsRequest = (user : UserPart) (t : ℕ) (q : Request) → IsUser user → user_step user t ≡ Asks q → IsRequest q

-- no more threads wait than there are
abbrev pub WaitersAreFew : Type 0
WaitersAreFew = (user : UserPart) → IsUser user → length user.waiters ≤ map.len user.threads

-- each call that a thread of a valid kernel part asks for is served as the one law of rows says
abbrev pub EachIsServed : Type 0
EachIsServed =
    (k : PlainKernel) (p : VPid) (t : ℕ) (q : Request) (given : List ℕ) (served : Served)
    → IsAsked k p t q given → serve k p t q given ≡ Some served → IsServed k p t q given served

-- the first bytes that a call reads tell whether it waits
abbrev pub ReadyByFront : Type 0
ReadyByFront =
    (k : PlainKernel) (p : VPid) (t : ℕ) (q : Request) (given : List ℕ)
    → is_some (serve k p t q given) ≡ is_ready k p t q (front_of given)

-- a thread of a valid state that stands at a call asks for it as that law wants
abbrev pub StandsAsked : Type 0
StandsAsked =
    (g : Plain) (user : UserPart) (p : VPid) (t : ℕ) (q : Request) (given : List ℕ) → IsValid g
    → map.get g.users p ≡ Some user → user_step user t ≡ Asks q → lent user.memory q ≡ Some given
    → IsAsked g.kernel p t q given

-- one more record at a trace's end
abbrev pub RunOfOneMore : Type 0
RunOfOneMore = (g h : Plain) (trace : List Record) (r : Record) → run g trace ≡ Some h → run g (trace ++ r ∷ []) ≡ step h r

abbrev pub ConsoleOfOneMore : Type 0
ConsoleOfOneMore =
    (g h : Plain) (trace : List Record) (r : Record) (o : Outcome) → run g trace ≡ Some h → outcome h r ≡ Some o → console g (trace ++ r ∷ []) ≡ console g trace ++ o.console

-- what a call that a valid state serves answers may add a thread
abbrev pub ServeAdds : Type 0
ServeAdds =
    (g : Plain) (user : UserPart) (p : VPid) (q : Request) (reply : Reply) → IsValid g
    → map.get g.users p ≡ Some user
    → MayAdd g.kernel p (added_thread q reply) → CanAdd user q reply
