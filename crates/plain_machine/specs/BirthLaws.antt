-- Laws of runs on processes that begin and end, which the contract of `run_laws` promises beside those of
-- `Laws`: a process begins by a fork alone, and ends by its own records alone.
use Rattle.std.specs.Prelude.{◌≡◌, true, false, Some, None}
use Rattle.std.specs.FinMap as map
use Rattle.plain_tables.specs.OfSysAbi.declared.identity.VPid.{VPid}
use Rattle.plain_tables.specs.OfSysAbi.declared.identity.Tid.{Tid}
use Rattle.plain_tables.specs.OfSysAbi.declared.record.Record.{Record}
use Rattle.plain_tables.specs.OfSysAbi.declared.record.Record.TheVariants.{Call}
use Rattle.plain_tables.specs.OfSysAbi.declared.reply.Reply.{Reply}
use Rattle.plain_tables.specs.OfCallTable.declared.request.Request.{Request}
use Rattle.plain_tables.specs.OfPlainProcess.declared.user_part.UserPart.{UserPart}
use Rattle.plain_tables.specs.OfPlainProcess.Put.{made_by}
use Rattle.plain_tables.specs.OfPlainProcess.Steps.{Asks, user_step}
use Rattle.plain_tables.specs.OfPlainProcess.Threads.{child_of}
use Rattle.plain_tables.specs.Tables.{pid}
use Rattle.plain_machine.specs.declared.plain.Plain.{Plain}
use Rattle.plain_machine.specs.Kernel.{is_live}
use Rattle.plain_machine.specs.Laws.{subject}
use Rattle.plain_machine.specs.Records.{step}
use Rattle.plain_machine.specs.Valid.{IsValid}

-- a child with the next number, which a thread's call made, and whose part is that of the call's child
pub record IsBorn (g next : Plain) (r : Record) (child : VPid) : Type 0 where
  pub p : VPid
  pub t : Tid
  pub user : UserPart
  pub request : Request
  pub reply : Reply
  pub call : r ≡ Call p t
  pub caller : map.get g.users p ≡ Some user
  pub asks : user_step user t.0 ≡ Asks request
  pub makes : made_by request reply ≡ Some child.0
  pub number : child ≡ pid g.kernel.next_id
  pub part : map.get next.users child ≡ Some (child_of user t.0 child.0 request)

-- a process that lives after a record and didn't before it is such a child
abbrev pub BirthsAreForks : Type 0
BirthsAreForks = (g next : Plain) (r : Record) (child : VPid) → IsValid g → step g r ≡ Some next
    → is_live g.kernel child ≡ false → is_live next.kernel child ≡ true → IsBorn g next r child

-- a process that lived before a record and doesn't after it ended by it, and its part is gone
abbrev pub EndsAreOwn : Type 0
EndsAreOwn = (g next : Plain) (r : Record) (p : VPid) → IsValid g → step g r ≡ Some next
    → is_live g.kernel p ≡ true → is_live next.kernel p ≡ false
    → (subject r ≡ Some p) × (map.get next.users p ≡ None)
