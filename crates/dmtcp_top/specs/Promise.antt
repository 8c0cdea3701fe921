-- The promise of a call: how it ends, and what a crash at any moment of it leaves of the folder of sets.
--     SpellsCutOf start trace image      the set that counts in the image spells the state of the run at one
--                                        of its cuts
--     StaysWhole start trace old new     what a crash leaves, what stays complete, and how often the folder
--                                        failed
--     IsPromised status words trace before after     the contract of a call
--     RoundTrip                          what a restart goes on from
--     NotBoth, OneDamage                 a set that counts spells a state or is damaged, at one place
use Rattle.std.specs.Prelude.{◌≡◌, ◌⊎◌, ℕ, List, Option, Some}
use Rattle.std.specs.Option.{ForSome}
use Rattle.views.specs.Numbers.{Byte}
use Rattle.sys_abi.specs.declared.record.Record.{Record}
use Rattle.disk_folder.specs.Files.{FolderFiles as Folder}
use Rattle.disk_folder.specs.Moments.{LeavesOnly}
use Rattle.disk_folder.specs.SeenFolder.{SeenFolder}
use Rattle.plain_machine.specs.declared.plain.Plain.{Plain}
use Rattle.image_format.specs.declared.damage.Damage.{Damage}
use Rattle.endings.specs.declared.status.Status.{Status}
use Rattle.endings.specs.declared.status.Status.TheVariants.{InputFault, SinkFault, DiskFault}
use Rattle.dmtcp_top.specs.Sessions.{Beginning, Outside, InputsFailed, StreamsFailed, FolderFailed, given_in, session_in, log_in}
use Rattle.trace_log.specs.Requests.{CutAt}
use Rattle.dmtcp_top.specs.Ends.{Ends, CallKeepsPace, CallGoesInRounds, WordsDecide, InputsDecide, IsDecided}
use Rattle.drive.specs.HandedOn.{SpellsSet, SpoilsSet, IsOpening, SpellsCut, KeepsComplete, CountsFaults}

pub record SpellsCutOf (start : Option Beginning) (trace : List Record) (image : Folder) : Type 0 where
  pub begun : Beginning
  pub began : start ≡ Some begun
  pub cut : SpellsCut begun.state trace image

-- A crash at any moment of the call leaves the set that counted in an image of its start, or one that spells
-- the state at a cut of the run. Each set that the trace says is complete stays, or a later one does. The
-- folder failed at least as often as a checkpoint was refused for it.
pub record StaysWhole (start : Option Beginning) (trace : List Record) (old new : SeenFolder) : Type 0 where
  pub crash : ForSome old.files (λ _. LeavesOnly old new
      (λ image. IsOpening old.may_leave image ⊎ SpellsCutOf start trace image))
  pub complete : ForSome old.files (λ _. KeepsComplete trace new.may_leave)
  pub counted : CountsFaults trace old.faults new.faults

-- the contract of a call with this status, from what is seen of what is outside before it to what is seen
-- after it
pub record IsPromised (status : Status) (words : List (List Byte)) (trace : List Record)
    (before after : Outside) : Type 0 where
  -- How a run began, if one did, what the status says of the trace, the console and the log, how far these
  -- came where the call broke off, and in which order the records come. A crash at any moment of the call
  -- leaves the set that counted before it, or one of a cut of this run. The inputs stay as they are.
  pub start : Option Beginning
  pub ends : Ends status (session_in words start trace before after) (log_in before after)
  pub pace : CallKeepsPace status (session_in words start trace before after) (log_in before after)
  pub in_rounds : CallGoesInRounds (session_in words start trace before after)
  pub whole : StaysWhole start trace before.folder after.folder
  pub same : after.inputs.files ≡ before.inputs.files
  -- An answer that something outside failed comes only where it did.
  pub input_failed : status ≡ InputFault → InputsFailed before after
  pub sink_failed : status ≡ SinkFault → StreamsFailed before after
  pub disk_failed : status ≡ DiskFault → FolderFailed before after
  -- Where no stream failed the words decide whether it is Usage; where no input failed either, what the
  -- inputs hold decides whether a launch is refused, but for want of memory; and where nothing outside
  -- failed, what the call was given decides the rest in the same way.
  pub usage : (StreamsFailed before after → ⊥) → WordsDecide status words
  pub inputs : (InputsFailed before after → ⊥) → (StreamsFailed before after → ⊥)
      → InputsDecide status (given_in words before)
  pub decided : (InputsFailed before after → ⊥) → (StreamsFailed before after → ⊥)
      → (FolderFailed before after → ⊥)
      → IsDecided status (given_in words before)

-- a folder's set spells one state of one generation
abbrev pub OneState : Type 0
OneState =
    (files : Folder) (generation other : ℕ) (g h : Plain)
    → SpellsSet files generation g → SpellsSet files other h → (generation ≡ other) × (g ≡ h)

-- where the set that counts is one of a run's cuts, a restart goes on from exactly the state at that cut
abbrev pub RoundTrip : Type 0
RoundTrip =
    (g : Plain) (records : List Record) (files : Folder) (generation : ℕ) (state : Plain)
    → SpellsCut g records files → SpellsSet files generation state → CutAt g records generation state

-- the set that counts spells a state or is damaged, not both
abbrev pub NotBoth : Type 0
NotBoth =
    (files : Folder) (generation slot : ℕ) (g : Plain) (damage : Damage)
    → SpellsSet files generation g → SpoilsSet files slot damage → ⊥

-- where it is damaged, it is so at one place first
abbrev pub OneDamage : Type 0
OneDamage =
    (files : Folder) (slot other : ℕ) (damage beside : Damage)
    → SpoilsSet files slot damage → SpoilsSet files other beside → (slot ≡ other) × (damage ≡ beside)
