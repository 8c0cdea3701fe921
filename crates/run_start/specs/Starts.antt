-- From where a computation begins, as its callers see it.
--     state_of s      the plain state at which it begins
--     CanBegin s      that state is a valid one, and a system can be made for it: no bytes are on the way, and
--                     no end of a datagram pair is open
--     IsStart s ..    it is the start of these programs and files
--     AreNumbered guests         each process's own part stands under its number
--     AreParts s system list     a system and a list of its guests, with which a run begins there
use Rattle.std.specs.Prelude.{◌≡◌, List, All, Some}
use Rattle.std.specs.FinMap as map
use Rattle.views.specs.Maps.{map_values}
use Rattle.sys_abi.specs.declared.identity.VPid.{VPid}
use Rattle.sys_abi.specs.Orders.{vpid_cmp}
use Rattle.plain_process.specs.Start.{Launched}
use Rattle.plain_machine.specs.declared.kernel.PlainKernel.{PlainKernel}
use Rattle.plain_machine.specs.declared.plain.Plain.{Plain}
use Rattle.plain_machine.specs.Start.{NamedFile, start}
use Rattle.plain_machine.specs.Valid.{IsValid}
use Rattle.computation.specs.OfGuestProc.Guests.{GuestPart}
use Rattle.rebuild_tables.specs.Rebuilt.{HasNoDatagrams}
use Rattle.rebuild_system.specs.Restarts.{AllArrived}
use Rattle.run_start.specs.declared.start.Start.{Start}

abbrev pub state_of : Start → Plain
state_of s = record { kernel = s.kernel; users = map_values (λ guest. guest.user) s.guests }

abbrev pub AreNumbered : map.FinMap vpid_cmp GuestPart → Type 0
AreNumbered guests = (p : VPid) (guest : GuestPart) → map.get guests p ≡ Some guest → guest.pid ≡ p

pub record CanBegin (s : Start) : Type 0 where
  pub valid : IsValid (state_of s)
  pub numbered : AreNumbered s.guests
  pub arrived : AllArrived s.kernel.directions
  pub plain : HasNoDatagrams s.kernel.descriptions

abbrev pub IsStart : Start → List Launched → List NamedFile → Type 0
IsStart s programs files = state_of s ≡ start programs files

-- the system stands for the kernel part, and the list has each process's own part under its number
pub record AreParts (s : Start) (system : PlainKernel) (list : List (VPid × GuestPart)) : Type 0 where
  pub kernel : system ≡ s.kernel
  pub guests : map.from_entries list ≡ s.guests
  pub numbered : All (λ entry. entry.1.pid ≡ entry.0) list
