-- What a move of a descriptor tells of the description behind the number that it came to.
use Rattle.std.specs.Prelude.{◌≡◌, Option, None}
use Rattle.fd_tables.specs.declared.real_slot.RealSlot.{RealSlot}
use Rattle.fd_book.specs.Books.{Books}
use Rattle.host_tables.specs.declared.attempt.Attempt.{Attempt}
use Rattle.host_tables.specs.declared.attempt.Attempt.TheVariants.{Gives}
use Rattle.host_descriptors.specs.declared.closing.Closed.{Closed}
use Rattle.host_descriptors.specs.LetGo.{IsToldClose}

-- where the call was refused nothing is closed
abbrev pub IsTold : Books → RealSlot → Attempt → Option Closed → Type 0
IsTold b at (Gives n) closed = IsToldClose b at closed
IsTold b at _ closed = closed ≡ None
