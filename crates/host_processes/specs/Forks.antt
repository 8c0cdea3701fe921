-- A child, or a thread, over real numbers.
-- Source: `man 2 fork` (descriptors refer to the same descriptions), `man 2 clone`.
--     HasShared child parent old new      the child has its parent's descriptors, and nobody else has others
--     paired_with who                     the new number, of who's node, is paired with the plain machine's
--     IsNext next a                       a number that is given is this one
use Rattle.std.specs.Prelude.{◌≡◌, ◌≢◌, ℕ}
use Rattle.std.specs.FinMap as map
use Rattle.sys_abi.specs.declared.identity.RealPid.{RealPid}
use Rattle.fd_tables.specs.declared.real_slot.RealSlot.{RealSlot}
use Rattle.fd_tables.specs.Slots.{slot}
use Rattle.fd_book.specs.Books.{Books}
use Rattle.host_descriptors.specs.OfHostTables.declared.attempt.Attempt.{Attempt}
use Rattle.host_descriptors.specs.OfHostTables.declared.attempt.Attempt.TheVariants as answer
use Rattle.host_descriptors.specs.OfHostTables.Numbers.{real}
use Rattle.host_descriptors.specs.OfHostTables.Serves.{After}
use Rattle.host_descriptors.specs.OfHostTables.Stands.{with_number}

pub record HasShared (child parent : RealPid) (old new : Books) : Type 0 where
  pub same : (fd : ℕ) → map.get new.descriptors (slot child fd) ≡ map.get old.descriptors (slot parent fd)
  pub others : (at : RealSlot) → at.pid ≢ child → map.get new.descriptors at ≡ map.get old.descriptors at
  pub descriptions : new.descriptions ≡ old.descriptions

abbrev pub paired_with : RealPid → After
paired_with who n m g = with_number g m (real who.node n)

abbrev pub IsNext : ℕ → Attempt → Type 0
IsNext next (answer.Gives n) = n ≡ next
IsNext next _ = Unit {0}
