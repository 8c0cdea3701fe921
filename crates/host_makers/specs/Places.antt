-- New descriptions behind free descriptors.
-- Source: `man 2 open` (the lowest free number), `man 2 pipe`, `man 2 socketpair`.
--     new_desc object flags            a description that nobody owns
--     with_placed, with_two_placed     a new description behind a descriptor, two behind two
--     AreLowestFree, LacksTwo          the free descriptor and the next free one; there are no two
--     IsPlaced, ArePlaced              what it came to place one, or two, by the descriptors where they are
use Rattle.std.specs.Prelude.{◌≡◌, ◌⊎◌, ℕ, ◌+◌, Bool, Option, Some, None}
use Rattle.std.specs.FinMap as map
use Rattle.sys_abi.specs.declared.identity.DescId.{DescId}
use Rattle.sys_abi.specs.declared.identity.Fd.{Fd}
use Rattle.sys_abi.specs.declared.identity.RealPid.{RealPid}
use Rattle.fd_tables.specs.declared.description.Desc.{Desc}
use Rattle.fd_tables.specs.declared.description.Object.{Object}
use Rattle.fd_tables.specs.declared.real_slot.RealSlot.{RealSlot}
use Rattle.fd_tables.specs.Numbers.{AllUsed, IsLowestFree}
use Rattle.fd_tables.specs.Slots.{slot}
use Rattle.fd_book.specs.Books.{Books, with_descriptor}
use Rattle.host_tables.specs.Processes.{RealDescriptors}
use Rattle.host_makers.specs.declared.placing.TwoEnds.{TwoEnds}

abbrev pub new_desc : Object → ℕ → Desc
new_desc object flags = record { object = object; flags = flags; owner = None }

abbrev pub with_placed : Books → RealSlot → DescId → Desc → Bool → Books
with_placed b at id desc cloexec =
    with_descriptor (record b { descriptions = map.insert b.descriptions id desc }) at id cloexec

pub record AreLowestFree (m : RealDescriptors) (who : RealPid) (first second : ℕ) : Type 0 where
  pub lower : IsLowestFree m who 0 first
  pub upper : IsLowestFree m who (first + 1) second

abbrev pub LacksTwo : RealDescriptors → RealPid → Type 0
LacksTwo m who = AllUsed m who 0 ⊎ ((first : ℕ) × (IsLowestFree m who 0 first × AllUsed m who (first + 1)))

-- where no descriptor is free nothing has changed

pub record WasFull (old new : Books) (Lacks : Type 0) : Type 0 where
  pub lacks : Lacks
  pub same : new ≡ old

pub record WasPlaced (old new : Books) (who : RealPid) (id : DescId) (desc : Desc) (cloexec : Bool)
    (fd : ℕ) : Type 0 where
  pub lowest : IsLowestFree old.descriptors who 0 fd
  pub after : new ≡ with_placed old (slot who fd) id desc cloexec

abbrev pub IsPlaced : Books → Books → RealPid → DescId → Desc → Bool → Option Fd → Type 0
IsPlaced old new who id desc cloexec None = WasFull old new (AllUsed old.descriptors who 0)
IsPlaced old new who id desc cloexec (Some fd) = WasPlaced old new who id desc cloexec fd.0

abbrev pub with_two_placed : Books → RealPid → TwoEnds → ℕ → ℕ → Books
with_two_placed b who ends first second =
    with_placed (with_placed b (slot who first) ends.ids.first ends.first ends.cloexec)
    (slot who second) ends.ids.second ends.second ends.cloexec

pub record WerePlaced (old new : Books) (who : RealPid) (ends : TwoEnds) (first second : ℕ) : Type 0 where
  pub lowest : AreLowestFree old.descriptors who first second
  pub after : new ≡ with_two_placed old who ends first second

abbrev pub ArePlaced : Books → Books → RealPid → TwoEnds → Option (Fd × Fd) → Type 0
ArePlaced old new who ends None = WasFull old new (LacksTwo old.descriptors who)
ArePlaced old new who ends (Some fds) = WerePlaced old new who ends fds.0.0 fds.1.0
