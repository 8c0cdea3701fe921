-- What holds of the descriptors and open descriptions of every kernel part, and of the numbers that their
-- makers gave them.
-- Source: the limits of docs/MACHINE.md; `man 2 open`, `man 2 fcntl` (owners).
--     AreDescriptors, AreDescriptions, AreHolders, AreMade      a topic each, over its tables
use Rattle.std.specs.Prelude.{◌≡◌, ◌≢◌, ◌⊎◌, ℕ, ◌^◌, ◌<◌, ◌%◌, bit_and, true, Some, is_some}
use Rattle.std.specs.FinMap as map
use Rattle.plain_process.specs.OfViews.Numbers.{Flags}
use Rattle.plain_process.specs.OfViews.Limits.{DESCRIPTOR_LIMIT}
use Rattle.id_maps.specs.OfSysAbi.declared.identity.VPid.{VPid}
use Rattle.id_maps.specs.OfSysAbi.declared.identity.Slot.{Slot}
use Rattle.plain_process.specs.Valid.{Each}
use Rattle.id_maps.specs.OfSysAbi.declared.maker.Maker.{Maker}
use Rattle.id_maps.specs.OfSysAbi.declared.descriptor.Descriptor.{Descriptor}
use Rattle.plain_tables.specs.declared.description.Description.{Description}
use Rattle.plain_tables.specs.declared.description.Object.{Object}
use Rattle.plain_tables.specs.declared.description.Object.TheVariants.{Datagram}
use Rattle.plain_tables.specs.Tables.{Processes, Makers, Descriptors, Descriptions, Channels, pid, lives_in, is_held, same_host}

-- a descriptor is below 256, of a live process, and refers to a description that is there
pub record AreDescriptors (processes : Processes) (descriptions : Descriptions)
    (descriptors : Descriptors) : Type 0 where
  pub number : Each descriptors (λ at descriptor. at.fd < DESCRIPTOR_LIMIT)
  pub alive : Each descriptors (λ at descriptor. lives_in processes at.pid ≡ true)
  pub described : Each descriptors (λ at descriptor. is_some (map.get descriptions descriptor.desc) ≡ true)

-- access mode, O_APPEND and O_NONBLOCK
pub record AreFlags (flags : Flags) : Type 0 where
  pub known : bit_and flags 0xC03 ≡ flags
  pub mode : flags % 4 ≢ 3

-- a descriptor refers to each description
pub record AreDescriptions (descriptors : Descriptors) (descriptions : Descriptions) : Type 0 where
  pub held : Each descriptions (λ d description. is_held descriptors d ≡ true)
  pub flags : Each descriptions (λ d description. AreFlags description.flags)

-- an owner is nobody, or a live process of the host of a holder
abbrev pub IsOwner : Processes → Makers → VPid → ℕ → Type 0
IsOwner processes makers holder owner =
    (owner ≡ 0)
    ⊎ ((lives_in processes (pid owner) ≡ true)
    × (same_host (map.get makers holder) (map.get makers (pid owner)) ≡ true))

-- all that hold a description are of one host, and so is its owner
pub record AreHolders (processes : Processes) (makers : Makers) (descriptors : Descriptors)
    (descriptions : Descriptions) : Type 0 where
  pub host : (a b : Slot) (x y : Descriptor) → map.get descriptors a ≡ Some x → map.get descriptors b ≡ Some y
      → x.desc ≡ y.desc → same_host (map.get makers a.pid) (map.get makers b.pid) ≡ true
  pub owner : (a : Slot) (x : Descriptor) (description : Description) → map.get descriptors a ≡ Some x
      → map.get descriptions x.desc ≡ Some description → IsOwner processes makers a.pid description.owner

-- a number of its own that a process gave out: of a live one it is below its running number
pub record IsMade (next_id : ℕ) (processes : Processes) (makers : Makers) (maker : VPid)
    (num : ℕ) : Type 0 where
  pub known : maker.0 < next_id
  pub word : num < 2 ^ 32
  pub below : (m : Maker) → map.get makers maker ≡ Some m → lives_in processes maker ≡ true → num < m.made

-- the other end of a datagram pair may have closed: its number is one that was given out
abbrev pub HasMadePeer : ℕ → Processes → Makers → Object → Type 0
HasMadePeer next_id processes makers (Datagram peer) = IsMade next_id processes makers peer.pid peer.num
HasMadePeer next_id processes makers _ = Unit {0}

-- descriptions and channels are named by numbers that were given out
pub record AreMade (next_id : ℕ) (processes : Processes) (makers : Makers) (descriptions : Descriptions)
    (channels : Channels) : Type 0 where
  pub opened : Each descriptions (λ d description. IsMade next_id processes makers d.pid d.num)
  pub peers : Each descriptions (λ d description. HasMadePeer next_id processes makers description.object)
  pub joined : Each channels (λ conn channel. IsMade next_id processes makers conn.pid conn.num)
