-- What each word of change keeps, and what it needs for that: the contract of `kernel_laws`.
use Rattle.std.specs.Prelude.{◌≡◌, ◌≢◌, ◌⊎◌, ℕ, ◌+◌, ◌^◌, ◌<◌, ◌≤◌, Bool, true, false, List, length, Some, None, All}
use Rattle.std.specs.FinMap as map
use Rattle.plain_tables.specs.OfViews.Limits.{CHANNEL_LIMIT, DESCRIPTOR_LIMIT, PROCESS_LIMIT, THREAD_LIMIT}
use Rattle.plain_tables.specs.OfSysAbi.declared.identity.VPid.{VPid}
use Rattle.plain_tables.specs.OfSysAbi.declared.identity.DescId.{DescId}
use Rattle.plain_tables.specs.OfSysAbi.declared.identity.ConnId.{ConnId}
use Rattle.plain_tables.specs.OfSysAbi.declared.identity.Dir.{Dir}
use Rattle.plain_tables.specs.OfSysAbi.declared.identity.VirtAddr.{VirtAddr}
use Rattle.plain_tables.specs.OfPlainProcess.Start.{Launched}
use Rattle.plain_tables.specs.OfPlainProcess.Launches.{IsLaunched}
use Rattle.plain_machine.specs.declared.kernel.PlainKernel.{PlainKernel}
use Rattle.plain_tables.specs.OfSysAbi.declared.maker.Maker.{Maker}
use Rattle.plain_tables.specs.OfSysAbi.declared.descriptor.Descriptor.{Descriptor}
use Rattle.plain_tables.specs.declared.description.Description.{Description}
use Rattle.plain_tables.specs.declared.description.Object.{Object}
use Rattle.plain_tables.specs.declared.description.Object.TheVariants.{Stream}
use Rattle.plain_tables.specs.declared.channel.Channel.{Channel}
use Rattle.plain_tables.specs.declared.channel.Direction.{Direction}
use Rattle.plain_tables.specs.Tables.{Files, Channels, Makers, slot}
use Rattle.plain_tables.specs.Objects.{is_end, is_listener_at, is_datagram, knows, bound_at, host_of_end, host_of_object}
use Rattle.plain_tables.specs.Valid.Files.{IsOpenFile}
use Rattle.plain_tables.specs.Valid.Descriptions.{AreFlags, IsMade}
use Rattle.plain_tables.specs.Valid.Channels.{HasAddress, MayBeEnd}
use Rattle.plain_tables.specs.Valid.Sockets.{IsAddressed, has_host}
use Rattle.plain_tables.specs.Valid.Datagrams.{IsCounter}
use Rattle.plain_machine.specs.Kernel.{is_live, thread_count, has_thread, after_take, after_raise, after_raise_for_all, with_next_thread, numbered, with_descriptor, placed}
use Rattle.plain_machine.specs.Channels.{with_direction, with_channel, arrived_more}
use Rattle.plain_machine.specs.Closing.{close_fd}
use Rattle.plain_machine.specs.Ends.{after_end, thread_ended, after_fork}
use Rattle.plain_machine.specs.Start.{NamedFile, start_kernel}
use Rattle.plain_machine.specs.Kernels.{IsKernel, AreNamed}

-- a start is whole
abbrev pub StartIsKernel : Type 0
StartIsKernel = (jobs : List Launched) (files : List NamedFile) → length jobs ≤ PROCESS_LIMIT
    → All IsLaunched jobs → AreNamed files → IsKernel (start_kernel jobs files)

-- signals

abbrev pub TakeKeeps : Type 0
TakeKeeps = (k : PlainKernel) (p : VPid) → IsKernel k → (t s : ℕ) → IsKernel (after_take k p t s)

abbrev pub RaiseKeeps : Type 0
RaiseKeeps = (k : PlainKernel) (p : VPid) → IsKernel k → (t s : ℕ) → has_thread k p t ≡ true
    → IsKernel (after_raise k p t s)

abbrev pub RaiseForAllKeeps : Type 0
RaiseForAllKeeps = (k : PlainKernel) (p : VPid) → IsKernel k → (s : ℕ) → is_live k p ≡ true
    → IsKernel (after_raise_for_all k p s)

-- threads and processes

abbrev pub NextThreadKeeps : Type 0
NextThreadKeeps = (k : PlainKernel) (p : VPid) → IsKernel k → is_live k p ≡ true → thread_count k p < THREAD_LIMIT
    → k.next_id + 1 < 2 ^ 31
    → IsKernel (with_next_thread k p)

abbrev pub ThreadEndKeeps : Type 0
ThreadEndKeeps = (k : PlainKernel) (p : VPid) (t status : ℕ) → IsKernel k → is_live k p ≡ true
    → status < 2 ^ 32 → IsKernel (thread_ended k p t status)

abbrev pub EndKeeps : Type 0
EndKeeps = (k : PlainKernel) (p : VPid) (status : ℕ) → IsKernel k → is_live k p ≡ true → status < 2 ^ 32
    → IsKernel (after_end k p status)

abbrev pub ForkKeeps : Type 0
ForkKeeps = (k : PlainKernel) (p : VPid) → IsKernel k → is_live k p ≡ true → map.len k.processes < PROCESS_LIMIT
    → k.next_id + 1 < 2 ^ 31
    → IsKernel (after_fork k p)

-- descriptors

abbrev pub CloseKeeps : Type 0
CloseKeeps = (k : PlainKernel) (p : VPid) (fd : ℕ) → IsKernel k → IsKernel (close_fd k p fd)

-- one more to a description that the process holds already
abbrev pub AgainKeeps : Type 0
AgainKeeps = (k : PlainKernel) (p : VPid) (fd : ℕ) (descriptor : Descriptor) → IsKernel k → fd < DESCRIPTOR_LIMIT
    → map.get k.descriptors (slot p fd) ≡ None → (other : ℕ) (y : Descriptor)
    → map.get k.descriptors (slot p other) ≡ Some y
    → y.desc ≡ descriptor.desc → IsKernel (with_descriptor k p fd descriptor)

-- an object that no table but the files knows
pub record IsAlone (object : Object) : Type 0 where
  pub no_end : (conn : ConnId) (side : ℕ) → is_end conn side object ≡ false
  pub no_listener : (address : VirtAddr) → is_listener_at address object ≡ false
  pub no_datagram : is_datagram object ≡ false
  pub knows_none : (d : DescId) → knows d object ≡ false
  pub unbound : bound_at object ≡ None

-- what it may be, of a process on a host
pub record MayBePlaced (files : Files) (channels : Channels) (makers : Makers) (p : VPid)
    (object : Object) : Type 0 where
  pub opened : IsOpenFile files object
  pub addressed : IsAddressed object
  pub counts : IsCounter object
  pub host : (host : ℕ) → host_of_object channels object ≡ Some host → has_host (map.get makers p) host ≡ true

-- a number below the maker's running number that no description has and no datagram end knows
pub record IsNumberOf (k : PlainKernel) (p : VPid) (num : ℕ) : Type 0 where
  pub maker : Maker
  pub known : map.get k.makers p ≡ Some maker
  pub below : num < maker.made
  pub new : map.get k.descriptions (record { pid = p; num = num }) ≡ None
  pub unknown : (e : DescId) (y : Description) → map.get k.descriptions e ≡ Some y
      → knows (record { pid = p; num = num }) y.object ≡ false

-- a new description behind a new descriptor
abbrev pub PlacedKeeps : Type 0
PlacedKeeps = (k : PlainKernel) (p : VPid) (fd num : ℕ) (cloexec : Bool) (object : Object) (flags : ℕ)
    → IsKernel k → is_live k p ≡ true → fd < DESCRIPTOR_LIMIT → map.get k.descriptors (slot p fd) ≡ None
    → IsNumberOf k p num → AreFlags flags
    → IsAlone object → MayBePlaced k.files k.channels k.makers p object
    → IsKernel (placed k p fd (record { pid = p; num = num }) cloexec object flags)

-- more bytes of a direction have arrived
abbrev pub ArrivalKeeps : Type 0
ArrivalKeeps = (k : PlainKernel) (at : Dir) (direction : Direction) (n : ℕ) → IsKernel k
    → map.get k.directions at ≡ Some direction → direction.arrived + n ≤ length direction.left
    → IsKernel (with_direction k at (arrived_more n direction))

-- a process has made n things more
abbrev pub NumberedKeeps : Type 0
NumberedKeeps = (k : PlainKernel) (p : VPid) (n : ℕ) → IsKernel k
    → ((maker : Maker) → map.get k.makers p ≡ Some maker → maker.made + n < 2 ^ 32) → IsKernel (numbered k p n)

-- a channel that a process may make, open at both sides, of a number that it gave out
pub record MayBeMade (k : PlainKernel) (p : VPid) (conn : ConnId) (channel : Channel) : Type 0 where
  pub few : map.len k.channels < CHANNEL_LIMIT
  pub new : map.get k.channels conn ≡ None
  pub number : IsMade k.next_id k.processes k.makers conn.pid conn.num
  pub first_address : HasAddress channel.kind channel.first.address
  pub second_address : HasAddress channel.kind channel.second.address
  pub first_open : channel.first.is_open ≡ true
  pub second_open : channel.second.is_open ≡ true
  pub host : (side host : ℕ) → host_of_end (map.insert k.channels conn channel) conn side ≡ Some host
      → has_host (map.get k.makers p) host ≡ true

-- a place for a new descriptor, and a number for its description
pub record HasPlace (k : PlainKernel) (p : VPid) (fd num flags : ℕ) : Type 0 where
  pub low : fd < DESCRIPTOR_LIMIT
  pub free : map.get k.descriptors (slot p fd) ≡ None
  pub number : IsNumberOf k p num
  pub sound : AreFlags flags

-- a channel more, with a descriptor for each of its ends
abbrev pub PairKeeps : Type 0
PairKeeps = (k : PlainKernel) (p : VPid) (conn : ConnId) (channel : Channel)
    (side other fd fd_other num num_other flags flags_other : ℕ) (cloexec : Bool)
    → IsKernel k → is_live k p ≡ true
    → MayBeMade k p conn channel → ((s : ℕ) → s < 2 → (s ≡ side) ⊎ (s ≡ other)) → side ≢ other
    → MayBeEnd channel flags side → MayBeEnd channel flags_other other → fd ≢ fd_other → num ≢ num_other
    → HasPlace k p fd num flags → HasPlace k p fd_other num_other flags_other
    → IsKernel (placed
    (placed (with_channel k conn channel) p fd (record { pid = p; num = num }) cloexec (Stream conn side) flags)
    p fd_other (record { pid = p; num = num_other }) cloexec (Stream conn other) flags_other)
