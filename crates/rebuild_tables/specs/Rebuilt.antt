-- The descriptors and open descriptions of a kernel part, made again over real numbers.
-- Source: `man 2 open`, `man 2 fcntl` (F_SETOWN), and DMTCP's documentation (virtual numbers and addresses
-- stay over a restart, real ones change).
--     HasNoDatagrams descriptions      none is an end of a datagram pair, which no image holds
--     HasReal ids object               the object can be made again: its address, where it listens, is paired
--     owner_in, real_object, real_desc      an owner, an object and a description over real numbers
--     IsBookOf ids descriptors descriptions b      the book has these descriptors, and of the descriptions
--                                                  those to which one of them refers
--     IsBook k ids b                   it has all of a kernel part's
use Rattle.std.specs.Prelude.{◌≡◌, ◌==◌, ℕ, true, false, Option, None, IsSome, option_map, unwrap_or, if◌then◌else◌}
use Rattle.std.specs.FinMap as map
use Rattle.sys_abi.specs.declared.identity.DescId.{DescId}
use Rattle.sys_abi.specs.declared.identity.RealPid.{RealPid}
use Rattle.sys_abi.specs.declared.identity.RealAddr.{RealAddr}
use Rattle.sys_abi.specs.declared.identity.VirtAddr.{VirtAddr}
use Rattle.fd_tables.specs.declared.description.Desc.{Desc}
use Rattle.fd_tables.specs.declared.description.Object as real
use Rattle.fd_tables.specs.declared.description.Object.TheVariants as real_object_of
use Rattle.fd_book.specs.Books.{Books}
use Rattle.virt_ids.specs.Pairs.{Pairs}
use Rattle.plain_process.specs.Valid.{Each}
use Rattle.plain_tables.specs.declared.description.Description.{Description}
use Rattle.plain_tables.specs.declared.description.Object.{Object}
use Rattle.plain_tables.specs.declared.description.Object.TheVariants.{Console, File, Stream, Socket, Listener, Datagram, Counter}
use Rattle.plain_tables.specs.Tables.{Descriptors, Descriptions, is_held}
use Rattle.plain_tables.specs.Objects.{is_datagram}
use Rattle.plain_machine.specs.declared.kernel.PlainKernel.{PlainKernel}
use Rattle.host_tables.specs.Processes.{SameDescriptors}

abbrev pub HasNoDatagrams : Descriptions → Type 0
HasNoDatagrams descriptions = Each descriptions (λ id description. is_datagram description.object ≡ false)

abbrev pub HasReal : Pairs → Object → Type 0
HasReal ids (Listener address) = IsSome (map.get ids.addresses address)
HasReal ids (Datagram peer) = ⊥
HasReal ids _ = Unit {0}

-- 0 is nobody
abbrev pub owner_in : Pairs → ℕ → Option RealPid
owner_in ids owner = if owner == 0 then None else map.get ids.pids owner

abbrev pub nowhere : RealAddr
nowhere = record { node = 0; port = 0 }

abbrev pub place_in : Pairs → VirtAddr → RealAddr
place_in ids address = unwrap_or (map.get ids.addresses address) nowhere

-- only those of which `HasReal` holds are made again
abbrev pub real_object : Pairs → Object → real.Object
real_object ids Console = real_object_of.Console
real_object ids (File number offset) = real_object_of.File number offset
real_object ids (Stream conn side) = real_object_of.Stream conn side
real_object ids (Socket address) = real_object_of.Socket
real_object ids (Listener address) = real_object_of.Listener (place_in ids address)
real_object ids (Datagram peer) = real_object_of.Console
real_object ids (Counter value) = real_object_of.Counter value

abbrev pub real_desc : Pairs → Description → Desc
real_desc ids description = record {
  object = real_object ids description.object;
  flags = description.flags;
  owner = owner_in ids description.owner;
}

pub record IsBookOf (ids : Pairs) (descriptors : Descriptors) (descriptions : Descriptions)
    (b : Books) : Type 0 where
  pub same : SameDescriptors ids.pids ids.virts descriptors b.descriptors
  pub held : (id : DescId) → is_held descriptors id ≡ true
      → map.get b.descriptions id ≡ option_map (real_desc ids) (map.get descriptions id)
  pub others : (id : DescId) → is_held descriptors id ≡ false → map.get b.descriptions id ≡ None

pub record IsBook (k : PlainKernel) (ids : Pairs) (b : Books) : Type 0 where
  pub descriptors : SameDescriptors ids.pids ids.virts k.descriptors b.descriptors
  pub descriptions : (id : DescId)
      → map.get b.descriptions id ≡ option_map (real_desc ids) (map.get k.descriptions id)
