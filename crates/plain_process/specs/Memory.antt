-- Memory: pages by number, each with its rights and 4,096 bytes. Addresses count bytes.
-- Source: RISC-V unprivileged manual, section 1.4 (memory) and 2.6 (loads and stores, little-endian); rights
-- as ELF's p_flags.
--     byte_at memory right a, bytes_at memory right a n      what stands there, where each byte's page is there and has the right
--     with_bytes memory a bytes      the bytes stand from a on; pages that aren't there stay away
--     load, fetch, store      accesses of a word's bytes, none where one of them isn't allowed
use Rattle.std.specs.Prelude.{◌==◌, ℕ, zero, suc, ◌+◌, ◌*◌, ◌/◌, ◌%◌, Bool, List, [], ◌∷◌, ◌++◌, length, slice_index, slice_set, Option, Some, None, is_some, if◌then◌else◌}
use Rattle.std.specs.Option.{option_map}
use Rattle.std.specs.Ordering.{nat_cmp}
use Rattle.std.specs.FinMap as map
use Rattle.elf32.specs.OfViews.Numbers.{Address, Byte}
use Rattle.plain_process.specs.declared.memory.Right.{Right}
use Rattle.plain_process.specs.declared.memory.Right.TheVariants.{Read, Write, Execute}
use Rattle.plain_process.specs.declared.memory.Frame.{Frame}

abbrev pub Memory : Type 0
Memory = map.FinMap nat_cmp Frame

-- rights are 4 to read, 2 to write, 1 to execute, added up
abbrev pub allows : Right → ℕ → Bool
allows Read rights = rights / 4 % 2 == 1
allows Write rights = rights / 2 % 2 == 1
allows Execute rights = rights % 2 == 1

abbrev pub byte_in : Right → ℕ → Option Frame → Option Byte
byte_in right offset None = None
byte_in right offset (Some frame) =
    if allows right frame.rights then Some (slice_index frame.page offset) else None

unfoldable pub byte_at : Memory → Right → Address → Option Byte
byte_at memory right address = byte_in right (address % 4096) (map.get memory (address / 4096))

abbrev pub followed_by : Option (List Byte) → Option Byte → Option (List Byte)
followed_by (Some front) (Some byte) = Some (front ++ byte ∷ [])
followed_by _ _ = None

unfoldable pub bytes_at : Memory → Right → Address → ℕ → Option (List Byte)
bytes_at memory right address zero = Some []
bytes_at memory right address (suc n) =
    followed_by (bytes_at memory right address n) (byte_at memory right (address + n))

abbrev pub with_byte_in : Memory → ℕ → ℕ → Byte → Option Frame → Memory
with_byte_in memory page offset byte None = memory
with_byte_in memory page offset byte (Some frame) =
    map.insert memory page (record { rights = frame.rights; page = slice_set frame.page offset byte })

unfoldable pub with_byte : Memory → Address → Byte → Memory
with_byte memory address byte =
    with_byte_in memory (address / 4096) (address % 4096) byte (map.get memory (address / 4096))

unfoldable pub with_bytes : Memory → Address → List Byte → Memory
with_bytes memory address [] = memory
with_bytes memory address (byte ∷ rest) = with_bytes (with_byte memory address byte) (address + 1) rest

-- the number that bytes spell, the least significant first
abbrev pub little_endian : List Byte → ℕ
little_endian [] = 0
little_endian (byte ∷ rest) = byte + 256 * little_endian rest

-- the first n bytes of a number, the least significant first
abbrev pub low_bytes : ℕ → ℕ → List Byte
low_bytes zero value = []
low_bytes (suc n) value = (value % 256) ∷ low_bytes n (value / 256)

abbrev pub load : Memory → Address → ℕ → Option ℕ
load memory address size = option_map little_endian (bytes_at memory Read address size)

abbrev pub fetch : Memory → Address → Option ℕ
fetch memory address = option_map little_endian (bytes_at memory Execute address 4)

-- the bytes are written where each of them may be, and else none is
abbrev pub store_bytes : Memory → Address → List Byte → Option Memory
store_bytes memory address bytes =
    if is_some (bytes_at memory Write address (length bytes)) then
    Some (with_bytes memory address bytes)
    else None

abbrev pub store : Memory → Address → ℕ → ℕ → Option Memory
store memory address size value = store_bytes memory address (low_bytes size value)
