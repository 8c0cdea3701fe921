-- Fields of an ELF file, by their place in it. The data encoding is ELFDATA2LSB: the least significant byte
-- stands first (System V ABI, chapter 4, "Data Encoding"). An Elf32_Half has 2 bytes; an Elf32_Word,
-- Elf32_Addr or Elf32_Off has 4.
--     half_at file place, word_at file place     the field that begins at this byte
use Rattle.std.specs.Prelude.{ℕ, ◌+◌, List, slice_range}
use Rattle.std.specs.Int.{w16, w32, from_le_bytes}
use Rattle.views.specs.Numbers.{Byte}

unfoldable pub half_at : List Byte → ℕ → ℕ
half_at file place = from_le_bytes w16 (slice_range file place (place + 2))

unfoldable pub word_at : List Byte → ℕ → ℕ
word_at file place = from_le_bytes w32 (slice_range file place (place + 4))
