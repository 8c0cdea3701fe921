-- How the bytes that a call reads are lent: as a span of the memory.
use Rattle.std.specs.Prelude.{◌≡◌, ℕ, ◌≤◌, List, ◌++◌, take, replicate, Option, Some, None, is_some, true}
use Rattle.sys_abi.specs.declared.transfer.TheConstants.{TRANSFER_LIMIT}
use Rattle.plain_process.specs.declared.memory.Right.TheVariants.{Read}
use Rattle.plain_process.specs.declared.buffers.Span.{Span}
use Rattle.plain_process.specs.Memory.{Memory, bytes_at}
pub use Rattle.plain_process.specs.Put.{CanHold, CanTake}

-- the text is so many bytes from the address on, or can't be read
abbrev pub IsTextLength : Memory → ℕ → Option ℕ → Option (List ℕ) → Type 0
IsTextLength memory address None text = text ≡ None
IsTextLength memory address (Some length) text = (text ≡ bytes_at memory Read address length) × (is_some text ≡ true) × (length ≤ 256)

-- the span has the bytes, or they can't be read
abbrev pub IsSpanOf : Memory → Option Span → Option (List ℕ) → Type 0
IsSpanOf memory None bytes = bytes ≡ None
IsSpanOf memory (Some at) bytes = (bytes ≡ bytes_at memory Read at.address at.length) × (is_some bytes ≡ true) × (at.length ≤ TRANSFER_LIMIT)

-- the first 16 of these bytes, with zeros where they are fewer
abbrev pub IsFrontOf : List ℕ → List ℕ → Type 0
IsFrontOf given front = take 16 (given ++ replicate 16 0) ≡ front
