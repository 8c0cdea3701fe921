-- Event counters: a read takes the whole value, a write adds to it; both as 8 bytes, the lowest first.
-- Source: `man 2 eventfd`.
--     is_counted, takes_more        whether a read or a write has an answer yet
--     read_counter k h value count
--     write_counter k h value count given
use Rattle.std.specs.Prelude.{◌==◌, ◌||◌, ◌&&◌, ℕ, ◌+◌, ◌-◌, ◌^◌, not, nat_lt, nat_le, Bool, List, take}
use Rattle.plain_tables.specs.OfViews.Numbers.{Byte}
use Rattle.plain_tables.specs.OfSysAbi.declared.errors.TheConstants.{EINVAL}
use Rattle.plain_machine.specs.declared.kernel.PlainKernel.{PlainKernel}
use Rattle.plain_tables.specs.declared.description.Object.TheVariants.{Counter}
use Rattle.plain_tables.specs.OfPlainProcess.Attempts.{Try, need, ◌>>◌}
use Rattle.plain_tables.specs.OfPlainProcess.Memory.{little_endian, low_bytes}
use Rattle.plain_machine.specs.Attempts.{Served, replied}
use Rattle.plain_machine.specs.Kernel.{Held, with_object}
use Rattle.plain_machine.specs.Transfers.Answers.{gave}

-- how many bytes a counter is read and written as
abbrev pub COUNTER_SIZE : ℕ
COUNTER_SIZE = 8

-- the greatest value
abbrev pub COUNTER_LIMIT : ℕ
COUNTER_LIMIT = 2 ^ 64 - 2

-- the number that the bytes add
abbrev pub number_added : List Byte → ℕ
number_added bytes = little_endian (take COUNTER_SIZE bytes)

-- there are 8 bytes, and some counter can take their number
abbrev pub may_add : ℕ → List Byte → Bool
may_add count bytes = nat_le COUNTER_SIZE count && not (number_added bytes == 2 ^ 64 - 1)

abbrev pub is_counted : ℕ → ℕ → Bool
is_counted value count = nat_lt count COUNTER_SIZE || not (value == 0)

abbrev pub takes_more : ℕ → ℕ → List Byte → Bool
takes_more value count bytes = not (may_add count bytes) || nat_le (value + number_added bytes) COUNTER_LIMIT

unfoldable pub read_counter : PlainKernel → Held → ℕ → ℕ → Try Served
read_counter k h value count = do
  need (nat_le COUNTER_SIZE count) EINVAL
  gave (with_object k h (Counter 0)) (low_bytes COUNTER_SIZE value)

unfoldable pub write_counter : PlainKernel → Held → ℕ → ℕ → List Byte → Try Served
write_counter k h value count given = do
  need (may_add count given) EINVAL
  replied (with_object k h (Counter (value + number_added given))) COUNTER_SIZE
