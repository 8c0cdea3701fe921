-- The word that a reply puts into a0.
-- Source: the system call convention of RISC-V Linux (`man 2 syscall`): an error is the negative of its
-- number.
use Rattle.std.specs.Prelude.{ℕ, ◌-◌, ◌%◌, ◌^◌}
use Rattle.call_table.specs.OfSysAbi.declared.reply.Reply.{Reply}
use Rattle.call_table.specs.OfSysAbi.declared.reply.Reply.TheVariants.{Value, Error}

abbrev pub word_of : Reply → ℕ
word_of (Value value) = value
word_of (Error e) = (2 ^ 32 - e.0) % 2 ^ 32

abbrev pub error : ℕ → Reply
error e = Error (record { 0 = e })
