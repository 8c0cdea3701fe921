-- Names for numbers of one kind. Each is a natural number and no more: the name says what a definition takes
-- or gives, and the ranges stand in the definitions of what is valid.
use Rattle.std.specs.Prelude.{ℕ}

abbrev pub Byte : Type 0
Byte = ℕ

-- of a process's memory
abbrev pub Address : Type 0
Address = ℕ

-- bits of one number (`man 2` of each call)
abbrev pub Flags : Type 0
Flags = ℕ

abbrev pub ThreadNumber : Type 0
ThreadNumber = ℕ

-- `man 7 signal`
abbrev pub SignalNumber : Type 0
SignalNumber = ℕ
