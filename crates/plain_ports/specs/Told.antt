-- What the tests of a call find, in the words of the rows.
--     told f found           a value, or the error at which a test failed
--     told_or_waits f found  the same, or that the call waits
--     held_told held         what a descriptor refers to
use Rattle.std.specs.Prelude.{ℕ, Option, Some, None, Result, Ok, Err}
use Rattle.sys_abi.specs.declared.reply.Errno.{Errno}
use Rattle.sys_abi.specs.declared.identity.VirtAddr.{VirtAddr}
use Rattle.plain_process.specs.Attempts.{Try, Fails, NotReady, Gives}
use Rattle.plain_machine.specs.Kernel as words
use Rattle.plain_ports.specs.declared.look_ups.Held.{Held}

abbrev pub told : {A B : Type 0} → (A → B) → Result A Errno → Try B
told f (Ok a) = Gives (f a)
told f (Err e) = Fails e.0

abbrev pub told_or_waits : {A B : Type 0} → (A → B) → Result (Option A) Errno → Try B
told_or_waits f (Ok (Some a)) = Gives (f a)
told_or_waits f (Ok None) = NotReady
told_or_waits f (Err e) = Fails e.0

abbrev pub itself : ℕ → ℕ
itself n = n

abbrev pub same_address : VirtAddr → VirtAddr
same_address address = address

abbrev pub held_told : Held → words.Held
held_told held = record { desc = held.desc; cloexec = held.cloexec; description = held.description }
