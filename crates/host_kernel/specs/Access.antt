-- What a call answers on a description that isn't ready, and what a write to a counter rests on.
-- Source: `man 2 open` (O_NONBLOCK), `man 2 eventfd`.
use Rattle.std.specs.Prelude.{◌≡◌, ℕ, Bool, true, false, List}
use Rattle.views.specs.Numbers.{Byte}
use Rattle.sys_abi.specs.declared.errors.TheConstants.{EAGAIN}
use Rattle.fd_tables.specs.declared.description.Object.{Object}
use Rattle.fd_tables.specs.declared.description.Object.TheVariants.{Counter}
use Rattle.plain_machine.specs.Transfers.Counters.{takes_more}
use Rattle.host_tables.specs.declared.attempt.Attempt.{Attempt}
use Rattle.host_tables.specs.declared.attempt.Attempt.TheVariants.{Fails, NotReady}

abbrev pub unready : Bool → Attempt
unready true = Fails (record { 0 = EAGAIN })
unready false = NotReady

-- a counter takes the number that the bytes spell, or refuses it
abbrev pub MayTake : Object → ℕ → List Byte → Type 0
MayTake (Counter value) count front = takes_more value count front ≡ true
MayTake _ count front = Unit {0}
