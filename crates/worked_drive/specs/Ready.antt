-- With what a run begins.
--     IsReady system guests     both stand for a valid state, and each guest stands under its own number
use Rattle.std.specs.Prelude.{◌≡◌, All}
use Rattle.host_tables.specs.OfPlainMachine.declared.kernel.PlainKernel.{PlainKernel}
use Rattle.host_tables.specs.OfPlainMachine.Valid.{IsValid}
use Rattle.drive.specs.Driving.{Guests, state_of}

pub record IsReady (system : PlainKernel) (guests : Guests) : Type 0 where
  pub valid : IsValid (state_of system guests)
  pub numbered : All (λ entry. entry.1.pid ≡ entry.0) guests
