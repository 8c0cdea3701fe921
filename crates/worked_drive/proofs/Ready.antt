-- That a run can begin with the parts of a start.
--     ready       they stand for its state
use Rattle.std.proofs.Common.{◌≡◌, sym, ap, subst, ◌∙◌}
use Rattle.std.specs.FinMap as map
use Rattle.host_tables.specs.OfPlainMachine.declared.kernel.PlainKernel.{PlainKernel}
use Rattle.host_tables.specs.OfPlainMachine.Valid.{IsValid}
use Rattle.drive.specs.Driving.{Guests}
use Rattle.launch_start.specs.HandedOn.{Start, CanBegin, AreParts, state_of}
use Rattle.launch_start.proofs.HandedOn.{seen}
use Rattle.worked_drive.specs.Ready.{IsReady}

pub ready : (start : Start) (system : PlainKernel) (guests : Guests) → CanBegin start
    → AreParts start system guests → IsReady system guests
ready start system guests can parts = record {
  valid = subst IsValid (sym same) can.valid;
  numbered = parts.numbered;
}
  where
    same : seen system (map.from_entries guests) ≡ state_of start
    same =
        ap (λ (kernel : PlainKernel). seen kernel (map.from_entries guests)) parts.kernel
        ∙ ap (seen start.kernel) parts.guests
