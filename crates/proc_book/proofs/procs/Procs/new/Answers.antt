use Rattle.proc_book.proofs.HandedOut.{handed_out-none}
use Rattle.proc_book.proofs.procs.Procs.new.Goals as goal

pub invariant_of-result : goal.invariant_of-result
invariant_of-result c =
    handed_out-none c.new.result _ c.new.ensures
