use Rattle.virt_ids.proofs.PairLaws.{new_pairs}
use Rattle.virt_ids.proofs.ids.Ids.new.Goals as goal

pub invariant_of-result : goal.invariant_of-result
invariant_of-result c = (new_pairs _ _ c.new.ensures c.new-2.ensures, new_pairs _ _ c.new-3.ensures c.new-4.ensures)
