use Rattle.views.proofs.TreeMaps.{copied_one}
use Rattle.views.proofs.duplicate.duplicate_tree.Goals as goal

pub loop-key-preserved-in_ok-insert : goal.loop-key-preserved-in_ok-insert
loop-key-preserved-in_ok-insert g c =
    copied_one g.met.K.Ord.total _ _ _ _ _ c.in_ok-duplicate.field-0 c.in_ok-duplicate-2.field-0 (c.in-Some.key.now, c.in-Some.value.now)
    c.loop-key.invariant c.iter.ensures.ordered c.in-Some.ensures.steps c.in_ok-duplicate.ensures c.in_ok-duplicate-2.ensures c.in_ok-insert.ensures.entries

pub loop-key-preserved : goal.loop-key-preserved
loop-key-preserved g c =
    copied_one g.met.K.Ord.total _ _ _ _ _ c.in_ok-duplicate.field-0 c.in_ok-duplicate-2.field-0 (c.in-Some.key.now, c.in-Some.value.now)
    c.loop-key.invariant c.iter.ensures.ordered c.in-Some.ensures.steps c.in_ok-duplicate.ensures c.in_ok-duplicate-2.ensures c.in_ok-insert.ensures.entries
