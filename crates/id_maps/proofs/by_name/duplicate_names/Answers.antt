use Rattle.std.proofs.Common.{◌∙◌}
use Rattle.conn_maps.proofs.OfViews.SeenKeys.{copied_seen}
use Rattle.conn_maps.proofs.OfSysAbi.OrderLaws.{name_total}
use Rattle.id_maps.proofs.by_name.duplicate_names.Goals as goal

pub loop-name-preserved-in_ok-insert : goal.loop-name-preserved-in_ok-insert
loop-name-preserved-in_ok-insert g c =
    copied_seen (λ n. n.items) name_total c.loop-name.name-iterator.iter c.next.new.self.iter c.loop-name.copy.entries c.insert.new.self.entries c.args.names.now.entries
    c.in_ok-duplicate_items.field-0 c.in-Some.name.now c.in_ok-duplicate.field-0 c.in-Some.value.now
    c.loop-name.invariant c.iter.ensures.ordered c.in-Some.ensures.steps (c.in_ok-duplicate_items.ensures ∙ c.as_slice.ensures.value) c.in_ok-duplicate.ensures c.in_ok-insert.ensures.entries

pub loop-name-preserved : goal.loop-name-preserved
loop-name-preserved g c =
    copied_seen (λ n. n.items) name_total c.loop-name.name-iterator.iter c.next.new.self.iter c.loop-name.copy.entries c.insert.new.self.entries c.args.names.now.entries
    c.in_ok-duplicate_items.field-0 c.in-Some.name.now c.in_ok-duplicate.field-0 c.in-Some.value.now
    c.loop-name.invariant c.iter.ensures.ordered c.in-Some.ensures.steps (c.in_ok-duplicate_items.ensures ∙ c.as_slice.ensures.value) c.in_ok-duplicate.ensures c.in_ok-insert.ensures.entries
