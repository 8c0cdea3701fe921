use Rattle.std.proofs.Common.{refl, sym, ◌∙◌}
use Rattle.std.specs.FinMap as map
use Rattle.fd_tables.specs.Slots.{slot}
use Rattle.host_descriptors.proofs.HeldTold.{no_slot, some_slot, there_by}
use Rattle.wrap_ends.proofs.Rows.{close_refused, close_served}
use Rattle.wrap_ends.proofs.close_serving.close.Goals as goal

pub returns-in_default : goal.returns-in_default
returns-in_default c k next_id p x w paired whole =
    let s = c.args.system.now in
    close_refused s next_id k w p c.args.who paired c.args.fd x
    (no_slot (map.get s.kernel.book.descriptors (slot c.args.who c.args.fd))
    (sym c.get.ensures.at ∙ c.in_default.is))

pub returns : goal.returns
returns c k next_id p x w paired whole =
    let s = c.args.system.now in
    close_served s next_id k w p c.args.who paired c.args.fd x
    (there_by s.kernel c.args.who c.args.fd c.whole.ensures _ refl
    (some_slot _ _ (sym c.get.ensures.at ∙ c.in-Some.is))) c.close_at.new.system
    (c.close_at.ensures.closed k next_id p w paired)
