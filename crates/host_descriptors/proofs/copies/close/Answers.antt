use Rattle.std.proofs.Common.{refl, sym, ◌∙◌}
use Rattle.std.specs.FinMap as map
use Rattle.fd_tables.specs.Slots.{slot}
use Rattle.host_descriptors.proofs.CloseCall.{lost_none}
use Rattle.host_descriptors.proofs.HeldTold.{no_slot, some_slot, there_by}
use Rattle.host_descriptors.proofs.Closes.{close_bad, close_done}
use Rattle.host_descriptors.proofs.copies.close.Goals as goal

pub returns-in_default-clause-row : goal.returns-in_default-clause-row
returns-in_default-clause-row c g k p whole st paired x =
    close_bad g c.args.kernel.now k st p c.args.who paired c.args.fd x
    (no_slot (map.get c.args.kernel.now.book.descriptors (slot c.args.who c.args.fd))
    (sym c.get.ensures.at ∙ c.in_default.is))

pub returns-in_default-clause-told : goal.returns-in_default-clause-told
returns-in_default-clause-told c =
    record {
      desc = sym (lost_none c.args.kernel.now.book (slot c.args.who c.args.fd)
          (no_slot (map.get c.args.kernel.now.book.descriptors (slot c.args.who c.args.fd))
          (sym c.get.ensures.at ∙ c.in_default.is)));
      object = tt;
    }

pub returns-clause-row : goal.returns-clause-row
returns-clause-row c g k p whole st paired x =
    close_done g c.args.kernel.now k st p c.args.who paired c.args.fd x
    (there_by c.args.kernel.now c.args.who c.args.fd c.whole.ensures _ refl
    (some_slot _ _ (sym c.get.ensures.at ∙ c.in-Some.is))) c.close_one-closed.new.kernel
    (c.close_one-closed.ensures.closed g k p whole st paired)
