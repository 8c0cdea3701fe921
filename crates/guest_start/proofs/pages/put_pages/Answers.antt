use Rattle.std.proofs.Common.{refl, arith, ◌∙◌, ◌*◌}
use Rattle.guest_start.proofs.Loading.{no_content, one_page, whole_slice}
use Rattle.guest_start.proofs.pages.put_pages.Goals as goal

pub loop-index-init : goal.loop-index-init
loop-index-init c = no_content c.args.space.now c.args.first c.args.rights c.args.content.now

pub loop-index-preserved : goal.loop-index-preserved
loop-index-preserved c =
    one_page c.args.space.now c.args.first c.args.rights c.args.content.now c.loop-index.index (4096 * c.loop-index.index) c.loop-index.space c.insert_page.new.space c.in_ok-of_slice.field-0
    c.loop-index.invariant refl (omega arith) (c.in_ok-of_slice.ensures ∙ whole_slice c.args.content.now c.loop-index.index) c.in_ok-insert_page.ensures.page
