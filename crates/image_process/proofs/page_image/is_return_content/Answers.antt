use Rattle.image_process.proofs.ReturnContent.{content_after, content_not}
use Rattle.image_process.proofs.page_image.is_return_content.Goals as goal

pub returns-then-eq : goal.returns-then-eq
returns-then-eq c =
    content_after c.as_slice.result.now c.args.bytes.now _ _ _ _ c.as_slice.ensures c.requires c.split_at.ensures.front c.split_at.ensures.back c.eq.ensures c.is_zero.ensures c.if-eq.true

pub returns-else-eq : goal.returns-else-eq
returns-else-eq c =
    content_not c.as_slice.result.now c.args.bytes.now _ c.split_at.result.1.now _ c.as_slice.ensures c.requires c.split_at.ensures.front c.split_at.ensures.back c.eq.ensures c.if-eq.false
