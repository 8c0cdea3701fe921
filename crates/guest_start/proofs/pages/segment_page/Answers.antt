use Rattle.std.proofs.Common.{◌≡◌, ◌*◌, ◌∙◌, ap, arith, length}
use Rattle.guest_start.proofs.Loading.{no_bytes, one_byte, length-segment_bytes}
use Rattle.guest_start.proofs.pages.segment_page.Goals as goal

pub loop-offset-init : goal.loop-offset-init
loop-offset-init c = c.in_ok-bytes.ensures.items ∙ no_bytes c.args.segments.now (4096 * c.args.number)

pub loop-offset-preserved : goal.loop-offset-preserved
loop-offset-preserved c =
    one_byte c.args.segments.now (4096 * c.args.number) c.loop-offset.offset c.segment_byte.result c.loop-offset.bytes.items c.push.new.self.items c.loop-offset.invariant c.segment_byte.ensures
    c.in_ok-push.ensures.items

whole : (c : goal.After-as_slice) → length c.as_slice.result.now ≡ 4096
whole c =
    let all : c.loop-offset.offset ≡ 4096 = omega arith in
    ap length (c.as_slice.ensures.value ∙ c.loop-offset.invariant) ∙ length-segment_bytes c.args.segments.now (4096 * c.args.number) c.loop-offset.offset ∙ all

pub of_slice-requires : goal.of_slice-requires
of_slice-requires c = whole c
