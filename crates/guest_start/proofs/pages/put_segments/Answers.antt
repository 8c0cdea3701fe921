use Rattle.std.proofs.Common.{◌+◌, sym, arith, subst}
use Rattle.guest_start.proofs.Loading.{SegmentPages, no_pages, touched, not_touched, below_all}
use Rattle.guest_start.proofs.pages.put_segments.Goals as goal
use Rattle.guest_start.proofs.pages.put_segments.Goals.{then-is_touched+in_ok-frame+in_ok-insert_page, else-is_touched}

pub loop-number-init : goal.loop-number-init
loop-number-init c = no_pages c.args.segments.now c.args.space.now c.requires.empty

pub insert_page-requires-clause-room : goal.insert_page-requires-clause-room
insert_page-requires-clause-room c =
    let below = below_all c.args.segments.now c.loop-number.number (omega arith) c.requires.few in
    let few = c.loop-number.invariant.few in
    omega (arith, below, few)

pub loop-number-preserved : goal.loop-number-preserved
loop-number-preserved c =
    elim c.if-is_touched.branch [
      | then-is_touched+in_ok-frame+in_ok-insert_page w ↦
          subst (λ m. SegmentPages c.args.segments.now (c.loop-number.number + 1) m) (sym w.space-is)
          (touched c.args.segments.now c.loop-number.number c.loop-number.space w.insert_page.new.space w.in_ok-frame.frame c.loop-number.invariant (sym w.if-is_touched.ensures)
          w.in_ok-frame.ensures w.in_ok-insert_page.ensures.page)
      | else-is_touched w ↦
          subst (λ m. SegmentPages c.args.segments.now (c.loop-number.number + 1) m) (sym w.space-is)
          (not_touched c.args.segments.now c.loop-number.number c.loop-number.space c.loop-number.invariant (sym w.if-is_touched.ensures))
    ]

pub returns-clause-few : goal.returns-clause-few
returns-clause-few c =
    let below = below_all c.args.segments.now c.loop-number.number (omega arith) c.requires.few in
    let few = c.loop-number.invariant.few in
    omega (arith, below, few)
