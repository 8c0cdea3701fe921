use Rattle.std.proofs.Common.{◌≡◌, map as each, sym, subst, ◌∙◌, ap}
use Rattle.std.specs.Prelude.{◌<◌, ◌^◌, All}
use Rattle.std.specs.FinMap as map
use Rattle.image_process.specs.UserParts.{page_entry}
use Rattle.image_process.proofs.EntryLists.{key_there, fewer_left, all_entries}
use Rattle.process_memory.proofs.PageImages.{copies_none, copies_more, pages_few}
use Rattle.process_memory.proofs.images.page_images.Goals as goal

pub loop-number-init : goal.loop-number-init
loop-number-init c = copies_none c.args.space.now c.in_ok-pages.pages.items c.in_ok-pages.ensures.items

pub page_image-requires : goal.page_image-requires
page_image-requires c = key_there c.args.space.now c.loop-number.last c.in-Some.number (sym c.in-Some.ensures.next)

pub loop-number-smaller : goal.loop-number-smaller
loop-number-smaller c =
    fewer_left c.args.space.now c.loop-number.last c.in-Some.number c.in_ok-page_image.field-0.frame (sym c.in-Some.ensures.next) c.in_ok-page_image.ensures.frame

pub loop-number-preserved : goal.loop-number-preserved
loop-number-preserved c =
    copies_more c.args.space.now c.loop-number.pages.items c.push.new.self.items c.in_ok-page_image.field-0 c.loop-number.last c.in-Some.number c.loop-number.invariant (sym c.in-Some.ensures.next)
    c.in-Some.ensures.place c.in_ok-page_image.ensures.number c.in_ok-page_image.ensures.frame c.in_ok-push.ensures.items

pub returns : goal.returns
returns c =
    let done : each page_entry c.from_vec.result ≡ map.entries c.args.space.now =
    ap (each page_entry) c.from_vec.ensures
    ∙ all_entries c.args.space.now (each page_entry c.loop-number.pages.items) c.loop-number.last c.loop-number.invariant.entries (sym c.next_page.ensures.next ∙ c.in_default.is) in
    record {
      entries = done;
      numbers = subst (λ pages. All (λ page. page.number < 2 ^ 20) pages) (sym c.from_vec.ensures) c.loop-number.invariant.numbers;
      few = pages_few c.args.space.now c.from_vec.result c.len.result c.len.ensures.count c.len.ensures.limit done;
    }
