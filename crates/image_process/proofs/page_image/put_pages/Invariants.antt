use Rattle.std.proofs.Common.{◌≡◌, ◌++◌, take}
use Rattle.std.specs.List.{flat_map}
use Rattle.image_process.specs.ProcessTexts.{page_text}
use Rattle.image_process.proofs.page_image.put_pages.Given as goal

abbrev pub invariant-loop-page : goal.invariant-loop-page
invariant-loop-page l = l.bytes.items ≡ l.initial.bytes.items ++ flat_map page_text (take l.page-index l.pages)
