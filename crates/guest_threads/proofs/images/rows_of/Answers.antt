use Rattle.std.proofs.Common.{arith, ap, ◌∙◌}
use Rattle.std.specs.FinMap as map
use Rattle.image_process.specs.UserParts.{thread_entry}
use Rattle.guest_threads.specs.Rows.{threads_of}
use Rattle.image_process.proofs.EntryLists.{taken_start, taken_more, taken_end}
use Rattle.guest_threads.proofs.RowLaws.{no_threads, none_rising}
use Rattle.guest_threads.proofs.images.rows_of.Goals as goal

pub loop-image-init : goal.loop-image-init
loop-image-init c = record {
  threads =
      taken_start thread_entry c.args.images c.into_vec-left.result.items (threads_of c.new-rows.result.items) c.into_vec-left.ensures (no_threads c.new-rows.result.items c.new-rows.ensures.items);
  rising = none_rising c.new-rows.result.items c.new-rows.ensures.items;
}

pub loop-image-preserved : goal.loop-image-preserved
loop-image-preserved c = record {
  threads =
      taken_more thread_entry c.args.images c.loop-image.left.items c.pop.new.self.items c.in-Some.image (threads_of c.loop-image.rows.items) (threads_of c.put_row.new.rows.items)
      c.loop-image.invariant.threads c.in-Some.ensures.items (c.in_ok-put_row.ensures.ok ∙ ap (λ e. map.insert (threads_of c.loop-image.rows.items) e.0 e.1) c.in_ok-row_of_image.ensures);
  rising = c.in_ok-put_row.ensures.rising;
}

pub returns-clause-threads : goal.returns-clause-threads
returns-clause-threads c = taken_end thread_entry c.args.images c.loop-image.left.items _ c.loop-image.invariant.threads (let none = c.in_default.ensures.cases.0 in omega arith)
