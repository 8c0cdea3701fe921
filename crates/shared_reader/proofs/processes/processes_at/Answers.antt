use Rattle.std.proofs.Common.{◌≡◌, ◌-◌, refl, sym, ◌∙◌, arith}
use Rattle.image_format.specs.Format.{unsigned, n32, any}
use Rattle.image_format.specs.Texts.{EachFrom}
use Rattle.shared_items.specs.SharedFormat as format
use Rattle.image_format.proofs.Loop.{goes_on}
use Rattle.image_format.proofs.Numerals.{fit_bytes}
use Rattle.shared_items.proofs.RisingItems.{bytes_behind, process_read, processes_rise}
use Rattle.shared_reader.proofs.KnownThreads.{no_thread, process_pushed}
use Rattle.shared_reader.proofs.processes.processes_at.Goals as goal

pub loop-item-init : goal.loop-item-init
unfolding EachFrom
loop-item-init c =
    let all : c.in_ok-count.count - 0 ≡ c.in_ok-count.count = omega arith in
    rw (c.new-processes.ensures, all) (record { reads = refl; fits = tt; bytes = bytes_behind (unsigned n32 any) c.args.text.now c.in_ok-count.items.now c.in_ok-count.count (fit_bytes _ c.type_inv.text) c.in_ok-count.ensures; threads = no_thread c.new-tids.result c.new-tids.ensures })

pub process_at-requires-clause-processes : goal.process_at-requires-clause-processes
process_at-requires-clause-processes c = rw c.as_slice-front.ensures (processes_rise c.args.next_id c.args.channels.now c.args.descriptions.now c.loop-item.processes c.loop-item.invariant.fits)

pub loop-item-preserved : goal.loop-item-preserved
loop-item-preserved c =
    let item = rw c.as_slice-front.ensures at c.in_ok-process.ensures in
    rw c.in_ok-push.ensures.ok (
    record {
      reads = sym (goes_on (format.process c.args.next_id c.args.channels.now c.args.descriptions.now) c.in_ok-count.count c.loop-item._item c.loop-item.processes c.in_ok-process.process c.loop-item.rest.now c.in_ok-process.more.now c.loop-item-test.true item) ∙ c.loop-item.invariant.reads;
      fits = process_read c.args.next_id c.args.channels.now c.args.descriptions.now c.loop-item.processes c.in_ok-process.process c.loop-item.rest.now c.in_ok-process.more.now c.loop-item.invariant.bytes item c.loop-item.invariant.fits;
      bytes = bytes_behind (format.process c.args.next_id c.args.channels.now c.args.descriptions.now c.loop-item.processes) c.loop-item.rest.now c.in_ok-process.more.now c.in_ok-process.process c.loop-item.invariant.bytes item;
      threads = process_pushed c.loop-item.tids c.note_threads.new.tids c.loop-item.processes c.in_ok-process.process (rw c.as_slice.ensures at c.in_ok-note_threads.ensures) c.loop-item.invariant.threads;
    }
    )
