use Rattle.std.proofs.Common.{◌++◌, length, sym, ap, ◌∙◌, append-nil, arith, map as each}
use Rattle.std.proofs.lemmas.List.{length-append, length-map}
use Rattle.views.proofs.MapValues.{keys-map_values}
use Rattle.plain_tables.specs.Tables.{pid}
use Rattle.checkpointer.specs.OfGuestProc.Guests.{GuestPart}
use Rattle.checkpointer.specs.HandedOn.{plain_of}
use Rattle.drive.proofs.FewProcesses.{few_parts}
use Rattle.drive.proofs.Queued.{each_more}
use Rattle.drive.proofs.rounds.queue_processes.Goals as goal

pub loop-p-init : goal.loop-p-init
loop-p-init c = ap (λ numbers. each pid numbers ++ c.into_iter-p-iterator.result) c.clear.ensures ∙ c.into_iter-p-iterator.ensures.into_iter_gives ∙ c.keys-p-items.ensures

pub push-requires : goal.push-requires
push-requires c =
    let keys = keys-map_values (λ (guest : GuestPart). guest.user) c.args.computation.now.guests in
    let few = few_parts (plain_of c.args.computation.now) c.requires.valid in
    let size = length-append (each pid c.loop-p.queue) c.loop-p.p-iterator in
    let whole = ap length c.loop-p.invariant in
    let left = ap length c.in-Some.ensures.steps in
    let queued = length-map c.loop-p.queue pid in
    let same = ap length keys in
    omega arith

pub loop-p-preserved : goal.loop-p-preserved
loop-p-preserved c =
    ap (λ numbers. each pid numbers ++ c.next.new.self) c.push.ensures
    ∙ each_more c.loop-p.queue c.in-Some.p.now c.next.new.self
    ∙ ap (λ left. each pid c.loop-p.queue ++ left) (sym c.in-Some.ensures.steps)
    ∙ c.loop-p.invariant

pub returns : goal.returns
returns c =
    sym (append-nil (each pid c.loop-p.queue)) ∙ ap (λ left. each pid c.loop-p.queue ++ left) (sym c.in-None.ensures.steps.0) ∙ c.loop-p.invariant
    ∙ sym (keys-map_values (λ (guest : GuestPart). guest.user) c.args.computation.now.guests)
