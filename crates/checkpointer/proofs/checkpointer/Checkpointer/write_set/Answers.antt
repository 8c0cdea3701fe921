use Rattle.std.proofs.Common.{◌≡◌, suc, ◌<◌, inr, refl, sym, ap, subst, ◌∙◌, arith}
use Rattle.std.specs.Prelude.{IfOk}
use Rattle.sys_abi.specs.declared.record.Record.{Record}
use Rattle.trace_log.specs.Spelling.{is_spellable}
use Rattle.image_store.specs.StoreStates.{FitsFolder, next_generation}
use Rattle.staged_cut.specs.HandedOn.{state_of}
use Rattle.checkpointer.specs.declared.checkpointer.Checkpointer.{Checkpointer}
use Rattle.checkpointer.specs.Settling.{Settles}
use Rattle.checkpointer.proofs.Passing.{both_size}
use Rattle.checkpointer.proofs.Served.{kept_cut}
use Rattle.checkpointer.proofs.Settling.{Came, on_ok_of, on_err_of, drained_at, has_drained, put_at, told_spelled, settled_ok, settled_broken, settled_keeps, kept_written}
use Rattle.checkpointer.proofs.checkpointer.Checkpointer.write_set.Goals as goal

-- the marks of what was drained fill the trace
pub returns-then-room-eq0-clause-ok : goal.returns-then-room-eq0-clause-ok
returns-then-room-eq0-clause-ok g c = λ g' upcoming sink had first before waits.
    let k = c.args.self.now in
    let numbered : c.next-generation.result ≡ suc k.tally.greatest = c.next-generation.ensures ∙ c.requires.next in
    let at = drained_at k.schedule g' (state_of c.args.start.now) upcoming k c.mark_cut.new.self c.args.trace.now c.mark_cut.new.trace sink had (g.L.Sink.seen c.args.log.now).taken c.next-generation.result (g.F.Folder.seen first) (g.F.Folder.seen c.args.disk.now)
    before waits c.requires.held c.requires.arrived numbered c.mark_cut.ensures.checkpointer c.mark_cut.ensures.trace in
    (at.now, inr (let room = c.room.ensures in let none = c.if-room-eq0.true in omega arith))

pub returns-then-room-eq0-clause-kept : goal.returns-then-room-eq0-clause-kept
returns-then-room-eq0-clause-kept g c =
    let k = c.args.self.now in
    let disk = g.F.Folder.seen c.args.disk.now in
    let drained = has_drained (state_of c.args.start.now) k c.mark_cut.new.self c.next-generation.result _ c.mark_cut.ensures.checkpointer in
    kept_cut k.tally.greatest c.mark_cut.new.self disk disk c.requires.above (drained.store ∙ c.requires.none) (drained.greatest ∙ c.next-generation.ensures ∙ c.requires.next) refl

-- there is room behind them
pub settle-requires-clause-spellable : goal.settle-requires-clause-spellable
settle-requires-clause-spellable g c =
    ap is_spellable c.told_of-told.ensures ∙ told_spelled c.next-generation.result c.put-written.result c.put-written.ensures.kind

pub settle-requires-clause-work : goal.settle-requires-clause-work
settle-requires-clause-work g c =
    let drained = has_drained (state_of c.args.start.now) c.args.self.now c.mark_cut.new.self c.next-generation.result _ c.mark_cut.ensures.checkpointer in
    let same = drained.work in
    let few = c.requires.work in
    omega arith

pub settle-requires-clause-request : goal.settle-requires-clause-request
settle-requires-clause-request g c =
    let drained = has_drained (state_of c.args.start.now) c.args.self.now c.mark_cut.new.self c.next-generation.result _ c.mark_cut.ensures.checkpointer in
    let same = drained.request in
    let few = c.requires.request in
    omega arith

pub returns-clause-ok : goal.returns-clause-ok
returns-clause-ok g c = on_ok_of c.settle.result (λ unit fine g' upcoming sink had first before waits.
    let k = c.args.self.now in
    let h = state_of c.args.start.now in
    let taken = (g.L.Sink.seen c.args.log.now).taken in
    let disk = g.F.Folder.seen c.args.disk.now in
    let next = g.F.Folder.seen c.put-written.new.disk in
    let numbered : c.next-generation.result ≡ suc k.tally.greatest = c.next-generation.ensures ∙ c.requires.next in
    let some : 0 < c.mark_cut.new.trace.room = let room = c.room.ensures in let left = c.if-room-eq0.false in omega arith in
    let came = subst (λ n. Came g.F.Folder.seen h n c.put-written.result c.args.disk.now c.put-written.new.disk) (sym c.next-generation.ensures) c.put-written.ensures.put in
    let at = drained_at k.schedule g' h upcoming k c.mark_cut.new.self c.args.trace.now c.mark_cut.new.trace sink had taken c.next-generation.result (g.F.Folder.seen first) disk before waits c.requires.held c.requires.arrived numbered c.mark_cut.ensures.checkpointer c.mark_cut.ensures.trace in
    let put = put_at g.F.Folder.seen k.schedule g' h upcoming k c.mark_cut.new.self c.ok-self.result c.args.trace.now c.mark_cut.new.trace sink had taken c.next-generation.result c.put-written.result (g.F.Folder.seen first) c.args.disk.now c.put-written.new.disk
    at c.mark_cut.ensures.trace some numbered c.requires.above came c.put-written.ensures.counts c.put-written.ensures.kind c.put-written.ensures.cause in
    let drained : Checkpointer = record c.mark_cut.new.self { store = c.ok-self.result } in
    let settled = subst (λ (r : Record). Settles h r c.settle.result drained c.settle.new.self c.mark_cut.new.trace c.settle.new.trace taken (g.L.Sink.seen c.settle.new.log).taken) c.told_of-told.ensures c.settle.ensures.settled in
    settled_ok g.F.Folder.seen k.schedule g' h upcoming drained c.settle.new.self c.mark_cut.new.trace c.settle.new.trace sink had taken (g.L.Sink.seen c.settle.new.log).taken c.next-generation.result c.put-written.result (g.F.Folder.seen first) c.args.disk.now c.put-written.new.disk c.settle.result unit
    put settled c.settle.ensures.schedule fine)

pub returns-clause-err : goal.returns-clause-err
returns-clause-err g c = on_err_of c.settle.result (λ stop failed g' upcoming sink had first before waits.
    let k = c.args.self.now in
    let h = state_of c.args.start.now in
    let taken = (g.L.Sink.seen c.args.log.now).taken in
    let disk = g.F.Folder.seen c.args.disk.now in
    let next = g.F.Folder.seen c.put-written.new.disk in
    let numbered : c.next-generation.result ≡ suc k.tally.greatest = c.next-generation.ensures ∙ c.requires.next in
    let some : 0 < c.mark_cut.new.trace.room = let room = c.room.ensures in let left = c.if-room-eq0.false in omega arith in
    let came = subst (λ n. Came g.F.Folder.seen h n c.put-written.result c.args.disk.now c.put-written.new.disk) (sym c.next-generation.ensures) c.put-written.ensures.put in
    let at = drained_at k.schedule g' h upcoming k c.mark_cut.new.self c.args.trace.now c.mark_cut.new.trace sink had taken c.next-generation.result (g.F.Folder.seen first) disk before waits c.requires.held c.requires.arrived numbered c.mark_cut.ensures.checkpointer c.mark_cut.ensures.trace in
    let put = put_at g.F.Folder.seen k.schedule g' h upcoming k c.mark_cut.new.self c.ok-self.result c.args.trace.now c.mark_cut.new.trace sink had taken c.next-generation.result c.put-written.result (g.F.Folder.seen first) c.args.disk.now c.put-written.new.disk
    at c.mark_cut.ensures.trace some numbered c.requires.above came c.put-written.ensures.counts c.put-written.ensures.kind c.put-written.ensures.cause in
    let drained : Checkpointer = record c.mark_cut.new.self { store = c.ok-self.result } in
    let settled = subst (λ (r : Record). Settles h r c.settle.result drained c.settle.new.self c.mark_cut.new.trace c.settle.new.trace taken (g.L.Sink.seen c.settle.new.log).taken) c.told_of-told.ensures c.settle.ensures.settled in
    settled_broken g.F.Folder.seen k.schedule g' h upcoming drained c.settle.new.self c.mark_cut.new.trace c.settle.new.trace sink had taken (g.L.Sink.seen c.settle.new.log).taken c.next-generation.result c.put-written.result (g.F.Folder.seen first) c.args.disk.now c.put-written.new.disk c.settle.result stop
    put settled failed)

pub returns-clause-kept : goal.returns-clause-kept
returns-clause-kept g c = on_ok_of c.settle.result (λ unit fine.
    let k = c.args.self.now in
    let h = state_of c.args.start.now in
    let taken = (g.L.Sink.seen c.args.log.now).taken in
    let disk = g.F.Folder.seen c.args.disk.now in
    let next = g.F.Folder.seen c.put-written.new.disk in
    let before = has_drained h k c.mark_cut.new.self c.next-generation.result _ c.mark_cut.ensures.checkpointer in
    let numbered : c.next-generation.result ≡ suc k.tally.greatest = c.next-generation.ensures ∙ c.requires.next in
    let came = subst (λ n. Came g.F.Folder.seen h n c.put-written.result c.args.disk.now c.put-written.new.disk) (sym c.next-generation.ensures) c.put-written.ensures.put in
    let fits = subst (λ n. IfOk c.put-written.result (λ done. FitsFolder done next × (next_generation done ≡ suc n))) (sym c.next-generation.ensures) c.put-written.ensures.ok in
    let drained : Checkpointer = record c.mark_cut.new.self { store = c.ok-self.result } in
    let settled = subst (λ (r : Record). Settles h r c.settle.result drained c.settle.new.self c.mark_cut.new.trace c.settle.new.trace taken (g.L.Sink.seen c.settle.new.log).taken) c.told_of-told.ensures c.settle.ensures.settled in
    let keeps = settled_keeps h drained c.settle.new.self c.mark_cut.new.trace c.settle.new.trace taken (g.L.Sink.seen c.settle.new.log).taken c.next-generation.result c.put-written.result c.settle.result unit settled fine in
    kept_written g.F.Folder.seen h c.settle.new.self c.next-generation.result k.tally.greatest c.put-written.result c.args.disk.now c.put-written.new.disk (keeps.0 ∙ c.ok-self.ensures.value) (keeps.1 ∙ before.greatest) numbered c.requires.above fits came)

pub returns-then-room-eq0-clause-size : goal.returns-then-room-eq0-clause-size
returns-then-room-eq0-clause-size g c = (both_size c.args.trace.now c.mark_cut.new.trace _ _ c.requires.room c.mark_cut.ensures.trace).0

pub returns-then-room-eq0-clause-room : goal.returns-then-room-eq0-clause-room
returns-then-room-eq0-clause-room g c = (both_size c.args.trace.now c.mark_cut.new.trace _ _ c.requires.room c.mark_cut.ensures.trace).1

pub returns-clause-size : goal.returns-clause-size
returns-clause-size g c = c.settle.ensures.size ∙ (both_size c.args.trace.now c.mark_cut.new.trace _ _ c.requires.room c.mark_cut.ensures.trace).0

pub returns-clause-room : goal.returns-clause-room
returns-clause-room g c =
    let one = (both_size c.args.trace.now c.mark_cut.new.trace _ _ c.requires.room c.mark_cut.ensures.trace).1 in
    let more = c.settle.ensures.room in
    omega arith
