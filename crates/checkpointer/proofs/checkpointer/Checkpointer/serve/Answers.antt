use Rattle.std.proofs.Common.{◌≡◌, ℕ, ◌^◌, ◌<◌, true, false, cond, [], Option, Some, inl, inr, refl, sym, ap, ◌∙◌, arith, tests}
use Rattle.std.specs.Prelude.{◌&&◌, nat_lt, IsTrue}
use Rattle.std.specs.Option.{option_map}
use Rattle.sys_abi.specs.declared.identity.VPid.{VPid}
use Rattle.sys_abi.specs.declared.identity.Fd.{Fd}
use Rattle.sys_abi.specs.declared.record.Kind.{Kind}
use Rattle.sys_abi.specs.declared.record.Record.TheVariants.{Lapsed, Refused}
use Rattle.sys_abi.specs.declared.record.Cause.TheVariants.{Unsupported}
use Rattle.plain_tables.specs.Tables.{slot}
use Rattle.plain_machine.specs.declared.plain.Plain.{Plain}
use Rattle.plain_machine.specs.Tests.{ended, unsupported}
use Rattle.trace_log.specs.declared.requests.Tally.{Tally}
use Rattle.trace_log.specs.Requests.{IsUnsupported, NoRequest, Requested, asks}
use Rattle.trace_log.specs.Spelling.{kind_number}
use Rattle.staged_cut.specs.HandedOn.{plain_of}
use Rattle.checkpointer.specs.declared.checkpointer.Checkpointer.{Checkpointer}
use Rattle.checkpointer.specs.declared.unsupported.Unsupported.{Unsupported as Found}
use Rattle.checkpointer.specs.Marks.{unsupported_at}
use Rattle.checkpointer.proofs.Sinks.{OnErr-map}
use Rattle.checkpointer.proofs.Results.{OnOk-map}
use Rattle.checkpointer.proofs.Checkpoints.{asks_below, asks_some, outcome_tally}
use Rattle.checkpointer.proofs.Served.{on_ok2, over_if_not, on_if_lives, lapsed_ok, lapsed_broken, unsupported_ok, unsupported_broken, kept_same}
use Rattle.checkpointer.proofs.Supported.{has_number}
use Rattle.checkpointer.proofs.checkpointer.Checkpointer.serve.Goals as goal

pub returns-then-not-asks-clause-ok : goal.returns-then-not-asks-clause-ok
returns-then-not-asks-clause-ok g c = λ g' upcoming sink had first before due.
    let k = c.args.self.now in
    let idle : asks k.schedule before.running.requests.tally ≡ false = ap (λ (t : Tally). asks k.schedule t) (sym before.noted.tallied) ∙ sym c.asks.ensures ∙ c.if-not-asks.true in
    (before, inl (due ∙ ap (λ b. cond b (Requested []) NoRequest) idle))

pub returns-then-room-eq0-clause-ok : goal.returns-then-room-eq0-clause-ok
returns-then-room-eq0-clause-ok g c = λ g' upcoming sink had first before due. (before, inr (let room = c.room.ensures in let none = c.if-room-eq0.true in omega arith))

pub returns-then-not-lives-clause-ok : goal.returns-then-not-lives-clause-ok
returns-then-not-lives-clause-ok g c = on_ok2 c.conclude.result c.conclude.ensures.ok c.conclude.ensures.checkpointer (λ took checkpointer g' upcoming sink had first before due.
    let k = c.args.self.now in
    let m = c.args.computation.now in
    let asked : asks k.schedule before.running.requests.tally ≡ true = ap (λ (t : Tally). asks k.schedule t) (sym before.noted.tallied) ∙ sym c.asks.ensures ∙ c.if-not-asks.false in
    let waits = due ∙ ap (λ b. cond b (Requested []) NoRequest) asked in
    let over = over_if_not (ended (plain_of m)) c.lives.result c.lives.ensures c.if-not-lives.true in
    (lapsed_ok k.schedule g' (plain_of m) upcoming k c.conclude.new.self c.args.trace.now c.conclude.new.trace sink had (g.L.Sink.seen c.args.log.now).taken (g.L.Sink.seen c.conclude.new.log).taken (g.F.Folder.seen first) (g.F.Folder.seen c.args.disk.now) before waits over
    c.conclude.ensures.trace c.conclude.ensures.schedule (ap (λ (x : Checkpointer). x.lines) checkpointer) (ap (λ (x : Checkpointer). x.tally) checkpointer) took))

pub returns-then-not-lives-clause-kept : goal.returns-then-not-lives-clause-kept
returns-then-not-lives-clause-kept g c = OnOk-map c.conclude.result (λ checkpointer some.
    kept_same c.args.self.now c.conclude.new.self _ (c.requires.kept some) (ap (λ (x : Checkpointer). x.store) checkpointer)
    (ap (λ (x : Checkpointer). x.tally.greatest) checkpointer ∙ outcome_tally c.args.self.now.tally Lapsed refl (λ generation is. cc))) c.conclude.ensures.checkpointer

pub returns-then-not-lives-clause-err : goal.returns-then-not-lives-clause-err
returns-then-not-lives-clause-err g c = OnErr-map c.conclude.result (λ front g' upcoming sink had first before due.
    let k = c.args.self.now in
    let m = c.args.computation.now in
    let asked : asks k.schedule before.running.requests.tally ≡ true = ap (λ (t : Tally). asks k.schedule t) (sym before.noted.tallied) ∙ sym c.asks.ensures ∙ c.if-not-asks.false in
    let waits = due ∙ ap (λ b. cond b (Requested []) NoRequest) asked in
    let over = over_if_not (ended (plain_of m)) c.lives.result c.lives.ensures c.if-not-lives.true in
    (lapsed_broken k.schedule g' (plain_of m) upcoming k c.args.trace.now c.conclude.new.trace sink had (g.L.Sink.seen c.args.log.now).taken (g.L.Sink.seen c.conclude.new.log).taken (g.F.Folder.seen first) (g.F.Folder.seen c.args.disk.now) before waits over c.conclude.ensures.trace front)) c.conclude.ensures.err

-- what no image holds, in the words of the machine
found_unsupported : (h : Plain) (p : VPid) (fd : Fd) (kind : Kind) (found : Option Found) → option_map unsupported_at found ≡ unsupported h → found ≡ Some (record { p = p; fd = fd; kind = kind })
    → unsupported h ≡ Some (record { slot = slot p fd.0; kind = kind })
found_unsupported h p fd kind found is same = sym is ∙ ap (option_map unsupported_at) same

pub conclude-requires-in-Some-clause-spellable : goal.conclude-requires-in-Some-clause-spellable
conclude-requires-in-Some-clause-spellable g c =
    let h = plain_of c.args.computation.now in
    let is = found_unsupported h c.in-Some.found.p c.in-Some.found.fd c.in-Some.found.kind c.first_unsupported.result c.first_unsupported.ensures c.in-Some.is in
    let number = has_number h c.requires.ready.valid.kernel (record { slot = slot c.in-Some.found.p c.in-Some.found.fd.0; kind = c.in-Some.found.kind }) is in
    spelled c.in-Some.found.fd.0 (kind_number c.in-Some.found.kind) number.0 number.1
  where
    spelled : (fd kind : ℕ) → fd < 256 → nat_lt 0 kind ≡ true → IsTrue (nat_lt fd (2 ^ 16) && nat_lt 0 kind)
    spelled fd kind small some = grind (arith, tests)

pub returns-in-Some-clause-ok : goal.returns-in-Some-clause-ok
returns-in-Some-clause-ok g c = on_ok2 c.conclude-in-Some.result c.conclude-in-Some.ensures.ok c.conclude-in-Some.ensures.checkpointer (λ took checkpointer g' upcoming sink had first before due.
    let k = c.args.self.now in
    let h = plain_of c.args.computation.now in
    let asked : asks k.schedule before.running.requests.tally ≡ true = ap (λ (t : Tally). asks k.schedule t) (sym before.noted.tallied) ∙ sym c.asks.ensures ∙ c.if-not-asks.false in
    let waits = due ∙ ap (λ b. cond b (Requested []) NoRequest) asked in
    let is : IsUnsupported h c.in-Some.found.p c.in-Some.found.fd c.in-Some.found.kind = (on_if_lives (ended h) c.lives.result c.lives.ensures c.if-not-lives.false, found_unsupported h c.in-Some.found.p c.in-Some.found.fd c.in-Some.found.kind c.first_unsupported.result c.first_unsupported.ensures c.in-Some.is) in
    unsupported_ok k.schedule g' h upcoming k c.conclude-in-Some.new.self c.args.trace.now c.conclude-in-Some.new.trace sink had (g.L.Sink.seen c.args.log.now).taken (g.L.Sink.seen c.conclude-in-Some.new.log).taken c.in-Some.found.p c.in-Some.found.fd c.in-Some.found.kind (g.F.Folder.seen first) (g.F.Folder.seen c.args.disk.now) before waits is
    c.conclude-in-Some.ensures.trace c.conclude-in-Some.ensures.schedule (ap (λ (x : Checkpointer). x.lines) checkpointer) (ap (λ (x : Checkpointer). x.tally) checkpointer) took)

pub returns-in-Some-clause-kept : goal.returns-in-Some-clause-kept
returns-in-Some-clause-kept g c = OnOk-map c.conclude-in-Some.result (λ checkpointer some.
    kept_same c.args.self.now c.conclude-in-Some.new.self _ (c.requires.kept some) (ap (λ (x : Checkpointer). x.store) checkpointer)
    (ap (λ (x : Checkpointer). x.tally.greatest) checkpointer ∙ outcome_tally c.args.self.now.tally (Refused (Unsupported c.in-Some.found.p c.in-Some.found.fd c.in-Some.found.kind)) refl (λ generation is. cc))) c.conclude-in-Some.ensures.checkpointer

pub returns-in-Some-clause-err : goal.returns-in-Some-clause-err
returns-in-Some-clause-err g c = OnErr-map c.conclude-in-Some.result (λ front g' upcoming sink had first before due.
    let k = c.args.self.now in
    let h = plain_of c.args.computation.now in
    let asked : asks k.schedule before.running.requests.tally ≡ true = ap (λ (t : Tally). asks k.schedule t) (sym before.noted.tallied) ∙ sym c.asks.ensures ∙ c.if-not-asks.false in
    let waits = due ∙ ap (λ b. cond b (Requested []) NoRequest) asked in
    let is : IsUnsupported h c.in-Some.found.p c.in-Some.found.fd c.in-Some.found.kind = (on_if_lives (ended h) c.lives.result c.lives.ensures c.if-not-lives.false, found_unsupported h c.in-Some.found.p c.in-Some.found.fd c.in-Some.found.kind c.first_unsupported.result c.first_unsupported.ensures c.in-Some.is) in
    unsupported_broken k.schedule g' h upcoming k c.args.trace.now c.conclude-in-Some.new.trace sink had (g.L.Sink.seen c.args.log.now).taken (g.L.Sink.seen c.conclude-in-Some.new.log).taken c.in-Some.found.p c.in-Some.found.fd c.in-Some.found.kind (g.F.Folder.seen first) (g.F.Folder.seen c.args.disk.now) before waits is
    c.conclude-in-Some.ensures.trace front) c.conclude-in-Some.ensures.err

pub checkpoint-requires-clause-below : goal.checkpoint-requires-clause-below
checkpoint-requires-clause-below g c = asks_below c.args.self.now.schedule c.args.self.now.tally (sym c.asks.ensures ∙ c.if-not-asks.false)

pub checkpoint-requires-clause-kept : goal.checkpoint-requires-clause-kept
checkpoint-requires-clause-kept g c = c.requires.kept (asks_some c.args.self.now.schedule c.args.self.now.tally (sym c.asks.ensures ∙ c.if-not-asks.false))

pub returns-clause-ok : goal.returns-clause-ok
returns-clause-ok g c = OnOk-map c.checkpoint.result (λ done g' upcoming sink had first before due.
    let k = c.args.self.now in
    let asked : asks k.schedule before.running.requests.tally ≡ true = ap (λ (t : Tally). asks k.schedule t) (sym before.noted.tallied) ∙ sym c.asks.ensures ∙ c.if-not-asks.false in
    done g' upcoming sink had first before (due ∙ ap (λ b. cond b (Requested []) NoRequest) asked)) c.checkpoint.ensures.ok

pub returns-clause-err : goal.returns-clause-err
returns-clause-err g c = OnErr-map c.checkpoint.result (λ done g' upcoming sink had first before due.
    let k = c.args.self.now in
    let asked : asks k.schedule before.running.requests.tally ≡ true = ap (λ (t : Tally). asks k.schedule t) (sym before.noted.tallied) ∙ sym c.asks.ensures ∙ c.if-not-asks.false in
    done g' upcoming sink had first before (due ∙ ap (λ b. cond b (Requested []) NoRequest) asked)) c.checkpoint.ensures.err

pub returns-clause-untouched : goal.returns-clause-untouched
returns-clause-untouched g c = λ none. absurd (asks_some c.args.self.now.schedule c.args.self.now.tally (sym c.asks.ensures ∙ c.if-not-asks.false) none)

pub returns-clause-unchanged : goal.returns-clause-unchanged
returns-clause-unchanged g c = λ none. absurd (asks_some c.args.self.now.schedule c.args.self.now.tally (sym c.asks.ensures ∙ c.if-not-asks.false) none)
