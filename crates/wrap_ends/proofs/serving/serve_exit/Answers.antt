use Rattle.std.proofs.Common.{◌≡◌, ℕ, true, false, refl, sym, ap, ◌∙◌, subst}
use Rattle.std.specs.FinMap as map
use Rattle.std.proofs.lemmas.Option.{none-some}
use Rattle.views.proofs.MapLaws.{true_false}
use Rattle.call_table.specs.declared.request.Request.{Request}
use Rattle.call_table.specs.declared.request.Request.TheVariants.{Exit, ExitGroup}
use Rattle.plain_machine.specs.Serve.{row}
use Rattle.host_tables.specs.declared.reply.KernelReply.TheVariants.{Done}
use Rattle.host_tables.specs.declared.system.System.{System}
use Rattle.wrap_names.specs.Wrapping.{IsWrapped, StandsAfter}
use Rattle.wrap_names.proofs.Callers.{caller_there, paired, thread_paired}
use Rattle.wrap_ends.specs.Ending.{EndsThread}
use Rattle.wrap_ends.specs.Exits.{is_exit}
use Rattle.wrap_ends.proofs.ExitCalls.{group_served, thread_served, last_served}
use Rattle.wrap_ends.proofs.serving.serve_exit.Goals as goal

pub unreachable-requires : goal.unreachable-requires
unreachable-requires c =
    let there = caller_there c.args.system.now c.args.next_id c.args.stood.now.kernel c.requires.wrapped
    c.args.p c.args.t.0 c.args.request.now c.args.transfer.now c.requires.asked in
    none-some there.0 (sym c.in_default.is ∙ c.caller_of.ensures ∙ there.1)

other : (q : Request) → ((code : ℕ) → q ≡ Exit code → ⊥) → ((code : ℕ) → q ≡ ExitGroup code → ⊥)
    → is_exit q ≡ true → ⊥
unfolding is_exit
other (Exit code) no_exit no_group exits = no_exit code refl
other (ExitGroup code) no_exit no_group exits = no_group code refl
other _ no_exit no_group exits = true_false (sym exits)

pub unreachable-requires-in_default-request : goal.unreachable-requires-in_default-request
unreachable-requires-in_default-request c =
    other c.args.request.now c.in_default-request.not-Exit c.in_default-request.not-ExitGroup c.requires.exits

pub returns-in-ExitGroup : goal.returns-in-ExitGroup
unfolding row
returns-in-ExitGroup c =
    let s = c.args.system.now in
    let k = c.args.stood.now.kernel in
    let w = c.requires.wrapped in
    let x = c.args.transfer.now in
    let t = c.args.t.0 in
    let its_pair = paired s c.args.next_id k w c.args.p t c.args.request.now x c.requires.asked
    c.in-Some.caller
    (sym c.caller_of.ensures ∙ c.in-Some.is) in
    subst (λ (q : Request). StandsAfter c.end.new.system c.args.next_id k x x (Done 0) (row k c.args.p t q x))
    (sym c.in-ExitGroup.is)
    (group_served s c.args.next_id k w c.args.p c.in-Some.caller.who its_pair c.requires.asked.alive
    c.end.new.system
    c.in-ExitGroup.code c.exit_status.result x c.exit_status.ensures
    (c.end.ensures k c.args.next_id w its_pair c.requires.asked.alive))

pub returns-then-end_thread : goal.returns-then-end_thread
unfolding row
returns-then-end_thread c =
    let s = c.args.system.now in
    let k = c.args.stood.now.kernel in
    let w = c.requires.wrapped in
    let x = c.args.transfer.now in
    let t = c.args.t.0 in
    let p = c.args.p in
    let caller = c.in-Some.caller in
    let found = sym c.caller_of.ensures ∙ c.in-Some.is in
    let asked = c.requires.asked in
    let its_pair = paired s c.args.next_id k w p t c.args.request.now x asked caller found in
    subst (λ (q : Request). StandsAfter c.end_thread.new.system c.args.next_id k x x (Done 0) (row k p t q x))
    (sym c.in-Exit.is)
    (thread_served s c.args.next_id k w p caller.who its_pair asked.alive c.end_thread.new.system t
    c.in-Exit.code x
    (subst (EndsThread s c.end_thread.new.system c.args.next_id k p caller.who t) c.if-end_thread.true
    (c.end_thread.ensures k c.args.next_id t w its_pair asked.alive
    (thread_paired s c.args.next_id k w p t c.args.request.now x asked caller found) asked.thread)))

pub returns-else-end_thread : goal.returns-else-end_thread
unfolding row
returns-else-end_thread c =
    let s = c.args.system.now in
    let k = c.args.stood.now.kernel in
    let w = c.requires.wrapped in
    let x = c.args.transfer.now in
    let t = c.args.t.0 in
    let p = c.args.p in
    let caller = c.in-Some.caller in
    let found = sym c.caller_of.ensures ∙ c.in-Some.is in
    let asked = c.requires.asked in
    let its_pair = paired s c.args.next_id k w p t c.args.request.now x asked caller found in
    let one : EndsThread s c.end_thread.new.system c.args.next_id k p caller.who t false =
    subst (EndsThread s c.end_thread.new.system c.args.next_id k p caller.who t) c.if-end_thread.false
    (c.end_thread.ensures k c.args.next_id t w its_pair asked.alive
    (thread_paired s c.args.next_id k w p t c.args.request.now x asked caller found) asked.thread) in
    let still = subst (λ (y : System). IsWrapped y c.args.next_id k) (sym one.1) w in
    let pair_still = ap (λ (y : System). map.get y.ids.pids p.0) one.1 ∙ its_pair in
    subst (λ (q : Request). StandsAfter c.end-in-Exit.new.system c.args.next_id k x x (Done 0)
    (row k p t q x))
    (sym c.in-Exit.is)
    (last_served s c.args.next_id k w p caller.who its_pair asked.alive c.end-in-Exit.new.system t
    c.in-Exit.code c.exit_status-in-Exit.result x one.0 c.exit_status-in-Exit.ensures
    (c.end-in-Exit.ensures k c.args.next_id still pair_still asked.alive))
