use Rattle.std.proofs.Common.{◌≡◌, ℕ, suc, ◌≤◌, Bool, false, List, [], ◌∷◌, length, inl, inr, refl, sym, ap, subst, ◌∙◌, arith, tests}
use Rattle.std.specs.Prelude.{◌==◌, IsTrue}
use Rattle.std.specs.List.{filter_map}
use Rattle.views.proofs.MapValues.{EachEntry, each_entry}
use Rattle.sys_abi.specs.declared.identity.Dir.{Dir}
use Rattle.sys_abi.proofs.OrderLaws.{dir_total, dir_exact}
use Rattle.plain_tables.specs.declared.channel.Direction.{Direction}
use Rattle.trace_log.specs.Requests.{left_in}
use Rattle.staged_cut.specs.HandedOn.{state_of}
use Rattle.checkpointer.specs.Marks.{mark_of, marks_of}
use Rattle.checkpointer.proofs.Passing.{AreSoFar, so_far_none, so_far_next, so_far_all}
use Rattle.checkpointer.proofs.checkpointer.Checkpointer.mark_all.Goals as goal

not_both : (b : Bool) → IsTrue b → b ≡ false → ⊥
not_both b yes_it_is no_it_is = cc

some_left : (left : List ℕ) (b : Bool) → ((IsTrue b → left ≡ []) × (left ≡ [] → IsTrue b)) → b ≡ false → (length left == 0) ≡ false
some_left [] b both is = absurd (not_both b (both.1 refl) is)
some_left (x ∷ xs) b both is = not_none (length xs)
  where
    not_none : (n : ℕ) → (suc n == 0) ≡ false
    not_none n = grind (arith, tests)

pub loop-dir-init : goal.loop-dir-init
loop-dir-init c =
    let all = c.into_iter-dir-iterator.ensures.into_iter_gives ∙ c.iter-dir-items.ensures in
    let marks = marks_of c.args.passes (state_of c.args.start.now) in
    record {
      so_far = subst (λ es. AreSoFar c.args.self.now c.args.self.now c.args.trace.now c.args.trace.now marks (filter_map (left_in (mark_of c.args.passes)) es)) (sym all) (so_far_none c.args.self.now c.args.trace.now marks);
      short = subst (EachEntry (λ at direction. length direction.left ≤ 65536)) (sym all)
          (each_entry dir_total dir_exact (λ at direction. length direction.left ≤ 65536) c.args.start.now.kernel.directions (λ at direction there. (c.requires.ready.valid.kernel.channels.each at direction there).size));
    }

pub loop-dir-preserved : goal.loop-dir-preserved
loop-dir-preserved c =
    let inv = c.loop-dir.invariant in
    let entry : Dir × Direction = (c.in-Some.dir.now, c.in-Some.direction.now) in
    let steps : c.loop-dir.dir-iterator ≡ entry ∷ c.next.new.self = c.in-Some.ensures.steps in
    record {
      so_far = so_far_next c.args.self.now c.loop-dir.self c.mark_pass.new.self c.args.trace.now c.loop-dir.trace c.mark_pass.new.trace (marks_of c.args.passes (state_of c.args.start.now)) c.args.passes entry c.next.new.self c.loop-dir.dir-iterator c.mark_of.result
          inv.so_far steps (some_left c.in-Some.direction.now.left c.is_empty.result c.is_empty.ensures c.if-is_empty.false) (c.mark_of.ensures ∙ ap (mark_of c.args.passes c.in-Some.dir.now) c.len.ensures) (let room = c.room.ensures in let some = c.if-room-eq0.false in omega arith)
          c.mark_pass.ensures.checkpointer c.mark_pass.ensures.trace c.mark_pass.ensures.more;
      short = (subst (EachEntry (λ at direction. length direction.left ≤ 65536)) steps inv.short).1;
    }

-- they came as far as there was room
pub returns-then-room-eq0-clause-checkpointer : goal.returns-then-room-eq0-clause-checkpointer
returns-then-room-eq0-clause-checkpointer c =
    (so_far_all c.args.self.now c.loop-dir.self c.args.trace.now c.loop-dir.trace (marks_of c.args.passes (state_of c.args.start.now)) _ c.loop-dir.invariant.so_far
    (inr (let room = c.room.ensures in let none = c.if-room-eq0.true in omega arith))).0

pub returns-then-room-eq0-clause-trace : goal.returns-then-room-eq0-clause-trace
returns-then-room-eq0-clause-trace c =
    (so_far_all c.args.self.now c.loop-dir.self c.args.trace.now c.loop-dir.trace (marks_of c.args.passes (state_of c.args.start.now)) _ c.loop-dir.invariant.so_far
    (inr (let room = c.room.ensures in let none = c.if-room-eq0.true in omega arith))).1

pub returns-clause-checkpointer : goal.returns-clause-checkpointer
returns-clause-checkpointer c =
    (so_far_all c.args.self.now c.loop-dir.self c.args.trace.now c.loop-dir.trace (marks_of c.args.passes (state_of c.args.start.now)) _ c.loop-dir.invariant.so_far
    (inl (ap (filter_map (left_in (mark_of c.args.passes))) c.in-None.ensures.steps.0))).0

pub returns-clause-trace : goal.returns-clause-trace
returns-clause-trace c =
    (so_far_all c.args.self.now c.loop-dir.self c.args.trace.now c.loop-dir.trace (marks_of c.args.passes (state_of c.args.start.now)) _ c.loop-dir.invariant.so_far
    (inl (ap (filter_map (left_in (mark_of c.args.passes))) c.in-None.ensures.steps.0))).1
