-- Where a fork's child gets its number: a call that has all buffers that it needs has that place.
use Rattle.std.proofs.Common.{◌≡◌, ℕ, Bool, true, false, cond, ◌&&◌, [], ◌∷◌, ◌++◌, refl, sym}
use Rattle.std.specs.Prelude.{Some, None, is_some}
use Rattle.std.specs.List.{list_all}
use Rattle.views.proofs.MapLaws.{true_false}
use Rattle.sys_abi.specs.declared.flags.TheConstants.{CLONE_PARENT_SETTID, CLONE_CHILD_SETTID}
use Rattle.call_table.specs.declared.request.Request.TheVariants.{Clone}
use Rattle.sys_abi.specs.Flags.{has_flag}
use Rattle.plain_process.specs.declared.buffers.Span.{Span}
use Rattle.plain_process.specs.Buffers.{span, span_if, thread_spans, reads_of, writes_of, given_of, can_write, lent}
use Rattle.plain_process.specs.Memory.{Memory}

-- a call that doesn't fault has a place for the child's number
second_of_two : (can : Span → Bool) (first : Bool) (parent child : ℕ) → list_all can (span_if first parent ++ span child 4 ∷ []) ≡ true → can (span child 4) ≡ true
second_of_two can true parent child all = later (can (span parent 4)) (can (span child 4)) all
  where
    later : (a b : Bool) → (a && (b && true)) ≡ true → b ≡ true
    later true true all = refl
    later true false all = all
    later false b all = true_false (sym all)
second_of_two can false parent child all = only (can (span child 4)) all
  where
    only : (b : Bool) → (b && true) ≡ true → b ≡ true
    only true all = refl
    only false all = all

passes : {A : Type 0} (b : Bool) (a : A) → is_some (cond b (Some a) None) ≡ true → b ≡ true
passes true a is = refl
passes false a is = is

writable_if : (can : Span → Bool) (first wanted : Bool) (parent child : ℕ) → list_all can (span_if first parent ++ span_if wanted child) ≡ true → wanted ≡ true → can (span child 4) ≡ true
writable_if can first true parent child all is = second_of_two can first parent child all
writable_if can first false parent child all is = true_false (sym is)

pub child_place : (memory : Memory) (flags stack parent_tid tls child_tid : ℕ) → is_some (lent memory (Clone flags stack parent_tid tls child_tid)) ≡ true → has_flag flags CLONE_CHILD_SETTID ≡ true
    → can_write memory (span child_tid 4) ≡ true
unfolding lent given_of reads_of writes_of
child_place memory flags stack parent_tid tls child_tid is wanted =
    writable_if (can_write memory) (has_flag flags CLONE_PARENT_SETTID) (has_flag flags CLONE_CHILD_SETTID) parent_tid child_tid
    (passes (list_all (can_write memory) (thread_spans flags parent_tid child_tid)) [] is) wanted
