-- The order of the stages and of the messages.
--     order_positive, order_most      places are from 1 to 5
--     order_exact         two stages of one place are one
--     next_depth          the stage after this one lies one further
--     before_first        only at none is Suspended next
--     next_messages       the messages to the next one are one more
--     first_messages      the messages to this one are the first few
use Rattle.std.proofs.Common.{◌≡◌, ℕ, suc, ◌≤◌, [], ◌∷◌, ◌++◌, length, take, cond, refl, sym, ap, subst, ◌∙◌, arith, lit≤}
use Rattle.std.specs.Prelude.{Option, Some, None, ◌==◌}
use Rattle.barrier_core.specs.declared.stage.Stage.{Stage}
use Rattle.barrier_core.specs.declared.stage.Stage.TheVariants.{Suspended, Elected, Drained, Written, Refilled}
use Rattle.barrier_core.specs.declared.stage.Message.{Message}
use Rattle.barrier_core.specs.declared.stage.Message.TheVariants.{Suspend, Elect, Drain, Write, Refill, Resume}
use Rattle.barrier_core.specs.Stages.{order, depth, next_stage, next_message, messages_to, all_messages}

pub order_positive : (s : Stage) → 1 ≤ order s
order_positive Suspended = lit≤ tt
order_positive Elected = lit≤ tt
order_positive Drained = lit≤ tt
order_positive Written = lit≤ tt
order_positive Refilled = lit≤ tt

pub order_most : (s : Stage) → order s ≤ 5
order_most Suspended = lit≤ tt
order_most Elected = lit≤ tt
order_most Drained = lit≤ tt
order_most Written = lit≤ tt
order_most Refilled = lit≤ tt

stage_at : ℕ → Stage
stage_at n = cond (n == 1) Suspended (cond (n == 2) Elected (cond (n == 3) Drained (cond (n == 4) Written Refilled)))

at_order : (s : Stage) → stage_at (order s) ≡ s
unfolding stage_at
at_order Suspended = refl
at_order Elected = refl
at_order Drained = refl
at_order Written = refl
at_order Refilled = refl

pub order_exact : (s t : Stage) → order s ≡ order t → s ≡ t
order_exact s t is = sym (at_order s) ∙ ap stage_at is ∙ at_order t

pub next_depth : (o : Option Stage) (s : Stage) → next_stage o ≡ Some s → order s ≡ suc (depth o)
next_depth None s is = let same : Suspended ≡ s = cc in ap order (sym same)
next_depth (Some Suspended) s is = let same : Elected ≡ s = cc in ap order (sym same)
next_depth (Some Elected) s is = let same : Drained ≡ s = cc in ap order (sym same)
next_depth (Some Drained) s is = let same : Written ≡ s = cc in ap order (sym same)
next_depth (Some Written) s is = let same : Refilled ≡ s = cc in ap order (sym same)
next_depth (Some Refilled) s is = cc

pub before_first : (o : Option Stage) → next_stage o ≡ Some Suspended → o ≡ None
before_first None is = refl
before_first (Some s) is = let far : 1 ≡ suc (order s) = next_depth (Some s) Suspended is in let positive : 1 ≤ order s = order_positive s in absurd (omega (arith, far, positive))

pub next_messages : (o : Option Message) (m : Message) → next_message o ≡ Some m → messages_to o ++ m ∷ [] ≡ messages_to (Some m)
next_messages None m is = let same : Suspend ≡ m = cc in subst (λ n. messages_to None ++ n ∷ [] ≡ messages_to (Some n)) same refl
next_messages (Some Suspend) m is = let same : Elect ≡ m = cc in subst (λ n. messages_to (Some Suspend) ++ n ∷ [] ≡ messages_to (Some n)) same refl
next_messages (Some Elect) m is = let same : Drain ≡ m = cc in subst (λ n. messages_to (Some Elect) ++ n ∷ [] ≡ messages_to (Some n)) same refl
next_messages (Some Drain) m is = let same : Write ≡ m = cc in subst (λ n. messages_to (Some Drain) ++ n ∷ [] ≡ messages_to (Some n)) same refl
next_messages (Some Write) m is = let same : Refill ≡ m = cc in subst (λ n. messages_to (Some Write) ++ n ∷ [] ≡ messages_to (Some n)) same refl
next_messages (Some Refill) m is = let same : Resume ≡ m = cc in subst (λ n. messages_to (Some Refill) ++ n ∷ [] ≡ messages_to (Some n)) same refl
next_messages (Some Resume) m is = cc

pub first_messages : (o : Option Message) → messages_to o ≡ take (length (messages_to o)) all_messages
first_messages None = refl
first_messages (Some Suspend) = refl
first_messages (Some Elect) = refl
first_messages (Some Drain) = refl
first_messages (Some Write) = refl
first_messages (Some Refill) = refl
first_messages (Some Resume) = refl
