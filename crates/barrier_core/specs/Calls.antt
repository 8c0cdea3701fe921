-- The calls that were made on a barrier, the latest first, and what they tell of it without its state.
--     Call                      a call with its arguments
--     IsAllowed limit b call    the condition of the call is met, where there is room for so many members
--     after b call, state_after calls       what one call leaves, and what all of them leave of a barrier at rest
--     belongs p calls           p lived at the request or joined since, and has not left
--     messages p calls          the messages that p took since it belongs to the request, in the order in which it took them
--     last_taken                the last message of a member, if there is one
use Rattle.std.specs.Prelude.{◌≡◌, ◌==◌, ◌<◌, ◌≤◌, ℕ, Bool, true, false, not, ◌&&◌, ◌||◌, List, [], ◌∷◌, ◌++◌, length, Option, Some, None, option_and_then, if◌then◌else◌}
use Rattle.std.specs.Option.{option_to_list}
use Rattle.std.specs.List.{list_any}
use Rattle.std.specs.FinMap as map
use Rattle.sys_abi.specs.declared.identity.VPid.{VPid}
use Rattle.barrier_core.specs.declared.stage.Stage.{Stage}
use Rattle.barrier_core.specs.declared.stage.Stage.TheVariants.{Suspended}
use Rattle.barrier_core.specs.declared.stage.Message.{Message}
use Rattle.barrier_core.specs.declared.member.Member.{Member}
use Rattle.barrier_core.specs.Barriers.{BarrierState, at_rest, waited, due, after_ask, after_reached, after_joined, after_left, after_take, IsClosable}

pub data Call : Type 0 where
  Ask : (live : List VPid) → Call
  Reach : (p : VPid) → (stage : Stage) → Call
  Join : (p : VPid) → Call
  Leave : (p : VPid) → Call
  Take : (p : VPid) → Call
  Close : Call

abbrev pub IsAllowed : ℕ → BarrierState → Call → Type 0
IsAllowed limit b (Ask live) = length live ≤ limit
IsAllowed limit b (Join p) = (waited b ≡ Some Suspended) × (map.get b.members p ≡ None) × (map.len b.members < limit)
IsAllowed limit b Close = IsClosable b
IsAllowed limit b _ = Unit {0}

abbrev pub after : BarrierState → Call → BarrierState
after b (Ask live) = after_ask b live
after b (Reach p stage) = after_reached b p stage
after b (Join p) = after_joined b p
after b (Leave p) = after_left b p
after b (Take p) = after_take b p
after b Close = at_rest

abbrev pub state_after : List Call → BarrierState
state_after [] = at_rest
state_after (call ∷ earlier) = after (state_after earlier) call

abbrev pub AreAllowed : ℕ → List Call → Type 0
AreAllowed limit [] = Unit {0}
AreAllowed limit (call ∷ earlier) = AreAllowed limit earlier × IsAllowed limit (state_after earlier) call

-- whether a request is open
abbrev pub is_asked : List Call → Bool
is_asked [] = false
is_asked (Ask live ∷ earlier) = true
is_asked (Close ∷ earlier) = false
is_asked (_ ∷ earlier) = is_asked earlier

abbrev pub is_at : VPid → VPid → Bool
is_at p q = p.0 == q.0

abbrev pub belongs : VPid → List Call → Bool
belongs p [] = false
belongs p (Ask live ∷ earlier) = if is_asked earlier then belongs p earlier else list_any (is_at p) live
belongs p (Join q ∷ earlier) = is_at p q || belongs p earlier
belongs p (Leave q ∷ earlier) = not (is_at p q) && belongs p earlier
belongs p (Close ∷ earlier) = false
belongs p (_ ∷ earlier) = belongs p earlier

abbrev pub messages : VPid → List Call → List Message
messages p [] = []
messages p (Ask live ∷ earlier) = if is_asked earlier then messages p earlier else []
messages p (Join q ∷ earlier) = if is_at p q then [] else messages p earlier
messages p (Leave q ∷ earlier) = if is_at p q then [] else messages p earlier
messages p (Take q ∷ earlier) = if is_at p q then messages p earlier ++ option_to_list (due (state_after earlier) p) else messages p earlier
messages p (Close ∷ earlier) = []
messages p (_ ∷ earlier) = messages p earlier

abbrev pub last_taken : Option Member → Option Message
last_taken member = option_and_then (λ m. m.taken) member
