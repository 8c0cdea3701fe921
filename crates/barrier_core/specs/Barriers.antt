-- The barrier that all processes of a checkpoint keep: who belongs to the open request, and how far each has
-- come.
-- Source: DMTCP (`Stages` names where), whose coordinator releases each of its global barriers once every
-- process has reached it.
--     BarrierState              what a contract sees of a barrier
--     released b                the greatest stage that all members have reached, of an open request that has members
--     waited b                  the stage after it, which the members are still to reach
--     awaits b p s              p is a member that is still to reach s, and s is the stage waited for
--     due b p                   the next message to p, once it is due
--     after_..                  what each call leaves
--     IsPast s m                a member is past a stage: it has reached a later one, or taken a message that is sent once the stage is released
--     IsInStep b                the barrier law
--     IsReleased b s, IsHeldUp b      what it is that a stage is released, and that none is
--     IsOutOfPlace b p s, HasNoneDue b p      when a stage is not noted, and when there is no message
--     IsClosable b              when a request may end
use Rattle.std.specs.Prelude.{◌≡◌, ◌<◌, ◌≤◌, ◌≢◌, ℕ, Bool, true, false, not, ◌&&◌, List, Option, Some, None, if◌then◌else◌, option_and_then, ◌⊎◌, refl}
use Rattle.std.specs.Option.{option_map_or}
use Rattle.std.specs.FinMap as map
use Rattle.std.specs.Coded.{Coded, code_by, coded×, coded_bool}
use Rattle.sys_abi.specs.declared.identity.VPid.{VPid}
use Rattle.sys_abi.specs.Orders.{coded_vpid}
use Rattle.barrier_core.specs.contracts.member.Member as member
use Rattle.barrier_core.specs.declared.stage.Stage.{Stage}
use Rattle.barrier_core.specs.declared.stage.Stage.TheVariants.{Suspended, Refilled}
use Rattle.barrier_core.specs.declared.stage.Message.{Message}
use Rattle.barrier_core.specs.declared.member.Member.{Member}
use Rattle.barrier_core.specs.Stages.{order, depth, next_stage, next_message, stage_before, is_stage}
use Rattle.barrier_core.specs.Members.{Members, fresh, has_reached, latest_reached, due_message, with_reached, with_taken, changed, asked}

pub record BarrierState : Type 0 where
  pub is_open : Bool
  pub members : Members

-- stored as the pair of its fields
abbrev pub coded_state : Coded BarrierState
coded_state =
    code_by
    (Bool × Members)
    (coded× coded_bool (map.code coded_vpid member.the_row.coded))
    (λ b. (b.is_open, b.members))
    (λ p. record { is_open = p.0; members = p.1 })
    (λ _. refl)

-- no request, and nobody in it
abbrev pub at_rest : BarrierState
at_rest = record { is_open = false; members = map.empty }

unfoldable pub released : BarrierState → Option Stage
released b = if b.is_open then latest_reached b.members else None

unfoldable pub waited : BarrierState → Option Stage
waited b = if b.is_open then next_stage (released b) else None

unfoldable pub awaits : BarrierState → VPid → Stage → Bool
awaits b p stage = option_map_or (λ m. is_stage stage (waited b) && not (has_reached stage m)) (map.get b.members p) false

unfoldable pub due : BarrierState → VPid → Option Message
due b p = option_and_then (due_message (released b)) (map.get b.members p)

-- what each call leaves
abbrev pub with_members : BarrierState → Members → BarrierState
with_members b members = record { is_open = b.is_open; members = members }

abbrev pub after_ask : BarrierState → List VPid → BarrierState
after_ask b live = if b.is_open then b else record { is_open = true; members = asked live }

abbrev pub after_reached : BarrierState → VPid → Stage → BarrierState
after_reached b p stage = if awaits b p stage then with_members b (changed b.members p (with_reached stage)) else b

abbrev pub after_joined : BarrierState → VPid → BarrierState
after_joined b p = with_members b (map.insert b.members p fresh)

abbrev pub after_left : BarrierState → VPid → BarrierState
after_left b p = with_members b (map.remove b.members p)

abbrev pub after_message : BarrierState → VPid → Option Message → BarrierState
after_message b p taken = option_map_or (λ message. with_members b (changed b.members p (with_taken message))) taken b

abbrev pub after_take : BarrierState → VPid → BarrierState
after_take b p = after_message b p (due b p)

-- the barrier law
abbrev pub AllReached : Members → Stage → Type 0
AllReached members stage = (q : VPid) (m : Member) → map.get members q ≡ Some m → has_reached stage m ≡ true

abbrev pub IsPast : Stage → Member → Type 0
IsPast stage m = (order stage < depth m.reached) ⊎ (order stage ≤ depth (option_and_then stage_before m.taken))

pub record IsInStep (b : BarrierState) : Type 0 where
  -- a stage is released only where every member has reached it
  pub released_by_all : (stage : Stage) → released b ≡ Some stage → AllReached b.members stage
  -- no member is past a stage that another has not reached
  pub none_past : (p : VPid) (m : Member) (stage : Stage) → map.get b.members p ≡ Some m → IsPast stage m → AllReached b.members stage

-- what every barrier keeps, with the number of members that there is room for
pub record IsLawful (limit : ℕ) (b : BarrierState) : Type 0 where
  pub in_step : IsInStep b
  pub few : map.len b.members ≤ limit
  pub nobody : b.is_open ≡ false → b.members ≡ map.empty

-- the greatest stage that all members have reached
pub record IsReleased (b : BarrierState) (stage : Stage) : Type 0 where
  pub asked : b.is_open ≡ true
  pub somebody : b.members ≢ map.empty
  pub reached : AllReached b.members stage
  pub greatest : (later : Stage) → AllReached b.members later → order later ≤ order stage

-- a member that is still to reach Suspended
abbrev pub IsWaitedFor : BarrierState → VPid → Type 0
IsWaitedFor b p = (m : Member) × (map.get b.members p ≡ Some m) × (has_reached Suspended m ≡ false)

-- no request is open, no member is left, or not all have reached Suspended
abbrev pub IsHeldUp : BarrierState → Type 0
IsHeldUp b = (b.is_open ≡ false) ⊎ ((b.members ≡ map.empty) ⊎ ((p : VPid) × IsWaitedFor b p))

-- p does not belong to the request, the stage is not the one waited for, or p has reached it
abbrev pub IsOutOfPlace : BarrierState → VPid → Stage → Type 0
IsOutOfPlace b p stage = (map.get b.members p ≡ None) ⊎ ((waited b ≢ Some stage) ⊎ ((m : Member) × (map.get b.members p ≡ Some m) × (has_reached stage m ≡ true)))

-- a member has taken each message that is due by now
abbrev pub IsToldAll : BarrierState → Member → Type 0
IsToldAll b m = (message : Message) → next_message m.taken ≡ Some message → depth (released b) < depth (stage_before message)

-- p is no member, or has taken each message that is due
abbrev pub HasNoneDue : BarrierState → VPid → Type 0
HasNoneDue b p = (map.get b.members p ≡ None) ⊎ ((m : Member) × (map.get b.members p ≡ Some m) × IsToldAll b m)

-- when a request may end
abbrev pub IsClosable : BarrierState → Type 0
IsClosable b = (released b ≡ Some Refilled) ⊎ ((b.members ≡ map.empty) ⊎ (released b ≡ Some Suspended))
