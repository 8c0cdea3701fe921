-- A barrier at which all are suspended.
--     AreSuspended Lives b      those that live, and no others, are the members of an open request, and each
--                               has reached Suspended and nothing else; so that stage is released, where
--                               anybody lives
-- Source: DMTCP, whose coordinator releases a stage once every process has reached it.
use Rattle.std.specs.Prelude.{◌≡◌, true, Some, IsSome}
use Rattle.std.specs.FinMap as map
use Rattle.sys_abi.specs.declared.identity.VPid.{VPid}
use Rattle.barrier_core.specs.declared.stage.Stage.TheVariants.{Suspended}
use Rattle.barrier_core.specs.Members.{fresh, with_reached}
use Rattle.barrier_core.specs.Barriers.{BarrierState, released}

pub record AreSuspended (Lives : VPid → Type 0) (b : BarrierState) : Type 0 where
  pub asked : b.is_open ≡ true
  pub each : (p : VPid) → Lives p → map.get b.members p ≡ Some (with_reached Suspended fresh)
  pub no_other : (p : VPid) → IsSome (map.get b.members p) → Lives p
  pub passed : (p : VPid) → Lives p → released b ≡ Some Suspended
