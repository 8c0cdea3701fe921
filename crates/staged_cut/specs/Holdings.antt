-- A computation that a checkpoint holds, beside what it was when it ran.
--     IsHeld before held      its processes are suspended and its channels drained, images are made of it as
--                             it was, and one that goes on from there can begin
-- Source: Ansel, Arya, Cooperman, "DMTCP: Transparent Checkpointing for Cluster Computations and the
-- Desktop", 2009.
use Rattle.std.specs.Prelude.{◌≡◌, true}
use Rattle.plain_machine.specs.Kernel.{is_live}
use Rattle.run_start.specs.HandedOn.{Computation}
use Rattle.run_start.specs.Starts.{CanBegin}
use Rattle.staged_cut.specs.Suspended.{AreSuspended}
use Rattle.staged_cut.specs.declared.holding.Held.{Held}

pub record IsHeld (before : Computation) (held : Held) : Type 0 where
  pub suspended : AreSuspended (λ p. is_live before.kernel p ≡ true) held.drained.barrier
  pub drained : held.drained.kernel ≡ before.kernel
  pub kernel : held.start.kernel ≡ before.kernel
  pub guests : held.start.guests ≡ before.guests
  pub can : CanBegin held.start
