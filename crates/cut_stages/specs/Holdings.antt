-- A system that stands for a kernel part while a stage of a checkpoint holds a part of it.
-- Source: DMTCP's agents hold bytes of channels, and its leaders are elected by the owners of descriptions.
--     IsHeldBy s k agents      it stands for the kernel part, where agents hold these bytes, and some owners are
--                              kept
use Rattle.std.specs.Prelude.{Some}
use Rattle.plain_machine.specs.declared.kernel.PlainKernel.{PlainKernel}
use Rattle.wire_net.specs.Whereabouts.{Agents}
use Rattle.host_tables.specs.declared.system.System.{System}
use Rattle.host_tables.specs.Systems.{StandsFor}
use Rattle.leader_vote.specs.Owners.{Owners}

pub record IsHeldBy (s : System) (k : PlainKernel) (agents : Agents) : Type 0 where
  pub owners : Owners
  pub stands : StandsFor s (Some (record { agents = agents; owners = owners })) k
