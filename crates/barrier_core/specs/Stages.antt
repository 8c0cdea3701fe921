-- The stages of a checkpoint in their order, and the messages that send each process from one to the next.
-- Source: J. Ansel, K. Arya, G. Cooperman, "DMTCP: Transparent Checkpointing for Cluster Computations and the
-- Desktop", IPDPS 2009, the stages of its checkpoint algorithm.
--     order s                  a stage's place, from 1
--     depth o                  how many stages lie behind the one that is reached, it included
--     next_stage o, next_message o      the one after this one: the first after none, and none after the last
--     stage_before m           the stage that is released before the message is sent. Suspend is sent at once
--     is_stage s o             it is this stage that was found
--     latest_first             the stages from the last to the first
--     messages_to o            the messages up to this one, in order
use Rattle.std.specs.Prelude.{◌==◌, ℕ, Bool, false, List, [], ◌∷◌, Option, Some, None}
use Rattle.std.specs.Option.{option_map_or}
use Rattle.barrier_core.specs.declared.stage.Stage.{Stage}
use Rattle.barrier_core.specs.declared.stage.Stage.TheVariants.{Suspended, Elected, Drained, Written, Refilled}
use Rattle.barrier_core.specs.declared.stage.Message.{Message}
use Rattle.barrier_core.specs.declared.stage.Message.TheVariants.{Suspend, Elect, Drain, Write, Refill, Resume}

abbrev pub order : Stage → ℕ
order Suspended = 1
order Elected = 2
order Drained = 3
order Written = 4
order Refilled = 5

abbrev pub depth : Option Stage → ℕ
depth None = 0
depth (Some stage) = order stage

abbrev pub next_stage : Option Stage → Option Stage
next_stage None = Some Suspended
next_stage (Some Suspended) = Some Elected
next_stage (Some Elected) = Some Drained
next_stage (Some Drained) = Some Written
next_stage (Some Written) = Some Refilled
next_stage (Some Refilled) = None

abbrev pub next_message : Option Message → Option Message
next_message None = Some Suspend
next_message (Some Suspend) = Some Elect
next_message (Some Elect) = Some Drain
next_message (Some Drain) = Some Write
next_message (Some Write) = Some Refill
next_message (Some Refill) = Some Resume
next_message (Some Resume) = None

abbrev pub stage_before : Message → Option Stage
stage_before Suspend = None
stage_before Elect = Some Suspended
stage_before Drain = Some Elected
stage_before Write = Some Drained
stage_before Refill = Some Written
stage_before Resume = Some Refilled

abbrev pub is_stage : Stage → Option Stage → Bool
is_stage stage found = option_map_or (λ other. order other == order stage) found false

abbrev pub latest_first : List Stage
latest_first = Refilled ∷ Written ∷ Drained ∷ Elected ∷ Suspended ∷ []

abbrev pub all_messages : List Message
all_messages = Suspend ∷ Elect ∷ Drain ∷ Write ∷ Refill ∷ Resume ∷ []

abbrev pub messages_to : Option Message → List Message
messages_to None = []
messages_to (Some Suspend) = Suspend ∷ []
messages_to (Some Elect) = Suspend ∷ Elect ∷ []
messages_to (Some Drain) = Suspend ∷ Elect ∷ Drain ∷ []
messages_to (Some Write) = Suspend ∷ Elect ∷ Drain ∷ Write ∷ []
messages_to (Some Refill) = Suspend ∷ Elect ∷ Drain ∷ Write ∷ Refill ∷ []
messages_to (Some Resume) = all_messages
