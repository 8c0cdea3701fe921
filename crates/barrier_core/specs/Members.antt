-- The members of a request by their numbers, and how far each has come.
--     fresh                     a member that has reached no stage and taken no message
--     has_reached s m           the member has reached the stage
--     all_reached ms s          every member has
--     latest_reached ms         the greatest stage that all of them have reached. None have where there is none
--     due_message r m           the next message to a member, where r is the stage that is released
--     with_reached, with_taken  a member that has reached a stage, taken a message
--     changed ms p f            the members with what f makes of the one at p, if it is there
--     asked live                the members at the asking: those that live, each once
use Rattle.std.specs.Prelude.{◌==◌, nat_le, Bool, List, map as each, find, Option, Some, None, if◌then◌else◌}
use Rattle.std.specs.Option.{option_map_or}
use Rattle.std.specs.List.{list_all}
use Rattle.std.specs.FinMap as map
use Rattle.views.specs.Maps.{option_filter}
use Rattle.sys_abi.specs.declared.identity.VPid.{VPid}
use Rattle.sys_abi.specs.Orders.{vpid_cmp}
use Rattle.barrier_core.specs.declared.stage.Stage.{Stage}
use Rattle.barrier_core.specs.declared.stage.Message.{Message}
use Rattle.barrier_core.specs.declared.member.Member.{Member}
use Rattle.barrier_core.specs.Stages.{order, depth, next_message, stage_before, latest_first}

abbrev pub Members : Type 0
Members = map.FinMap vpid_cmp Member

abbrev pub fresh : Member
fresh = record { reached = None; taken = None }

abbrev pub has_reached : Stage → Member → Bool
has_reached stage member = nat_le (order stage) (depth member.reached)

unfoldable pub all_reached : Members → Stage → Bool
all_reached members stage = list_all (has_reached stage) (map.values members)

abbrev pub latest_reached : Members → Option Stage
latest_reached members = if map.len members == 0 then None else find (all_reached members) latest_first

abbrev pub is_due : Option Stage → Message → Bool
is_due released message = nat_le (depth (stage_before message)) (depth released)

abbrev pub due_message : Option Stage → Member → Option Message
due_message released member = option_filter (is_due released) (next_message member.taken)

abbrev pub with_reached : Stage → Member → Member
with_reached stage member = record { reached = Some stage; taken = member.taken }

abbrev pub with_taken : Message → Member → Member
with_taken message member = record { reached = member.reached; taken = Some message }

abbrev pub changed_to : Members → VPid → (Member → Member) → Option Member → Members
changed_to members p change found = option_map_or (λ member. map.insert members p (change member)) found members

abbrev pub changed : Members → VPid → (Member → Member) → Members
changed members p change = changed_to members p change (map.get members p)

abbrev pub asked : List VPid → Members
asked live = map.from_entries (each (λ p. (p, fresh)) live)
