-- Lists of notes on directions, and what agents answer.
-- Source: the DMTCP paper (IPDPS 2009), "drain kernel buffers" and "refill kernel buffers".
--     is_agent p named       the agent that is named is p
--     answer_of work moved   what a step answers: whether work is left for the agent, and whether it moved bytes
--     dirs_of, Apart         the directions that are noted;  each of a list is another one
--     has_notes d notes      there are notes on the direction
--     named_agents notes     the directions that are noted, each with those who act for its ends
--     IsFlowing direction    its sender may send and its receiver reads: so it is for both directions of a live channel
--     CanMove m notes        bytes of a noted direction can be moved on
use Rattle.std.specs.Prelude.{◌≡◌, ◌≢◌, ◌==◌, ◌<◌, Bool, true, false, ◌&&◌, List, [], ◌∷◌, length, map as each, Option, Some, None, All, if◌then◌else◌}
use Rattle.std.specs.List.{list_any}
use Rattle.std.specs.Ordering.{eq_by_cmp}
use Rattle.sys_abi.specs.declared.identity.Dir.{Dir}
use Rattle.sys_abi.specs.declared.identity.RealPid.{RealPid}
use Rattle.sys_abi.specs.Orders.{dir_cmp}
use Rattle.wire_net.specs.declared.agents.Stepped.{Stepped}
use Rattle.wire_net.specs.declared.agents.Stepped.TheVariants as answer
use Rattle.wire_net.specs.declared.cut_room.DirNotes.{DirNotes}
use Rattle.wire_channels.specs.declared.place.Place.{Place}
use Rattle.wire_channels.specs.Directions.{Direction}
use Rattle.wire_channels.specs.Channels.{Channels, direction_at}
use Rattle.wire_channels.specs.Answers.{bytes_on}

abbrev pub is_agent : RealPid → Option RealPid → Bool
is_agent p None = false
is_agent p (Some q) = (q.node == p.node) && (q.pid == p.pid)

abbrev pub answer_of : Bool → Bool → Stepped
answer_of work moved = if work then (if moved then answer.Moved else answer.Again) else answer.Finished

abbrev pub Notes : Type 0
Notes = List DirNotes

abbrev pub dirs_of : Notes → List Dir
dirs_of notes = each (λ x. x.dir) notes

abbrev pub Apart : List Dir → Type 0
Apart [] = Unit {0}
Apart (d ∷ ds) = All (λ e. e ≢ d) ds × Apart ds

abbrev pub has_notes : Dir → Notes → Bool
has_notes d notes = list_any (λ x. eq_by_cmp dir_cmp x.dir d) notes

pub record NamedAgents : Type 0 where
  pub dir : Dir
  pub sender : Option RealPid
  pub reader : Option RealPid

abbrev pub agents_in : DirNotes → NamedAgents
agents_in x = record { dir = x.dir; sender = x.sender; reader = x.reader }

abbrev pub named_agents : Notes → List NamedAgents
named_agents notes = each agents_in notes

pub record IsFlowing (direction : Direction) : Type 0 where
  pub goes_on : direction.is_ended ≡ false
  pub is_read : direction.is_unread ≡ false

pub record CanMove (m : Channels) (notes : Notes) : Type 0 where
  pub dir : Dir
  pub place : Place
  pub side : dir.side < 2
  pub noted : has_notes dir notes ≡ true
  pub some : 0 < length (bytes_on place (direction_at m dir))
