-- A cut of which bytes pass on.
--     cut_on             it goes on being one, where frames stay and each direction has its bytes
--     there_before       a direction is there where it was
--     drained_step       a drain goes on after a step of an agent
--     drained_move       and after a move of bytes
use Rattle.std.proofs.Common.{◌≡◌, ◌<◌, ℕ, List, Option, Some, None, refl, sym, ap, subst, ◌∙◌}
use Rattle.std.specs.Prelude.{IsSome, option_map, All}
use Rattle.std.specs.FinMap as map
use Rattle.std.proofs.lemmas.Option.{none-some}
use Rattle.sys_abi.specs.declared.identity.Dir.{Dir}
use Rattle.drain_core.specs.Drains.{Notes, Fits, named_agents}
use Rattle.drain_core.specs.Holding.{agents_of}
use Rattle.plain_machine.specs.declared.kernel.PlainKernel.{PlainKernel}
use Rattle.wire_channels.specs.declared.channel.Channel.{Channel}
use Rattle.wire_channels.specs.declared.place.Place.TheVariants.{Send, Wire}
use Rattle.wire_channels.specs.Channels.{Channels, direction_of, direction_at, at_direction}
use Rattle.wire_channels.specs.Directions.{after_move}
use Rattle.wire_channels.specs.Frames.{frame_of, SameFrames}
use Rattle.wire_net.specs.declared.agents.AgentEnd.{AgentEnd}
use Rattle.wire_net.specs.Networks.{Network}
use Rattle.wire_net.specs.Whereabouts.{Agents, whereabouts}
use Rattle.wire_net.proofs.FramedEnds.{for_framed}
use Rattle.wire_net.proofs.NotedAgents.{noted_named}
use Rattle.wire_net.proofs.Streams.{whereabouts-move}
use Rattle.host_tables.specs.declared.system.System.{System}
use Rattle.leader_vote.specs.Owners.{Owners}
use Rattle.cut_stages.specs.Cuts.{IsCut}
use Rattle.cut_stages.specs.Drains.{IsDraining, pumped}
use Rattle.cut_stages.specs.Rounds.{IsLed}

abbrev pub with_net : System → Network → System
with_net s t = record s { kernel = record s.kernel { net = t } }

abbrev pub on_channels : Network → Channels → Network
on_channels t m = record t { channels = m }

pub there_before : (m m' : Channels) (d : Dir) → SameFrames m m' → IsSome (direction_at m' d) → IsSome
    (direction_at m d)
there_before m m' d same there = by (map.get m d.conn) (map.get m' d.conn) (same d.conn) there
  where
    by : (o q : Option Channel) → option_map frame_of q ≡ option_map frame_of o
        → IsSome (option_map (direction_of d.side) q) → IsSome (option_map (direction_of d.side) o)
    by None None alike is = is
    by None (Some y) alike is = absurd (none-some (frame_of y) (sym alike))
    by (Some x) q alike is = refl

module _ (s : System) (next_id : ℕ) (k : PlainKernel) (owners : Owners) (agents : Agents)
    (cut : IsCut s next_id k owners agents) (t : Network) (agents' : Agents)
    (net_is : t ≡ on_channels s.kernel.net t.channels) (frames : SameFrames s.kernel.net.channels t.channels)
    (kept : (d : Dir) → d.side < 2 → whereabouts t agents' d ≡ whereabouts s.kernel.net agents d) where
  before_net : t ≡ on_channels cut.before.kernel.net t.channels
  before_net = net_is ∙ ap (λ (x : System). on_channels x.kernel.net t.channels) cut.rest

  pub cut_on : IsCut (with_net s t) next_id k owners agents'
  cut_on = record {
    before = cut.before;
    wrapped = cut.wrapped;
    plain = cut.plain;
    kept = cut.kept;
    book = cut.book;
    frames = λ id. frames id ∙ cut.frames id;
    bytes = λ d below. kept d below ∙ cut.bytes d below;
    rest = ap (λ (x : System). with_net x t) cut.rest
        ∙ ap (λ n. record cut.before {
          kernel = record cut.before.kernel { book = s.kernel.book; net = n };
        }) before_net;
  }

module _ (s : System) (next_id : ℕ) (k : PlainKernel) (owners : Owners) (ends : List AgentEnd) (notes : Notes)
    (is : IsDraining s next_id k owners ends notes) where
  pub drained_step : (t : Network) (notes' : Notes) → t ≡ on_channels s.kernel.net t.channels
      → SameFrames s.kernel.net.channels t.channels → Fits t.channels notes' → named_agents notes' ≡
      named_agents notes
      → ((d : Dir) → d.side < 2 → whereabouts t (agents_of notes') d ≡ whereabouts s.kernel.net (agents_of
      notes) d)
      → IsDraining (with_net s t) next_id k owners ends notes'
  drained_step t notes' net_is frames fits named kept = record {
    cut = cut_on s next_id k owners (agents_of notes) is.cut t (agents_of notes') net_is frames kept;
    fits = fits;
    agents = for_framed s.kernel.net.channels t.channels ends frames is.agents;
    noted = λ d below there.
        noted_named d notes' notes named
        ∙ is.noted d below (there_before s.kernel.net.channels t.channels d frames there);
    led = subst (All (IsLed ends)) (sym named) is.led;
    alive = is.alive;
  }

  pub drained_move : (d : Dir) (n : ℕ) → SameFrames s.kernel.net.channels (pumped d n s.kernel.net).channels
      → Fits (pumped d n s.kernel.net).channels notes
      → IsDraining (with_net s (pumped d n s.kernel.net)) next_id k owners ends notes
  drained_move d n frames fits =
      drained_step (pumped d n s.kernel.net) notes refl frames fits refl
      (λ e below. whereabouts-move (on_channels s.kernel.net (at_direction s.kernel.net.channels d
      (after_move Send n)))
      (agents_of notes) d e Wire n
      ∙ whereabouts-move s.kernel.net (agents_of notes) d e Send n)
