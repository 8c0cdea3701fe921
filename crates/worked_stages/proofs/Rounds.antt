-- What a drain and a refill keep in a round.
--     ticks_keep             what each move keeps, the wire's moves between two processes keep
--     drain_step, drain_tick     a drain under way goes on so after an agent's step, and after the wire's moves
--     refill_tick            the notes of a refill fit the network after the wire's moves
use Rattle.std.proofs.Common.{◌≡◌, ℕ, ◌<◌, List, sym, subst, ◌∙◌}
use Rattle.sys_abi.specs.declared.identity.Dir.{Dir}
use Rattle.wire_net.specs.declared.agents.AgentEnd.{AgentEnd}
use Rattle.wire_channels.specs.declared.place.Place.{Place}
use Rattle.wire_channels.specs.declared.place.Place.TheVariants.{Send, Wire}
use Rattle.wire_channels.specs.Channels.{Channels}
use Rattle.wire_channels.specs.Directions.{after_move}
use Rattle.wire_channels.specs.Frames.{SameFrames}
use Rattle.wire_net.specs.Networks.{Network}
use Rattle.wire_net.specs.Noted.{Notes, named_agents}
use Rattle.wire_channels.proofs.KeptFrames.{frames_kept, moves_keep, direction_framed}
use Rattle.wire_net.proofs.FramedEnds.{for_framed}
use Rattle.wire_net.proofs.NotedAgents.{noted_named}
use Rattle.drain_core.specs.Drains as drains
use Rattle.drain_core.specs.Laws as drain_laws
use Rattle.refill_core.specs.Laws as refill_laws
use Rattle.refill_core.specs.Refills as refills
use Rattle.worked_stages.specs.Handed.{IsDraining}
use Rattle.worked_stages.specs.Ticks.{moved, ticked}

pub ticks_keep : (P : Network → Type 0) → ((t : Network) (d : Dir) (place : Place) (n : ℕ) → d.side < 2 → P t → P (moved d place n t)) → (first second : Dir) → first.side < 2 → second.side < 2
    → (t u : Network) → u ≡ ticked first second t → P t → P u
ticks_keep P keep first second few less t u is holds =
    subst P (sym is) (keep _ second Wire 9 less (keep _ second Send 9 less (keep _ first Wire 9 few (keep t first Send 9 few holds))))

drain_moved : drain_laws.MoveFits → (ends : List AgentEnd) (notes : Notes) (t : Network) (d : Dir) (place : Place) (n : ℕ) → d.side < 2 → IsDraining t.channels ends notes → IsDraining (moved d place n t).channels ends notes
drain_moved fits ends notes t d place n side is =
    let same = frames_kept t.channels d (after_move place n) (moves_keep place n) in record {
      fits = fits t.channels notes d place n side is.fits;
      for = for_framed t.channels (moved d place n t).channels ends same is.for;
      noted = λ e few at. is.noted e few (sym (direction_framed t.channels (moved d place n t).channels e same) ∙ at);
    }

pub drain_tick : drain_laws.MoveFits → (ends : List AgentEnd) (notes : Notes) (first second : Dir) → first.side < 2 → second.side < 2 → (t u : Network) → u ≡ ticked first second t → IsDraining t.channels ends notes
    → IsDraining u.channels ends notes
drain_tick fits ends notes = ticks_keep (λ t. IsDraining t.channels ends notes) (drain_moved fits ends notes)

pub drain_step : (ends : List AgentEnd) (m n : Channels) (before now : Notes) → drains.Fits n now → named_agents now ≡ named_agents before → SameFrames m n → IsDraining m ends before → IsDraining n ends now
drain_step ends m n before now fit agents frame under = record {
  fits = fit;
  for = for_framed m n ends frame under.for;
  noted = λ d side at. noted_named d now before agents ∙ under.noted d side (sym (direction_framed m n d frame) ∙ at);
}

pub refill_tick : refill_laws.MoveFits → (notes : Notes) (first second : Dir) → first.side < 2 → second.side < 2 → (t u : Network) → u ≡ ticked first second t → refills.Fits t.channels notes → refills.Fits u.channels notes
refill_tick law notes = ticks_keep (λ t. refills.Fits t.channels notes) (λ t d place n side fits. law t.channels notes d place n side fits)
