-- What is seen of a drain.
--     seen_less         after a move it is the same, or has less left to do
--     live_goes_on      a live process goes on with it
use Rattle.std.proofs.Common.{◌≡◌, ◌<◌, ◌⊎◌, List, Option, inl, inr, ap, ◌∙◌}
use Rattle.std.specs.Prelude.{All}
use Rattle.std.specs.Option.{option_map_or}
use Rattle.sys_abi.specs.declared.identity.RealPid.{RealPid}
use Rattle.drain_core.specs.Drains.{step_answer}
use Rattle.drain_core.specs.Work.{work_left, GoesOn}
use Rattle.wire_net.specs.declared.agents.AgentEnd.{AgentEnd}
use Rattle.wire_net.specs.declared.agents.Stepped.TheVariants.{Finished}
use Rattle.wire_net.specs.Networks.{Network}
use Rattle.cut_stages.specs.Rounds.{AreLed, IsAlive}
use Rattle.cut_stages.proofs.Led.{drain_movers}
use Rattle.cut_stages.proofs.Rounds.{alive_among}
use Rattle.ckpt_stages.specs.Elections.{Draining, LiveGoesOn}

pub seen_less : (v : Draining) (u : Network)
    → (u ≡ v.net) ⊎ (work_left u.channels v.notes < work_left v.net.channels v.notes)
    → (record v { net = u } ≡ v) ⊎ (work_left u.channels v.notes < work_left v.net.channels v.notes)
seen_less v u (inl same) = inl (ap (λ (n : Network). record v { net = n }) same)
seen_less v u (inr less) = inr less

pub live_goes_on : (v : Draining) (ends : List AgentEnd) → AreLed ends v.notes
    → All (IsAlive v.kernel v.pids) ends → GoesOn v.net.channels v.notes → LiveGoesOn v
live_goes_on v ends led alive (inl moves) =
    let one = alive_among v.kernel v.pids moves.0 ends alive (drain_movers ends v.net.channels v.notes led
    moves.0 moves.1) in
    inl (
      one.0,
      (
        one.1.0,
        ap (λ (o : Option RealPid). option_map_or (λ (r : RealPid). step_answer r v.net.channels v.notes) o
            Finished) one.1.1
            ∙ moves.1,
      ),
    )
live_goes_on v ends led alive (inr can) = inr can
