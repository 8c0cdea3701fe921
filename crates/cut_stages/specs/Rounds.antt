-- Rounds in which each agent makes one step and the bytes of each direction pass on, until nothing is left.
-- Source: DMTCP's stages "drain kernel buffers" and "refill kernel buffers".
--     acts_among p ends      the process acts for an end that is listed
--     AreLed ends notes      all who act for directions that are noted act for ends that are listed
--     Task                   what agents do in a stage: how their notes fit the network, what they hold, what
--                            is left to do, and what a step answers
--     IsGoing task s         the notes fit, and there are some on each direction
--     AreActing ends s       the ends have agents, and all agents are theirs
--     IsFurther task s s'    of the system s, with bytes moved on
--     IsIdle, IsQuiet        who acts for an end can move nothing;  nothing is on its way on a direction
--     IsStill task s e       both, of an end
--     IsIdleAfter            who acts for an end is idle, if all ends before it are still
--     IsStillAfter           an end is still, if all ends before it are
--     IsAlive k pids e       who acts for an end is a live process
--     Passed task Idle s s'  nothing changed and it is so, or less is left to do
use Rattle.std.specs.Prelude.{◌≡◌, ◌≢◌, ◌<◌, ◌⊎◌, ℕ, Bool, true, List, length, Option, Some, IsSome, IfSome, All}
use Rattle.std.specs.List.{list_any}
use Rattle.std.specs.FinMap as map
use Rattle.sys_abi.specs.declared.identity.Dir.{Dir}
use Rattle.sys_abi.specs.declared.identity.RealPid.{RealPid}
use Rattle.sys_abi.specs.declared.identity.VPid.{VPid}
use Rattle.plain_machine.specs.declared.kernel.PlainKernel.{PlainKernel}
use Rattle.plain_machine.specs.Kernel.{is_live}
use Rattle.wire_channels.specs.declared.place.Place.{Place}
use Rattle.wire_channels.specs.Answers.{bytes_on}
use Rattle.wire_channels.specs.Channels.{Channels, direction_at}
use Rattle.wire_channels.specs.Frames.{SameFrames}
use Rattle.wire_net.specs.declared.agents.AgentEnd.{AgentEnd}
use Rattle.wire_net.specs.declared.agents.Stepped.{Stepped}
use Rattle.wire_net.specs.declared.agents.Stepped.TheVariants.{Moved}
use Rattle.wire_net.specs.Ends.{IsFor}
use Rattle.wire_net.specs.Networks.{Network}
use Rattle.wire_net.specs.Noted.{Notes, NamedAgents, CanMove, is_agent, has_notes, named_agents}
use Rattle.wire_net.specs.Runs.{UnderWay}
use Rattle.wire_net.specs.Whereabouts.{Agents, whereabouts}
use Rattle.host_tables.specs.Numbers.{Pids}
use Rattle.leader_vote.specs.Agents.{place_of}

abbrev pub acts_among : RealPid → List AgentEnd → Bool
acts_among p ends = list_any (λ (e : AgentEnd). is_agent p e.agent) ends

pub record IsLed (ends : List AgentEnd) (x : NamedAgents) : Type 0 where
  pub sends : (p : RealPid) → is_agent p x.sender ≡ true → acts_among p ends ≡ true
  pub reads : (p : RealPid) → is_agent p x.reader ≡ true → acts_among p ends ≡ true

abbrev pub AreLed : List AgentEnd → Notes → Type 0
AreLed ends notes = All (IsLed ends) (named_agents notes)

-- it has that real number
abbrev pub IsAlive : PlainKernel → Pids → AgentEnd → Type 0
IsAlive k pids e =
    IfSome e.agent (λ (r : RealPid). (p : VPid) × ((is_live k p ≡ true) × (map.get pids p.0 ≡ Some r)))

pub record Task : Type 1 where
  pub fitting : Channels → Notes → Type 0
  pub held : Notes → Agents
  pub work : Channels → Notes → ℕ
  pub answer : RealPid → Channels → Notes → Stepped

abbrev pub under_way : Network → Notes → UnderWay
under_way net notes = record { net = net; notes = notes }

pub record IsGoing (task : Task) (s : UnderWay) : Type 0 where
  pub fits : task.fitting s.net.channels s.notes
  pub noted : (d : Dir) → d.side < 2 → IsSome (direction_at s.net.channels d) → has_notes d s.notes ≡ true

pub record AreActing (ends : List AgentEnd) (s : UnderWay) : Type 0 where
  pub agents : IsFor s.net.channels ends
  pub led : AreLed ends s.notes

pub record IsFurther (task : Task) (s t : UnderWay) : Type 0 where
  pub net : t.net ≡ record s.net { channels = t.net.channels }
  pub fits : task.fitting t.net.channels t.notes
  pub agents : named_agents t.notes ≡ named_agents s.notes
  pub frame : SameFrames s.net.channels t.net.channels
  -- the bytes of each direction are the same, wherever they are
  pub kept : (d : Dir) → d.side < 2
      → whereabouts t.net (task.held t.notes) d ≡ whereabouts s.net (task.held s.notes) d

abbrev pub IsIdle : Task → UnderWay → Option RealPid → Type 0
IsIdle task s agent = (p : RealPid) → agent ≡ Some p → task.answer p s.net.channels s.notes ≢ Moved

abbrev pub IsQuiet : UnderWay → Dir → Type 0
IsQuiet s d =
    d.side < 2 → (place : Place) → length (bytes_on place (direction_at s.net.channels d)) ≡ 0

pub record IsStill (task : Task) (s : UnderWay) (e : AgentEnd) : Type 0 where
  pub idle : IsIdle task s e.agent
  pub quiet : IsQuiet s (place_of e)

abbrev pub IsIdleAfter : Task → UnderWay → List AgentEnd → Option RealPid → Type 0
IsIdleAfter task s before agent = All (IsStill task s) before → IsIdle task s agent

abbrev pub IsStillAfter : Task → UnderWay → List AgentEnd → AgentEnd → Type 0
IsStillAfter task s before e = All (IsStill task s) before → IsStill task s e

abbrev pub Passed : Task → Type 0 → UnderWay → UnderWay → Type 0
Passed task Idle s t =
    ((t ≡ s) × Idle) ⊎ (task.work t.net.channels t.notes < task.work s.net.channels s.notes)

-- somebody goes on
abbrev pub SomeGoesOn : Task → UnderWay → Type 0
SomeGoesOn task s =
    ((p : RealPid) × (task.answer p s.net.channels s.notes ≡ Moved)) ⊎ CanMove s.net.channels s.notes
