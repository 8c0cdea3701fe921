-- Whose the agents are that go on.
--     drain_led, refill_led              of a drain, or a refill, that begins, they are those of listed ends
--     drain_movers, refill_movers        so are all that move bytes
use Rattle.std.proofs.Common.{◌≡◌, ◌-◌, ◌⊎◌, ◌∙◌, ℕ, Bool, true, false, cond, ◌&&◌, ◌||◌, List, [], ◌∷◌, Option, Some, None, inl, inr, refl, sym, ap}
use Rattle.std.specs.Prelude.{option_and_then}
use Rattle.std.specs.List.{list_any}
use Rattle.std.proofs.lemmas.List.Elements.{All-nil, All-cons, All-head, All-tail}
use Rattle.views.proofs.MapLaws.{true_false}
use Rattle.sys_abi.specs.declared.identity.ConnId.{ConnId}
use Rattle.sys_abi.specs.declared.identity.RealPid.{RealPid}
use Rattle.drain_core.specs.Drains as drains
use Rattle.drain_core.specs.Openings as openings
use Rattle.refill_core.specs.Beginnings as beginnings
use Rattle.refill_core.specs.Work as refills
use Rattle.wire_channels.specs.Channels.{Channels, is_live_at}
use Rattle.wire_net.specs.declared.agents.AgentEnd.{AgentEnd}
use Rattle.wire_net.specs.declared.agents.Stepped.{Stepped}
use Rattle.wire_net.specs.declared.agents.Stepped.TheVariants as answer
use Rattle.wire_net.specs.declared.cut_room.DirBytes.{DirBytes}
use Rattle.wire_net.specs.declared.cut_room.DirNotes.{DirNotes}
use Rattle.wire_net.specs.CutRooms.{Named, new_notes}
use Rattle.wire_net.specs.DrainedNets.{list_on}
use Rattle.wire_net.specs.Ends.{is_end_at, end_of, agent_of}
use Rattle.wire_net.specs.Noted.{Notes, agents_in, named_agents, is_agent, answer_of}
use Rattle.cut_stages.specs.Rounds.{acts_among, IsLed, AreLed}

abbrev is_moved : Stepped → Bool
is_moved answer.Moved = true
is_moved answer.Finished = false
is_moved answer.Again = false

-- who moves bytes had work left
answered : (work moved : Bool) → answer_of work moved ≡ answer.Moved → work ≡ true
answered true moved is = refl
answered false moved is = true_false (sym (ap is_moved is))

either_acts : (a reads b sends : Bool) → ((a && reads) || (b && sends)) ≡ true → (a ≡ true) ⊎ (b ≡ true)
either_acts true reads b sends is = inl refl
either_acts false reads true sends is = inr refl
either_acts false reads false sends is = true_false (sym is)

first_true : (a b : Bool) → (a && b) ≡ true → a ≡ true
first_true true b is = refl
first_true false b is = true_false (sym is)

module _ (ends : List AgentEnd) where
  -- who acts for one end acts for one of them
  one_among : (p : RealPid) (id : ConnId) (side : ℕ) (some : List AgentEnd)
      → is_agent p (agent_of some id side) ≡ true → acts_among p some ≡ true
  one_among p id side [] is = true_false (sym is)
  one_among p id side (e ∷ some) is =
      by (one_among p id side some) (is_end_at id side e) (is_agent p e.agent) refl is
    where
      further : (b : Bool) → acts_among p some ≡ true → (b || acts_among p some) ≡ true
      further true there = refl
      further false there = there

      by : (is_agent p (agent_of some id side) ≡ true → acts_among p some ≡ true)
          → (here acts : Bool) → is_agent p e.agent ≡ acts
          → is_agent p (option_and_then (λ (x : AgentEnd). x.agent) (cond here (Some e) (end_of some id side)))
          ≡ true
          → (acts || acts_among p some) ≡ true
      by rest true true at its = refl
      by rest true false at its = true_false (sym its ∙ at)
      by rest false acts at its = further acts (rest its)

  among_if : (p : RealPid) (id : ConnId) (side : ℕ) (b : Bool)
      → is_agent p (cond b (agent_of ends id side) None) ≡ true → acts_among p ends ≡ true
  among_if p id side true is = one_among p id side ends is
  among_if p id side false is = true_false (sym is)

  pub drain_led : (m : Channels) (lengths : List Named) → AreLed ends (openings.begun m ends lengths)
  drain_led m [] = All-nil (IsLed ends)
  drain_led m (named ∷ lengths) =
      All-cons (IsLed ends) (agents_in (openings.opened m ends (new_notes named)))
      (named_agents (openings.begun m ends lengths))
      (record {
        sends = λ p is. among_if p named.0.conn named.0.side (is_live_at m named.0.conn) is;
        reads = λ p is. among_if p named.0.conn (1 - named.0.side) (is_live_at m named.0.conn) is;
      })
      (drain_led m lengths)

  nobody_led : (x : DirNotes) → x.sender ≡ None → x.reader ≡ None → IsLed ends (agents_in x)
  nobody_led x sender reader = record {
    sends = λ p is. true_false (sym is ∙ ap (is_agent p) sender);
    reads = λ p is. true_false (sym is ∙ ap (is_agent p) reader);
  }

  list_led : (named : Named) (found : Option DirBytes)
      → IsLed ends (agents_in (beginnings.begun_on ends named found))
  list_led named None = nobody_led (beginnings.cleared named) refl refl
  list_led named (Some list) =
      elim list.in_place as (λ b. IsLed ends (agents_in (cond b (beginnings.cleared named)
      (beginnings.with_list ends list.bytes (beginnings.cleared named))))) [
        | true ↦ nobody_led (beginnings.cleared named) refl refl
        | false ↦ record {
          sends = λ p is. one_among p named.0.conn named.0.side ends is;
          reads = λ p is. true_false (sym is);
        }
      ]

  pub refill_led : (lists : List DirBytes) (lengths : List Named)
      → AreLed ends (beginnings.begun lists ends lengths)
  refill_led lists [] = All-nil (IsLed ends)
  refill_led lists (named ∷ lengths) =
      All-cons (IsLed ends) (agents_in (beginnings.begun_on ends named (list_on named.0 lists)))
      (named_agents (beginnings.begun lists ends lengths)) (list_led named (list_on named.0 lists))
      (refill_led lists lengths)

  -- of notes of which some pass a test that asks for an agent
  some_led : (p : RealPid) (test : DirNotes → Bool)
      → ((x : DirNotes) → test x ≡ true → IsLed ends (agents_in x) → acts_among p ends ≡ true)
      → (notes : Notes) → AreLed ends notes → list_any test notes ≡ true → acts_among p ends ≡ true
  some_led p test so [] led is = true_false (sym is)
  some_led p test so (x ∷ notes) led is =
      elim (test x) as (λ b. test x ≡ b → (b || list_any test notes) ≡ true → acts_among p ends ≡ true) [
        | true ↦ λ passes there. so x passes (All-head (IsLed ends) (agents_in x) (named_agents notes) led)
        | false ↦ λ fails there.
            some_led p test so notes (All-tail (IsLed ends) (agents_in x) (named_agents notes) led) there
      ] refl is

  pub drain_movers : (m : Channels) (notes : Notes) → AreLed ends notes → (p : RealPid)
      → drains.step_answer p m notes ≡ answer.Moved → acts_among p ends ≡ true
  drain_movers m notes led p moved =
      some_led p (drains.is_left p) so notes led
      (answered (drains.has_work p notes) (drains.moves_any p m notes) moved)
    where
      so : (x : DirNotes) → drains.is_left p x ≡ true → IsLed ends (agents_in x) → acts_among p ends ≡ true
      so x is led_here =
          elim (either_acts (is_agent p x.reader) _ (is_agent p x.sender) _ is) [
            | inl reads ↦ led_here.reads p reads
            | inr sends ↦ led_here.sends p sends
          ]

  pub refill_movers : (m : Channels) (notes : Notes) → AreLed ends notes → (p : RealPid)
      → refills.step_answer p (record { notes = notes; channels = m }) ≡ answer.Moved
      → acts_among p ends ≡ true
  refill_movers m notes led p moved =
      some_led p (refills.is_left p notes)
      (λ x is led_here. led_here.sends p (first_true (is_agent p x.sender) _ is)) notes led
      (answered (refills.has_work p notes) _ moved)
