-- Rounds of agents and of moves, whatever their task is.
--     further_none, further_on     a system is further than itself;  and than one before
--     going_on, acting_on          what holds all along
--     then_passed, so_passed       one thing after the other;  with what else is so
--     front_begun, front_on        a round, as far as the listed ends have had their turns
--     idle_among, turn_passed      who acts for an end before is idle;  a turn of an end
--     round_passed                 a round leaves less, where somebody goes on
--     alive_among                  who acts for a listed end is a live process
use Rattle.std.proofs.Common.{◌≡◌, ◌≢◌, ◌==◌, ◌+◌, ◌<◌, ◌≤◌, ℕ, Bool, true, false, ◌&&◌, ◌||◌, List, [], ◌∷◌, take, length, get_or, Option, Some, None, inl, inr, refl, sym, ap, subst, ◌∙◌, arith}
use Rattle.std.specs.Prelude.{IsSome, IfSome, option_map, All}
use Rattle.std.specs.FinMap as map
use Rattle.std.proofs.lemmas.Bool.{eqb-true}
use Rattle.std.proofs.lemmas.List.{take_all}
use Rattle.std.proofs.lemmas.List.Elements.{All-nil, All-head, All-tail, All-more}
use Rattle.views.proofs.MapLaws.{true_false}
use Rattle.sys_abi.specs.declared.identity.Dir.{Dir}
use Rattle.sys_abi.specs.declared.identity.RealPid.{RealPid}
use Rattle.sys_abi.specs.declared.identity.VPid.{VPid}
use Rattle.plain_machine.specs.declared.kernel.PlainKernel.{PlainKernel}
use Rattle.plain_machine.specs.Kernel.{is_live}
use Rattle.wire_channels.specs.declared.channel.Channel.{Channel}
use Rattle.wire_channels.specs.declared.place.Place.{Place}
use Rattle.wire_channels.specs.Answers.{bytes_on}
use Rattle.wire_channels.specs.Channels.{Channels, direction_of, direction_at}
use Rattle.wire_net.specs.declared.agents.AgentEnd.{AgentEnd}
use Rattle.wire_net.specs.declared.agents.Stepped.TheVariants.{Moved}
use Rattle.wire_net.specs.Ends.{end_of}
use Rattle.wire_net.specs.Networks.{Network}
use Rattle.wire_net.specs.Noted.{CanMove, is_agent}
use Rattle.wire_net.specs.Runs.{UnderWay}
use Rattle.wire_net.proofs.FramedEnds.{for_framed}
use Rattle.wire_net.proofs.NotedAgents.{noted_named}
use Rattle.host_tables.specs.Numbers.{Pids}
use Rattle.leader_vote.specs.Agents.{place_of}
use Rattle.cut_stages.specs.Rounds.{acts_among, IsAlive, IsLed, Task, IsGoing, AreActing, IsFurther, IsQuiet, IsStill, IsIdleAfter, IsStillAfter, Passed, SomeGoesOn}
use Rattle.cut_stages.proofs.Cutting.{on_channels, there_before}
use Rattle.cut_stages.proofs.NamedEnds.{its_agent}

-- an agent that is named is the one
pub agent_is : (p : RealPid) (o : Option RealPid) → is_agent p o ≡ true → o ≡ Some p
agent_is p None is = true_false (sym is)
agent_is p (Some q) is =
    let node = eqb-true q.node p.node (first_true (q.node == p.node) (q.pid == p.pid) is) in
    let pid = eqb-true q.pid p.pid (second_true (q.node == p.node) (q.pid == p.pid) is) in
    λ i. Some (record { node = node i; pid = pid i })
  where
    first_true : (a b : Bool) → (a && b) ≡ true → a ≡ true
    first_true true b both = refl
    first_true false b both = true_false (sym both)

    second_true : (a b : Bool) → (a && b) ≡ true → b ≡ true
    second_true true b both = both
    second_true false b both = true_false (sym both)

there_of : (m : Channels) (d : Dir) (place : Place) → 0 < length (bytes_on place (direction_at m d))
    → IsSome (map.get m d.conn)
there_of m d place some = by_found (map.get m d.conn) some
  where
    by_found : (found : Option Channel)
        → 0 < length (bytes_on place (option_map (direction_of d.side) found)) → IsSome found
    by_found None is = absurd (omega (arith, is))
    by_found (Some channel) is = refl

some_of : {X : Type 0} (o : Option X) → IsSome o → (x : X) × (o ≡ Some x)
some_of None is = true_false (sym is)
some_of (Some x) is = (x, refl)

module _ (task : Task) where
  pub further_none : (s : UnderWay) → task.fitting s.net.channels s.notes → IsFurther task s s
  further_none s fits = record {
    net = refl;
    fits = fits;
    agents = refl;
    frame = λ id. refl;
    kept = λ d below. refl;
  }

  pub further_on : (s t u : UnderWay) → IsFurther task s t → IsFurther task t u → IsFurther task s u
  further_on s t u first then = record {
    net = then.net ∙ ap (λ (n : Network). on_channels n u.net.channels) first.net;
    fits = then.fits;
    agents = then.agents ∙ first.agents;
    frame = λ id. then.frame id ∙ first.frame id;
    kept = λ d below. then.kept d below ∙ first.kept d below;
  }

  pub going_on : (s t : UnderWay) → IsGoing task s → IsFurther task s t → IsGoing task t
  going_on s t is on = record {
    fits = on.fits;
    noted = λ d below there.
        noted_named d t.notes s.notes on.agents
        ∙ is.noted d below (there_before s.net.channels t.net.channels d on.frame there);
  }

  pub acting_on : (ends : List AgentEnd) (s t : UnderWay) → AreActing ends s → IsFurther task s t
      → AreActing ends t
  acting_on ends s t is on = record {
    agents = for_framed s.net.channels t.net.channels ends on.frame is.agents;
    led = subst (All (IsLed ends)) (sym on.agents) is.led;
  }

  abbrev left : UnderWay → ℕ
  left s = task.work s.net.channels s.notes

  pub then_passed : (A : Type 0) (B : UnderWay → Type 0) (s t u : UnderWay) → Passed task A s t
      → Passed task (B t) t u → Passed task (A × B s) s u
  then_passed A B s t u (inl first) (inl then) = inl (then.0 ∙ first.0, (first.1, subst B first.0 then.1))
  then_passed A B s t u (inl first) (inr less) = inr (subst (λ x. left u < left x) first.0 less)
  then_passed A B s t u (inr less) (inl then) = inr (subst (λ x. left x < left s) (sym then.0) less)
  then_passed A B s t u (inr less) (inr more) = inr (omega (arith, less, more))

  pub so_passed : (A B : Type 0) (s t : UnderWay) → (A → B) → Passed task A s t → Passed task B s t
  so_passed A B s t so (inl same) = inl (same.0, so same.1)
  so_passed A B s t so (inr less) = inr less

  -- those of the first ends have had their turns
  pub record IsFront (ends : List AgentEnd) (n : ℕ) (s t : UnderWay) : Type 0 where
    pub on : IsFurther task s t
    pub passed : Passed task (All (IsStill task s) (take n ends)) s t

  pub front_begun : (ends : List AgentEnd) (s : UnderWay) → task.fitting s.net.channels s.notes
      → IsFront ends 0 s s
  front_begun ends s fits = record {
    on = further_none s fits;
    passed = inl (refl, All-nil (IsStill task s));
  }

  pub front_on : (ends : List AgentEnd) (n : ℕ) (z e : AgentEnd) (s t u : UnderWay) → n < length ends
      → e ≡ get_or ends n z → IsFront ends n s t → IsFurther task t u
      → Passed task (IsStillAfter task t (take n ends) e) t u → IsFront ends (n + 1) s u
  front_on ends n z e s t u below is front on passed = record {
    on = further_on s t u front.on on;
    passed = so_passed (All (IsStill task s) (take n ends) × IsStillAfter task s (take n ends) e)
        (All (IsStill task s) (take (n + 1) ends)) s u
        (λ both. All-more (IsStill task s) ends n z below both.0
        (subst (IsStill task s) is (both.1 both.0)))
        (then_passed (All (IsStill task s) (take n ends)) (λ x. IsStillAfter task x (take n ends) e) s t u
        front.passed passed);
  }

  still_among : (s : UnderWay) (p : RealPid) (ends : List AgentEnd) → All (IsStill task s) ends
      → acts_among p ends ≡ true → task.answer p s.net.channels s.notes ≢ Moved
  still_among s p [] all among = true_false (sym among)
  still_among s p (e ∷ ends) all among =
      elim (is_agent p e.agent) as (λ b. is_agent p e.agent ≡ b → (b || acts_among p ends) ≡ true
      → task.answer p s.net.channels s.notes ≢ Moved) [
        | true ↦ λ is there. (All-head (IsStill task s) e ends all).idle p (agent_is p e.agent is)
        | false ↦ λ other there. still_among s p ends (All-tail (IsStill task s) e ends all) there
      ] refl among

  -- who acted for an end before is idle, if all of them are still
  pub idle_among : (s : UnderWay) (before : List AgentEnd) (o : Option RealPid) (p : RealPid) → o ≡ Some p
      → acts_among p before ≡ true → IsIdleAfter task s before o
  idle_among s before o p is among all q same =
      subst (λ (a : Option RealPid). IfSome a
      (λ (r : RealPid). task.answer r s.net.channels s.notes ≢ Moved))
      (sym is ∙ same) (still_among s p before all among)

  pub turn_passed : (before : List AgentEnd) (e : AgentEnd) (s t u : UnderWay)
      → Passed task (IsIdleAfter task s before e.agent) s t → Passed task (IsQuiet t (place_of e)) t u
      → Passed task (IsStillAfter task s before e) s u
  turn_passed before e s t u acted passed =
      so_passed (IsIdleAfter task s before e.agent × IsQuiet s (place_of e)) (IsStillAfter task s before e)
      s u (λ both all. record { idle = both.0 all; quiet = both.1 })
      (then_passed (IsIdleAfter task s before e.agent) (λ x. IsQuiet x (place_of e)) s t u acted passed)

  no_move : (s : UnderWay) (ends : List AgentEnd) → All (IsStill task s) ends → AreActing ends s
      → CanMove s.net.channels s.notes → ⊥
  no_move s ends all acting can =
      let listed = some_of (end_of ends can.dir.conn can.dir.side)
      (acting.agents.named can.dir.conn can.dir.side can.side (there_of s.net.channels can.dir can.place
      can.some)) in
      let told = its_agent (IsStill task s) can.dir.conn can.dir.side ends listed.0 all listed.1 in
      let none : length (bytes_on can.place (direction_at s.net.channels can.dir)) ≡ 0 =
      subst (λ (d : Dir). d.side < 2 → length (bytes_on can.place (direction_at s.net.channels d)) ≡ 0) told.1
      (λ below. told.0.quiet below can.place) can.side in
      let some = can.some in
      omega (arith, none, some)

  pub round_passed : (ends : List AgentEnd) (n : ℕ) (s t : UnderWay) → length ends ≤ n → AreActing ends s
      → ((p : RealPid) → task.answer p s.net.channels s.notes ≡ Moved → acts_among p ends ≡ true)
      → SomeGoesOn task s → IsFront ends n s t → left t < left s
  round_passed ends n s t past acting movers goes front = by front.passed goes
    where
      by : Passed task (All (IsStill task s) (take n ends)) s t → SomeGoesOn task s → left t < left s
      by (inr less) some = less
      by (inl still) (inl moves) =
          absurd (still_among s moves.0 ends
          (subst (All (IsStill task s)) (take_all n ends past) still.1) (movers moves.0 moves.1) moves.1)
      by (inl still) (inr can) =
          absurd (no_move s ends (subst (All (IsStill task s)) (take_all n ends past) still.1) acting can)

pub alive_among : (k : PlainKernel) (pids : Pids) (r : RealPid) (ends : List AgentEnd)
    → All (IsAlive k pids) ends → acts_among r ends ≡ true
    → (p : VPid) × ((is_live k p ≡ true) × (map.get pids p.0 ≡ Some r))
alive_among k pids r [] all among = true_false (sym among)
alive_among k pids r (e ∷ ends) all among =
    elim (is_agent r e.agent) as (λ b. is_agent r e.agent ≡ b → (b || acts_among r ends) ≡ true
    → (p : VPid) × ((is_live k p ≡ true) × (map.get pids p.0 ≡ Some r))) [
      | true ↦ λ is there.
          subst (λ (o : Option RealPid). IfSome o (λ (q : RealPid). (p : VPid)
          × ((is_live k p ≡ true) × (map.get pids p.0 ≡ Some q))))
          (agent_is r e.agent is) (All-head (IsAlive k pids) e ends all)
      | false ↦ λ other there. alive_among k pids r ends (All-tail (IsAlive k pids) e ends all) there
    ] refl among
