-- Whole runs of a drain.
--     event_fits, event_keeps, event_lowers       one event
--     run_fits, run_keeps         all of them
--     gives_what_stood, ends_in_time
use Rattle.std.proofs.Common.{◌≡◌, ℕ, ◌+◌, ◌<◌, ◌≤◌, Bool, true, false, List, [], ◌∷◌, length, refl, ◌∙◌, arith}
use Rattle.std.specs.Prelude.{All, nat_lt, ◌&&◌}
use Rattle.std.proofs.lemmas.Bool.{and_parts}
use Rattle.std.proofs.lemmas.Bool.Decides.{nat_tests}
use Rattle.std.proofs.lemmas.List.Elements.{All-nil, All-cons, All-head, All-tail}
use Rattle.sys_abi.specs.declared.identity.Dir.{Dir}
use Rattle.wire_net.specs.declared.agents.AgentEnd.{AgentEnd}
use Rattle.wire_net.specs.declared.cut_room.DirBytes.{DirBytes}
use Rattle.wire_net.specs.CutRooms.{Named}
use Rattle.wire_channels.specs.Directions.{after_move}
use Rattle.wire_channels.specs.Channels.{direction_at, at_direction}
use Rattle.wire_net.specs.Networks.{Network}
use Rattle.wire_channels.specs.Answers.{bytes_on}
use Rattle.wire_net.specs.Runs.{Event, Step, Move, UnderWay, after, run, IsAllowed, moving, moves_made}
use Rattle.wire_net.specs.Whereabouts.{stream_on, whereabouts}
use Rattle.wire_channels.proofs.KeptFrames.{direction_framed}
use Rattle.wire_net.proofs.NotedAgents.{noted_named}
use Rattle.wire_net.proofs.Streams.{whereabouts-move}
use Rattle.drain_core.specs.Drains.{Fits, has_notes, is_done}
use Rattle.drain_core.specs.Holding.{agents_of}
use Rattle.drain_core.specs.Openings.{IsNaming, begun, lists_of}
use Rattle.drain_core.specs.Runs.{step, moves, IsWhatStands}
use Rattle.drain_core.specs.Work.{work_left}
use Rattle.drain_core.proofs.AllDirections.{fits_after}
use Rattle.drain_core.proofs.Beginning.{kept_begun, noted_begun}
use Rattle.drain_core.proofs.Bytes.{kept_bytes}
use Rattle.drain_core.proofs.DrainedLists.{sided, noted_list}
use Rattle.drain_core.proofs.Given.{given}
use Rattle.drain_core.proofs.Moving.{moved_fits, moved_no_more, moved_work}
use Rattle.drain_core.proofs.Staying.{run_frames, run_agents}
use Rattle.drain_core.proofs.WorkLaws.{step_work}
use Rattle.wire_net.proofs.Gains.{gain}

abbrev FitsNow : UnderWay → Type 0
FitsNow s = Fits s.net.channels s.notes

abbrev bytes_now : UnderWay → Dir → List ℕ
bytes_now s d = whereabouts s.net (agents_of s.notes) d

event_fits : (e : Event) (s : UnderWay) → FitsNow s → IsAllowed e → FitsNow (after step e s)
event_fits (Step p) s fits may = fits_after p s.net.channels s.notes fits
event_fits (Move d place n) s fits may = moved_fits s.net.channels s.notes d place n may fits

event_keeps : (e : Event) (s : UnderWay) (d : Dir) → d.side < 2 → FitsNow s → bytes_now (after step e s) d ≡ bytes_now s d
event_keeps (Step p) s d side fits = kept_bytes p s.net s.notes d side fits
event_keeps (Move m place n) s d side fits = whereabouts-move s.net (agents_of s.notes) m d place n

run_fits : (events : List Event) (s : UnderWay) → FitsNow s → All IsAllowed events → FitsNow (run step events s)
run_fits [] s fits may = fits
run_fits (e ∷ events) s fits may = run_fits events (after step e s) (event_fits e s fits (All-head IsAllowed e events may)) (All-tail IsAllowed e events may)

run_keeps : (events : List Event) (s : UnderWay) (d : Dir) → d.side < 2 → FitsNow s → All IsAllowed events → bytes_now (run step events s) d ≡ bytes_now s d
run_keeps [] s d side fits may = refl
run_keeps (e ∷ events) s d side fits may =
    run_keeps events (after step e s) d side (event_fits e s fits (All-head IsAllowed e events may)) (All-tail IsAllowed e events may) ∙ event_keeps e s d side fits

-- both of all
paired : (P Q R : DirBytes → Type 0) (lists : List DirBytes) → ((list : DirBytes) → P list → Q list → R list) → All P lists → All Q lists → All R lists
paired P Q R [] leads first second = All-nil R
paired P Q R (list ∷ lists) leads first second =
    All-cons R list lists (leads list (All-head P list lists first) (All-head Q list lists second)) (paired P Q R lists leads (All-tail P list lists first) (All-tail Q list lists second))

pub gives_what_stood : (t : Network) (ends : List AgentEnd) (lengths : List Named) (events : List Event) → IsNaming t.channels lengths → Fits t.channels (begun t.channels ends lengths) → All IsAllowed events
    → is_done (run step events (record { net = t; notes = begun t.channels ends lengths })).net.channels (run step events (record { net = t; notes = begun t.channels ends lengths })).notes ≡ true
    → IsWhatStands t.channels (lists_of (run step events (record { net = t; notes = begun t.channels ends lengths })).net.channels (run step events (record { net = t; notes = begun t.channels ends lengths })).notes)
gives_what_stood t ends lengths events naming fits may done = record {
  bytes =
      paired (λ list. list.bytes ≡ bytes_now last list.dir) (λ list. list.dir.side < 2) (λ list. list.bytes ≡ stream_on (direction_at t.channels list.dir)) (lists_of last.net.channels last.notes)
      (λ list is side. is ∙ run_keeps events first list.dir side fits may ∙ kept_begun t ends lengths list.dir naming)
      (given last.net last.notes (run_fits events first fits may) done).lists (sided last.net.channels last.notes (run_fits events first fits may));
  whole = λ d side there.
      noted_list last.net.channels d last.notes (direction_framed t.channels last.net.channels d (run_frames events first) ∙ there)
      (noted_named d last.notes first.notes (run_agents events first) ∙ noted_begun t.channels ends lengths d ∙ naming.whole d side there);
}
  where
    first : UnderWay
    first = record { net = t; notes = begun t.channels ends lengths }

    last : UnderWay
    last = run step events first

-- ---- and the work that is left

event_lowers : (e : Event) (s : UnderWay) → FitsNow s → IsAllowed e → work_left (after step e s).net.channels (after step e s).notes + gain (moving moves e s) ≤ work_left s.net.channels s.notes
event_lowers (Step p) s fits may = step_work p s.net.channels s.notes fits
event_lowers (Move d place n) s fits may = choice (moving moves (Move d place n) s) refl
  where
    rest : ℕ
    rest = work_left (at_direction s.net.channels d (after_move place n)) s.notes

    choice : (b : Bool) → moving moves (Move d place n) s ≡ b → rest + gain b ≤ work_left s.net.channels s.notes
    choice false is = let most = moved_no_more s.net.channels s.notes d place n may fits in omega (arith, most)
    choice true is =
        let parts = and_parts (has_notes d s.notes) (nat_lt 0 n && nat_lt 0 (length (bytes_on place (direction_at s.net.channels d)))) is in
        let both = and_parts (nat_lt 0 n) (nat_lt 0 (length (bytes_on place (direction_at s.net.channels d)))) parts.1 in
        let some : 0 < n = grind (arith, nat_tests, both.0) in
        let there : 0 < length (bytes_on place (direction_at s.net.channels d)) = grind (arith, nat_tests, both.1) in
        let less = moved_work s.net.channels s.notes d place n may fits parts.0 some there in
        omega (arith, less)

pub ends_in_time : (events : List Event) (s : UnderWay) → FitsNow s → All IsAllowed events → moves_made step moves events s ≤ work_left s.net.channels s.notes
ends_in_time [] s fits may = omega arith
ends_in_time (e ∷ events) s fits may =
    let less = event_lowers e s fits (All-head IsAllowed e events may) in
    let rest = ends_in_time events (after step e s) (event_fits e s fits (All-head IsAllowed e events may)) (All-tail IsAllowed e events may) in
    omega (arith, less, rest)
