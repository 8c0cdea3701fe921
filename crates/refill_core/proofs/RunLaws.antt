-- Whole runs of a refill.
--     event_fits, event_keeps, event_lowers       one event
--     run_fits, run_keeps, run_dirs               all of them
--     gives_back, ends_in_time
use Rattle.std.proofs.Common.{◌≡◌, ℕ, ◌+◌, ◌<◌, ◌≤◌, Bool, true, false, List, [], ◌∷◌, length, refl, sym, ap, subst, ◌∙◌, arith}
use Rattle.std.specs.Prelude.{Some, All, IsSome, nat_lt, map as each, ◌&&◌, ◌||◌, if◌then◌else◌}
use Rattle.std.specs.List.{list_any}
use Rattle.std.specs.Ordering.{eq_by_cmp}
use Rattle.std.proofs.lemmas.Bool.{and_parts}
use Rattle.std.proofs.lemmas.Bool.Decides.{nat_tests}
use Rattle.std.proofs.lemmas.List.Elements.{All-head, All-tail}
use Rattle.views.proofs.MapLaws.{true_false}
use Rattle.sys_abi.specs.declared.identity.Dir.{Dir}
use Rattle.sys_abi.specs.Orders.{dir_cmp}
use Rattle.wire_net.specs.declared.agents.AgentEnd.{AgentEnd}
use Rattle.wire_net.specs.declared.cut_room.DirBytes.{DirBytes}
use Rattle.wire_net.specs.declared.cut_room.DirNotes.{DirNotes}
use Rattle.wire_net.specs.CutRooms.{Named}
use Rattle.wire_channels.specs.Directions.{after_move}
use Rattle.wire_channels.specs.Channels.{direction_at, at_direction}
use Rattle.wire_net.specs.DrainedNets.{IsListOf, IsDrained, HasLists, IsNamingLists, list_on}
use Rattle.wire_net.specs.Ends.{IsFor}
use Rattle.wire_net.specs.Networks.{Network}
use Rattle.wire_channels.specs.Answers.{bytes_on, received_on}
use Rattle.wire_net.specs.Runs.{Event, Step, Move, IsAllowed, UnderWay, after, run, moving, moves_made}
use Rattle.wire_net.specs.Whereabouts.{stream_on, whereabouts}
use Rattle.wire_net.proofs.ListsOn.{one_listed, each_listed}
use Rattle.wire_net.proofs.Streams.{whereabouts-move}
use Rattle.refill_core.specs.Beginnings.{begun, IsGivenBack}
use Rattle.refill_core.specs.Holding.{agents_of}
use Rattle.refill_core.specs.Refills.{Notes, Fits, IsBack, dirs_of, has_notes, notes_at}
use Rattle.refill_core.specs.Runs.{step, moves}
use Rattle.refill_core.specs.Stepping.{state}
use Rattle.refill_core.specs.Work.{work_left, is_done}
use Rattle.refill_core.proofs.Begun.{begun_dirs, fits_begun, kept_begun}
use Rattle.refill_core.proofs.Ending.{back_again}
use Rattle.refill_core.proofs.Moving.{moved_fits, moved_no_more, moved_work}
use Rattle.refill_core.proofs.Pairs.{found_dir, all_found}
use Rattle.refill_core.proofs.Steps.{step_fits, step_dirs, step_kept}
use Rattle.refill_core.proofs.WorkLaws.{ends_lower}
use Rattle.wire_net.proofs.Gains.{gain}

abbrev FitsNow : UnderWay → Type 0
FitsNow s = Fits s.net.channels s.notes

abbrev bytes_now : UnderWay → Dir → List ℕ
bytes_now s d = whereabouts s.net (agents_of s.notes) d

event_fits : (e : Event) (s : UnderWay) → FitsNow s → IsAllowed e → FitsNow (after step e s)
event_fits (Step p) s fits may = step_fits p (step p s).notes s.notes s.net (step p s).net fits refl
event_fits (Move d place n) s fits may = moved_fits s.net.channels s.notes d place n may fits

event_keeps : (e : Event) (s : UnderWay) (d : Dir) → d.side < 2 → FitsNow s → bytes_now (after step e s) d ≡ bytes_now s d
event_keeps (Step p) s d side fits = step_kept p (step p s).notes s.notes s.net (step p s).net d side fits refl
event_keeps (Move m place n) s d side fits = whereabouts-move s.net (agents_of s.notes) m d place n

event_dirs : (e : Event) (s : UnderWay) → FitsNow s → dirs_of (after step e s).notes ≡ dirs_of s.notes
event_dirs (Step p) s fits = step_dirs p (step p s).notes s.notes s.net (step p s).net fits refl
event_dirs (Move d place n) s fits = refl

run_fits : (events : List Event) (s : UnderWay) → FitsNow s → All IsAllowed events → FitsNow (run step events s)
run_fits [] s fits may = fits
run_fits (e ∷ events) s fits may = run_fits events (after step e s) (event_fits e s fits (All-head IsAllowed e events may)) (All-tail IsAllowed e events may)

run_keeps : (events : List Event) (s : UnderWay) (d : Dir) → d.side < 2 → FitsNow s → All IsAllowed events → bytes_now (run step events s) d ≡ bytes_now s d
run_keeps [] s d side fits may = refl
run_keeps (e ∷ events) s d side fits may =
    run_keeps events (after step e s) d side (event_fits e s fits (All-head IsAllowed e events may)) (All-tail IsAllowed e events may) ∙ event_keeps e s d side fits

run_dirs : (events : List Event) (s : UnderWay) → FitsNow s → All IsAllowed events → dirs_of (run step events s).notes ≡ dirs_of s.notes
run_dirs [] s fits may = refl
run_dirs (e ∷ events) s fits may =
    run_dirs events (after step e s) (event_fits e s fits (All-head IsAllowed e events may)) (All-tail IsAllowed e events may) ∙ event_dirs e s fits

-- ---- what is given back

abbrev Noted : Dir → Notes → Type 0
Noted d notes = (x : DirNotes) × (notes_at d notes ≡ Some x)

noted_there : (d : Dir) (notes : Notes) → list_any (λ e. eq_by_cmp dir_cmp e d) (dirs_of notes) ≡ true → Noted d notes
noted_there d [] among = true_false (sym among)
noted_there d (x ∷ notes) among = choice (eq_by_cmp dir_cmp x.dir d) among (noted_there d notes)
  where
    Rest : Bool → Type 0
    Rest b = (y : DirNotes) × ((if b then Some x else notes_at d notes) ≡ Some y)

    choice : (b : Bool) → (b || list_any (λ e. eq_by_cmp dir_cmp e d) (dirs_of notes)) ≡ true → (list_any (λ e. eq_by_cmp dir_cmp e d) (dirs_of notes) ≡ true → Noted d notes) → Rest b
    choice true among rest = (x, refl)
    choice false among rest = rest among

any_name : (d : Dir) (lengths : List Named) → list_any (λ e. eq_by_cmp dir_cmp e d) (each (λ named. named.0) lengths) ≡ list_any (λ named. eq_by_cmp dir_cmp named.0 d) lengths
any_name d [] = refl
any_name d (named ∷ lengths) = ap (λ (b : Bool). eq_by_cmp dir_cmp named.0 d || b) (any_name d lengths)

back_at : (s : UnderWay) (d : Dir) → FitsNow s → is_done s.net.channels s.notes ≡ true → Noted d s.notes
    → (stream_on (direction_at s.net.channels d) ≡ received_on (direction_at s.net.channels d)) × (received_on (direction_at s.net.channels d) ≡ bytes_now s d)
back_at s d fits done noted =
    let x = noted.0 in
    let is = all_found (IsBack (λ e. bytes_now s e) s.net.channels) d s.notes x noted.1 (back_again s.net s.notes fits done) in
    subst (λ (e : Dir). (stream_on (direction_at s.net.channels e) ≡ received_on (direction_at s.net.channels e)) × (received_on (direction_at s.net.channels e) ≡ bytes_now s e))
    (found_dir d s.notes x noted.1) (is.quiet, is.whole)

pub gives_back : (t : Network) (ends : List AgentEnd) (lengths : List Named) (lists : List DirBytes) (events : List Event) → IsFor t.channels ends → IsDrained t.channels lists → HasLists t.channels lists
    → IsNamingLists lengths lists → All IsAllowed events
    → is_done (run step events (record { net = t; notes = begun lists ends lengths })).net.channels (run step events (record { net = t; notes = begun lists ends lengths })).notes ≡ true
    → All (IsGivenBack (run step events (record { net = t; notes = begun lists ends lengths })).net.channels) lists
gives_back t ends lengths lists events for drained has naming may done = each_listed (IsGivenBack last.net.channels) lists drained.apart one
  where
    first : UnderWay
    first = record { net = t; notes = begun lists ends lengths }

    last : UnderWay
    last = run step events first

    fits : FitsNow first
    fits = fits_begun t.channels ends lengths lists for drained has naming

    one : (list : DirBytes) → list_on list.dir lists ≡ Some list → IsGivenBack last.net.channels list
    one list at =
        let side = (one_listed (IsListOf t.channels) list.dir lists list at drained.lists_of).side in
        let among = naming.whole list.dir (subst IsSome (sym at) refl) in
        let noted =
        noted_there list.dir last.notes
        (ap (list_any (λ e. eq_by_cmp dir_cmp e list.dir)) (run_dirs events first fits may ∙ begun_dirs lists ends lengths) ∙ any_name list.dir lengths ∙ among) in
        let back = back_at last list.dir (run_fits events first fits may) done noted in
        let kept = one_listed (λ l. whereabouts t (agents_of (begun lists ends lengths)) l.dir ≡ l.bytes) list.dir lists list at (kept_begun t ends lengths lists for drained has naming) in
        (back.0, back.1 ∙ run_keeps events first list.dir side fits may ∙ kept)

-- ---- and the work that is left

event_lowers : (e : Event) (s : UnderWay) → FitsNow s → IsAllowed e → work_left (after step e s).net.channels (after step e s).notes + gain (moving moves e s) ≤ work_left s.net.channels s.notes
event_lowers (Step p) s fits may = ends_lower p (dirs_of s.notes) (state s.notes s.net) fits
event_lowers (Move d place n) s fits may = choice (moving moves (Move d place n) s) refl
  where
    rest : ℕ
    rest = work_left (at_direction s.net.channels d (after_move place n)) s.notes

    choice : (b : Bool) → moving moves (Move d place n) s ≡ b → rest + gain b ≤ work_left s.net.channels s.notes
    choice false is = let most = moved_no_more s.net.channels s.notes d place n may fits in omega (arith, most)
    choice true is =
        let parts = and_parts (has_notes d s.notes) (nat_lt 0 n && nat_lt 0 (length (bytes_on place (direction_at s.net.channels d)))) is in
        let both = and_parts (nat_lt 0 n) (nat_lt 0 (length (bytes_on place (direction_at s.net.channels d)))) parts.1 in
        let some : 0 < n = grind (arith, nat_tests, both.0) in
        let there : 0 < length (bytes_on place (direction_at s.net.channels d)) = grind (arith, nat_tests, both.1) in
        let less = moved_work s.net.channels s.notes d place n may fits parts.0 some there in
        omega (arith, less)

pub ends_in_time : (events : List Event) (s : UnderWay) → FitsNow s → All IsAllowed events → moves_made step moves events s ≤ work_left s.net.channels s.notes
ends_in_time [] s fits may = omega arith
ends_in_time (e ∷ events) s fits may =
    let less = event_lowers e s fits (All-head IsAllowed e events may) in
    let rest = ends_in_time events (after step e s) (event_fits e s fits (All-head IsAllowed e events may)) (All-tail IsAllowed e events may) in
    omega (arith, less, rest)
