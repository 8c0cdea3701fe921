-- Where a drain is not done, some agent or some move goes on with it.
--     agent_itself                an agent is itself
--     any_of                      what one item passes some item passes
--     Unfinished, unfinished_one  a direction that is not finished
--     goes_on                     who moves bytes of it
use Rattle.std.proofs.Common.{◌≡◌, ◌≢◌, ◌==◌, ◌+◌, ◌-◌, ◌<◌, Bool, true, false, [], ◌∷◌, ◌++◌, length, refl, sym, ap, ap₂, subst, ◌∙◌, arith, inl, inr}
use Rattle.std.specs.Prelude.{Option, Some, None, All, IsSome, nat_lt, not, ◌&&◌, if◌then◌else◌}
use Rattle.std.specs.Option.{option_map_or}
use Rattle.std.specs.List.{list_any}
use Rattle.std.specs.Ordering.{eq_by_cmp}
use Rattle.std.proofs.lemmas.Bool.{and_cases, eq-eqb, or_left, or_right}
use Rattle.std.proofs.lemmas.Bool.Decides.{nat_tests}
use Rattle.views.proofs.MapLaws.{true_false, key_tied}
use Rattle.sys_abi.specs.declared.identity.RealPid.{RealPid}
use Rattle.sys_abi.specs.Orders.{dir_cmp}
use Rattle.sys_abi.proofs.OrderLaws.{dir_total, dir_exact}
use Rattle.wire_net.specs.declared.cut_room.DirNotes.{DirNotes}
use Rattle.wire_channels.specs.declared.place.Place.{Place}
use Rattle.wire_channels.specs.declared.place.Place.TheVariants.{Send, Wire}
use Rattle.wire_channels.specs.Directions.{Direction, bytes_at}
use Rattle.wire_channels.specs.Channels.{Channels, direction_at}
use Rattle.wire_channels.specs.Answers.{bytes_on}
use Rattle.wire_net.specs.Whereabouts.{stream}
use Rattle.drain_core.specs.Tasks.{is_agent, has_sent, unsent, readable, sendable, reads, sends, moves}
use Rattle.drain_core.specs.Drains.{Notes, IsNoted, IsDraining, IsInStep, Fits, has_notes, reads_on, has_arrived, is_finished, is_done, answer_of, is_left, has_work, moves_on, moves_any}
use Rattle.drain_core.specs.Work.{GoesOn}
use Rattle.drain_core.proofs.OneDrain.{unsent_length}
use Rattle.drain_core.proofs.AllDirections.{one_of}
use Rattle.drain_core.proofs.Idle.{mover_left}
use Rattle.wire_net.proofs.Gains.{stream_length}

agent_itself : (p : RealPid) → is_agent p (Some p) ≡ true
agent_itself p = ap₂ (λ (a b : Bool). a && b) (eq-eqb p.node p.node refl) (eq-eqb p.pid p.pid refl)

pub any_of : (test : DirNotes → Bool) (front back : Notes) (x : DirNotes) → test x ≡ true → list_any test (front ++ x ∷ back) ≡ true
any_of test [] back x is = or_left (test x) (list_any test back) is
any_of test (y ∷ front) back x is = or_right (test y) (list_any test (front ++ x ∷ back)) (any_of test front back x is)

record Unfinished (m : Channels) (notes : Notes) : Type 0 where
  one : DirNotes
  front : Notes
  back : Notes
  among : notes ≡ front ++ one ∷ back
  fails : is_finished m one ≡ false

further : (m : Channels) (y : DirNotes) (notes : Notes) → Unfinished m notes → Unfinished m (y ∷ notes)
further m y notes u = record { one = u.one; front = y ∷ u.front; back = u.back; among = ap (λ (l : Notes). y ∷ l) u.among; fails = u.fails }

unfinished_one : (m : Channels) (notes : Notes) → is_done m notes ≡ false → Unfinished m notes
unfinished_one m [] is = true_false is
unfinished_one m (x ∷ notes) is = elim (and_cases (is_finished m x) (is_done m notes) is) [
  | inl fails ↦ record { one = x; front = []; back = notes; among = refl; fails = fails }
  | inr rest ↦ further m x notes (unfinished_one m notes rest)
]

-- bytes that stand before the receiver's queue can be moved
movable : (m : Channels) (notes front back : Notes) (x : DirNotes) (direction : Direction) (place : Place) → notes ≡ front ++ x ∷ back → x.dir.side < 2 → direction_at m x.dir ≡ Some direction
    → 0 < length (bytes_at place direction) → GoesOn m notes
movable m notes front back x direction place among side at some = inr (record {
  dir = x.dir;
  place = place;
  side = side;
  noted = ap (has_notes x.dir) among ∙ any_of (λ y. eq_by_cmp dir_cmp y.dir x.dir) front back x (key_tied dir_total dir_exact x.dir);
  some = subst (λ (o : Option Direction). 0 < length (bytes_on place o)) (sym at) some;
})

-- an agent that can move bytes of one direction
steps : (m : Channels) (notes front back : Notes) (x : DirNotes) (direction : Direction) (p : RealPid) → notes ≡ front ++ x ∷ back → direction_at m x.dir ≡ Some direction
    → IsNoted x → moves p x direction ≡ true → GoesOn m notes
steps m notes front back x direction p among at noted is =
    let moved = ap (moves_any p m) among ∙ any_of (moves_on p m) front back x (ap (λ (o : Option Direction). option_map_or (moves p x) o false) at ∙ is) in
    let work = ap (has_work p) among ∙ any_of (is_left p) front back x (mover_left p x direction noted is) in
    inl (p, ap₂ answer_of work moved)

reader_moves : (p : RealPid) (x : DirNotes) (direction : Direction) → x.reader ≡ Some p → 0 < readable x direction → moves p x direction ≡ true
reader_moves p x direction reader some =
    or_left (nat_lt 0 (reads p x direction)) (nat_lt 0 (sends p x direction))
    (ap (λ (b : Bool). nat_lt 0 (if b then readable x direction else 0)) (ap (is_agent p) reader ∙ agent_itself p) ∙ (let e : nat_lt 0 (readable x direction) ≡ true = grind (arith, nat_tests, some) in e))

sender_moves : (p : RealPid) (x : DirNotes) (direction : Direction) → x.sender ≡ Some p → 0 < sendable x direction → moves p x direction ≡ true
sender_moves p x direction sender some =
    or_right (nat_lt 0 (reads p x direction)) (nat_lt 0 (sends p x direction))
    (ap (λ (b : Bool). nat_lt 0 (if b then sendable x direction else 0)) (ap (is_agent p) sender ∙ agent_itself p) ∙ (let e : nat_lt 0 (sendable x direction) ≡ true = grind (arith, nat_tests, some) in e))

who : (o : Option RealPid) → IsSome o → (p : RealPid) × (o ≡ Some p)
who None there = true_false (sym there)
who (Some p) there = (p, refl)

-- all that stands in the direction can be read
here : (m : Channels) (notes front back : Notes) (x : DirNotes) (direction : Direction) (p q : RealPid) → notes ≡ front ++ x ∷ back → direction_at m x.dir ≡ Some direction → IsNoted x → IsDraining x direction
    → x.reader ≡ Some p → x.sender ≡ Some q → length direction.sent ≡ 0 → length direction.wire ≡ 0 → (has_sent x && not (reads_on x)) ≡ false → GoesOn m notes
here m notes front back x direction p q among at noted drains reader sender no_sent no_wire fails = choice (length direction.received == 0) refl
  where
    parts : length (stream direction) ≡ length direction.received + length direction.wire + length direction.sent
    parts = stream_length direction

    left : length (unsent x) ≡ 16 - x.sent
    left = unsent_length x

    choice : (none : Bool) → (length direction.received == 0) ≡ none → GoesOn m notes
    choice false is =
        let some : length direction.received ≢ 0 = grind (arith, nat_tests, is) in
        steps m notes front back x direction p among at noted (reader_moves p x direction reader (omega (arith, some, parts, drains.total, noted.sent, no_sent, no_wire)))
    choice true is =
        let none : length direction.received ≡ 0 = grind (arith, nat_tests, is) in
        let more : x.sent ≢ 16 = λ all.
        true_false (sym (ap₂ (λ (a b : Bool). a && not b) (let e : has_sent x ≡ true = grind (arith, nat_tests, all) in e)
        (let e : reads_on x ≡ false = (let read : x.read ≡ x.count + 16 = omega (arith, all, none, parts, drains.total, no_sent, no_wire) in grind (arith, nat_tests, read)) in e)) ∙ fails) in
        steps m notes front back x direction q among at noted (sender_moves q x direction sender (omega (arith, none, no_sent, no_wire, left, more, noted.sent)))

live : (m : Channels) (notes front back : Notes) (x : DirNotes) (direction : Direction) → notes ≡ front ++ x ∷ back → direction_at m x.dir ≡ Some direction → IsNoted x → IsDraining x direction
    → IsSome x.reader → IsSome x.sender → (has_sent x && not (reads_on x)) ≡ false → GoesOn m notes
live m notes front back x direction among at noted drains reader sender fails = sent (length direction.sent == 0) refl
  where
    wire : (none : Bool) → length direction.sent ≡ 0 → (length direction.wire == 0) ≡ none → GoesOn m notes
    wire false no_sent is = movable m notes front back x direction Wire among noted.side at (let e : 0 < length direction.wire = grind (arith, nat_tests, is) in e)
    wire true no_sent is =
        let p = who x.reader reader in
        let q = who x.sender sender in
        here m notes front back x direction p.0 q.0 among at noted drains p.1 q.1 no_sent (let e : length direction.wire ≡ 0 = grind (arith, nat_tests, is) in e) fails

    sent : (none : Bool) → (length direction.sent == 0) ≡ none → GoesOn m notes
    sent false is = movable m notes front back x direction Send among noted.side at (let e : 0 < length direction.sent = grind (arith, nat_tests, is) in e)
    sent true is = wire (length direction.wire == 0) (let e : length direction.sent ≡ 0 = grind (arith, nat_tests, is) in e) refl

aside : (m : Channels) (notes front back : Notes) (x : DirNotes) → notes ≡ front ++ x ∷ back → IsNoted x → (found : Option Direction) → direction_at m x.dir ≡ found
    → option_map_or has_arrived found true ≡ false → GoesOn m notes
aside m notes front back x among noted None at fails = true_false fails
aside m notes front back x among noted (Some direction) at fails = elim (and_cases (length direction.sent == 0) (length direction.wire == 0) fails) [
  | inl is ↦ movable m notes front back x direction Send among noted.side at (let e : 0 < length direction.sent = grind (arith, nat_tests, is) in e)
  | inr is ↦ movable m notes front back x direction Wire among noted.side at (let e : 0 < length direction.wire = grind (arith, nat_tests, is) in e)
]

of_one : (m : Channels) (notes front back : Notes) (x : DirNotes) → notes ≡ front ++ x ∷ back → IsNoted x → IsInStep m x → is_finished m x ≡ false → GoesOn m notes
of_one m notes front back x among noted (inl out) fails =
    aside m notes front back x among noted (direction_at m x.dir) refl
    (ap (λ (o : Option RealPid). option_map_or (λ agent. has_sent x && not (reads_on x)) o (option_map_or has_arrived (direction_at m x.dir) true)) (sym out.sender) ∙ fails)
of_one m notes front back x among noted (inr under) fails =
    live m notes front back x under.direction among under.found noted under.drains under.reader under.sender
    (some x.sender under.sender ∙ fails)
  where
    some : (o : Option RealPid) → IsSome o → (has_sent x && not (reads_on x)) ≡ option_map_or (λ agent. has_sent x && not (reads_on x)) o (option_map_or has_arrived (direction_at m x.dir) true)
    some None there = true_false (sym there)
    some (Some agent) there = refl

pub goes_on : (m : Channels) (notes : Notes) → Fits m notes → is_done m notes ≡ false → GoesOn m notes
goes_on m notes fits fails =
    let u = unfinished_one m notes fails in
    of_one m notes u.front u.back u.one u.among (one_of IsNoted u.front u.back u.one (subst (All IsNoted) u.among fits.noted)) (one_of (IsInStep m) u.front u.back u.one (subst (All (IsInStep m)) u.among fits.in_step)) u.fails
