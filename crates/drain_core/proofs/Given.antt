-- What a drain that is done gives.
--     finds_itself, finds_none    the notes on a direction are found, or there are none
--     given                       the queues, and the lists
use Rattle.std.proofs.Common.{◌≡◌, ◌≢◌, ℕ, ◌==◌, ◌-◌, ◌≤◌, Bool, true, false, List, [], ◌∷◌, ◌++◌, length, refl, sym, ap, ap₂, subst, ◌∙◌, arith, append-nil, inl, inr}
use Rattle.std.specs.Prelude.{Option, Some, None, All, IsSome, IfSome, is_some, not, ◌&&◌, if◌then◌else◌}
use Rattle.std.specs.Option.{option_map, option_map_or}
use Rattle.std.specs.List.{list_all, cons_option}
use Rattle.std.specs.Ordering.{eq_by_cmp}
use Rattle.std.proofs.Math.Seq.{take-nil}
use Rattle.std.proofs.lemmas.Bool.{and_parts}
use Rattle.std.proofs.lemmas.Bool.Decides.{nat_tests}
use Rattle.std.proofs.lemmas.List.{nil_from_length}
use Rattle.std.proofs.lemmas.List.Elements.{All-nil, All-cons, All-head, All-tail}
use Rattle.std.proofs.lemmas.Bool.{not-true}
use Rattle.views.proofs.MapLaws.{true_false, key_tied, other_key}
use Rattle.sys_abi.specs.declared.identity.Dir.{Dir}
use Rattle.sys_abi.specs.declared.identity.RealPid.{RealPid}
use Rattle.sys_abi.specs.Orders.{dir_cmp}
use Rattle.sys_abi.proofs.OrderLaws.{dir_total, dir_exact}
use Rattle.wire_net.specs.declared.cut_room.DirBytes.{DirBytes}
use Rattle.wire_net.specs.declared.cut_room.DirNotes.{DirNotes}
use Rattle.wire_channels.specs.declared.limits.TheConstants.{QUEUE_LIMIT}
use Rattle.wire_channels.specs.Directions.{Direction}
use Rattle.wire_channels.specs.Channels.{Channels, direction_at, is_live_at}
use Rattle.wire_net.specs.Networks.{Network}
use Rattle.wire_channels.specs.Answers.{received_on}
use Rattle.wire_net.specs.Whereabouts.{stream, stream_on, whereabouts}
use Rattle.drain_core.specs.Tasks.{has_sent}
use Rattle.drain_core.specs.Drains.{Notes, IsNoted, IsInStep, Apart, dirs_of, Fits, reads_on, has_arrived, is_finished, is_done}
use Rattle.drain_core.specs.Holding.{agents_of}
use Rattle.drain_core.specs.Openings.{read_list, readable_list, list_of, lists_of, IsQuiet, IsQuietIf, IsGiven}
use Rattle.drain_core.proofs.Ending.{finished_live}
use Rattle.drain_core.proofs.AllDirections.{for_each, one_of, back_apart}
use Rattle.drain_core.proofs.Walk.{front_apart}
use Rattle.drain_core.proofs.Bytes.{find_live, of_found, whereabouts_is}

-- what is not at the direction is passed over
passed : (d : Dir) (x : DirNotes) (notes : Notes) → x.dir ≢ d → find_live d (x ∷ notes) ≡ find_live d notes
passed d x notes differ = choice (is_some x.sender) (eq_by_cmp dir_cmp d x.dir) (other_key dir_total dir_exact d x.dir (λ same. differ (sym same)))
  where
    choice : (a b : Bool) → b ≡ false → (if a && b then Some x else find_live d notes) ≡ find_live d notes
    choice true true is = true_false is
    choice true false is = refl
    choice false b is = refl

pass_front : (d : Dir) (front rest : Notes) → All (λ y. y.dir ≢ d) front → find_live d (front ++ rest) ≡ find_live d rest
pass_front d [] rest apart = refl
pass_front d (y ∷ front) rest apart =
    passed d y (front ++ rest) (All-head (λ (z : DirNotes). z.dir ≢ d) y front apart) ∙ pass_front d front rest (All-tail (λ (z : DirNotes). z.dir ≢ d) y front apart)

none_of : (d : Dir) (notes : Notes) → All (λ y. y.dir ≢ d) notes → find_live d notes ≡ None
none_of d [] apart = refl
none_of d (y ∷ notes) apart = passed d y notes (All-head (λ (z : DirNotes). z.dir ≢ d) y notes apart) ∙ none_of d notes (All-tail (λ (z : DirNotes). z.dir ≢ d) y notes apart)

finds_itself : (front back : Notes) (x : DirNotes) → Apart (dirs_of (front ++ x ∷ back)) → is_some x.sender ≡ true → find_live x.dir (front ++ x ∷ back) ≡ Some x
finds_itself front back x apart some =
    pass_front x.dir front (x ∷ back) (front_apart front back x apart)
    ∙ ap₂ (λ (a b : Bool). if a && b then Some x else find_live x.dir back) some (key_tied dir_total dir_exact x.dir)

finds_none : (front back : Notes) (x : DirNotes) → Apart (dirs_of (front ++ x ∷ back)) → is_some x.sender ≡ false → find_live x.dir (front ++ x ∷ back) ≡ None
finds_none front back x apart none =
    pass_front x.dir front (x ∷ back) (front_apart front back x apart)
    ∙ ap (λ (a : Bool). if a && eq_by_cmp dir_cmp x.dir x.dir then Some x else find_live x.dir back) none
    ∙ none_of x.dir back (back_apart front back x apart)

all_true : (test : DirNotes → Bool) (front back : Notes) (x : DirNotes) → list_all test (front ++ x ∷ back) ≡ true → test x ≡ true
all_true test [] back x is = (and_parts (test x) (list_all test back) is).0
all_true test (y ∷ front) back x is = all_true test front back x (and_parts (test y) (list_all test (front ++ x ∷ back)) is).1

all_there : (direction : Direction) → length direction.sent ≡ 0 → length direction.wire ≡ 0 → stream direction ≡ direction.received
all_there direction no_sent no_wire =
    ap₂ (λ (a b : List ℕ). (direction.received ++ a) ++ b) (nil_from_length direction.wire no_wire) (nil_from_length direction.sent no_sent) ∙ append-nil (direction.received ++ []) ∙ append-nil direction.received

finished : (m : Channels) (x : DirNotes) → IsNoted x → IsInStep m x → is_finished m x ≡ true → IsQuietIf (is_some x.sender) (stream_on (direction_at m x.dir)) (received_on (direction_at m x.dir))
finished m x noted (inl aside) is =
    subst (λ (o : Option RealPid). IsQuietIf (is_some o) (stream_on (direction_at m x.dir)) (received_on (direction_at m x.dir))) (sym aside.sender)
    (found (direction_at m x.dir)
    (ap (λ (o : Option RealPid). option_map_or (λ agent. has_sent x && not (reads_on x)) o (option_map_or has_arrived (direction_at m x.dir) true)) (sym aside.sender) ∙ is))
  where
    found : (o : Option Direction) → option_map_or has_arrived o true ≡ true → stream_on o ≡ received_on o
    found None is = refl
    found (Some direction) is =
        let parts = and_parts (length direction.sent == 0) (length direction.wire == 0) is in
        all_there direction (let e : length direction.sent ≡ 0 = grind (arith, nat_tests, parts.0) in e) (let e : length direction.wire ≡ 0 = grind (arith, nat_tests, parts.1) in e)
finished m x noted (inr under) is = some x.sender under.sender is
  where
    some : (o : Option RealPid) → IsSome o → option_map_or (λ agent. has_sent x && not (reads_on x)) o (option_map_or has_arrived (direction_at m x.dir) true) ≡ true
        → IsQuietIf (is_some o) (stream_on (direction_at m x.dir)) (received_on (direction_at m x.dir))
    some None there is = true_false (sym there)
    some (Some agent) there is =
        let parts = and_parts (has_sent x) (not (reads_on x)) is in
        ap stream_on under.found ∙ nil_from_length (stream under.direction) (finished_live x under.direction noted under.drains parts.0 (not-true (reads_on x) parts.1))

-- the list of a direction is all that stands in it
list_whole : (t : Network) (notes front back : Notes) (x : DirNotes) → notes ≡ front ++ x ∷ back → Apart (dirs_of notes) → IsQuietIf (is_some x.sender) (stream_on (direction_at t.channels x.dir)) (received_on (direction_at t.channels x.dir))
    → IfSome (list_of t.channels x) (λ list. list.bytes ≡ whereabouts t (agents_of notes) list.dir)
list_whole t notes front back x among apart quiet = choice (is_some x.sender) refl quiet
  where
    here : Apart (dirs_of (front ++ x ∷ back))
    here = subst (λ (l : Notes). Apart (dirs_of l)) among apart

    choice : (some : Bool) → is_some x.sender ≡ some → IsQuietIf some (stream_on (direction_at t.channels x.dir)) (received_on (direction_at t.channels x.dir))
        → IfSome (if some then Some (read_list x) else option_map (readable_list x) (direction_at t.channels x.dir))
        (λ list. list.bytes ≡ whereabouts t (agents_of notes) list.dir)
    choice true is quiet =
        sym (whereabouts_is t notes x.dir
        ∙ ap₂ of_found (ap (find_live x.dir) among ∙ finds_itself front back x here is) quiet
        ∙ ap (λ (l : List ℕ). x.drained.items ++ l) (take-nil (x.count - x.read))
        ∙ append-nil x.drained.items)
    choice false is quiet =
        found (direction_at t.channels x.dir) quiet
        (whereabouts_is t notes x.dir ∙ ap (λ (o : Option DirNotes). of_found o (stream_on (direction_at t.channels x.dir))) (ap (find_live x.dir) among ∙ finds_none front back x here is))
      where
        found : (o : Option Direction) → stream_on o ≡ received_on o → whereabouts t (agents_of notes) x.dir ≡ stream_on o
            → IfSome (option_map (readable_list x) o) (λ list. list.bytes ≡ whereabouts t (agents_of notes) list.dir)
        found None quiet is = tt
        found (Some direction) quiet is = sym (is ∙ quiet)

-- the list of a direction has no more bytes than stood in it
list_few : (m : Channels) (x : DirNotes) → IsNoted x → IsInStep m x → IsQuietIf (is_some x.sender) (stream_on (direction_at m x.dir)) (received_on (direction_at m x.dir))
    → IfSome (list_of m x) (λ list. (length list.bytes ≤ QUEUE_LIMIT) × (length list.bytes ≤ x.returned.room))
list_few m x noted (inr under) quiet = some x.sender under.sender
  where
    some : (o : Option RealPid) → IsSome o → IfSome (if is_some o then Some (read_list x) else option_map (readable_list x) (direction_at m x.dir)) (λ list. (length list.bytes ≤ QUEUE_LIMIT) × (length list.bytes ≤ x.returned.room))
    some None there = true_false (sym there)
    some (Some agent) there = (omega (arith, noted.drained, noted.few), omega (arith, noted.drained, noted.back))
list_few m x noted (inl aside) quiet =
    subst (λ (o : Option RealPid). IfSome (if is_some o then Some (read_list x) else option_map (readable_list x) (direction_at m x.dir)) (λ list. (length list.bytes ≤ QUEUE_LIMIT) × (length list.bytes ≤ x.returned.room)))
    (sym aside.sender)
    (found (direction_at m x.dir) aside.stands (subst (λ (o : Option RealPid). IsQuietIf (is_some o) (stream_on (direction_at m x.dir)) (received_on (direction_at m x.dir))) aside.sender quiet))
  where
    found : (o : Option Direction) → length (stream_on o) ≡ x.count → stream_on o ≡ received_on o → IfSome (option_map (readable_list x) o) (λ list. (length list.bytes ≤ QUEUE_LIMIT) × (length list.bytes ≤ x.returned.room))
    found None stands quiet = tt
    found (Some direction) stands quiet =
        let same : length direction.received ≡ x.count = ap length (sym quiet) ∙ stands in
        (omega (arith, same, noted.few), omega (arith, same, noted.back))

pub all_given : (P : DirBytes → Type 0) (m : Channels) (notes : Notes) → All (λ x. IfSome (list_of m x) P) notes → All P (lists_of m notes)
all_given P m [] all = All-nil P
all_given P m (x ∷ notes) all = one (list_of m x) (All-head (λ y. IfSome (list_of m y) P) x notes all) (all_given P m notes (All-tail (λ y. IfSome (list_of m y) P) x notes all))
  where
    one : (o : Option DirBytes) → IfSome o P → All P (lists_of m notes) → All P (cons_option o (lists_of m notes))
    one None here rest = rest
    one (Some list) here rest = All-cons P list (lists_of m notes) here rest

pub given : (t : Network) (notes : Notes) → Fits t.channels notes → is_done t.channels notes ≡ true → IsGiven t notes
given t notes fits done = record {
  quiet =
      for_each (IsQuiet t.channels) notes (λ front back x is.
      subst (λ (b : Bool). IsQuietIf b (stream_on (direction_at t.channels x.dir)) (received_on (direction_at t.channels x.dir)))
      (one_of (λ y. is_some y.sender ≡ is_live_at t.channels y.dir.conn) front back x (subst (All (λ y. is_some y.sender ≡ is_live_at t.channels y.dir.conn)) is fits.live))
      (quiet front back x is));
  few =
      for_each (λ x. IfSome (list_of t.channels x) (λ list. (length list.bytes ≤ QUEUE_LIMIT) × (length list.bytes ≤ x.returned.room))) notes (λ front back x is.
      list_few t.channels x (one_of IsNoted front back x (subst (All IsNoted) is fits.noted)) (one_of (IsInStep t.channels) front back x (subst (All (IsInStep t.channels)) is fits.in_step)) (quiet front back x is));
  lists =
      all_given (λ list. list.bytes ≡ whereabouts t (agents_of notes) list.dir) t.channels notes
      (for_each (λ x. IfSome (list_of t.channels x) (λ list. list.bytes ≡ whereabouts t (agents_of notes) list.dir)) notes (λ front back x is.
      list_whole t notes front back x is fits.apart (quiet front back x is)));
}
  where
    quiet : (front back : Notes) (x : DirNotes) → notes ≡ front ++ x ∷ back → IsQuietIf (is_some x.sender) (stream_on (direction_at t.channels x.dir)) (received_on (direction_at t.channels x.dir))
    quiet front back x is =
        finished t.channels x (one_of IsNoted front back x (subst (All IsNoted) is fits.noted)) (one_of (IsInStep t.channels) front back x (subst (All (IsInStep t.channels)) is fits.in_step))
        (all_true (is_finished t.channels) front back x (subst (λ (l : Notes). is_done t.channels l ≡ true) is done))
