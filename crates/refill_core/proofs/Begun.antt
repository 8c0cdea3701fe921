-- How a refill begins.
--     begun_dirs, noted_begun      the directions of the room are noted
--     NamedAt, named_at        the notes on a direction that the room names
--     fits_begun               the notes fit a network that was drained so
--     held_begun               the bytes of each direction are the same, by the lists and by the notes
--     kept_begun               those of a direction that has a list are those of the list
use Rattle.std.proofs.Common.{◌≡◌, ℕ, ◌<◌, ◌≤◌, Bool, true, false, List, [], ◌∷◌, length, refl, sym, ap, ap₂, subst, ◌∙◌, arith, inl, inr}
use Rattle.std.specs.Prelude.{Option, Some, None, All, IsSome, IfSome, is_some, not, ◌⊎◌, ◌||◌, map as each, if◌then◌else◌}
use Rattle.std.specs.Ordering.{eq_by_cmp}
use Rattle.std.specs.List.{list_any}
use Rattle.std.proofs.lemmas.Bool.{not-true}
use Rattle.std.proofs.lemmas.List.Elements.{All-nil, All-cons, All-head, All-tail, All-map}
use Rattle.views.proofs.MapLaws.{true_false, same_key}
use Rattle.sys_abi.specs.declared.identity.Dir.{Dir}
use Rattle.sys_abi.specs.Orders.{dir_cmp}
use Rattle.sys_abi.proofs.OrderLaws.{dir_total, dir_exact}
use Rattle.wire_net.specs.declared.agents.AgentEnd.{AgentEnd}
use Rattle.wire_net.specs.declared.cut_room.DirBytes.{DirBytes}
use Rattle.wire_net.specs.declared.cut_room.DirNotes.{DirNotes}
use Rattle.wire_channels.specs.declared.limits.TheConstants.{QUEUE_LIMIT}
use Rattle.wire_channels.specs.Directions.{Direction}
use Rattle.wire_channels.specs.Channels.{Channels, direction_at, is_live_at}
use Rattle.wire_net.specs.CutRooms.{Named}
use Rattle.wire_net.specs.DrainedNets.{StandsIf, IsListOf, IsDrained, HasLists, IsNamingLists, list_on, agents_of_lists}
use Rattle.wire_net.specs.Ends.{agent_of, IsFor}
use Rattle.wire_net.specs.Networks.{Network}
use Rattle.wire_channels.specs.Answers.{received_on}
use Rattle.wire_net.specs.Whereabouts.{stream_on, reverse, whereabouts}
use Rattle.wire_net.proofs.HeldLists.{bytes_drained, own_of}
use Rattle.wire_net.proofs.ListsOn.{one_listed, list_dir, each_listed}
use Rattle.wire_net.proofs.LiveAgents.{live_there, direction_there, not_there, agent_there, some_is}
use Rattle.refill_core.specs.Beginnings.{IsNew, IsReady, IsBeginning, cleared, with_list, begun_on, begun}
use Rattle.refill_core.specs.Holding.{agents_of, own_bytes}
use Rattle.refill_core.specs.Refills.{Notes, Fits, IsAside, Apart, dirs_of, has_notes, notes_at}
use Rattle.refill_core.proofs.Bytes.{whereabouts_is}
use Rattle.refill_core.proofs.Starting.{begins_fit}

-- nothing goes back, or the bytes of a list that were not left in place
by_place : (P : DirNotes → Type 0) (ends : List AgentEnd) (named : Named) (found : Option DirBytes) → P (cleared named)
    → ((list : DirBytes) → found ≡ Some list → list.in_place ≡ false → P (with_list ends list.bytes (cleared named))) → P (begun_on ends named found)
by_place P ends named None none some = none
by_place P ends named (Some list) none some = choice list.in_place refl
  where
    choice : (b : Bool) → list.in_place ≡ b → P (if b then cleared named else with_list ends list.bytes (cleared named))
    choice true at = none
    choice false at = some list refl at

pub begun_dir : (ends : List AgentEnd) (named : Named) (found : Option DirBytes) → (begun_on ends named found).dir ≡ named.0
begun_dir ends named found = by_place (λ x. x.dir ≡ named.0) ends named found refl (λ list is at. refl)

begun_unread : (ends : List AgentEnd) (named : Named) (found : Option DirBytes) → (begun_on ends named found).read ≡ 0
begun_unread ends named found = by_place (λ x. x.read ≡ 0) ends named found refl (λ list is at. refl)

pub begun_dirs : (lists : List DirBytes) (ends : List AgentEnd) (lengths : List Named) → dirs_of (begun lists ends lengths) ≡ each (λ named. named.0) lengths
begun_dirs lists ends [] = refl
begun_dirs lists ends (named ∷ lengths) = ap₂ (λ (d : Dir) (ds : List Dir). d ∷ ds) (begun_dir ends named (list_on named.0 lists)) (begun_dirs lists ends lengths)

pub noted_begun : (lists : List DirBytes) (ends : List AgentEnd) (lengths : List Named) (d : Dir) → has_notes d (begun lists ends lengths) ≡ list_any (λ named. eq_by_cmp dir_cmp named.0 d) lengths
noted_begun lists ends [] d = refl
noted_begun lists ends (named ∷ lengths) d =
    ap₂ (λ (e : Dir) (b : Bool). eq_by_cmp dir_cmp e d || b) (begun_dir ends named (list_on named.0 lists)) (noted_begun lists ends lengths d)

pub record NamedAt (lists : List DirBytes) (ends : List AgentEnd) (lengths : List Named) (d : Dir) : Type 0 where
  pub named : Named
  pub is : named.0 ≡ d
  pub at : notes_at d (begun lists ends lengths) ≡ Some (begun_on ends named (list_on d lists))

pub named_at : (lists : List DirBytes) (ends : List AgentEnd) (lengths : List Named) (d : Dir) → list_any (λ named. eq_by_cmp dir_cmp named.0 d) lengths ≡ true → NamedAt lists ends lengths d
named_at lists ends [] d among = true_false (sym among)
named_at lists ends (named ∷ lengths) d among = choice (eq_by_cmp dir_cmp named.0 d) refl among (named_at lists ends lengths d)
  where
    tie : (b : Bool) → eq_by_cmp dir_cmp named.0 d ≡ b → eq_by_cmp dir_cmp (begun_on ends named (list_on named.0 lists)).dir d ≡ b
    tie b at = ap (λ (e : Dir). eq_by_cmp dir_cmp e d) (begun_dir ends named (list_on named.0 lists)) ∙ at

    choice : (b : Bool) → eq_by_cmp dir_cmp named.0 d ≡ b → (b || list_any (λ n. eq_by_cmp dir_cmp n.0 d) lengths) ≡ true
        → (list_any (λ n. eq_by_cmp dir_cmp n.0 d) lengths ≡ true → NamedAt lists ends lengths d) → NamedAt lists ends (named ∷ lengths) d
    choice true at among rest =
        let same : named.0 ≡ d = same_key dir_total dir_exact named.0 d at in record {
          named = named;
          is = same;
          at =
              ap (λ (b : Bool). if b then Some (begun_on ends named (list_on named.0 lists)) else notes_at d (begun lists ends lengths)) (tie true at)
              ∙ ap (λ (e : Dir). Some (begun_on ends named (list_on e lists))) same;
        }
    choice false at among rest =
        let further = rest among in record {
          named = further.named;
          is = further.is;
          at = ap (λ (b : Bool). if b then Some (begun_on ends named (list_on named.0 lists)) else notes_at d (begun lists ends lengths)) (tie false at) ∙ further.at;
        }

-- ---- the notes on one direction

new_cleared : (named : Named) → named.0.side < 2 → IsNew (cleared named)
new_cleared named side = record {
  side = side;
  few = omega arith;
  whole = refl;
  room = omega arith;
  unread = refl;
  unsent = refl;
  none_back = refl;
}

new_with : (ends : List AgentEnd) (named : Named) (bytes : List ℕ) → named.0.side < 2 → length bytes ≤ QUEUE_LIMIT → length bytes ≤ named.1 → IsNew (with_list ends bytes (cleared named))
new_with ends named bytes side few room = record {
  side = side;
  few = few;
  whole = refl;
  room = room;
  unread = refl;
  unsent = refl;
  none_back = refl;
}

new_begun : (ends : List AgentEnd) (lists : List DirBytes) (named : Named) → All (λ list. length list.bytes ≤ QUEUE_LIMIT) lists → named.0.side < 2 → IfSome (list_on named.0 lists) (λ list. length list.bytes ≤ named.1)
    → IsNew (begun_on ends named (list_on named.0 lists))
new_begun ends lists named few side room =
    by_place IsNew ends named (list_on named.0 lists) (new_cleared named side) (λ list is at.
    new_with ends named list.bytes side (one_listed (λ l. length l.bytes ≤ QUEUE_LIMIT) named.0 lists list is few)
    (subst (λ (o : Option DirBytes). IfSome o (λ l. length l.bytes ≤ named.1)) is room))

-- what a list says of the direction at which it is found
record Listed (m : Channels) (d : Dir) (list : DirBytes) : Type 0 where
  place : list.in_place ≡ not (is_live_at m d.conn)
  stands : StandsIf list.in_place list.bytes (stream_on (direction_at m d)) (received_on (direction_at m d))

listed : (m : Channels) (d : Dir) (lists : List DirBytes) (list : DirBytes) → IsDrained m lists → list_on d lists ≡ Some list → Listed m d list
listed m d lists list drained at =
    let is = one_listed (IsListOf m) d lists list at drained.lists_of in
    let same = list_dir d lists list at in record {
      place = is.place ∙ ap (λ (e : Dir). not (is_live_at m e.conn)) same;
      stands = subst (λ (e : Dir). StandsIf list.in_place list.bytes (stream_on (direction_at m e)) (received_on (direction_at m e))) same is.stands;
    }

in_place : (m : Channels) (d : Dir) (list : DirBytes) → Listed m d list → list.in_place ≡ true → (stream_on (direction_at m d) ≡ received_on (direction_at m d)) × (received_on (direction_at m d) ≡ list.bytes)
in_place m d list is at = subst (λ (b : Bool). StandsIf b list.bytes (stream_on (direction_at m d)) (received_on (direction_at m d))) at is.stands

taken_off : (m : Channels) (d : Dir) (list : DirBytes) → Listed m d list → list.in_place ≡ false → stream_on (direction_at m d) ≡ []
taken_off m d list is at = subst (λ (b : Bool). StandsIf b list.bytes (stream_on (direction_at m d)) (received_on (direction_at m d))) at is.stands

live_of : (b : Bool) → false ≡ not b → b ≡ true
live_of true is = refl
live_of false is = true_false (sym is)

none_listed : (m : Channels) (d : Dir) (lists : List DirBytes) → HasLists m lists → d.side < 2 → list_on d lists ≡ None → direction_at m d ≡ None
none_listed m d lists has side none = choice (direction_at m d) refl
  where
    choice : (o : Option Direction) → direction_at m d ≡ o → o ≡ None
    choice None at = refl
    choice (Some direction) at =
        let there : IsSome (list_on d lists) = has d side (subst IsSome (sym at) refl) in
        true_false (sym (subst IsSome none there))

-- what a refill asks of the notes on a direction before any byte has moved
abbrev IsAtFirst : Channels → Notes → DirNotes → Type 0
IsAtFirst m notes x = (IsAside m x ⊎ IsReady m notes x) × (is_some x.sender ≡ is_live_at m x.dir.conn)

first_cleared : (m : Channels) (notes : Notes) (named : Named) → stream_on (direction_at m named.0) ≡ received_on (direction_at m named.0) → is_live_at m named.0.conn ≡ false → IsAtFirst m notes (cleared named)
first_cleared m notes named quiet apart = (inl (record { sender = refl; quiet = quiet }), sym apart)

record Given (m : Channels) (ends : List AgentEnd) (lengths : List Named) (lists : List DirBytes) : Type 0 where
  for : IsFor m ends
  drained : IsDrained m lists
  has : HasLists m lists
  naming : IsNamingLists lengths lists

first_with : (m : Channels) (ends : List AgentEnd) (lengths : List Named) (lists : List DirBytes) (named : Named) (bytes : List ℕ) → Given m ends lengths lists → named.0.side < 2 → is_live_at m named.0.conn ≡ true
    → stream_on (direction_at m named.0) ≡ [] → IsAtFirst m (begun lists ends lengths) (with_list ends bytes (cleared named))
first_with m ends lengths lists named bytes given side live empty =
    let there = live_there m named.0.conn live in
    let own = direction_there m named.0 there in
    let back = direction_there m (reverse named.0) there in
    let listed_back : IsSome (list_on (reverse named.0) lists) = given.has (reverse named.0) (omega (arith, side)) (subst IsSome (sym back.found) refl) in
    let other = named_at lists ends lengths (reverse named.0) (given.naming.whole (reverse named.0) listed_back) in
    let agent = agent_there m ends named.0.conn named.0.side given.for side there in (
      inr (record {
        sender = some_is (agent_of ends named.0.conn named.0.side) agent;
        other = begun_on ends other.named (list_on (reverse named.0) lists);
        paired = other.at;
        other_unread = begun_unread ends other.named (list_on (reverse named.0) lists);
        direction = own.direction;
        found = own.found;
        flows = own.flows;
        empty = ap stream_on (sym own.found) ∙ empty;
      }),
      agent ∙ sym live,
    )

first_begun : (m : Channels) (ends : List AgentEnd) (lengths : List Named) (lists : List DirBytes) (named : Named) → Given m ends lengths lists → named.0.side < 2
    → IsAtFirst m (begun lists ends lengths) (begun_on ends named (list_on named.0 lists))
first_begun m ends lengths lists named given side = found (list_on named.0 lists) refl
  where
    notes : Notes
    notes = begun lists ends lengths

    placed : (list : DirBytes) → list_on named.0 lists ≡ Some list → (b : Bool) → list.in_place ≡ b → IsAtFirst m notes (if b then cleared named else with_list ends list.bytes (cleared named))
    placed list at true is =
        let told = listed m named.0 lists list given.drained at in
        first_cleared m notes named (in_place m named.0 list told is).0 (not-true (is_live_at m named.0.conn) (sym told.place ∙ is))
    placed list at false is =
        let told = listed m named.0 lists list given.drained at in
        first_with m ends lengths lists named list.bytes given side (live_of (is_live_at m named.0.conn) (sym is ∙ told.place)) (taken_off m named.0 list told is)

    found : (o : Option DirBytes) → list_on named.0 lists ≡ o → IsAtFirst m notes (begun_on ends named o)
    found None at =
        let none = none_listed m named.0 lists given.has side at in
        first_cleared m notes named (ap stream_on none ∙ sym (ap received_on none)) (not_there m named.0 none)
    found (Some list) at = placed list at list.in_place refl

-- ---- all of them

for_names : (P Q R : Named → Type 0) (lengths : List Named) → ((named : Named) → P named → Q named → R named) → All P lengths → All Q lengths → All R lengths
for_names P Q R [] leads first second = All-nil R
for_names P Q R (named ∷ lengths) leads first second =
    All-cons R named lengths (leads named (All-head P named lengths first) (All-head Q named lengths second)) (for_names P Q R lengths leads (All-tail P named lengths first) (All-tail Q named lengths second))

each_lists : (P Q : DirBytes → Type 0) (lists : List DirBytes) → ((list : DirBytes) → P list → Q list) → All P lists → All Q lists
each_lists P Q [] leads all = All-nil Q
each_lists P Q (list ∷ lists) leads all = All-cons Q list lists (leads list (All-head P list lists all)) (each_lists P Q lists leads (All-tail P list lists all))

begins : (m : Channels) (ends : List AgentEnd) (lengths : List Named) (lists : List DirBytes) → Given m ends lengths lists → IsBeginning m (begun lists ends lengths)
begins m ends lengths lists given =
    let notes = begun lists ends lengths in
    let named = λ (n : Named). begun_on ends n (list_on n.0 lists) in
    let Side = λ (n : Named). n.0.side < 2 in
    let Room = λ (n : Named). IfSome (list_on n.0 lists) (λ list. length list.bytes ≤ n.1) in
    let few = each_lists (IsListOf m) (λ list. length list.bytes ≤ QUEUE_LIMIT) lists (λ list is. is.few) given.drained.lists_of in
    let P = λ (x : DirNotes). IsAside m x ⊎ IsReady m notes x in
    let L = λ (x : DirNotes). is_some x.sender ≡ is_live_at m x.dir.conn in
    record {
      apart = subst Apart (sym (begun_dirs lists ends lengths)) given.naming.apart;
      new = All-map IsNew named lengths (for_names Side Room (λ n. IsNew (named n)) lengths (λ n side room. new_begun ends lists n few side room) given.naming.sides given.naming.room);
      ready = All-map P named lengths (for_names Side Side (λ n. P (named n)) lengths (λ n side again. (first_begun m ends lengths lists n given side).0) given.naming.sides given.naming.sides);
      live = All-map L named lengths (for_names Side Side (λ n. L (named n)) lengths (λ n side again. (first_begun m ends lengths lists n given side).1) given.naming.sides given.naming.sides);
    }

pub fits_begun : (m : Channels) (ends : List AgentEnd) (lengths : List Named) (lists : List DirBytes) → IsFor m ends → IsDrained m lists → HasLists m lists → IsNamingLists lengths lists → Fits m (begun lists ends lengths)
fits_begun m ends lengths lists for drained has naming =
    begins_fit m (begun lists ends lengths) (begins m ends lengths lists (record { for = for; drained = drained; has = has; naming = naming }))

-- ---- where the bytes are

own_begun : (m : Channels) (ends : List AgentEnd) (named : Named) (list : DirBytes) → IsFor m ends → named.0.side < 2 → Listed m named.0 list
    → own_bytes (Some (begun_on ends named (Some list))) (stream_on (direction_at m named.0)) ≡ own_of (Some list) (stream_on (direction_at m named.0))
own_begun m ends named list for side told = choice list.in_place refl
  where
    choice : (b : Bool) → list.in_place ≡ b
        → own_bytes (Some (if b then cleared named else with_list ends list.bytes (cleared named))) (stream_on (direction_at m named.0)) ≡ (if b then stream_on (direction_at m named.0) else list.bytes)
    choice true is = refl
    choice false is =
        let there = live_there m named.0.conn (live_of (is_live_at m named.0.conn) (sym is ∙ told.place)) in
        ap (λ (b : Bool). if b then list.bytes else stream_on (direction_at m named.0)) (agent_there m ends named.0.conn named.0.side for side there)

own_listed : (m : Channels) (ends : List AgentEnd) (lengths : List Named) (lists : List DirBytes) (d : Dir) (list : DirBytes) → Given m ends lengths lists → list_on d lists ≡ Some list
    → own_bytes (notes_at d (begun lists ends lengths)) (stream_on (direction_at m d)) ≡ own_of (Some list) (stream_on (direction_at m d))
own_listed m ends lengths lists d list given at =
    let named = named_at lists ends lengths d (given.naming.whole d (subst IsSome (sym at) refl)) in
    let told = listed m d lists list given.drained at in
    let same = list_dir d lists list at in
    let side = subst (λ (e : Dir). e.side < 2) (same ∙ sym named.is) (one_listed (IsListOf m) d lists list at given.drained.lists_of).side in
    ap (λ (o : Option DirNotes). own_bytes o (stream_on (direction_at m d))) (named.at ∙ ap (λ (o : Option DirBytes). Some (begun_on ends named.named o)) at)
    ∙ subst (λ (e : Dir). own_bytes (Some (begun_on ends named.named (Some list))) (stream_on (direction_at m e)) ≡ own_of (Some list) (stream_on (direction_at m e))) named.is
    (own_begun m ends named.named list given.for side (subst (λ (e : Dir). Listed m e list) (sym named.is) told))

-- where there is no list nothing is sent back
own_unlisted : (ends : List AgentEnd) (lengths : List Named) (lists : List DirBytes) (d : Dir) (bytes : List ℕ) → list_on d lists ≡ None → own_bytes (notes_at d (begun lists ends lengths)) bytes ≡ bytes
own_unlisted ends [] lists d bytes none = refl
own_unlisted ends (named ∷ lengths) lists d bytes none = choice (eq_by_cmp dir_cmp first.dir d) refl (own_unlisted ends lengths lists d bytes none)
  where
    first : DirNotes
    first = begun_on ends named (list_on named.0 lists)

    choice : (b : Bool) → eq_by_cmp dir_cmp first.dir d ≡ b → own_bytes (notes_at d (begun lists ends lengths)) bytes ≡ bytes
        → own_bytes (if b then Some first else notes_at d (begun lists ends lengths)) bytes ≡ bytes
    choice true at rest =
        let same : named.0 ≡ d = sym (begun_dir ends named (list_on named.0 lists)) ∙ same_key dir_total dir_exact first.dir d at in
        ap (λ (o : Option DirBytes). own_bytes (Some (begun_on ends named o)) bytes) (ap (λ (e : Dir). list_on e lists) same ∙ none)
    choice false at rest = rest

own_noted : (m : Channels) (ends : List AgentEnd) (lengths : List Named) (lists : List DirBytes) (d : Dir) (o : Option DirBytes) → Given m ends lengths lists → list_on d lists ≡ o
    → own_bytes (notes_at d (begun lists ends lengths)) (stream_on (direction_at m d)) ≡ own_of o (stream_on (direction_at m d))
own_noted m ends lengths lists d None given at = own_unlisted ends lengths lists d (stream_on (direction_at m d)) at
own_noted m ends lengths lists d (Some list) given at = own_listed m ends lengths lists d list given at

held_given : (t : Network) (ends : List AgentEnd) (lengths : List Named) (lists : List DirBytes) (d : Dir) → Given t.channels ends lengths lists
    → whereabouts t (agents_of (begun lists ends lengths)) d ≡ own_of (list_on d lists) (stream_on (direction_at t.channels d))
held_given t ends lengths lists d given =
    whereabouts_is t (begun lists ends lengths) d (fits_begun t.channels ends lengths lists given.for given.drained given.has given.naming)
    ∙ own_noted t.channels ends lengths lists d (list_on d lists) given refl

pub held_begun : (t : Network) (ends : List AgentEnd) (lengths : List Named) (lists : List DirBytes) (d : Dir) → IsFor t.channels ends → IsDrained t.channels lists → HasLists t.channels lists → IsNamingLists lengths lists
    → whereabouts t (agents_of (begun lists ends lengths)) d ≡ whereabouts t (agents_of_lists lists) d
held_begun t ends lengths lists d for drained has naming =
    held_given t ends lengths lists d (record { for = for; drained = drained; has = has; naming = naming }) ∙ sym (bytes_drained t lists d drained.apart)

-- a list has its bytes, wherever they are
own_is : (m : Channels) (d : Dir) (list : DirBytes) → Listed m d list → own_of (Some list) (stream_on (direction_at m d)) ≡ list.bytes
own_is m d list told = choice list.in_place refl
  where
    choice : (b : Bool) → list.in_place ≡ b → (if b then stream_on (direction_at m d) else list.bytes) ≡ list.bytes
    choice true is = let both = in_place m d list told is in both.0 ∙ both.1
    choice false is = refl

pub kept_begun : (t : Network) (ends : List AgentEnd) (lengths : List Named) (lists : List DirBytes) → IsFor t.channels ends → IsDrained t.channels lists → HasLists t.channels lists → IsNamingLists lengths lists
    → All (λ list. whereabouts t (agents_of (begun lists ends lengths)) list.dir ≡ list.bytes) lists
kept_begun t ends lengths lists for drained has naming =
    each_listed (λ list. whereabouts t (agents_of (begun lists ends lengths)) list.dir ≡ list.bytes) lists drained.apart (λ list at.
    held_given t ends lengths lists list.dir (record { for = for; drained = drained; has = has; naming = naming })
    ∙ ap (λ (o : Option DirBytes). own_of o (stream_on (direction_at t.channels list.dir))) at
    ∙ own_is t.channels list.dir list (listed t.channels list.dir lists list drained at))
