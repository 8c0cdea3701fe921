-- What a drain that is done gives is a drained network, as a refill asks.
--     sided                   each list is of a direction of side 0 or 1
--     drained_lists           each list says truly of its direction where its bytes are, and no two are of one direction
--     noted_list              each noted direction of the network has a list
--     named_lists             the room names each direction once, and that of each list with at least the length of the list
use Rattle.std.proofs.Common.{◌≡◌, ◌≢◌, ℕ, ◌<◌, ◌≤◌, Bool, true, false, List, [], ◌∷◌, ◌++◌, map as each, length, refl, sym, ap, subst, ◌∙◌, append-nil}
use Rattle.std.specs.Prelude.{Option, Some, None, All, IsSome, IfSome, is_some, not, ◌||◌, if◌then◌else◌}
use Rattle.std.specs.Option.{option_map, option_or}
use Rattle.std.specs.List.{list_any, cons_option}
use Rattle.std.specs.Ordering.{eq_by_cmp}
use Rattle.std.proofs.lemmas.List.Elements.{All-head, All-tail, All-map, All-weaker}
use Rattle.std.proofs.lemmas.Option.{IfSome_then}
use Rattle.views.proofs.MapLaws.{true_false, same_key, key_tied, other_key}
use Rattle.sys_abi.specs.declared.identity.Dir.{Dir}
use Rattle.sys_abi.specs.Orders.{dir_cmp}
use Rattle.sys_abi.proofs.OrderLaws.{dir_total, dir_exact}
use Rattle.wire_net.specs.declared.cut_room.DirBytes.{DirBytes}
use Rattle.wire_net.specs.declared.cut_room.DirNotes.{DirNotes}
use Rattle.wire_channels.specs.declared.limits.TheConstants.{QUEUE_LIMIT}
use Rattle.wire_channels.specs.Directions.{Direction}
use Rattle.wire_channels.specs.Channels.{Channels, direction_at, is_live_at}
use Rattle.wire_net.specs.CutRooms.{Named, name_of, names_of}
use Rattle.wire_net.specs.DrainedNets.{list_on, IsListOf, IsDrained, IsNamingLists}
use Rattle.wire_net.specs.Networks.{Network}
use Rattle.wire_channels.specs.Answers.{received_on}
use Rattle.wire_net.specs.Whereabouts.{stream_on}
use Rattle.drain_core.specs.Drains.{Notes, IsNoted, Apart, dirs_of, Fits, has_notes}
use Rattle.drain_core.specs.Openings.{read_list, readable_list, list_of, lists_of, IsQuiet, IsQuietIf, IsGiven}
use Rattle.drain_core.proofs.AllDirections.{for_each, one_of, back_apart}
use Rattle.drain_core.proofs.Given.{all_given}
use Rattle.drain_core.proofs.Walk.{front_apart}

-- ---- the directions of the lists

-- a list is of the direction that is noted
same_dir : (m : Channels) (x : DirNotes) → IfSome (list_of m x) (λ list. list.dir ≡ x.dir)
same_dir m x = choice (is_some x.sender)
  where
    found : (o : Option Direction) → IfSome (option_map (readable_list x) o) (λ list. list.dir ≡ x.dir)
    found None = tt
    found (Some direction) = refl

    choice : (b : Bool) → IfSome (if b then Some (read_list x) else option_map (readable_list x) (direction_at m x.dir)) (λ list. list.dir ≡ x.dir)
    choice true = refl
    choice false = found (direction_at m x.dir)

-- of the lists' directions, as of the noted ones
of_dirs : (P : Dir → Type 0) (m : Channels) (notes : Notes) → All (λ x. P x.dir) notes → All (λ list. P list.dir) (lists_of m notes)
of_dirs P m notes all =
    all_given (λ list. P list.dir) m notes
    (All-weaker (λ x. P x.dir) (λ x. IfSome (list_of m x) (λ list. P list.dir)) (λ x here. IfSome_then (list_of m x) (same_dir m x) (λ list same. subst P (sym same) here)) notes all)

noted_sides : (notes : Notes) → All IsNoted notes → All (λ x. x.dir.side < 2) notes
noted_sides notes noted = All-weaker IsNoted (λ x. x.dir.side < 2) (λ x one. one.side) notes noted

pub sided : (m : Channels) (notes : Notes) → Fits m notes → All (λ list. list.dir.side < 2) (lists_of m notes)
sided m notes fits = of_dirs (λ d. d.side < 2) m notes (noted_sides notes fits.noted)

apart_lists : (m : Channels) (notes : Notes) → Apart (dirs_of notes) → Apart (each (λ list. list.dir) (lists_of m notes))
apart_lists m [] apart = tt
apart_lists m (x ∷ notes) apart = one (list_of m x) (same_dir m x) (apart_lists m notes apart.1)
  where
    one : (o : Option DirBytes) → IfSome o (λ list. list.dir ≡ x.dir) → Apart (each (λ list. list.dir) (lists_of m notes)) → Apart (each (λ list. list.dir) (cons_option o (lists_of m notes)))
    one None same rest = rest
    one (Some list) same rest =
        let others = of_dirs (λ e. e ≢ x.dir) m notes (back_apart [] notes x apart) in
        (subst (λ (d : Dir). All (λ e. e ≢ d) (each (λ list. list.dir) (lists_of m notes))) (sym same) (All-map (λ e. e ≢ x.dir) (λ (list : DirBytes). list.dir) (lists_of m notes) others), rest)

-- ---- the list of a direction among all

-- the list of the first notes is that of their direction, and is passed over for another
first_list : (m : Channels) (d : Dir) (x : DirNotes) (notes : Notes)
    → list_on d (lists_of m (x ∷ notes)) ≡ (if eq_by_cmp dir_cmp x.dir d then option_or (list_of m x) (list_on d (lists_of m notes)) else list_on d (lists_of m notes))
first_list m d x notes = one (list_of m x) (same_dir m x)
  where
    rest : Option DirBytes
    rest = list_on d (lists_of m notes)

    either : (b : Bool) → rest ≡ (if b then rest else rest)
    either true = refl
    either false = refl

    one : (o : Option DirBytes) → IfSome o (λ list. list.dir ≡ x.dir) → list_on d (cons_option o (lists_of m notes)) ≡ (if eq_by_cmp dir_cmp x.dir d then option_or o rest else rest)
    one None same = either (eq_by_cmp dir_cmp x.dir d)
    one (Some list) same = ap (λ (e : Dir). if eq_by_cmp dir_cmp e d then Some list else rest) same

passed_over : (m : Channels) (d : Dir) (x : DirNotes) (notes : Notes) → eq_by_cmp dir_cmp x.dir d ≡ false → list_on d (lists_of m (x ∷ notes)) ≡ list_on d (lists_of m notes)
passed_over m d x notes other = first_list m d x notes ∙ ap (λ (b : Bool). if b then option_or (list_of m x) (list_on d (lists_of m notes)) else list_on d (lists_of m notes)) other

taken : (m : Channels) (d : Dir) (x : DirNotes) (notes : Notes) → eq_by_cmp dir_cmp x.dir d ≡ true → list_on d (lists_of m (x ∷ notes)) ≡ option_or (list_of m x) (list_on d (lists_of m notes))
taken m d x notes same = first_list m d x notes ∙ ap (λ (b : Bool). if b then option_or (list_of m x) (list_on d (lists_of m notes)) else list_on d (lists_of m notes)) same

front_passed : (m : Channels) (d : Dir) (front rest : Notes) → All (λ y. y.dir ≢ d) front → list_on d (lists_of m (front ++ rest)) ≡ list_on d (lists_of m rest)
front_passed m d [] rest apart = refl
front_passed m d (y ∷ front) rest apart =
    passed_over m d y (front ++ rest) (other_key dir_total dir_exact y.dir d (All-head (λ (z : DirNotes). z.dir ≢ d) y front apart))
    ∙ front_passed m d front rest (All-tail (λ (z : DirNotes). z.dir ≢ d) y front apart)

no_list : (m : Channels) (d : Dir) (notes : Notes) → All (λ y. y.dir ≢ d) notes → list_on d (lists_of m notes) ≡ None
no_list m d notes apart = ap (λ (l : Notes). list_on d (lists_of m l)) (sym (append-nil notes)) ∙ front_passed m d notes [] apart

-- the list of a direction is found, where it has one
own_list : (m : Channels) (front back : Notes) (x : DirNotes) → Apart (dirs_of (front ++ x ∷ back)) → list_on x.dir (lists_of m (front ++ x ∷ back)) ≡ list_of m x
own_list m front back x apart =
    front_passed m x.dir front (x ∷ back) (front_apart front back x apart)
    ∙ taken m x.dir x back (key_tied dir_total dir_exact x.dir)
    ∙ ap (option_or (list_of m x)) (no_list m x.dir back (back_apart front back x apart))
    ∙ alone (list_of m x)
  where
    alone : (o : Option DirBytes) → option_or o None ≡ o
    alone None = refl
    alone (Some list) = refl

-- ---- what a list says of its direction

abbrev IsShort : DirNotes → DirBytes → Type 0
IsShort x list = (length list.bytes ≤ QUEUE_LIMIT) × (length list.bytes ≤ x.returned.room)

true_of : (m : Channels) (x : DirNotes) → x.dir.side < 2 → is_some x.sender ≡ is_live_at m x.dir.conn → IsQuiet m x → IfSome (list_of m x) (IsShort x) → IfSome (list_of m x) (IsListOf m)
true_of m x side live quiet short = choice (is_some x.sender) live short
  where
    stream : List ℕ
    stream = stream_on (direction_at m x.dir)

    readable : List ℕ
    readable = received_on (direction_at m x.dir)

    quiet_if : (b : Bool) → b ≡ is_live_at m x.dir.conn → IsQuietIf b stream readable
    quiet_if b is = subst (λ (c : Bool). IsQuietIf c stream readable) (sym is) quiet

    found : (o : Option Direction) → direction_at m x.dir ≡ o → false ≡ is_live_at m x.dir.conn → IfSome (option_map (readable_list x) o) (IsShort x) → IfSome (option_map (readable_list x) o) (IsListOf m)
    found None at is short = tt
    found (Some direction) at is short = record { side = side; few = short.0; place = ap not is; stands = (quiet_if false is, ap received_on at) }

    choice : (b : Bool) → b ≡ is_live_at m x.dir.conn → IfSome (if b then Some (read_list x) else option_map (readable_list x) (direction_at m x.dir)) (IsShort x)
        → IfSome (if b then Some (read_list x) else option_map (readable_list x) (direction_at m x.dir)) (IsListOf m)
    choice true is short = record { side = side; few = short.0; place = ap not is; stands = quiet_if true is }
    choice false is short = found (direction_at m x.dir) refl is short

pub drained_lists : (t : Network) (notes : Notes) → Fits t.channels notes → IsGiven t notes → IsDrained t.channels (lists_of t.channels notes)
drained_lists t notes fits is = record {
  apart = apart_lists t.channels notes fits.apart;
  lists_of =
      all_given (IsListOf t.channels) t.channels notes (for_each (λ x. IfSome (list_of t.channels x) (IsListOf t.channels)) notes (λ front back x among.
      true_of t.channels x (one_of IsNoted front back x (subst (All IsNoted) among fits.noted)).side
      (one_of (λ y. is_some y.sender ≡ is_live_at t.channels y.dir.conn) front back x (subst (All (λ y. is_some y.sender ≡ is_live_at t.channels y.dir.conn)) among fits.live))
      (one_of (IsQuiet t.channels) front back x (subst (All (IsQuiet t.channels)) among is.quiet))
      (one_of (λ y. IfSome (list_of t.channels y) (IsShort y)) front back x (subst (All (λ y. IfSome (list_of t.channels y) (IsShort y))) among is.few))));
}

-- ---- which directions have a list

list_there : (m : Channels) (x : DirNotes) → IsSome (direction_at m x.dir) → IsSome (list_of m x)
list_there m x there = choice (is_some x.sender)
  where
    found : (o : Option Direction) → IsSome o → IsSome (option_map (readable_list x) o)
    found None there = true_false (sym there)
    found (Some direction) there = refl

    choice : (b : Bool) → IsSome (if b then Some (read_list x) else option_map (readable_list x) (direction_at m x.dir))
    choice true = refl
    choice false = found (direction_at m x.dir) there

pub noted_list : (m : Channels) (d : Dir) (notes : Notes) → IsSome (direction_at m d) → has_notes d notes ≡ true → IsSome (list_on d (lists_of m notes))
noted_list m d [] there is = true_false (sym is)
noted_list m d (x ∷ notes) there is = choice (eq_by_cmp dir_cmp x.dir d) refl is (noted_list m d notes there)
  where
    some : (o rest : Option DirBytes) → IsSome o → IsSome (option_or o rest)
    some None rest none = true_false (sym none)
    some (Some list) rest one = refl

    choice : (b : Bool) → eq_by_cmp dir_cmp x.dir d ≡ b → (b || has_notes d notes) ≡ true → (has_notes d notes ≡ true → IsSome (list_on d (lists_of m notes))) → IsSome (list_on d (lists_of m (x ∷ notes)))
    choice true same is behind =
        let here = list_there m x (subst (λ (e : Dir). IsSome (direction_at m e)) (sym (same_key dir_total dir_exact x.dir d same)) there) in
        ap is_some (taken m d x notes same) ∙ some (list_of m x) (list_on d (lists_of m notes)) here
    choice false other is behind = ap is_some (passed_over m d x notes other) ∙ behind is

list_noted : (m : Channels) (d : Dir) (notes : Notes) → IsSome (list_on d (lists_of m notes)) → list_any (λ named. eq_by_cmp dir_cmp named.0 d) (names_of notes) ≡ true
list_noted m d [] is = is
list_noted m d (x ∷ notes) is = choice (eq_by_cmp dir_cmp x.dir d) refl (list_noted m d notes)
  where
    choice : (b : Bool) → eq_by_cmp dir_cmp x.dir d ≡ b → (IsSome (list_on d (lists_of m notes)) → list_any (λ named. eq_by_cmp dir_cmp named.0 d) (names_of notes) ≡ true)
        → (b || list_any (λ named. eq_by_cmp dir_cmp named.0 d) (names_of notes)) ≡ true
    choice true same behind = refl
    choice false other behind = behind (ap is_some (sym (passed_over m d x notes other)) ∙ is)

-- ---- the room

named_dirs : (notes : Notes) → each (λ named. named.0) (names_of notes) ≡ dirs_of notes
named_dirs [] = refl
named_dirs (x ∷ notes) = ap (λ (ds : List Dir). x.dir ∷ ds) (named_dirs notes)

pub named_lists : (t : Network) (notes : Notes) → Fits t.channels notes → IsGiven t notes → IsNamingLists (names_of notes) (lists_of t.channels notes)
named_lists t notes fits is = record {
  apart = subst Apart (sym (named_dirs notes)) fits.apart;
  sides = All-map (λ (named : Named). named.0.side < 2) name_of notes (noted_sides notes fits.noted);
  room = All-map Fitting name_of notes (for_each (λ x. Fitting (name_of x)) notes fitting);
  whole = λ d there. list_noted t.channels d notes there;
}
  where
    lists : List DirBytes
    lists = lists_of t.channels notes

    Fitting : Named → Type 0
    Fitting named = IfSome (list_on named.0 lists) (λ list. length list.bytes ≤ named.1)

    fitting : (front back : Notes) (x : DirNotes) → notes ≡ front ++ x ∷ back → Fitting (name_of x)
    fitting front back x among =
        let own = ap (λ (l : Notes). list_on x.dir (lists_of t.channels l)) among ∙ own_list t.channels front back x (subst (λ (l : Notes). Apart (dirs_of l)) among fits.apart) in
        let short = one_of (λ y. IfSome (list_of t.channels y) (IsShort y)) front back x (subst (All (λ y. IfSome (list_of t.channels y) (IsShort y))) among is.few) in
        subst (λ (o : Option DirBytes). IfSome o (λ list. length list.bytes ≤ x.returned.room)) (sym own) (IfSome_then (list_of t.channels x) short (λ list both. both.1))
