-- Where the bytes of a direction are in a refill, and that a step leaves them as they are.
--     bytes_of             the drained bytes of a direction that agents refill, else those in its queues
--     whereabouts_is       so says `whereabouts`
--     end_keeps, ends_keep      a step of an agent
use Rattle.std.proofs.Common.{◌≡◌, ◌≢◌, ℕ, ◌<◌, Bool, true, false, List, [], ◌∷◌, ◌++◌, refl, sym, ap, ap₂, subst, ◌∙◌, inl, inr}
use Rattle.std.specs.Prelude.{Option, Some, None, All, IsSome, is_some, if◌then◌else◌}
use Rattle.std.specs.Option.{option_map}
use Rattle.std.specs.Ordering.{eq_by_cmp}
use Rattle.std.specs.FinMap as map
use Rattle.std.proofs.lemmas.List.Elements.{All-nil, All-cons, All-head, All-tail}
use Rattle.views.proofs.MapLaws.{same_or_other, key_tied, other_key, get_insert_same, get_insert_other, true_false}
use Rattle.sys_abi.specs.declared.identity.Dir.{Dir}
use Rattle.sys_abi.specs.declared.identity.RealPid.{RealPid}
use Rattle.sys_abi.specs.Orders.{dir_cmp}
use Rattle.sys_abi.proofs.OrderLaws.{dir_total, dir_exact}
use Rattle.wire_net.specs.declared.cut_room.DirNotes.{DirNotes}
use Rattle.wire_channels.specs.Directions.{Direction}
use Rattle.wire_channels.specs.Channels.{direction_at}
use Rattle.wire_net.specs.Networks.{Network}
use Rattle.wire_net.specs.Whereabouts.{Held, stream_on, reverse, placed, whereabouts}
use Rattle.refill_core.specs.Refills.{Notes, Refilling, Apart, dirs_of, notes_at, put_notes, Fits, turn_after, turns_after}
use Rattle.refill_core.specs.Holding.{held_of, with_held, agents_among, agents_of, own_bytes}
use Rattle.refill_core.specs.Tasks.{turn_channels}
use Rattle.refill_core.proofs.EndFits.{pair_of, Ended, ended}
use Rattle.refill_core.proofs.OneWhereabouts.{where_drained}
use Rattle.refill_core.proofs.Pairs.{put_found, put_beside}
use Rattle.refill_core.proofs.Whole.{FitsNow, Turn, end_cases, end_fits, result_of}

abbrev pub bytes_of : Refilling → Dir → List ℕ
bytes_of s d = own_bytes (notes_at d s.notes) (stream_on (direction_at s.channels d))

abbrev held_at : Notes → Option DirNotes → Option Held
held_at whole None = None
held_at whole (Some x) = if is_some x.sender then option_map (held_of x) (notes_at (reverse x.dir) whole) else None

pub none_at : (d : Dir) (notes : Notes) → All (λ e. e ≢ d) (dirs_of notes) → notes_at d notes ≡ None
none_at d [] apart = refl
none_at d (x ∷ notes) apart =
    ap (λ (b : Bool). if b then Some x else notes_at d notes) (other_key dir_total dir_exact x.dir d (All-head (λ e. e ≢ d) x.dir (dirs_of notes) apart))
    ∙ none_at d notes (All-tail (λ e. e ≢ d) x.dir (dirs_of notes) apart)

agents_at : (whole notes : Notes) (d : Dir) → Apart (dirs_of notes) → map.get (agents_among whole notes) d ≡ held_at whole (notes_at d notes)
agents_at whole [] d apart = map.get-empty dir_cmp d
agents_at whole (x ∷ notes) d apart = elim (same_or_other dir_total dir_exact x.dir d) [
  | inl same ↦
      let tie : eq_by_cmp dir_cmp x.dir d ≡ true = ap (λ (e : Dir). eq_by_cmp dir_cmp e d) same ∙ key_tied dir_total dir_exact d in
      let none : map.get (agents_among whole notes) d ≡ None = agents_at whole notes d apart.1 ∙ ap (held_at whole) (none_at d notes (subst (λ (e : Dir). All (λ f. f ≢ e) (dirs_of notes)) same apart.0)) in
      here (is_some x.sender) (notes_at (reverse x.dir) whole) same none ∙ sym (ap (λ (b : Bool). held_at whole (if b then Some x else notes_at d notes)) tie)
  | inr differ ↦
      let tie : eq_by_cmp dir_cmp x.dir d ≡ false = other_key dir_total dir_exact x.dir d differ in
      passed (is_some x.sender) (notes_at (reverse x.dir) whole) (λ same. differ (sym same)) ∙ agents_at whole notes d apart.1
      ∙ sym (ap (λ (b : Bool). held_at whole (if b then Some x else notes_at d notes)) tie)
]
  where
    here : (some : Bool) (o : Option DirNotes) → x.dir ≡ d → map.get (agents_among whole notes) d ≡ None
        → map.get (if some then with_held o x (agents_among whole notes) else agents_among whole notes) d ≡ (if some then option_map (held_of x) o else None)
    here false o same none = none
    here true None same none = none
    here true (Some y) same none =
        ap (map.get (map.insert (agents_among whole notes) x.dir (held_of x y))) (sym same) ∙ get_insert_same dir_total dir_exact (agents_among whole notes) x.dir (held_of x y)

    passed : (some : Bool) (o : Option DirNotes) → d ≢ x.dir → map.get (if some then with_held o x (agents_among whole notes) else agents_among whole notes) d ≡ map.get (agents_among whole notes) d
    passed false o differ = refl
    passed true None differ = refl
    passed true (Some y) differ = get_insert_other dir_total dir_exact (agents_among whole notes) x.dir (held_of x y) d differ

pub whereabouts_is : (t : Network) (notes : Notes) (d : Dir) → Fits t.channels notes → whereabouts t (agents_of notes) d ≡ own_bytes (notes_at d notes) (stream_on (direction_at t.channels d))
whereabouts_is t notes d fits =
    ap (placed (stream_on (direction_at t.channels d)) (stream_on (direction_at t.channels (reverse d)))) (agents_at notes notes d fits.apart) ∙ found (notes_at d notes) refl
  where
    live : (x : DirNotes) (some : Bool) → is_some x.sender ≡ some → notes_at d notes ≡ Some x
        → placed (stream_on (direction_at t.channels d)) (stream_on (direction_at t.channels (reverse d))) (if some then option_map (held_of x) (notes_at (reverse x.dir) notes) else None)
        ≡ (if some then x.drained.items else stream_on (direction_at t.channels d))
    live x false is at = refl
    live x true is at =
        let two = pair_of t.channels notes d x fits at (there x.sender is) in
        let pair = two.1 in
        let paired : notes_at (reverse x.dir) notes ≡ Some two.0 = ap (λ (e : Dir). notes_at (reverse e) notes) pair.x_dir ∙ pair.y_at in
        ap (λ (o : Option DirNotes). placed (stream_on (direction_at t.channels d)) (stream_on (direction_at t.channels (reverse d))) (option_map (held_of x) o)) paired
        ∙ ap₂ (λ (a b : Option Direction). placed (stream_on a) (stream_on b) (Some (held_of x two.0))) pair.own_at pair.other_at
        ∙ where_drained x two.0 pair.own pair.other pair.x_noted pair.y_noted pair.own_fits pair.other_fits
      where
        there : (o : Option RealPid) → is_some o ≡ true → IsSome o
        there None is = true_false (sym is)
        there (Some agent) is = refl

    found : (o : Option DirNotes) → notes_at d notes ≡ o
        → placed (stream_on (direction_at t.channels d)) (stream_on (direction_at t.channels (reverse d))) (held_at notes o) ≡ own_bytes o (stream_on (direction_at t.channels d))
    found None at = refl
    found (Some x) at = live x (is_some x.sender) refl at

-- ---- a step leaves them

sent_true : (o : Option RealPid) → IsSome o → is_some o ≡ true
sent_true None there = true_false (sym there)
sent_true (Some agent) there = refl

turn_keeps : (p : RealPid) (d : Dir) (s : Refilling) (t : Turn p d s) (q : Dir) → q.side < 2 → bytes_of (result_of p d s t.x t.y) q ≡ bytes_of s q
turn_keeps p d s t q side =
    let e = ended p s.channels s.notes d t.x t.y t.pair in
    ap (λ (v : DirNotes). bytes_of (record { notes = put_notes d v s.notes; channels = turn_channels p t.x t.y s.channels }) q) e.after_is
    ∙ elim (same_or_other dir_total dir_exact q d) [
      | inl same ↦
          let some = sent_true t.x.sender t.sender in
          ap (λ (o : Option DirNotes). own_bytes o (stream_on (direction_at (turn_channels p t.x t.y s.channels) q))) (ap (λ (f : Dir). notes_at f (put_notes d e.after s.notes)) same ∙ put_found d t.x e.after s.notes e.dir t.pair.x_at)
          ∙ ap (λ (b : Bool). if b then e.after.drained.items else stream_on (direction_at (turn_channels p t.x t.y s.channels) q)) (ap is_some e.sender ∙ some)
          ∙ ap (λ r. r.items) e.drained
          ∙ sym (ap (λ (o : Option DirNotes). own_bytes o (stream_on (direction_at s.channels q))) (ap (λ (f : Dir). notes_at f s.notes) same ∙ t.pair.x_at)
          ∙ ap (λ (b : Bool). if b then t.x.drained.items else stream_on (direction_at s.channels q)) some)
      | inr differ ↦
          ap (λ (o : Option DirNotes). own_bytes o (stream_on (direction_at (turn_channels p t.x t.y s.channels) q))) (put_beside d q e.after s.notes e.dir differ)
          ∙ others e differ
    ]
  where
    others : (e : Ended p s.channels s.notes d t.x t.y t.pair) → q ≢ d
        → own_bytes (notes_at q s.notes) (stream_on (direction_at (turn_channels p t.x t.y s.channels) q)) ≡ own_bytes (notes_at q s.notes) (stream_on (direction_at s.channels q))
    others e differ = elim (same_or_other dir_total dir_exact q (reverse d)) [
      | inl same ↦
          let at : notes_at q s.notes ≡ Some t.y = ap (λ (f : Dir). notes_at f s.notes) same ∙ t.pair.y_at in
          ap (λ (o : Option DirNotes). own_bytes o (stream_on (direction_at (turn_channels p t.x t.y s.channels) q))) at
          ∙ ap (λ (b : Bool). if b then t.y.drained.items else stream_on (direction_at (turn_channels p t.x t.y s.channels) q)) t.pair.y_live
          ∙ sym (ap (λ (o : Option DirNotes). own_bytes o (stream_on (direction_at s.channels q))) at ∙ ap (λ (b : Bool). if b then t.y.drained.items else stream_on (direction_at s.channels q)) t.pair.y_live)
      | inr apart ↦ ap (λ (o : Option Direction). own_bytes (notes_at q s.notes) (stream_on o)) (e.beside q side differ apart)
    ]

pub end_keeps : (p : RealPid) (d : Dir) (s : Refilling) (q : Dir) → q.side < 2 → FitsNow s → bytes_of (turn_after p d s) q ≡ bytes_of s q
end_keeps p d s q side fits = elim (end_cases p d s fits) [
  | inl still ↦ ap (λ (t : Refilling). bytes_of t q) still.is
  | inr turn ↦ ap (λ (t : Refilling). bytes_of t q) turn.is ∙ turn_keeps p d s turn q side
]

pub ends_keep : (p : RealPid) (ds : List Dir) (s : Refilling) (q : Dir) → q.side < 2 → FitsNow s → bytes_of (turns_after p ds s) q ≡ bytes_of s q
ends_keep p [] s q side fits = refl
ends_keep p (d ∷ ds) s q side fits = ends_keep p ds (turn_after p d s) q side (end_fits p d s fits) ∙ end_keeps p d s q side fits

-- an item is found at its direction
passed_over : (d : Dir) (front rest : Notes) → All (λ z. z.dir ≢ d) front → notes_at d (front ++ rest) ≡ notes_at d rest
passed_over d [] rest apart = refl
passed_over d (z ∷ front) rest apart =
    ap (λ (b : Bool). if b then Some z else notes_at d (front ++ rest)) (other_key dir_total dir_exact z.dir d (All-head (λ (v : DirNotes). v.dir ≢ d) z front apart))
    ∙ passed_over d front rest (All-tail (λ (v : DirNotes). v.dir ≢ d) z front apart)

in_middle : (P : Dir → Type 0) (front back : Notes) (x : DirNotes) → All P (dirs_of (front ++ x ∷ back)) → P x.dir
in_middle P [] back x all = All-head P x.dir (dirs_of back) all
in_middle P (y ∷ front) back x all = in_middle P front back x (All-tail P y.dir (dirs_of (front ++ x ∷ back)) all)

pub front_apart : (front back : Notes) (x : DirNotes) → Apart (dirs_of (front ++ x ∷ back)) → All (λ y. y.dir ≢ x.dir) front
front_apart [] back x apart = All-nil (λ (y : DirNotes). y.dir ≢ x.dir)
front_apart (y ∷ front) back x apart =
    All-cons (λ (z : DirNotes). z.dir ≢ x.dir) y front (λ same. in_middle (λ e. e ≢ y.dir) front back x apart.0 (sym same)) (front_apart front back x apart.1)

pub at_itself : (notes front back : Notes) (x : DirNotes) → notes ≡ front ++ x ∷ back → Apart (dirs_of notes) → notes_at x.dir notes ≡ Some x
at_itself notes front back x among apart =
    ap (notes_at x.dir) among ∙ passed_over x.dir front (x ∷ back) (front_apart front back x (subst (λ (l : Notes). Apart (dirs_of l)) among apart))
    ∙ ap (λ (b : Bool). if b then Some x else notes_at x.dir back) (key_tied dir_total dir_exact x.dir)
