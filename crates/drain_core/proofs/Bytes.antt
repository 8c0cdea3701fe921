-- Where the bytes of a direction are in a drain, and that a step of an agent leaves them as they are.
--     find_live d notes          the notes on a direction that agents drain
--     of_found                   the bytes of a direction, by these notes
--     whereabouts_is             so says `whereabouts`
--     Live, found_live           what is found
--     kept_bytes                 a step of an agent
use Rattle.std.proofs.Common.{◌≡◌, ℕ, ◌<◌, Bool, true, false, cond, List, [], ◌∷◌, ◌++◌, refl, sym, ap, ap₂, subst, ◌∙◌, append-nil, inl, inr}
use Rattle.std.specs.Prelude.{Option, Some, None, All, IsSome, is_some, ◌&&◌, if◌then◌else◌}
use Rattle.std.specs.Option.{option_map}
use Rattle.std.specs.Ordering.{eq_by_cmp}
use Rattle.std.specs.FinMap as map
use Rattle.std.proofs.lemmas.List.Elements.{All-head, All-tail}
use Rattle.std.proofs.lemmas.Option.{same_Some}
use Rattle.std.proofs.lemmas.Bool.{and_parts}
use Rattle.views.proofs.MapLaws.{same_or_other, same_key, key_tied, true_false}
use Rattle.sys_abi.specs.declared.identity.Dir.{Dir}
use Rattle.sys_abi.specs.declared.identity.RealPid.{RealPid}
use Rattle.sys_abi.specs.Orders.{dir_cmp}
use Rattle.sys_abi.proofs.OrderLaws.{dir_total, dir_exact}
use Rattle.wire_net.specs.declared.cut_room.DirNotes.{DirNotes}
use Rattle.wire_channels.specs.Directions.{Direction}
use Rattle.wire_channels.specs.Channels.{Channels, direction_at, at_direction}
use Rattle.wire_net.specs.Networks.{Network}
use Rattle.wire_net.specs.Whereabouts.{Held, stream_on, reverse, placed, whereabouts}
use Rattle.drain_core.specs.Tasks.{note_after, direction_after}
use Rattle.drain_core.specs.Drains.{Notes, IsNoted, IsInStep, Fits, notes_after, channels_after}
use Rattle.drain_core.specs.Holding.{held_of, agents_of}
use Rattle.wire_channels.proofs.OneDirection.{unchanged_direction, direction_beside}
use Rattle.drain_core.proofs.OneStep.{with_channels}
use Rattle.drain_core.proofs.OneDrain.{own, step_kept}
use Rattle.drain_core.proofs.AllDirections.{one_of, note_dir, note_sender, aside_direction, own_after}

abbrev is_at : Dir → Option RealPid → Dir → Bool
is_at d sender e = is_some sender && eq_by_cmp dir_cmp d e

abbrev pub find_live : Dir → Notes → Option DirNotes
find_live d [] = None
find_live d (x ∷ notes) = if is_at d x.sender x.dir then Some x else find_live d notes

abbrev pub of_found : Option DirNotes → List ℕ → List ℕ
of_found None bytes = bytes
of_found (Some x) bytes = own x bytes

agents_at : (notes : Notes) (d : Dir) → map.get (agents_of notes) d ≡ option_map held_of (find_live d notes)
agents_at [] d = map.get-empty dir_cmp d
agents_at (x ∷ notes) d = live (is_some x.sender) (eq_by_cmp dir_cmp d x.dir) refl (agents_at notes d)
  where
    live : (some tied : Bool) → eq_by_cmp dir_cmp d x.dir ≡ tied → map.get (agents_of notes) d ≡ option_map held_of (find_live d notes)
        → map.get (if some then map.insert (agents_of notes) x.dir (held_of x) else agents_of notes) d ≡ option_map held_of (if some && tied then Some x else find_live d notes)
    live false tied at rest = rest
    live true true at rest = map.get-insert dir_total (agents_of notes) x.dir (held_of x) d ∙ ap (λ b. cond b (Some (held_of x)) (map.get (agents_of notes) d)) at
    live true false at rest = map.get-insert dir_total (agents_of notes) x.dir (held_of x) d ∙ ap (λ b. cond b (Some (held_of x)) (map.get (agents_of notes) d)) at ∙ rest

placed_is : (found : Option DirNotes) (bytes other : List ℕ) → placed bytes other (option_map held_of found) ≡ of_found found bytes
placed_is None bytes other = refl
placed_is (Some x) bytes other =
    append-nil (((own x bytes) ++ []) ++ []) ∙ append-nil ((own x bytes) ++ []) ∙ append-nil (own x bytes)

pub whereabouts_is : (t : Network) (notes : Notes) (d : Dir) → whereabouts t (agents_of notes) d ≡ of_found (find_live d notes) (stream_on (direction_at t.channels d))
whereabouts_is t notes d =
    ap (λ (found : Option Held). placed (stream_on (direction_at t.channels d)) (stream_on (direction_at t.channels (reverse d))) found) (agents_at notes d)
    ∙ placed_is (find_live d notes) (stream_on (direction_at t.channels d)) (stream_on (direction_at t.channels (reverse d)))

-- the notes that were found
pub record Live (d : Dir) (notes : Notes) (x : DirNotes) : Type 0 where
  pub sender : is_some x.sender ≡ true
  pub dir : x.dir ≡ d
  pub front : Notes
  pub back : Notes
  pub among : notes ≡ front ++ x ∷ back

further : (d : Dir) (y : DirNotes) (notes : Notes) (x : DirNotes) → Live d notes x → Live d (y ∷ notes) x
further d y notes x is = record { sender = is.sender; dir = is.dir; front = y ∷ is.front; back = is.back; among = ap (λ (l : Notes). y ∷ l) is.among }

pub found_live : (d : Dir) (notes : Notes) (x : DirNotes) → find_live d notes ≡ Some x → Live d notes x
found_live d [] x is = absurd (apart is)
  where
    apart : {z : DirNotes} → None ≡ Some z → ⊥
    apart e = cc
found_live d (y ∷ notes) x is = choice (is_at d y.sender y.dir) refl (found_live d notes x) is
  where
    choice : (b : Bool) → is_at d y.sender y.dir ≡ b → (find_live d notes ≡ Some x → Live d notes x) → (if b then Some y else find_live d notes) ≡ Some x → Live d (y ∷ notes) x
    choice false at rest is = further d y notes x (rest is)
    choice true at rest is =
        let parts = and_parts (is_some y.sender) (eq_by_cmp dir_cmp d y.dir) at in
        subst (Live d (y ∷ notes)) (same_Some y x is) (record {
          sender = parts.0;
          dir = sym (same_key dir_total dir_exact d y.dir parts.1);
          front = [];
          back = notes;
          among = refl;
        })

find_after : (p : RealPid) (m : Channels) (notes : Notes) (d : Dir) → find_live d (notes_after p m notes) ≡ option_map (λ x. note_after p (direction_at m x.dir) x) (find_live d notes)
find_after p m [] d = refl
find_after p m (x ∷ notes) d =
    ap₂ (λ (s : Option RealPid) (e : Dir). if is_at d s e then Some (note_after p (direction_at m x.dir) x) else find_live d (notes_after p m notes)) (note_sender p (direction_at m x.dir) x) (note_dir p (direction_at m x.dir) x)
    ∙ choice (is_at d x.sender x.dir) (find_after p m notes d)
  where
    choice : (b : Bool) → find_live d (notes_after p m notes) ≡ option_map (λ (y : DirNotes). note_after p (direction_at m y.dir) y) (find_live d notes)
        → (if b then Some (note_after p (direction_at m x.dir) x) else find_live d (notes_after p m notes))
        ≡ option_map (λ (y : DirNotes). note_after p (direction_at m y.dir) y) (if b then Some x else find_live d notes)
    choice true rest = refl
    choice false rest = rest

-- a direction that nobody drains is as it was
no_agents : (m : Channels) (x : DirNotes) → IsInStep m x → is_some x.sender ≡ false → (x.sender ≡ None) × (x.reader ≡ None)
no_agents m x (inl aside) is = (aside.sender, aside.reader)
no_agents m x (inr under) is = some x.sender under.sender is
  where
    some : {A : Type 0} (o : Option RealPid) → IsSome o → is_some o ≡ false → A
    some None there is = true_false (sym there)
    some (Some agent) there is = true_false is

none_here : (d : Dir) (x : DirNotes) (notes : Notes) → find_live d (x ∷ notes) ≡ None → (is_at d x.sender x.dir ≡ false) × (find_live d notes ≡ None)
none_here d x notes is = choice (is_at d x.sender x.dir) refl is
  where
    choice : (b : Bool) → is_at d x.sender x.dir ≡ b → (if b then Some x else find_live d notes) ≡ None → (is_at d x.sender x.dir ≡ false) × (find_live d notes ≡ None)
    choice true at is = absurd (apart is)
      where
        apart : {z : DirNotes} → Some z ≡ None → ⊥
        apart e = cc
    choice false at is = (at, is)

undrained : (p : RealPid) (first m : Channels) (notes : Notes) (d : Dir) → d.side < 2 → All IsNoted notes → All (IsInStep first) notes → find_live d notes ≡ None
    → direction_at (channels_after p notes m) d ≡ direction_at m d
undrained p first m [] d side noted fits none = refl
undrained p first m (x ∷ notes) d side noted fits none =
    let nobody = none_here d x notes none in
    let rest = undrained p first (at_direction m x.dir (direction_after p x)) notes d side (All-tail IsNoted x notes noted) (All-tail (IsInStep first) x notes fits) nobody.1 in
    elim (same_or_other dir_total dir_exact d x.dir) [
      | inl same ↦
          let agents = no_agents first x (All-head (IsInStep first) x notes fits) (without (is_some x.sender) (eq_by_cmp dir_cmp d x.dir) (ap (eq_by_cmp dir_cmp d) (sym same) ∙ key_tied dir_total dir_exact d) nobody.0) in
          rest ∙ ap (λ (n : Channels). direction_at n d) (unchanged_direction m x.dir (direction_after p x) (λ direction. aside_direction p x direction agents.0 agents.1))
      | inr differ ↦ rest ∙ direction_beside m x.dir d (direction_after p x) (All-head IsNoted x notes noted).side side differ
    ]
  where
    without : (a b : Bool) → b ≡ true → (a && b) ≡ false → a ≡ false
    without true b is none = true_false (sym is ∙ none)
    without false b is none = refl

kept_of : (p : RealPid) (m : Channels) (notes : Notes) (d : Dir) (found : Option DirNotes) → d.side < 2 → Fits m notes → find_live d notes ≡ found
    → of_found (option_map (λ x. note_after p (direction_at m x.dir) x) found) (stream_on (direction_at (channels_after p notes m) d)) ≡ of_found found (stream_on (direction_at m d))
kept_of p m notes d None side fits is = ap stream_on (undrained p m m notes d side fits.noted fits.in_step is)
kept_of p m notes d (Some x) side fits is =
    let live = found_live d notes x is in
    let noted = one_of IsNoted live.front live.back x (subst (All IsNoted) live.among fits.noted) in
    let fit = one_of (IsInStep m) live.front live.back x (subst (All (IsInStep m)) live.among fits.in_step) in
    subst (λ (e : Dir). own (note_after p (direction_at m x.dir) x) (stream_on (direction_at (channels_after p notes m) e)) ≡ own x (stream_on (direction_at m e))) live.dir
    (drained live noted fit)
  where
    drained : Live d notes x → IsNoted x → IsInStep m x → own (note_after p (direction_at m x.dir) x) (stream_on (direction_at (channels_after p notes m) x.dir)) ≡ own x (stream_on (direction_at m x.dir))
    drained live noted (inl aside) = true_false (sym live.sender ∙ ap is_some aside.sender)
    drained live noted (inr under) =
        let after : direction_at (channels_after p notes m) x.dir ≡ Some (direction_after p x under.direction) =
        own_after p m notes live.front live.back x fits live.among ∙ ap (option_map (direction_after p x)) under.found in
        ap₂ (λ (o : Option Direction) (b : List ℕ). own (note_after p o x) b) under.found (ap stream_on after)
        ∙ (step_kept p x under.direction noted under.drains).own
        ∙ ap (λ (o : Option Direction). own x (stream_on o)) (sym under.found)

pub kept_bytes : (p : RealPid) (t : Network) (notes : Notes) (d : Dir) → d.side < 2 → Fits t.channels notes
    → whereabouts (with_channels t (channels_after p notes t.channels)) (agents_of (notes_after p t.channels notes)) d ≡ whereabouts t (agents_of notes) d
kept_bytes p t notes d side fits =
    whereabouts_is (with_channels t (channels_after p notes t.channels)) (notes_after p t.channels notes) d
    ∙ ap (λ (found : Option DirNotes). of_found found (stream_on (direction_at (channels_after p notes t.channels) d))) (find_after p t.channels notes d)
    ∙ kept_of p t.channels notes d (find_live d notes) side fits refl
    ∙ sym (whereabouts_is t notes d)
