-- An agent goes over all directions, one after the other.
--     untouched                   what happens to some directions leaves another as it is
--     front_apart, here           so the network has the direction of each item as it was at first
--     turn_net, turn_moved        one turn of the walk
--     may_send                    who may send, where all notes fit
use Rattle.std.proofs.Common.{◌≡◌, ◌≢◌, ℕ, ◌+◌, ◌<◌, Bool, false, ◌||◌, [], ◌∷◌, ◌++◌, take, drop, length, get_or, refl, sym, ap, ap₂, subst, ◌∙◌, inl, inr}
use Rattle.std.specs.Prelude.{Option, All, IfSome, true}
use Rattle.std.specs.Option.{option_map_or}
use Rattle.std.proofs.lemmas.List.Elements.{All-nil, All-cons, All-head, All-tail, All-take}
use Rattle.std.proofs.lemmas.List.Folds.{list_any-append}
use Rattle.std.proofs.lemmas.List.Sums.{fold-append}
use Rattle.views.proofs.MapLaws.{true_false}
use Rattle.sys_abi.specs.declared.identity.Dir.{Dir}
use Rattle.sys_abi.specs.declared.identity.RealPid.{RealPid}
use Rattle.wire_net.specs.declared.cut_room.DirNotes.{DirNotes}
use Rattle.wire_channels.specs.Directions.{Direction}
use Rattle.wire_channels.specs.Channels.{Channels, direction_at, at_direction}
use Rattle.wire_net.specs.Networks.{Network}
use Rattle.drain_core.specs.Tasks.{is_agent, moves, direction_after, note_after}
use Rattle.drain_core.specs.Drains.{Notes, IsFlowing, IsNoted, IsInStep, dirs_of, Apart, Fits, notes_after, channels_after, moves_on, moves_any}
use Rattle.drain_core.proofs.OneStep.{with_channels}
use Rattle.wire_net.proofs.EachItem.{At, place, turn_item}
use Rattle.wire_channels.proofs.OneDirection.{direction_beside}

pub untouched : (p : RealPid) (front : Notes) (m : Channels) (d : Dir) → d.side < 2 → All (λ y. y.dir ≢ d) front → All IsNoted front → direction_at (channels_after p front m) d ≡ direction_at m d
untouched p [] m d side apart noted = refl
untouched p (y ∷ ys) m d side apart noted =
    untouched p ys (at_direction m y.dir (direction_after p y)) d side (All-tail (λ (z : DirNotes). z.dir ≢ d) y ys apart) (All-tail IsNoted y ys noted)
    ∙ direction_beside m y.dir d (direction_after p y) (All-head IsNoted y ys noted).side side (λ same. All-head (λ (z : DirNotes). z.dir ≢ d) y ys apart (sym same))

middle : (P : Dir → Type 0) (ys back : Notes) (x : DirNotes) → All P (dirs_of (ys ++ x ∷ back)) → P x.dir
middle P [] back x all = All-head P x.dir (dirs_of back) all
middle P (y ∷ ys) back x all = middle P ys back x (All-tail P y.dir (dirs_of (ys ++ x ∷ back)) all)

pub front_apart : (front back : Notes) (x : DirNotes) → Apart (dirs_of (front ++ x ∷ back)) → All (λ y. y.dir ≢ x.dir) front
front_apart [] back x apart = All-nil (λ (y : DirNotes). y.dir ≢ x.dir)
front_apart (y ∷ ys) back x apart =
    All-cons (λ (z : DirNotes). z.dir ≢ x.dir) y ys (λ same. middle (λ e. e ≢ y.dir) ys back x apart.0 (sym same)) (front_apart ys back x apart.1)

-- the item's direction stands in the network as it did at first
pub here : (p : RealPid) (m : Channels) (old : Notes) (i : ℕ) (x : DirNotes) (at : At old i x) → Fits m old → x.dir.side < 2 → direction_at (channels_after p (take i old) m) x.dir ≡ direction_at m x.dir
here p m old i x at fits side =
    untouched p (take i old) m x.dir side
    (subst (All (λ y. y.dir ≢ x.dir)) (sym at.before) (front_apart at.front at.back x (subst (λ (l : Notes). Apart (dirs_of l)) at.whole fits.apart)))
    (All-take IsNoted i old fits.noted)

pub turn_net : (p : RealPid) (m : Channels) (old : Notes) (i : ℕ) (x : DirNotes) (at : At old i x)
    → at_direction (channels_after p (take i old) m) x.dir (direction_after p x) ≡ channels_after p (take (i + 1) old) m
turn_net p m old i x at =
    ap (λ (l : Notes). at_direction (channels_after p l m) x.dir (direction_after p x)) at.before
    ∙ sym (fold-append (λ (n : Channels) (y : DirNotes). at_direction n y.dir (direction_after p y)) m at.front (x ∷ []))
    ∙ ap (λ (l : Notes). channels_after p l m) (sym at.so_far)

or_none : (a b : Bool) → (a || b) ≡ (a || (b || false))
or_none true b = refl
or_none false true = refl
or_none false false = refl

pub turn_moved : (p : RealPid) (m : Channels) (old : Notes) (i : ℕ) (x : DirNotes) (at : At old i x) (moved one : Bool) → moved ≡ moves_any p m (take i old) → one ≡ moves_on p m x
    → (moved || one) ≡ moves_any p m (take (i + 1) old)
turn_moved p m old i x at moved one so_far is =
    or_none moved one ∙ ap₂ (λ (a b : Bool). a || (b || false)) (so_far ∙ ap (moves_any p m) at.before) is
    ∙ sym (list_any-append (moves_on p m) at.front (x ∷ []))
    ∙ ap (moves_any p m) (sym at.so_far)

-- only the agent of a live channel sends
pub may_send : (p : RealPid) (m : Channels) (x : DirNotes) → IsInStep m x → is_agent p x.sender ≡ true → IfSome (direction_at m x.dir) IsFlowing
may_send p m x (inl aside) is = true_false (sym is ∙ ap (is_agent p) aside.sender)
may_send p m x (inr under) is = subst (λ (found : Option Direction). IfSome found IsFlowing) (sym under.found) under.drains.flows

pub of_all : (P : DirNotes → Type 0) (old : Notes) (i : ℕ) (x : DirNotes) (at : At old i x) → All P old → P x
of_all P old i x at all = inside at.front (subst (All P) at.whole all)
  where
    inside : (front : Notes) → All P (front ++ x ∷ at.back) → P x
    inside [] told = All-head P x at.back told
    inside (y ∷ ys) told = inside ys (All-tail P y (ys ++ x ∷ at.back) told)

-- what a turn finds: the item, and its direction as it was at first
pub record Finds (p : RealPid) (m n : Channels) (old : Notes) (i : ℕ) (x y : DirNotes) : Type 0 where
  pub at : At old i x
  pub noted : IsNoted x
  pub in_step : IsInStep m x
  pub item : y ≡ x
  pub channels : n ≡ channels_after p (take i old) m
  pub direction : direction_at n y.dir ≡ direction_at m x.dir

pub finds : (p : RealPid) (m n : Channels) (items old : Notes) (i : ℕ) (d : DirNotes) → i < length old → Fits m old → items ≡ notes_after p m (take i old) ++ drop i old → n ≡ channels_after p (take i old) m
    → Finds p m n old i (get_or old i d) (get_or items i d)
finds p m n items old i d below fits seen channels =
    let at = place old i d below in
    let noted = of_all IsNoted old i (get_or old i d) at fits.noted in
    let item = turn_item (λ x. note_after p (direction_at m x.dir) x) items old i (get_or old i d) d at seen in record {
      at = at;
      noted = noted;
      in_step = of_all (IsInStep m) old i (get_or old i d) at fits.in_step;
      item = item;
      channels = channels;
      direction = ap₂ direction_at channels (ap (λ (x : DirNotes). x.dir) item) ∙ here p m old i (get_or old i d) at fits noted.side;
    }

pub sends_there : (p : RealPid) (m n : Channels) (old : Notes) (i : ℕ) (x y : DirNotes) → Finds p m n old i x y → is_agent p y.sender ≡ true → IfSome (direction_at n y.dir) IsFlowing
sends_there p m n old i x y found is =
    subst (λ (o : Option Direction). IfSome o IsFlowing) (sym found.direction) (may_send p m x found.in_step (ap (λ (z : DirNotes). is_agent p z.sender) (sym found.item) ∙ is))

pub noted_there : (p : RealPid) (m n : Channels) (old : Notes) (i : ℕ) (x y v : DirNotes) → Finds p m n old i x y → v ≡ note_after p (direction_at n y.dir) y → v ≡ note_after p (direction_at m x.dir) x
noted_there p m n old i x y v found is = is ∙ ap₂ (note_after p) found.direction found.item

pub net_there : (p : RealPid) (t u v : Network) (old : Notes) (i : ℕ) (x y : DirNotes) → Finds p t.channels u.channels old i x y → u ≡ with_channels t (channels_after p (take i old) t.channels)
    → v ≡ with_channels u (at_direction u.channels y.dir (direction_after p y)) → v ≡ with_channels t (channels_after p (take (i + 1) old) t.channels)
net_there p t u v old i x y found before is =
    is ∙ ap (λ (w : Network). with_channels w (at_direction u.channels y.dir (direction_after p y))) before
    ∙ ap (with_channels t) (ap₂ (λ (c : Channels) (z : DirNotes). at_direction c z.dir (direction_after p z)) found.channels found.item ∙ turn_net p t.channels old i x found.at)

pub moved_there : (p : RealPid) (m n : Channels) (old : Notes) (i : ℕ) (x y : DirNotes) (one : Bool) → Finds p m n old i x y → one ≡ option_map_or (moves p y) (direction_at n y.dir) false → one ≡ moves_on p m x
moved_there p m n old i x y one found is = is ∙ ap₂ (λ (z : DirNotes) (o : Option Direction). option_map_or (moves p z) o false) found.item found.direction
