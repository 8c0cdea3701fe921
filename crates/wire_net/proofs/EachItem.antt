-- A list of notes whose items are changed one after the other.
--     At, place               an item of a list, with those before it and behind it
--     item_here               the items that are left are as they were
--     item_changed            one more item is changed
--     all_changed             what holds of the changed ones
--     written_back            a vector whose items were all changed
use Rattle.std.proofs.Common.{◌≡◌, ℕ, ◌+◌, ◌<◌, suc, [], ◌∷◌, ◌++◌, map as each, take, drop, length, get_or, set, refl, sym, ap, ap₂, subst, ◌∙◌, arith, append_assoc, append-nil}
use Rattle.std.specs.Prelude.{All}
use Rattle.std.proofs.Math.Seq.{drop-cons, take-suc, set-append_seam, get_or-append_seam}
use Rattle.std.proofs.lemmas.List.{take-append-drop, take_all, drop_all, length-take-le, length-map, map-append}
use Rattle.std.proofs.lemmas.List.Elements.{All-append, All-nil, All-cons}
use Rattle.wire_net.specs.declared.cut_room.DirNotes.{DirNotes}
use Rattle.wire_net.specs.Noted.{Notes}

pub record At (old : Notes) (i : ℕ) (x : DirNotes) : Type 0 where
  pub front : Notes
  pub back : Notes
  pub whole : old ≡ front ++ x ∷ back
  pub before : take i old ≡ front
  pub so_far : take (i + 1) old ≡ front ++ x ∷ []
  pub from_here : drop i old ≡ x ∷ back
  pub behind : drop (i + 1) old ≡ back
  pub many : length front ≡ i

pub place : (old : Notes) (i : ℕ) (d : DirNotes) → i < length old → At old i (get_or old i d)
place old i d below =
    let next : i + 1 ≡ suc i = omega arith in record {
      front = take i old;
      back = drop (suc i) old;
      whole = sym (take-append-drop i old) ∙ ap (λ (l : Notes). take i old ++ l) (drop-cons old i d below);
      before = refl;
      so_far = ap (λ (k : ℕ). take k old) next ∙ take-suc old i d below;
      from_here = drop-cons old i d below;
      behind = ap (λ (k : ℕ). drop k old) next;
      many = length-take-le i old (omega (arith, below));
    }

-- the first items are changed already
abbrev Seen : (DirNotes → DirNotes) → Notes → Notes → ℕ → Type 0
Seen f items old i = items ≡ each f (take i old) ++ drop i old

spelled : (f : DirNotes → DirNotes) (items old : Notes) (i : ℕ) (x : DirNotes) (at : At old i x) → Seen f items old i → items ≡ each f at.front ++ x ∷ at.back
spelled f items old i x at seen = seen ∙ ap₂ (λ (a b : Notes). each f a ++ b) at.before at.from_here

counted : (f : DirNotes → DirNotes) (old : Notes) (i : ℕ) (x : DirNotes) (at : At old i x) → i ≡ length (each f at.front)
counted f old i x at = sym (length-map at.front f ∙ at.many)

pub turn_item : (f : DirNotes → DirNotes) (items old : Notes) (i : ℕ) (x d : DirNotes) (at : At old i x) → Seen f items old i → get_or items i d ≡ x
turn_item f items old i x d at seen =
    ap₂ (λ (l : Notes) (k : ℕ). get_or l k d) (spelled f items old i x at seen) (counted f old i x at) ∙ get_or-append_seam (each f at.front) x at.back d

pub turn_notes : (f : DirNotes → DirNotes) (items old : Notes) (i : ℕ) (x v : DirNotes) (at : At old i x) → Seen f items old i → v ≡ f x
    → set items i v ≡ each f (take (i + 1) old) ++ drop (i + 1) old
turn_notes f items old i x v at seen is =
    ap₂ (λ (l : Notes) (k : ℕ). set l k v) (spelled f items old i x at seen) (counted f old i x at)
    ∙ set-append_seam (each f at.front) x at.back v
    ∙ ap (λ (y : DirNotes). each f at.front ++ y ∷ at.back) is
    ∙ sym (append_assoc (each f at.front) (f x ∷ []) at.back)
    ∙ ap (λ (l : Notes). l ++ at.back) (sym (map-append f at.front (x ∷ [])))
    ∙ sym (ap₂ (λ (a b : Notes). each f a ++ b) at.so_far at.behind)

pub item_here : (f : DirNotes → DirNotes) (items old : Notes) (i : ℕ) (d : DirNotes) → i < length old → items ≡ each f (take i old) ++ drop i old → get_or items i d ≡ get_or old i d
item_here f items old i d below seen = turn_item f items old i (get_or old i d) d (place old i d below) seen

pub item_changed : (f : DirNotes → DirNotes) (items old : Notes) (i : ℕ) (d v : DirNotes) → i < length old → items ≡ each f (take i old) ++ drop i old → v ≡ f (get_or items i d)
    → set items i v ≡ each f (take (i + 1) old) ++ drop (i + 1) old
item_changed f items old i d v below seen is =
    let at = place old i d below in
    turn_notes f items old i (get_or old i d) v at seen (is ∙ ap f (turn_item f items old i (get_or old i d) d at seen))

pub all_changed : (P : DirNotes → Type 0) (f : DirNotes → DirNotes) (items old : Notes) (i : ℕ) (d v : DirNotes) → i < length old → items ≡ each f (take i old) ++ drop i old → v ≡ f (get_or items i d)
    → P v → All P (each f (take i old)) → All P (each f (take (i + 1) old))
all_changed P f items old i d v below seen is here all =
    let at = place old i d below in
    subst (All P) (ap (λ (y : DirNotes). each f (take i old) ++ y ∷ []) (is ∙ ap f (turn_item f items old i (get_or old i d) d at seen)) ∙ sym (map-append f (take i old) (get_or old i d ∷ [])) ∙ ap (each f) (ap (λ (l : Notes). l ++ get_or old i d ∷ []) at.before ∙ sym at.so_far))
    (All-append P (each f (take i old)) (v ∷ []) all (All-cons P v [] here (All-nil P)))

pub written_back : (f : DirNotes → DirNotes) (n : ℕ) (new seen old whole : Notes) → new ≡ each f seen → seen ≡ old → old ≡ whole → length seen ≡ n → take n (new ++ drop (length new) old) ≡ each f whole
written_back f n new seen old whole is same view many =
    let all : length new ≡ length old = ap length is ∙ length-map seen f ∙ ap length same in
    let n_is : n ≡ length new = sym many ∙ ap length same ∙ sym all in
    ap (λ (l : Notes). take n (new ++ l)) (drop_all (length new) old (omega (arith, all))) ∙ ap (take n) (append-nil new) ∙ take_all n new (omega (arith, n_is)) ∙ is ∙ ap (each f) (same ∙ view)
