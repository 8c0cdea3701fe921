-- Notes for each named direction, one more at a time, and the names of all of them.
use Rattle.std.proofs.Common.{◌≡◌, ℕ, ◌+◌, ◌<◌, ◌≤◌, get_or, take, length, List, [], ◌∷◌, ◌++◌, refl, sym, ap, subst, ◌∙◌}
use Rattle.std.specs.Prelude.{All}
use Rattle.std.proofs.lemmas.List.{take_more, take_all}
use Rattle.std.proofs.lemmas.List.Elements.{All-nil, All-cons, All-map}
use Rattle.wire_net.specs.declared.cut_room.DirBytes.{DirBytes}
use Rattle.wire_net.specs.declared.cut_room.DirNotes.{DirNotes}
use Rattle.wire_net.specs.declared.cut_room.RoomParts.{RoomParts}
use Rattle.wire_net.specs.Reserves.{Reserve, reserve}
use Rattle.wire_net.specs.CutRooms.{Named, names_of, new_notes, all_notes, new_parts, HasRoom}

pub names_of-all_notes : (lengths : List Named) → names_of (all_notes lengths) ≡ lengths
names_of-all_notes [] = refl
names_of-all_notes (named ∷ lengths) = ap (λ rest. named ∷ rest) (names_of-all_notes lengths)

all_notes-append : (front back : List Named) → all_notes (front ++ back) ≡ all_notes front ++ all_notes back
all_notes-append [] back = refl
all_notes-append (named ∷ front) back = ap (λ rest. new_notes named ∷ rest) (all_notes-append front back)

pub all_notes-more : (lengths : List Named) (i : ℕ) (named : Named) (notes next : List DirNotes) (one : DirNotes) → i < length lengths → notes ≡ all_notes (take i lengths)
    → one ≡ new_notes named → named ≡ get_or lengths i named → next ≡ notes ++ one ∷ [] → next ≡ all_notes (take (i + 1) lengths)
all_notes-more lengths i named notes next one below so_far one_is at is =
    is ∙ (λ k. so_far k ++ (one_is ∙ ap new_notes at) k ∷ [])
    ∙ sym (ap all_notes (take_more lengths i named below) ∙ all_notes-append (take i lengths) (get_or lengths i named ∷ []))

pub all_notes-all : (lengths : List Named) (i : ℕ) (notes : List DirNotes) → length lengths ≤ i → notes ≡ all_notes (take i lengths) → notes ≡ all_notes lengths
all_notes-all lengths i notes past so_far = so_far ∙ ap all_notes (take_all i lengths past)

abbrev pub parts : List ℕ → List DirNotes → Reserve DirBytes → RoomParts
parts transfer notes lists = record { transfer = transfer; notes = notes; lists = lists }

pub names_of-made : (notes : List DirNotes) (lengths : List Named) → notes ≡ all_notes lengths → names_of notes ≡ lengths
names_of-made notes lengths is = ap names_of is ∙ names_of-all_notes lengths

-- new room is whole
pub whole-made : (transfer : List ℕ) (notes : List DirNotes) (lists : Reserve DirBytes) (lengths : List Named) → transfer ≡ [] → notes ≡ all_notes lengths → lists ≡ reserve [] (length lengths)
    → parts transfer notes lists ≡ new_parts (names_of notes)
whole-made transfer notes lists lengths first second third =
    (λ i. parts (first i) (second i) (third i)) ∙ ap new_parts (sym (names_of-made notes lengths second))

pub room-made : (lengths : List Named) (notes : List DirNotes) → notes ≡ all_notes lengths → All HasRoom notes
room-made lengths notes is = subst (All HasRoom) (sym is) (All-map HasRoom new_notes lengths (all_empty lengths))
  where
    all_empty : (names : List Named) → All (λ named. HasRoom (new_notes named)) names
    all_empty [] = All-nil (λ (named : Named). HasRoom (new_notes named))
    all_empty (named ∷ names) = All-cons (λ (named : Named). HasRoom (new_notes named)) named names refl (all_empty names)
