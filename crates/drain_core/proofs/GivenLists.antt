-- The lists that a drain gives, one after the other.
--     fewer_lists      they are no more than the directions
--     lists_room       so there is room for each
--     lists_more       the list of one more direction
use Rattle.std.proofs.Common.{◌≡◌, ℕ, ◌+◌, ◌<◌, ◌≤◌, suc, List, [], ◌∷◌, ◌++◌, map as each, take, drop, length, get_or, refl, sym, ap, ap₂, ◌∙◌, arith, append_assoc, append-nil, length-append}
use Rattle.std.specs.Prelude.{Option, Some, None}
use Rattle.std.specs.Option.{option_to_list}
use Rattle.std.specs.List.{cons_option}
use Rattle.std.proofs.lemmas.List.{length-take-le}
use Rattle.std.proofs.lemmas.List.Elements.{filter_map-append}
use Rattle.wire_net.specs.declared.cut_room.DirBytes.{DirBytes}
use Rattle.wire_net.specs.declared.cut_room.DirNotes.{DirNotes}
use Rattle.wire_channels.specs.Channels.{Channels}
use Rattle.wire_net.specs.CutRooms.{Named, names_of}
use Rattle.wire_net.specs.Reserves.{Reserve, reserve}
use Rattle.drain_core.specs.Drains.{Notes}
use Rattle.drain_core.specs.Openings.{list_of, lists_of, emptied}
use Rattle.wire_net.proofs.EachItem.{place, item_here}

-- the list of one direction, if it has one, in front of the others
first_of : (found : Option DirBytes) (rest : List DirBytes) → cons_option found rest ≡ option_to_list found ++ rest
first_of None rest = refl
first_of (Some list) rest = refl

one_more : (found : Option DirBytes) (rest : List DirBytes) → length (cons_option found rest) ≤ suc (length rest)
one_more None rest = omega arith
one_more (Some list) rest = omega arith

pub fewer_lists : (m : Channels) (notes : Notes) → length (lists_of m notes) ≤ length notes
fewer_lists m [] = omega arith
fewer_lists m (x ∷ notes) = let most = one_more (list_of m x) (lists_of m notes) in let rest = fewer_lists m notes in omega (arith, most, rest)

pub lists_room : (m : Channels) (old : Notes) (i : ℕ) (first lists : Reserve DirBytes) → i < length old → lists ≡ reserve (first.items ++ lists_of m (take i old)) first.room
    → length first.items + length old ≤ first.room → length lists.items < lists.room
lists_room m old i first lists below is room =
    let items : length lists.items ≡ length first.items + length (lists_of m (take i old)) = ap (λ (r : Reserve DirBytes). length r.items) is ∙ length-append first.items (lists_of m (take i old)) in
    let few = fewer_lists m (take i old) in
    let front = length-take-le i old (omega (arith, below)) in
    let same : lists.room ≡ first.room = ap (λ (r : Reserve DirBytes). r.room) is in
    omega (arith, items, few, front, same, below, room)

pub lists_more : (m : Channels) (items old : Notes) (i : ℕ) (d : DirNotes) (first lists after : Reserve DirBytes) (found : Option DirBytes) → i < length old → items ≡ each emptied (take i old) ++ drop i old
    → lists ≡ reserve (first.items ++ lists_of m (take i old)) first.room → found ≡ list_of m (get_or items i d) → after ≡ reserve (lists.items ++ option_to_list found) lists.room
    → after ≡ reserve (first.items ++ lists_of m (take (i + 1) old)) first.room
lists_more m items old i d first lists after found below seen is one last =
    let x = get_or old i d in
    let at = place old i d below in
    let here : found ≡ list_of m x = one ∙ ap (list_of m) (item_here emptied items old i d below seen) in
    let more : lists_of m (take (i + 1) old) ≡ lists_of m (take i old) ++ option_to_list (list_of m x) =
    ap (lists_of m) (at.so_far ∙ ap (λ (l : Notes). l ++ x ∷ []) (sym at.before)) ∙ filter_map-append (list_of m) (take i old) (x ∷ [])
    ∙ ap (λ (l : List DirBytes). lists_of m (take i old) ++ l) (first_of (list_of m x) [] ∙ append-nil (option_to_list (list_of m x))) in
    last ∙ ap₂ (λ (r : Reserve DirBytes) (o : Option DirBytes). reserve (r.items ++ option_to_list o) r.room) is here
    ∙ ap (λ (l : List DirBytes). reserve l first.room) (append_assoc first.items (lists_of m (take i old)) (option_to_list (list_of m x)) ∙ ap (λ (l : List DirBytes). first.items ++ l) (sym more))

-- who lost their lists are still named with the same room
pub same_names : (notes : Notes) → names_of (each emptied notes) ≡ names_of notes
same_names [] = refl
same_names (x ∷ notes) = ap (λ (l : List Named). (x.dir, x.returned.room) ∷ l) (same_names notes)
