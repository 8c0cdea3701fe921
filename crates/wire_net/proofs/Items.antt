-- What holds of the items of a list.
--     for_each, one_of      of each, where it holds of an item with those before it and behind it; and of one of them
use Rattle.std.proofs.Common.{◌≡◌, [], ◌∷◌, ◌++◌, refl, sym, ◌∙◌, append_assoc}
use Rattle.std.specs.Prelude.{All}
use Rattle.std.proofs.lemmas.List.Elements.{All-nil, All-cons, All-head, All-tail}
use Rattle.wire_net.specs.declared.cut_room.DirNotes.{DirNotes}
use Rattle.wire_net.specs.Noted.{Notes}

pub for_each : (Q : DirNotes → Type 0) (notes : Notes) → ((front back : Notes) (x : DirNotes) → notes ≡ front ++ x ∷ back → Q x) → All Q notes
for_each Q notes told = go [] notes refl
  where
    go : (front rest : Notes) → notes ≡ front ++ rest → All Q rest
    go front [] is = All-nil Q
    go front (x ∷ rest) is = All-cons Q x rest (told front rest x is) (go (front ++ x ∷ []) rest (is ∙ sym (append_assoc front (x ∷ []) rest)))

pub one_of : (P : DirNotes → Type 0) (front back : Notes) (x : DirNotes) → All P (front ++ x ∷ back) → P x
one_of P [] back x all = All-head P x back all
one_of P (y ∷ front) back x all = one_of P front back x (All-tail P y (front ++ x ∷ back) all)
