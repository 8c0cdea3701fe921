-- Look-ups among the notes on directions, and what a change of those on one direction leaves.
--     other_way              a direction is not its reverse
--     found_dir, put_found, put_beside       look-ups
--     among, at_front        an item is found at its direction
use Rattle.std.proofs.Common.{◌≡◌, ◌≢◌, ℕ, ◌-◌, ◌<◌, Bool, true, false, List, [], ◌∷◌, refl, sym, ap, ap₂, subst, ◌∙◌, arith}
use Rattle.std.specs.Prelude.{Option, Some, None, All, if◌then◌else◌}
use Rattle.std.specs.Ordering.{eq_by_cmp}
use Rattle.std.proofs.lemmas.Option.{same_Some}
use Rattle.std.proofs.lemmas.List.Elements.{All-nil, All-cons, All-head, All-tail}
use Rattle.views.proofs.MapLaws.{same_key, key_tied, other_key, true_false}
use Rattle.sys_abi.specs.declared.identity.Dir.{Dir}
use Rattle.sys_abi.specs.Orders.{dir_cmp}
use Rattle.sys_abi.proofs.OrderLaws.{dir_total, dir_exact}
use Rattle.wire_net.specs.declared.cut_room.DirNotes.{DirNotes}
use Rattle.wire_net.specs.Whereabouts.{reverse}
use Rattle.refill_core.specs.Refills.{Notes, dirs_of, notes_at, put_notes}

abbrev tied : Dir → Dir → Bool
tied e d = eq_by_cmp dir_cmp e d

pub other_way : (d : Dir) → d.side < 2 → reverse d ≢ d
other_way d few same = let sides : 1 - d.side ≡ d.side = ap (λ (e : Dir). e.side) same in absurd (omega (arith, few, sides))

pub twice_around : (d : Dir) → d.side < 2 → reverse (reverse d) ≡ d
twice_around d few = ap (λ (n : ℕ). let e : Dir = record { conn = d.conn; side = n } in e) (let s : 1 - (1 - d.side) ≡ d.side = omega (arith, few) in s)

pub found_dir : (d : Dir) (notes : Notes) (x : DirNotes) → notes_at d notes ≡ Some x → x.dir ≡ d
found_dir d [] x is = absurd (apart is)
  where
    apart : {z : DirNotes} → None ≡ Some z → ⊥
    apart e = cc
found_dir d (y ∷ notes) x is = choice (tied y.dir d) refl (found_dir d notes x) is
  where
    choice : (b : Bool) → tied y.dir d ≡ b → (notes_at d notes ≡ Some x → x.dir ≡ d) → (if b then Some y else notes_at d notes) ≡ Some x → x.dir ≡ d
    choice true at rest is = sym (ap (λ (z : DirNotes). z.dir) (same_Some y x is)) ∙ same_key dir_total dir_exact y.dir d at
    choice false at rest is = rest is

pub put_found : (d : Dir) (x v : DirNotes) (notes : Notes) → v.dir ≡ d → notes_at d notes ≡ Some x → notes_at d (put_notes d v notes) ≡ Some v
put_found d x v [] same is = absurd (apart is)
  where
    apart : {z : DirNotes} → None ≡ Some z → ⊥
    apart e = cc
put_found d x v (y ∷ notes) same is = choice (tied y.dir d) refl (put_found d x v notes same) is
  where
    choice : (b : Bool) → tied y.dir d ≡ b → (notes_at d notes ≡ Some x → notes_at d (put_notes d v notes) ≡ Some v) → (if b then Some y else notes_at d notes) ≡ Some x
        → (if tied (if b then v else y).dir d then Some (if b then v else y) else notes_at d (put_notes d v notes)) ≡ Some v
    choice true at rest is = ap (λ (b : Bool). if b then Some v else notes_at d (put_notes d v notes)) (ap (λ (e : Dir). tied e d) same ∙ key_tied dir_total dir_exact d)
    choice false at rest is = ap (λ (b : Bool). if b then Some y else notes_at d (put_notes d v notes)) at ∙ rest is

pub put_beside : (d e : Dir) (v : DirNotes) (notes : Notes) → v.dir ≡ d → e ≢ d → notes_at e (put_notes d v notes) ≡ notes_at e notes
put_beside d e v [] same differ = refl
put_beside d e v (y ∷ notes) same differ = choice (tied y.dir d) refl (put_beside d e v notes same differ)
  where
    choice : (b : Bool) → tied y.dir d ≡ b → notes_at e (put_notes d v notes) ≡ notes_at e notes
        → (if tied (if b then v else y).dir e then Some (if b then v else y) else notes_at e (put_notes d v notes)) ≡ (if tied y.dir e then Some y else notes_at e notes)
    choice true at rest =
        let here : y.dir ≡ d = same_key dir_total dir_exact y.dir d at in
        ap (λ (b : Bool). if b then Some v else notes_at e (put_notes d v notes)) (other_key dir_total dir_exact v.dir e (λ is. differ (sym is ∙ same)))
        ∙ rest
        ∙ sym (ap (λ (b : Bool). if b then Some y else notes_at e notes) (other_key dir_total dir_exact y.dir e (λ is. differ (sym is ∙ here))))
    choice false at rest = ap (λ (o : Option DirNotes). if tied y.dir e then Some y else o) rest

pub same_dirs : (d : Dir) (v : DirNotes) (notes : Notes) → v.dir ≡ d → dirs_of (put_notes d v notes) ≡ dirs_of notes
same_dirs d v [] same = refl
same_dirs d v (y ∷ notes) same = ap₂ (λ (e : Dir) (es : List Dir). e ∷ es) (choice (tied y.dir d) refl) (same_dirs d v notes same)
  where
    choice : (b : Bool) → tied y.dir d ≡ b → (if b then v else y).dir ≡ y.dir
    choice true at = same ∙ sym (same_key dir_total dir_exact y.dir d at)
    choice false at = refl

-- what holds of what is put, and of all the others
pub all_put : (P Q : DirNotes → Type 0) (d : Dir) (v : DirNotes) (notes : Notes) → Q v → ((z : DirNotes) → z.dir ≢ d → P z → Q z) → All P notes → All Q (put_notes d v notes)
all_put P Q d v [] here others all = All-nil Q
all_put P Q d v (y ∷ notes) here others all =
    All-cons Q (if tied y.dir d then v else y) (put_notes d v notes) (choice (tied y.dir d) refl) (all_put P Q d v notes here others (All-tail P y notes all))
  where
    choice : (b : Bool) → tied y.dir d ≡ b → Q (if b then v else y)
    choice true at = here
    choice false at = others y (λ same. true_false (sym (ap (λ (e : Dir). tied e d) same ∙ key_tied dir_total dir_exact d) ∙ at)) (All-head P y notes all)

pub all_found : (P : DirNotes → Type 0) (d : Dir) (notes : Notes) (x : DirNotes) → notes_at d notes ≡ Some x → All P notes → P x
all_found P d [] x is all = absurd (apart is)
  where
    apart : {z : DirNotes} → None ≡ Some z → ⊥
    apart e = cc
all_found P d (y ∷ notes) x is all = choice (tied y.dir d) refl (all_found P d notes x) is
  where
    choice : (b : Bool) → tied y.dir d ≡ b → (notes_at d notes ≡ Some x → All P notes → P x) → (if b then Some y else notes_at d notes) ≡ Some x → P x
    choice true at rest is = subst P (same_Some y x is) (All-head P y notes all)
    choice false at rest is = rest is (All-tail P y notes all)
