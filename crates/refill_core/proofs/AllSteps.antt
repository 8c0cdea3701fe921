-- A step of an agent on the directions of a list, one after the other.
--     next_fits, next_dirs, next_net, next_after, next_moved      one direction further
--     all_moved, all_after                                        behind the last one
use Rattle.std.proofs.Common.{◌≡◌, ℕ, ◌+◌, ◌<◌, ◌≤◌, suc, Bool, true, false, List, ◌∷◌, length, drop, refl, sym, ap, ap₂, subst, ◌∙◌, arith, drop-cons}
use Rattle.std.specs.Prelude.{◌||◌}
use Rattle.std.proofs.lemmas.List.{length-map, drop_all}
use Rattle.sys_abi.specs.declared.identity.Dir.{Dir}
use Rattle.sys_abi.specs.declared.identity.RealPid.{RealPid}
use Rattle.wire_net.specs.declared.cut_room.DirNotes.{DirNotes}
use Rattle.wire_net.specs.Networks.{Network}
use Rattle.refill_core.specs.Refills.{Notes, Refilling, dirs_of, Fits, turn_after, turns_after}
use Rattle.refill_core.specs.Work.{moved_by, moved_any}
use Rattle.refill_core.specs.Stepping.{state, dir_at, no_dir}
use Rattle.refill_core.proofs.OneCall.{with_channels}
use Rattle.refill_core.proofs.Whole.{FitsNow, end_fits, end_dirs}

pub next_fits : (p : RealPid) (l m : Notes) (t u : Network) (d : Dir) → Fits t.channels l → state m u ≡ turn_after p d (state l t) → Fits u.channels m
next_fits p l m t u d fits after = subst FitsNow (sym after) (end_fits p d (state l t) fits)

pub next_dirs : (p : RealPid) (l m : Notes) (t u : Network) (d : Dir) → Fits t.channels l → state m u ≡ turn_after p d (state l t) → dirs_of m ≡ dirs_of l
next_dirs p l m t u d fits after = ap (λ (s : Refilling). dirs_of s.notes) after ∙ end_dirs p d (state l t) fits

pub next_net : (t u v : Network) → u ≡ with_channels t u.channels → v ≡ with_channels u v.channels → v ≡ with_channels t v.channels
next_net t u v first last = last ∙ ap (λ (w : Network). with_channels w v.channels) first

-- the directions that are left
left : (l m : Notes) (k : ℕ) → k < length l → dirs_of m ≡ dirs_of l → drop k (dirs_of l) ≡ dir_at l k ∷ drop (k + 1) (dirs_of m)
left l m k below same =
    drop-cons (dirs_of l) k no_dir (let few = length-map l (λ (x : DirNotes). x.dir) in omega (arith, few, below))
    ∙ ap₂ (λ (i : ℕ) (ds : List Dir). dir_at l k ∷ drop i ds) (let e : suc k ≡ k + 1 = omega arith in e) (sym same)

pub next_after : (p : RealPid) (l m : Notes) (t u : Network) (k : ℕ) → k < length l → Fits t.channels l → state m u ≡ turn_after p (dir_at l k) (state l t)
    → turns_after p (drop (k + 1) (dirs_of m)) (state m u) ≡ turns_after p (drop k (dirs_of l)) (state l t)
next_after p l m t u k below fits after =
    ap (turns_after p (drop (k + 1) (dirs_of m))) after
    ∙ sym (ap (λ (ds : List Dir). turns_after p ds (state l t)) (left l m k below (next_dirs p l m t u (dir_at l k) fits after)))

or_assoc : (a b c : Bool) → ((a || b) || c) ≡ (a || (b || c))
or_assoc true b c = refl
or_assoc false b c = refl

or_false : (a : Bool) → (a || false) ≡ a
or_false true = refl
or_false false = refl

pub next_moved : (p : RealPid) (l m : Notes) (t u : Network) (k : ℕ) (a b : Bool) → k < length l → Fits t.channels l → state m u ≡ turn_after p (dir_at l k) (state l t) → b ≡ moved_by p (dir_at l k) (state l t)
    → ((a || b) || moved_any p (drop (k + 1) (dirs_of m)) (state m u)) ≡ (a || moved_any p (drop k (dirs_of l)) (state l t))
next_moved p l m t u k a b below fits after moved =
    or_assoc a b (moved_any p (drop (k + 1) (dirs_of m)) (state m u))
    ∙ ap (λ (c : Bool). a || c)
    (ap₂ (λ (c : Bool) (s : Refilling). c || moved_any p (drop (k + 1) (dirs_of m)) s) moved after
    ∙ sym (ap (λ (ds : List Dir). moved_any p ds (state l t)) (left l m k below (next_dirs p l m t u (dir_at l k) fits after))))

pub all_moved : (p : RealPid) (l : Notes) (t : Network) (k : ℕ) (a b : Bool) → length l ≤ k → (a || moved_any p (drop k (dirs_of l)) (state l t)) ≡ b → a ≡ b
all_moved p l t k a b past is =
    sym (ap (λ (ds : List Dir). a || moved_any p ds (state l t)) (drop_all k (dirs_of l) (let few = length-map l (λ (x : DirNotes). x.dir) in omega (arith, few, past))) ∙ or_false a) ∙ is

pub all_after : (p : RealPid) (l : Notes) (t : Network) (k : ℕ) (r : Refilling) → length l ≤ k → turns_after p (drop k (dirs_of l)) (state l t) ≡ r → state l t ≡ r
all_after p l t k r past is =
    sym (ap (λ (ds : List Dir). turns_after p ds (state l t)) (drop_all k (dirs_of l) (let few = length-map l (λ (x : DirNotes). x.dir) in omega (arith, few, past)))) ∙ is
