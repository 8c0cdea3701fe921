-- Ways that lead back, made of others.
--     lead_maps                two maps, each of which leads back
--     IsMade part rest make    a key is made of a part and of a rest
--     lead_part                a way over a part of the key, where the rest stays
--     lead_within              a way to those that an embedding reaches
use Rattle.std.proofs.Common.{◌≡◌, Option, Some, None, refl, ap, ◌∙◌, subst}
use Rattle.std.specs.Prelude.{option_map, option_and_then}
use Rattle.std.specs.declared.cmp.Ordering.{Ordering}
use Rattle.std.specs.FinMap as map
use Rattle.std.specs.FinMap.{FinMap}
use Rattle.std.proofs.lemmas.Option.{same_Some, none-some}
use Rattle.views.specs.Seen.{LeadBack}

pub lead_maps : {K L : Type 0} {R : K → K → Ordering} {S : L → L → Ordering}
    (there : FinMap R L) (back : FinMap S K)
    → ((k : K) (l : L) → map.get there k ≡ Some l → map.get back l ≡ Some k)
    → ((k : K) (l : L) → map.get back l ≡ Some k → map.get there k ≡ Some l)
    → LeadBack (map.get there) (map.get back)
lead_maps there back leads_back leads_there = record { back = leads_back; there = leads_there }

pub record IsMade {A K C : Type 0} (part : A → K) (rest : A → C) (make : K → C → A) : Type 0 where
  pub whole : (a : A) → make (part a) (rest a) ≡ a
  pub its_part : (k : K) (c : C) → part (make k c) ≡ k
  pub its_rest : (k : K) (c : C) → rest (make k c) ≡ c

module _ {K L A B C : Type 0} (to : K → Option L) (from : L → Option K) (lead : LeadBack to from)
    (part : A → K) (rest : A → C) (make : K → C → A) (made : IsMade part rest make)
    (part' : B → L) (rest' : B → C) (make' : L → C → B) (made' : IsMade part' rest' make') where
  abbrev pub over : A → Option B
  over a = option_map (λ l. make' l (rest a)) (to (part a))

  abbrev pub under : B → Option A
  under b = option_map (λ k. make k (rest' b)) (from (part' b))

  over_back : (a : A) (b : B) (o : Option L) → to (part a) ≡ o
      → option_map (λ l. make' l (rest a)) o ≡ Some b → under b ≡ Some a
  over_back a b None e h = absurd (none-some b h)
  over_back a b (Some l) e h =
      let way_back = ap from (made'.its_part l (rest a)) ∙ lead.back (part a) l e in
      subst (λ x. under x ≡ Some a) (same_Some _ b h)
      (ap (option_map (λ k. make k (rest' (make' l (rest a))))) way_back
      ∙ ap Some (ap (make (part a)) (made'.its_rest l (rest a)) ∙ made.whole a))

  under_back : (a : A) (b : B) (o : Option K) → from (part' b) ≡ o
      → option_map (λ k. make k (rest' b)) o ≡ Some a → over a ≡ Some b
  under_back a b None e h = absurd (none-some a h)
  under_back a b (Some k) e h =
      let way_there = ap to (made.its_part k (rest' b)) ∙ lead.there k (part' b) e in
      subst (λ x. over x ≡ Some b) (same_Some _ a h)
      (ap (option_map (λ l. make' l (rest (make k (rest' b))))) way_there
      ∙ ap Some (ap (make' (part' b)) (made.its_rest k (rest' b)) ∙ made'.whole b))

  pub lead_part : LeadBack over under
  lead_part = record {
    back = λ a b is. over_back a b (to (part a)) refl is;
    there = λ a b is. under_back a b (from (part' b)) refl is;
  }

module _ {K L M : Type 0} (to : K → Option L) (from : L → Option K) (lead : LeadBack to from)
    (embed : M → L) (pick : L → Option M) (picked : (m : M) → pick (embed m) ≡ Some m)
    (embedded : (l : L) (m : M) → pick l ≡ Some m → embed m ≡ l) where
  within_back : (k : K) (m : M) (o : Option L) → to k ≡ o → option_and_then pick o ≡ Some m
      → from (embed m) ≡ Some k
  within_back k m None e h = absurd (none-some m h)
  within_back k m (Some l) e h = ap from (embedded l m h) ∙ lead.back k l e

  pub lead_within : LeadBack (λ k. option_and_then pick (to k)) (λ m. from (embed m))
  lead_within = record {
    back = λ k m is. within_back k m (to k) refl is;
    there = λ k m is. ap (option_and_then pick) (lead.there k (embed m) is) ∙ picked m;
  }
