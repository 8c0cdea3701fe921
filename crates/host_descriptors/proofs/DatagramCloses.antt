-- An end of a datagram pair closes on both sides, with its description.
--     still_known            what other descriptions are told by
--     SameInboxes-closed     the inboxes without that one's
use Rattle.std.proofs.Common.{◌≡◌, ◌≢◌, ◌⊎◌, ℕ, zero, suc, ◌-◌, ◌<◌, Bool, true, false, cond, ◌||◌, List, Option, Some, None, inl, inr, refl, sym, ap, ◌∙◌, subst, arith}
use Rattle.std.specs.Prelude.{option_map, option_and_then, ◌==◌}
use Rattle.std.specs.Option.{option_map_or}
use Rattle.std.specs.Cmp.{nat_cmp_total}
use Rattle.std.specs.FinMap as map
use Rattle.std.specs.FinMap.{nat_cmp-IsAntisymmetric}
use Rattle.std.proofs.lemmas.Option.{same_Some, none-some}
use Rattle.views.proofs.MapLaws.{true_false, same_or_other, get_insert_same, get_insert_other, get_remove_same, get_remove_other}
use Rattle.sys_abi.specs.declared.identity.DescId.{DescId}
use Rattle.sys_abi.proofs.OrderLaws.{desc_total, desc_exact}
use Rattle.conn_table.specs.declared.pairs.DatagramPair.{DatagramPair}
use Rattle.conn_table.specs.Pairs.{Pairs, end_of, is_open, without_end, put_back, after_close}
use Rattle.fd_tables.specs.declared.description.Desc.{Desc}
use Rattle.fd_tables.specs.declared.description.Object as real_object
use Rattle.fd_tables.specs.declared.description.Object.TheVariants as object
use Rattle.host_tables.specs.OfPlainTables.declared.description.Object.TheVariants as plain
use Rattle.host_tables.specs.OfPlainTables.Tables.{Inboxes}
use Rattle.host_tables.specs.Datagrams.{RealDescriptions, peer_of, told_end, IsOpenEnd, inbox_of, SameInboxes}
use Rattle.host_tables.specs.Descriptions.{Names, Addresses, IsTold}
use Rattle.host_tables.proofs.DescriptionChanges.{IsStillTold}

-- the other side of a pair that lost one

no_third : (n : ℕ) → suc (suc n) < 2 → ⊥
no_third n h = omega (arith, h)

other_end : (side s : ℕ) (pair : DatagramPair) → side < 2 → s < 2 → s ≢ side
    → end_of s (without_end side pair) ≡ end_of s pair
other_end zero zero pair h less differ = absurd (differ refl)
other_end zero (suc zero) pair h less differ = refl
other_end (suc zero) zero pair h less differ = refl
other_end (suc zero) (suc zero) pair h less differ = absurd (differ refl)
other_end side (suc (suc n)) pair h less differ = absurd (no_third n less)
other_end (suc (suc n)) s pair h less differ = absurd (no_third n h)

-- each end still knows its description
known_end : (side s : ℕ) (pair : DatagramPair) → (end_of s (without_end side pair)).desc ≡ (end_of s pair).desc
known_end side s pair = by_sides (side == 0) (s == 0)
  where
    by_sides : (a b : Bool)
        → (cond b (cond a (without_end 0 pair) (without_end 1 pair)).first
        (cond a (without_end 0 pair) (without_end 1 pair)).second).desc ≡ (cond b pair.first pair.second).desc
    by_sides true true = refl
    by_sides true false = refl
    by_sides false true = refl
    by_sides false false = refl

closed_side : (side : ℕ) (pair : DatagramPair) → (end_of side (without_end side pair)).is_open ≡ false
closed_side side pair = by_side (side == 0)
  where
    by_side : (a : Bool)
        → (cond a (cond a (without_end 0 pair) (without_end 1 pair)).first
        (cond a (without_end 0 pair) (without_end 1 pair)).second).is_open ≡ false
    by_side true = refl
    by_side false = refl

open_by : (s : ℕ) (pair : DatagramPair) → (end_of s pair).is_open ≡ true → is_open pair ≡ true
open_by s pair is = by_side (s == 0) pair.first.is_open pair.second.is_open (sides (s == 0) ∙ is)
  where
    sides : (c : Bool) → cond c pair.first.is_open pair.second.is_open ≡ (cond c pair.first pair.second).is_open
    sides true = refl
    sides false = refl

    by_side : (c a b : Bool) → cond c a b ≡ true → (a || b) ≡ true
    by_side true a b e = ap (λ x. x || b) e
    by_side false true b e = refl
    by_side false false b e = e

module _ (pairs : Pairs) (queue side : ℕ) (less : side < 2) (pair : DatagramPair)
    (there : map.get pairs queue ≡ Some pair) where
  abbrev pairs' : Pairs
  pairs' = after_close side pairs queue

  abbrev left : DatagramPair
  left = without_end side pair

  pairs_are : pairs' ≡ cond (is_open left) (map.insert pairs queue left) (map.remove pairs queue)
  pairs_are = ap (λ o. put_back pairs queue (option_map (without_end side) o)) there

  beside_by : (b : Bool) (n : ℕ) → n ≢ queue
      → map.get (cond b (map.insert pairs queue left) (map.remove pairs queue)) n ≡ map.get pairs n
  beside_by true n differ = get_insert_other nat_cmp_total nat_cmp-IsAntisymmetric pairs queue left n differ
  beside_by false n differ = get_remove_other nat_cmp_total nat_cmp-IsAntisymmetric pairs queue n differ

  pub beside : (n : ℕ) → n ≢ queue → map.get pairs' n ≡ map.get pairs n
  beside n differ = ap (λ m. map.get m n) pairs_are ∙ beside_by (is_open left) n differ

  pub stays : is_open left ≡ true → map.get pairs' queue ≡ Some left
  stays is =
      ap (λ m. map.get m queue) (pairs_are ∙ ap (λ b. cond b (map.insert pairs queue left) (map.remove pairs queue)) is)
      ∙ get_insert_same nat_cmp_total nat_cmp-IsAntisymmetric pairs queue left

  here_by : (b : Bool) → is_open left ≡ b → (q : DatagramPair) → map.get pairs' queue ≡ Some q
      → (left ≡ q) × (is_open left ≡ true)
  here_by true is q at = (same_Some left q (sym (stays is) ∙ at), is)
  here_by false is q at =
      absurd (none-some q (sym (ap (λ m. map.get m queue)
      (pairs_are ∙ ap (λ b. cond b (map.insert pairs queue left) (map.remove pairs queue)) is)
      ∙ get_remove_same nat_cmp_total nat_cmp-IsAntisymmetric pairs queue) ∙ at))

  pub pair_was : (n : ℕ) (q : DatagramPair) → map.get pairs' n ≡ Some q
      → ((n ≡ queue) × ((left ≡ q) × (is_open left ≡ true))) ⊎ (map.get pairs n ≡ Some q)
  pair_was n q is = elim (same_or_other nat_cmp_total nat_cmp-IsAntisymmetric n queue) [
    | inl at ↦ inl (at, here_by (is_open left) refl q (ap (map.get pairs') (sym at) ∙ is))
    | inr differ ↦ inr (sym (beside n differ) ∙ is)
  ]

  -- of another description
  module _ (id : DescId) (own : IsOpenEnd pairs id queue side) (q : DescId) (differ : q ≢ id) where
    own_desc : (end_of side pair).desc ≡ id
    own_desc =
        ap (λ (x : DescId × Bool). x.0)
        (same_Some (told_end side pair) (id, true) (sym (ap (option_map (told_end side)) there) ∙ own.1))

    other_side : (s : ℕ) → IsOpenEnd pairs q queue s → s ≢ side
    other_side s is same =
        differ (sym (ap (λ (x : DescId × Bool). x.0)
        (same_Some (told_end s pair) (q, true) (sym (ap (option_map (told_end s)) there) ∙ is.1)))
        ∙ ap (λ x. (end_of x pair).desc) same ∙ own_desc)

    other_open : (s : ℕ) → IsOpenEnd pairs q queue s → (end_of s pair).is_open ≡ true
    other_open s is =
        ap (λ (x : DescId × Bool). x.1)
        (same_Some (told_end s pair) (q, true) (sym (ap (option_map (told_end s)) there) ∙ is.1))

    still_open : (s : ℕ) → IsOpenEnd pairs q queue s → is_open left ≡ true
    still_open s is =
        open_by s left (ap (λ e. e.is_open) (other_end side s pair less is.0 (other_side s is)) ∙ other_open s is)

    -- the pair is there, with the other end as it was
    pub end_still : (s : ℕ) → IsOpenEnd pairs q queue s
        → (map.get pairs' queue ≡ Some left) × (end_of s left ≡ end_of s pair)
    end_still s is = (stays (still_open s is), other_end side s pair less is.0 (other_side s is))

    told_here : (s : ℕ) → IsOpenEnd pairs q queue s → IsOpenEnd pairs' q queue s
    told_here s is =
        let still = end_still s is in (
          is.0,
          ap (option_map (told_end s)) still.0 ∙ ap (λ e. Some (e.desc, e.is_open)) still.1
              ∙ sym (ap (option_map (told_end s)) there) ∙ is.1,
        )

    peer_here : (s : ℕ) → IsOpenEnd pairs q queue s → peer_of pairs' q queue s ≡ peer_of pairs q queue s
    peer_here s is =
        ap (λ o. option_map_or (λ (x : DatagramPair). (end_of (1 - s) x).desc) o q) (stays (still_open s is))
        ∙ known_end side (1 - s) pair
        ∙ sym (ap (λ o. option_map_or (λ (x : DatagramPair). (end_of (1 - s) x).desc) o q) there)

    still_end : (names : Names) (addresses : Addresses) (n s : ℕ) → IsOpenEnd pairs q n s
        → IsStillTold names names addresses pairs pairs' q (object.Datagram n s)
    still_end names addresses n s is = elim (same_or_other nat_cmp_total nat_cmp-IsAntisymmetric n queue) [
      | inl at ↦ subst (λ m. IsStillTold names names addresses pairs pairs' q (object.Datagram m s)) (sym at)
          (let here = subst (λ m. IsOpenEnd pairs q m s) at is in record {
            same = ap (λ p. plain.Datagram p)
                (peer_here s here);
            told = told_here s here;
          })
      | inr apart ↦ record {
        same = ap (λ o. plain.Datagram
            (option_map_or (λ (x : DatagramPair). (end_of (1 - s) x).desc) o q)) (beside n apart);
        told = (is.0, ap (option_map (told_end s)) (beside n apart) ∙ is.1);
      }
    ]

    pub still_known : (names : Names) (addresses : Addresses) (o : real_object.Object)
        → IsTold names addresses pairs q o → IsStillTold names names addresses pairs pairs' q o
    still_known names addresses object.Console told = record { same = refl; told = told }
    still_known names addresses (object.File n offset) told = record { same = refl; told = told }
    still_known names addresses (object.Stream conn s) told = record { same = refl; told = told }
    still_known names addresses object.Socket told = record { same = refl; told = told }
    still_known names addresses (object.Listener at) told = record { same = refl; told = told }
    still_known names addresses (object.Datagram n s) told = still_end names addresses n s told
    still_known names addresses (object.Counter value) told = record { same = refl; told = told }

    inbox_end : (n s : ℕ) → IsOpenEnd pairs q n s
        → inbox_of pairs' (object.Datagram n s) ≡ inbox_of pairs (object.Datagram n s)
    inbox_end n s is = elim (same_or_other nat_cmp_total nat_cmp-IsAntisymmetric n queue) [
      | inl at ↦
          let still = end_still s (subst (λ m. IsOpenEnd pairs q m s) at is) in
          ap (λ m. inbox_of pairs' (object.Datagram m s)) at
          ∙ ap (option_map (λ x. (end_of s x).inbox)) still.0 ∙ ap (λ e. Some e.inbox) still.1
          ∙ sym (ap (λ m. inbox_of pairs (object.Datagram m s)) at ∙ ap (option_map (λ x. (end_of s x).inbox)) there)
      | inr apart ↦ ap (option_map (λ x. (end_of s x).inbox)) (beside n apart)
    ]

    pub same_inbox : (names : Names) (addresses : Addresses) (o : real_object.Object)
        → IsTold names addresses pairs q o → inbox_of pairs' o ≡ inbox_of pairs o
    same_inbox names addresses object.Console told = refl
    same_inbox names addresses (object.File n offset) told = refl
    same_inbox names addresses (object.Stream conn s) told = refl
    same_inbox names addresses object.Socket told = refl
    same_inbox names addresses (object.Listener at) told = refl
    same_inbox names addresses (object.Datagram n s) told = inbox_end n s told
    same_inbox names addresses (object.Counter value) told = refl

  -- all inboxes

  module _ (inboxes : Inboxes) (real : RealDescriptions) (same : SameInboxes pairs inboxes real) (id : DescId)
      (own : IsOpenEnd pairs id queue side) (d : Desc) (is : map.get real id ≡ Some d)
      (object_is : d.object ≡ object.Datagram queue side) (names : Names) (addresses : Addresses)
      (told : (q : DescId) (e : Desc) → map.get real q ≡ Some e → IsTold names addresses pairs q e.object) where
    abbrev inbox_in : Pairs → Option Desc → Option (List (List ℕ))
    inbox_in m o = option_and_then (λ (e : Desc). inbox_of m e.object) o

    still_in : (q : DescId) → q ≢ id → (o : Option Desc) → map.get real q ≡ o → inbox_in pairs' o ≡ inbox_in pairs o
    still_in q differ None at = refl
    still_in q differ (Some e) at = same_inbox id own q differ names addresses e.object (told q e at)

    abbrev object_in : Option Desc → Option real_object.Object
    object_in o = option_map (λ (e : Desc). e.object) o

    -- an end that is open then is that of another description
    described_by : (n s : ℕ) (q : DatagramPair) → map.get pairs n ≡ Some q → s < 2
        → (end_of s q).is_open ≡ true → ((n ≡ queue) → s ≢ side)
        → object_in (map.get (map.remove real id) (end_of s q).desc) ≡ Some (object.Datagram n s)
    described_by n s q at h opened apart =
        let was = same.described n s q at h opened in
        let other : (end_of s q).desc ≢ id = λ e.
        let o = same_Some _ _ (sym (sym (ap (λ x. object_in (map.get real x)) e ∙ ap object_in is) ∙ was)
        ∙ ap Some object_is) in
        apart (number_of o) (side_of o) in
        ap object_in (get_remove_other desc_total desc_exact real id (end_of s q).desc other) ∙ was
      where
        number_of : {a b c e : ℕ} → object.Datagram a b ≡ object.Datagram c e → a ≡ c
        number_of p = cc

        side_of : {a b c e : ℕ} → object.Datagram a b ≡ object.Datagram c e → b ≡ e
        side_of p = cc

    pub SameInboxes-closed : SameInboxes pairs' (map.remove inboxes id) (map.remove real id)
    SameInboxes-closed = record {
      each = λ q. elim (same_or_other desc_total desc_exact q id) [
        | inl at ↦
            ap (map.get (map.remove inboxes id)) at ∙ get_remove_same desc_total desc_exact inboxes id
            ∙ sym (ap (inbox_in pairs') (ap (map.get (map.remove real id)) at
            ∙ get_remove_same desc_total desc_exact real id))
        | inr differ ↦
            get_remove_other desc_total desc_exact inboxes id q differ ∙ same.each q
            ∙ sym (still_in q differ (map.get real q) refl)
            ∙ sym (ap (inbox_in pairs') (get_remove_other desc_total desc_exact real id q differ))
      ];
      described = λ n s q at h opened. elim (pair_was n q at) [
        | inl here ↦
            let differ : s ≢ side = λ e. true_false (sym opened
            ∙ ap (λ (x : DatagramPair). (end_of s x).is_open) (sym here.1.0)
            ∙ ap (λ x. (end_of x left).is_open) e ∙ closed_side side pair) in
            let end_is : end_of s q ≡ end_of s pair =
            ap (end_of s) (sym here.1.0) ∙ other_end side s pair less h differ in
            ap (λ e. object_in (map.get (map.remove real id) e.desc)) end_is
            ∙ described_by n s pair (ap (map.get pairs) here.0 ∙ there) h
            (sym (ap (λ e. e.is_open) end_is) ∙ opened) (λ e. differ)
        | inr before ↦ described_by n s q before h opened (λ e.
            λ f. true_false (sym opened ∙ closed_before n s q before at e f))
      ];
      opened = λ n q at. elim (pair_was n q at) [
        | inl here ↦ ap is_open (sym here.1.0) ∙ here.1.1
        | inr before ↦ same.opened n q before
      ];
    }
      where
        closed_before : (n s : ℕ) (q : DatagramPair) → map.get pairs n ≡ Some q → map.get pairs' n ≡ Some q
            → n ≡ queue → s ≡ side → (end_of s q).is_open ≡ false
        closed_before n s q before at e f =
            let here = here_by (is_open left) refl q (ap (map.get pairs') (sym e) ∙ at) in
            ap (λ (x : DatagramPair). (end_of s x).is_open) (sym here.0)
            ∙ ap (λ x. (end_of x left).is_open) f ∙ closed_side side pair
