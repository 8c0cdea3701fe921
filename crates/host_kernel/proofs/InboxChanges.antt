-- What waits at one end of a datagram pair changes, and nothing else.
--     ends_told         each end is of the description that it was of, open or closed as it was
--     inbox_put         the kernel stands for the part with that description's inbox so
use Rattle.std.proofs.Common.{◌≡◌, ◌≢◌, ℕ, zero, suc, ◌-◌, ◌<◌, Bool, true, false, cond, ◌||◌, List, Option, Some, None, inl, inr, refl, sym, ap, ◌∙◌, subst, arith}
use Rattle.std.specs.Prelude.{option_map, option_and_then, ◌==◌}
use Rattle.std.specs.Option.{option_map_or}
use Rattle.std.specs.Cmp.{nat_cmp_total}
use Rattle.std.specs.FinMap as map
use Rattle.std.specs.FinMap.{nat_cmp-IsAntisymmetric}
use Rattle.std.proofs.lemmas.Option.{same_Some, none-some}
use Rattle.views.specs.Numbers.{Byte}
use Rattle.views.proofs.MapLaws.{same_or_other, get_insert_same, get_insert_other}
use Rattle.sys_abi.specs.declared.identity.DescId.{DescId}
use Rattle.sys_abi.proofs.OrderLaws.{desc_total, desc_exact}
use Rattle.conn_table.specs.declared.pairs.DatagramPair.{DatagramPair}
use Rattle.conn_table.specs.Messages.{with_inbox}
use Rattle.conn_table.specs.Pairs.{Pairs, end_of, is_open}
use Rattle.fd_tables.specs.declared.description.Desc.{Desc}
use Rattle.fd_tables.specs.declared.description.Object as real_object
use Rattle.fd_tables.specs.declared.description.Object.TheVariants as object
use Rattle.plain_tables.specs.declared.description.Object as plain_object
use Rattle.plain_tables.specs.declared.description.Object.TheVariants as plain
use Rattle.plain_tables.specs.Tables.{Descriptions, Inboxes}
use Rattle.plain_machine.specs.declared.kernel.PlainKernel.{PlainKernel}
use Rattle.plain_machine.specs.Making as making
use Rattle.host_tables.specs.declared.kernel.Kernel.{Kernel}
use Rattle.host_tables.specs.Numbers.{Virts}
use Rattle.host_tables.specs.Datagrams.{RealDescriptions, peer_of, told_end, IsOpenEnd, inbox_of, SameInboxes}
use Rattle.host_tables.specs.Descriptions.{Names, Addresses, seen_object, seen_desc, IsTold, SameDescriptions}
use Rattle.host_tables.specs.Stands.{Given, Stands}
use Rattle.host_tables.proofs.Frames.{datagrams_kept}

-- one pair

module _ (side : ℕ) (messages : List (List Byte)) (pair : DatagramPair) where
  abbrev put : DatagramPair
  put = with_inbox side messages pair

  abbrev either : Bool → DatagramPair
  either a = cond a (record pair { first = record pair.first { inbox = messages } })
      (record pair { second = record pair.second { inbox = messages } })

  pub end_told : (s : ℕ) → told_end s put ≡ told_end s pair
  end_told s = by_sides (side == 0) (s == 0)
    where
      by_sides : (a b : Bool)
          → ◌≡◌ {A = DescId × Bool} (
            (cond b (either a).first (either a).second).desc,
            (cond b (either a).first (either a).second).is_open,
          )
          ((cond b pair.first pair.second).desc, (cond b pair.first pair.second).is_open)
      by_sides true true = refl
      by_sides true false = refl
      by_sides false true = refl
      by_sides false false = refl

  pub still_open : is_open put ≡ is_open pair
  still_open = by_side (side == 0)
    where
      by_side : (a : Bool) → ((either a).first.is_open || (either a).second.is_open) ≡ is_open pair
      by_side true = refl
      by_side false = refl

  pub inbox_here : (end_of side put).inbox ≡ messages
  inbox_here = by_side (side == 0)
    where
      by_side : (a : Bool) → (cond a (either a).first (either a).second).inbox ≡ messages
      by_side true = refl
      by_side false = refl

no_third : (n : ℕ) → suc (suc n) < 2 → ⊥
no_third n h = omega (arith, h)

pub inbox_across : (side s : ℕ) (messages : List (List Byte)) (pair : DatagramPair) → side < 2 → s < 2
    → s ≢ side
    → (end_of s (with_inbox side messages pair)).inbox ≡ (end_of s pair).inbox
inbox_across zero zero messages pair h less differ = absurd (differ refl)
inbox_across zero (suc zero) messages pair h less differ = refl
inbox_across (suc zero) zero messages pair h less differ = refl
inbox_across (suc zero) (suc zero) messages pair h less differ = absurd (differ refl)
inbox_across side (suc (suc n)) messages pair h less differ = absurd (no_third n less)
inbox_across (suc (suc n)) s messages pair h less differ = absurd (no_third n h)

-- all pairs

module _ (pairs : Pairs) (queue side : ℕ) (less : side < 2) (pair : DatagramPair)
    (there : map.get pairs queue ≡ Some pair) (messages : List (List Byte)) where
  abbrev now : DatagramPair
  now = with_inbox side messages pair

  abbrev pairs' : Pairs
  pairs' = map.insert pairs queue now

  here : map.get pairs' queue ≡ Some now
  here = get_insert_same nat_cmp_total nat_cmp-IsAntisymmetric pairs queue now

  beside : (n : ℕ) → n ≢ queue → map.get pairs' n ≡ map.get pairs n
  beside n differ = get_insert_other nat_cmp_total nat_cmp-IsAntisymmetric pairs queue now n differ

  pub ends_told : (n s : ℕ) → option_map (told_end s) (map.get pairs' n) ≡ option_map (told_end s)
      (map.get pairs n)
  ends_told n s = elim (same_or_other nat_cmp_total nat_cmp-IsAntisymmetric n queue) [
    | inl at ↦
        ap (λ x. option_map (told_end s) (map.get pairs' x)) at ∙ ap (option_map (told_end s)) here
        ∙ ap Some (end_told side messages pair s)
        ∙ sym (ap (λ x. option_map (told_end s) (map.get pairs x)) at ∙ ap (option_map (told_end s)) there)
    | inr differ ↦ ap (option_map (told_end s)) (beside n differ)
  ]

  by_told : (o q : Option DatagramPair) (s : ℕ) (id : DescId) → option_map (told_end s) o ≡ option_map
      (told_end s) q
      → option_map_or (λ (x : DatagramPair). (end_of s x).desc) o id
      ≡ option_map_or (λ (x : DatagramPair). (end_of s x).desc) q id
  by_told o q s id e = sym (as_told o) ∙ ap (λ t. option_map_or (λ (x : DescId × Bool). x.0) t id) e
      ∙ as_told q
    where
      as_told : (o : Option DatagramPair)
          → option_map_or (λ (x : DescId × Bool). x.0) (option_map (told_end s) o) id
          ≡ option_map_or (λ (x : DatagramPair). (end_of s x).desc) o id
      as_told None = refl
      as_told (Some x) = refl

  pub same_peer : (id : DescId) (n s : ℕ) → peer_of pairs' id n s ≡ peer_of pairs id n s
  same_peer id n s = by_told (map.get pairs' n) (map.get pairs n) (1 - s) id (ends_told n (1 - s))

  pub still_end : (id : DescId) (n s : ℕ) → IsOpenEnd pairs id n s → IsOpenEnd pairs' id n s
  still_end id n s is = (is.0, ends_told n s ∙ is.1)

  -- descriptions are told as they were

  same_seen : (names : Names) (id : DescId) (o : real_object.Object)
      → seen_object names pairs id o ≡ seen_object names pairs' id o
  same_seen names id object.Console = refl
  same_seen names id (object.File n offset) = refl
  same_seen names id (object.Stream conn s) = refl
  same_seen names id object.Socket = refl
  same_seen names id (object.Listener at) = refl
  same_seen names id (object.Datagram n s) = ap plain.Datagram (sym (same_peer id n s))
  same_seen names id (object.Counter value) = refl

  still_told : (names : Names) (addresses : Addresses) (id : DescId) (o : real_object.Object)
      → IsTold names addresses pairs id o → IsTold names addresses pairs' id o
  still_told names addresses id object.Console told = told
  still_told names addresses id (object.File n offset) told = told
  still_told names addresses id (object.Stream conn s) told = told
  still_told names addresses id object.Socket told = told
  still_told names addresses id (object.Listener at) told = told
  still_told names addresses id (object.Datagram n s) told = still_end id n s told
  still_told names addresses id (object.Counter value) told = told

  seen_same : (virts : Virts) (names : Names) (id : DescId) (o : Option Desc)
      → option_map (seen_desc virts names pairs None id) o ≡ option_map
      (seen_desc virts names pairs' None id) o
  seen_same virts names id None = refl
  seen_same virts names id (Some d) =
      ap (λ (x : plain_object.Object). Some (record (seen_desc virts names pairs None id d) { object = x }))
      (same_seen names id d.object)

  pub descriptions_put : (virts : Virts) (names : Names) (addresses : Addresses) (virt : Descriptions)
      (real : RealDescriptions) → SameDescriptions virts names addresses pairs None virt real
      → SameDescriptions virts names addresses pairs' None virt real
  descriptions_put virts names addresses virt real same = record {
    each = λ id. same.each id ∙ seen_same virts names id (map.get real id);
    owners = same.owners;
    objects = λ id d is. still_told names addresses id d.object (same.objects id d is);
  }

  -- inboxes

  -- that of another end
  inbox_beside : (n s : ℕ) → s < 2 → (n ≡ queue → s ≢ side)
      → inbox_of pairs' (object.Datagram n s) ≡ inbox_of pairs (object.Datagram n s)
  inbox_beside n s h apart = elim (same_or_other nat_cmp_total nat_cmp-IsAntisymmetric n queue) [
    | inl at ↦
        ap (λ m. inbox_of pairs' (object.Datagram m s)) at
        ∙ ap (option_map (λ (x : DatagramPair). (end_of s x).inbox)) here
        ∙ ap Some (inbox_across side s messages pair less h (apart at))
        ∙ sym (ap (λ m. inbox_of pairs (object.Datagram m s)) at
        ∙ ap (option_map (λ (x : DatagramPair). (end_of s x).inbox)) there)
    | inr differ ↦ ap (option_map (λ (x : DatagramPair). (end_of s x).inbox)) (beside n differ)
  ]

  module _ (id : DescId) (own : IsOpenEnd pairs id queue side) where
    own_desc : (end_of side pair).desc ≡ id
    own_desc =
        ap (λ (x : DescId × Bool). x.0)
        (same_Some (told_end side pair) (id, true) (sym (ap (option_map (told_end side)) there) ∙ own.1))

    -- an end is of one description
    apart_of : (q : DescId) → q ≢ id → (n s : ℕ) → IsOpenEnd pairs q n s → n ≡ queue → s ≢ side
    apart_of q differ n s is at same =
        differ (sym (ap (λ (x : DescId × Bool). x.0)
        (same_Some (told_end s pair) (q, true) (sym (ap (λ m. option_map (told_end s) (map.get pairs m)) at
        ∙ ap (option_map (told_end s)) there) ∙ is.1)))
        ∙ ap (λ x. (end_of x pair).desc) same ∙ own_desc)

    same_inbox : (q : DescId) → q ≢ id → (names : Names) (addresses : Addresses) (o : real_object.Object)
        → IsTold names addresses pairs q o → inbox_of pairs' o ≡ inbox_of pairs o
    same_inbox q differ names addresses object.Console told = refl
    same_inbox q differ names addresses (object.File n offset) told = refl
    same_inbox q differ names addresses (object.Stream conn s) told = refl
    same_inbox q differ names addresses object.Socket told = refl
    same_inbox q differ names addresses (object.Listener at) told = refl
    same_inbox q differ names addresses (object.Datagram n s) told =
        inbox_beside n s told.0 (apart_of q differ n s told)
    same_inbox q differ names addresses (object.Counter value) told = refl

    abbrev inbox_in : Pairs → Option Desc → Option (List (List Byte))
    inbox_in m o = option_and_then (λ (e : Desc). inbox_of m e.object) o

    module _ (inboxes : Inboxes) (real : RealDescriptions) (same : SameInboxes pairs inboxes real) (d : Desc)
        (is : map.get real id ≡ Some d) (object_is : d.object ≡ object.Datagram queue side) (names : Names)
        (addresses : Addresses)
        (told : (q : DescId) (e : Desc) → map.get real q ≡ Some e
        → IsTold names addresses pairs q e.object) where
      still_in : (q : DescId) → q ≢ id → (o : Option Desc) → map.get real q ≡ o → inbox_in pairs' o
          ≡ inbox_in pairs o
      still_in q differ None at = refl
      still_in q differ (Some e) at = same_inbox q differ names addresses e.object (told q e at)

      own_inbox : inbox_in pairs' (map.get real id) ≡ Some messages
      own_inbox =
          ap (inbox_in pairs') is ∙ ap (inbox_of pairs') object_is
          ∙ ap (option_map (λ (x : DatagramPair). (end_of side x).inbox)) here
          ∙ ap Some (inbox_here side messages pair)

      -- a pair was there, with the same ends
      was_there : (n : ℕ) (q : DatagramPair) → map.get pairs' n ≡ Some q
          → (x : DatagramPair) × ((map.get pairs n ≡ Some x)
          × (((s : ℕ) → told_end s q ≡ told_end s x) × (is_open q ≡ is_open x)))
      was_there n q at = elim (same_or_other nat_cmp_total nat_cmp-IsAntisymmetric n queue) [
        | inl e ↦
            let put : now ≡ q = same_Some now q (sym here ∙ ap (map.get pairs') (sym e) ∙ at) in (
              pair,
              (
                ap (map.get pairs) e ∙ there,
                (
                  (λ s. ap (told_end s) (sym put) ∙ end_told side messages pair s),
                  ap is_open (sym put) ∙ still_open side messages pair,
                ),
              ),
            )
        | inr differ ↦ (q, (sym (beside n differ) ∙ at, ((λ s. refl), refl)))
      ]

      pub SameInboxes-put : SameInboxes pairs' (map.insert inboxes id messages) real
      SameInboxes-put = record {
        each = λ q. elim (same_or_other desc_total desc_exact q id) [
          | inl at ↦
              ap (map.get (map.insert inboxes id messages)) at
              ∙ get_insert_same desc_total desc_exact inboxes id messages
              ∙ sym (ap (λ x. inbox_in pairs' (map.get real x)) at ∙ own_inbox)
          | inr differ ↦
              get_insert_other desc_total desc_exact inboxes id messages q differ ∙ same.each q
              ∙ sym (still_in q differ (map.get real q) refl)
        ];
        described = λ n s q at h opened.
            let was = was_there n q at in
            let ends = was.1.1.0 s in
            ap (λ (x : DescId × Bool). option_map (λ (e : Desc). e.object) (map.get real x.0)) ends
            ∙ same.described n s was.0 was.1.0 h (sym (ap (λ (x : DescId × Bool). x.1) ends) ∙ opened);
        opened = λ n q at.
            let was = was_there n q at in
            was.1.1.1 ∙ same.opened n was.0 was.1.0;
      }

-- a kernel

module _ (g : Given) (real : Kernel) (k : PlainKernel) (st : Stands g None real k) (id : DescId) (d : Desc)
    (is : map.get real.book.descriptions id ≡ Some d) (queue side : ℕ)
    (object_is : d.object ≡ object.Datagram queue side) where
  own_end : IsOpenEnd real.datagrams id queue side
  own_end = subst (IsTold g.names g.addresses real.datagrams id) object_is (st.descriptions.objects id d is)

  -- the pair is there
  pub pair_there : (pair : DatagramPair) × (map.get real.datagrams queue ≡ Some pair)
  pair_there = by_found (map.get real.datagrams queue) refl
    where
      by_found : (o : Option DatagramPair) → map.get real.datagrams queue ≡ o
          → (pair : DatagramPair) × (map.get real.datagrams queue ≡ Some pair)
      by_found None e = absurd (none-some (id, true) (sym (ap (option_map (told_end side)) e) ∙ own_end.1))
      by_found (Some pair) e = (pair, e)

  module _ (pair : DatagramPair) (there : map.get real.datagrams queue ≡ Some pair) where
    -- what waits there, on both sides
    pub inbox_is : map.get k.inboxes id ≡ Some (end_of side pair).inbox
    inbox_is =
        st.inboxes.each id ∙ ap (option_and_then (λ (e : Desc). inbox_of real.datagrams e.object)) is
        ∙ ap (inbox_of real.datagrams) object_is ∙ ap
        (option_map (λ (x : DatagramPair). (end_of side x).inbox)) there

    pub inbox_put : (messages : List (List Byte)) → Stands g None
        (record real { datagrams = map.insert real.datagrams queue (with_inbox side messages pair) })
        (making.with_inbox k id messages)
    inbox_put messages =
        datagrams_kept g None real k st (map.insert real.datagrams queue (with_inbox side messages pair))
        k.descriptions (map.insert k.inboxes id messages)
        (descriptions_put real.datagrams queue side own_end.0 pair there messages g.virts g.names g.addresses
        k.descriptions real.book.descriptions st.descriptions)
        (SameInboxes-put real.datagrams queue side own_end.0 pair there messages id own_end k.inboxes
        real.book.descriptions st.inboxes d is object_is g.names g.addresses st.descriptions.objects)
