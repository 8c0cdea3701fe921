-- A queue that fills, connection by connection.
--     among_same, among_other         what is among the first i + 1
--     not_among                       the next is not among the first i
--     next_new                        the next is not there yet
--     queue_none, queue_more          the listener with none of the queue, and with one more
--     AreJoined-none, AreJoined-more, AreFound-none, AreFound-more
use Rattle.std.proofs.Common.{◌≡◌, ◌≢◌, ℕ, ◌+◌, ◌<◌, ◌||◌, Bool, true, false, List, [], ◌∷◌, ◌++◌, length, get_or, take, inl, inr, refl, sym, ap, subst, arith, ◌∙◌, length-take, get_or-take, append_assoc, append-nil}
use Rattle.std.specs.Prelude.{Option, Some, None, All, AllPairs, min}
use Rattle.std.specs.Option.{option_map_or}
use Rattle.std.specs.Ordering.{eq_by_cmp}
use Rattle.std.specs.FinMap as map
use Rattle.std.proofs.lemmas.List.{take_more}
use Rattle.std.proofs.lemmas.List.Folds.{list_any_more, list_any_none}
use Rattle.std.proofs.lemmas.List.Elements.{All-get_or, All-from_get_or}
use Rattle.views.specs.Seen.{Agree}
use Rattle.views.proofs.Seen.{agree_by}
use Rattle.views.proofs.MapLaws.{true_false, key_tied, other_key, same_or_other, get_insert_same, get_insert_other, insert_same}
use Rattle.sys_abi.specs.declared.identity.ConnId.{ConnId}
use Rattle.sys_abi.specs.declared.identity.RealAddr.{RealAddr}
use Rattle.sys_abi.specs.Orders.{conn_cmp}
use Rattle.sys_abi.proofs.OrderLaws.{conn_total, conn_exact, real_address_total, real_address_exact}
use Rattle.virt_ids.specs.Changes.{at_key}
use Rattle.plain_machine.specs.declared.kernel.PlainKernel.{PlainKernel}
use Rattle.discovery.specs.Directories.{Publications}
use Rattle.wire_channels.specs.declared.listener.Listener.{Listener}
use Rattle.wire_channels.specs.Channels.{Channels}
use Rattle.wire_channels.specs.Listeners.{Listeners, with_last}
use Rattle.rebuild_tables.specs.Filled.{IsFilled}
use Rattle.rebuild_system.proofs.FoundEnds.{at_inserted}
use Rattle.rebuild_system.specs.Steps.{is_among, with_queue, reached_at, HasFilled, AreJoined, AreFound}

module _ (queue : List ConnId) (i : ℕ) (d : ConnId) (less : i < length queue) where
  -- the one that comes next
  abbrev id : ConnId
  id = get_or queue i d

  among_more : (q : ConnId) → is_among (take (i + 1) queue) q
      ≡ (is_among (take i queue) q || eq_by_cmp conn_cmp q id)
  among_more q = list_any_more (eq_by_cmp conn_cmp q) queue i d less

  or_true : (a : Bool) → (a || true) ≡ true
  or_true true = refl
  or_true false = refl

  or_false : (a : Bool) → (a || false) ≡ a
  or_false true = refl
  or_false false = refl

  pub among_same : is_among (take (i + 1) queue) id ≡ true
  among_same =
      among_more id
      ∙ ap (λ b. is_among (take i queue) id || b) (key_tied conn_total conn_exact id)
      ∙ or_true (is_among (take i queue) id)

  pub among_other : (q : ConnId) → q ≢ id → is_among (take (i + 1) queue) q ≡ is_among (take i queue) q
  among_other q differ =
      among_more q
      ∙ ap (λ b. is_among (take i queue) q || b) (other_key conn_total conn_exact q id differ)
      ∙ or_false (is_among (take i queue) q)

  pub not_among : AllPairs (λ a later. a ≢ later) queue → is_among (take i queue) id ≡ false
  not_among once =
      list_any_none (eq_by_cmp conn_cmp id) (take i queue)
      (All-from_get_or (λ x. eq_by_cmp conn_cmp id x ≡ false) (take i queue) d (λ j before.
      let under : j < i =
      under_by j (min i (length queue)) (length queue) (length-take i queue) before refl in
      subst (λ x. eq_by_cmp conn_cmp id x ≡ false) (sym (get_or-take i queue j d under))
      (other_key conn_total conn_exact id (get_or queue j d) (λ same. once j i d under less (sym same)))))
    where
      under_by : (j l m : ℕ) → length (take i queue) ≡ l → j < length (take i queue) → l ≡ min i m → j < i
      under_by j l m long before is = omega (arith, long, before, is)

  pub queue_more : (m now new : Listeners) (at : RealAddr) → now ≡ at_key m at (with_queue (take i queue))
      → new ≡ at_key now at (with_last id) → new ≡ at_key m at (with_queue (take (i + 1) queue))
  queue_more m now new at so_far next =
      next ∙ ap (λ (l : Listeners). at_key l at (with_last id)) so_far ∙ twice (map.get m at) refl
    where
      longer : (x : Listener) → with_last id (with_queue (take i queue) x) ≡ with_queue (take (i + 1) queue) x
      longer x = ap (λ (l : List ConnId). record { backlog = x.backlog; queue = l }) (
          append_assoc x.queue (take i queue) (id ∷ [])
          ∙ ap (λ (l : List ConnId). x.queue ++ l) (sym (take_more queue i d less)))

      twice : (o : Option Listener) → map.get m at ≡ o
          → at_key (option_map_or (λ x. map.insert m at (with_queue (take i queue) x)) o m) at (with_last id)
          ≡ option_map_or (λ x. map.insert m at (with_queue (take (i + 1) queue) x)) o m
      twice None there =
          ap (λ (o : Option Listener). option_map_or (λ x. map.insert m at (with_last id x)) o m) there
      twice (Some x) there =
          at_inserted m at (with_queue (take i queue) x) (with_last id)
          ∙ ap (λ y. map.insert m at y) (longer x)

  module _ (k : PlainKernel) (old now new : Channels)
      (joined : AreJoined k (is_among (take i queue)) old now) (filled : HasFilled k id now new) where
    pub AreJoined-more : AreJoined k (is_among (take (i + 1) queue)) old new
    AreJoined-more = record {
      filled = λ q among. elim (same_or_other conn_total conn_exact q id) [
        | inl same ↦
            subst (λ r. Agree (IsFilled k.directions r) (map.get k.channels r) (map.get new r)) (sym same)
            (agree_by (IsFilled k.directions id) (Some filled.plain_one) (map.get k.channels id)
            (Some filled.real_one) (map.get new id) filled.there
            (ap (λ (m : Channels). map.get m id) filled.channels
            ∙ get_insert_same conn_total conn_exact now id filled.real_one) filled.filled)
        | inr differ ↦
            agree_by (IsFilled k.directions q) (map.get k.channels q) (map.get k.channels q)
            (map.get now q) (map.get new q) refl (beside q differ)
            (joined.filled q (sym (among_other q differ) ∙ among))
      ];
      others = λ q among. elim (same_or_other conn_total conn_exact q id) [
        | inl same ↦
            absurd (true_false (sym among_same ∙ ap (is_among (take (i + 1) queue)) (sym same) ∙ among))
        | inr differ ↦ beside q differ ∙ joined.others q (sym (among_other q differ) ∙ among)
      ];
    }
      where
        beside : (q : ConnId) → q ≢ id → map.get new q ≡ map.get now q
        beside q differ =
            ap (λ (m : Channels). map.get m q) filled.channels
            ∙ get_insert_other conn_total conn_exact now id filled.real_one q differ

  pub AreFound-more : (at : RealAddr) (old now new : Publications)
      → AreFound at (is_among (take i queue)) old now → new ≡ map.insert now id (reached_at at)
      → AreFound at (is_among (take (i + 1) queue)) old new
  AreFound-more at old now new found next = record {
    found = λ q among. elim (same_or_other conn_total conn_exact q id) [
      | inl same ↦
          ap (map.get new) same ∙ ap (λ (m : Publications). map.get m id) next
          ∙ get_insert_same conn_total conn_exact now id (reached_at at)
      | inr differ ↦ beside q differ ∙ found.found q (sym (among_other q differ) ∙ among)
    ];
    others = λ q among. elim (same_or_other conn_total conn_exact q id) [
      | inl same ↦
          absurd (true_false (sym among_same ∙ ap (is_among (take (i + 1) queue)) (sym same) ∙ among))
      | inr differ ↦ beside q differ ∙ found.others q (sym (among_other q differ) ∙ among)
    ];
  }
    where
      beside : (q : ConnId) → q ≢ id → map.get new q ≡ map.get now q
      beside q differ =
          ap (λ (m : Publications). map.get m q) next
          ∙ get_insert_other conn_total conn_exact now id (reached_at at) q differ

  -- the next of the queue is not there yet
  pub next_new : (k : PlainKernel) (old now : Channels) → AreJoined k (is_among (take i queue)) old now
      → AllPairs (λ a later. a ≢ later) queue → All (λ q. map.get old q ≡ None) queue → map.get now id ≡ None
  next_new k old now joined once new =
      joined.others id (not_among once) ∙ All-get_or (λ q. map.get old q ≡ None) queue i d less new

pub queue_none : (m : Listeners) (at : RealAddr) → m ≡ at_key m at (with_queue [])
queue_none m at = same_by (map.get m at) refl
  where
    same_by : (o : Option Listener) → map.get m at ≡ o
        → m ≡ option_map_or (λ x. map.insert m at (with_queue [] x)) o m
    same_by None there = refl
    same_by (Some x) there =
        sym (ap (λ (q : List ConnId). map.insert m at (record { backlog = x.backlog; queue = q }))
        (append-nil x.queue) ∙ insert_same real_address_total real_address_exact m at x there)

pub AreJoined-none : (k : PlainKernel) (m : Channels) → AreJoined k (is_among []) m m
AreJoined-none k m = record { filled = λ q among. absurd (true_false (sym among)); others = λ q _. refl }

pub AreFound-none : (at : RealAddr) (m : Publications) → AreFound at (is_among []) m m
AreFound-none at m = record { found = λ q among. absurd (true_false (sym among)); others = λ q _. refl }
