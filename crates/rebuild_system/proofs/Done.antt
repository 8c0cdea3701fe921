-- The channels that a walk has come to, with one more.
--     AreFilled-begin, AreReached-begin      after the listeners
--     AreFilled-had, AreReached-had          one that waits at a listener is there already
--     AreFilled-added, AreReached-added      one that was made
--     filled_all, reached_all                at the end
use Rattle.std.proofs.Common.{◌≡◌, ◌≢◌, ◌&&◌, ◌||◌, Bool, true, false, List, [], ◌∷◌, inl, inr, refl, sym, ap, subst, ◌∙◌}
use Rattle.std.specs.Prelude.{not, Option, Some, None, is_some, if◌then◌else◌}
use Rattle.std.specs.FinMap as map
use Rattle.std.proofs.lemmas.Option.{same_Some, none-some}
use Rattle.views.specs.Seen.{Agree}
use Rattle.views.proofs.Seen.{agree_by}
use Rattle.views.proofs.MapLaws.{true_false, other_key, same_or_other, get_insert_same, get_insert_other}
use Rattle.sys_abi.specs.declared.identity.ConnId.{ConnId}
use Rattle.sys_abi.specs.Orders.{conn_cmp}
use Rattle.sys_abi.proofs.OrderLaws.{conn_total, conn_exact}
use Rattle.plain_tables.specs.declared.channel.Channel as plain
use Rattle.plain_tables.specs.Objects.{is_pending}
use Rattle.plain_machine.specs.declared.kernel.PlainKernel.{PlainKernel}
use Rattle.discovery.specs.Directories.{Publications}
use Rattle.wire_channels.specs.declared.channel.Channel as real
use Rattle.wire_channels.specs.Channels.{Channels}
use Rattle.host_tables.specs.declared.kernel.Hosts.{Hosts}
use Rattle.rebuild_tables.specs.Filled.{IsFilled}
use Rattle.rebuild_system.specs.Nets.{IsReached, ArePublished}
use Rattle.rebuild_system.specs.Making.{is_left, AreFilled, AreReached, is_done_waiting, is_done}
use Rattle.rebuild_system.specs.Steps.{HasFilled}
use Rattle.rebuild_system.proofs.Walks.{IsWalk, next_left, left_all}
use Rattle.rebuild_system.proofs.Reached.{or_true, reached_kept}

abbrev due : PlainKernel → Bool → ConnId → Option plain.Channel
due k done id = if done then map.get k.channels id else None

-- at the beginning the walk has come to what the kernel part doesn't have
same_due : (pending : Bool) (o : Option plain.Channel)
    → (if pending || not (is_some o) then o else None) ≡ (if pending && not false then o else None)
same_due true o = refl
same_due false None = refl
same_due false (Some x) = refl

pending_then : (pending : Bool) (o : Option plain.Channel) (x : plain.Channel) → o ≡ Some x
    → (pending || not (is_some o)) ≡ true → (pending && not false) ≡ true
pending_then true o x is done = refl
pending_then false None x is done = absurd (none-some x is)
pending_then false (Some y) x is done = absurd (true_false (sym done))

module _ (k : PlainKernel) (es : List (ConnId × plain.Channel)) (begins : es ≡ map.entries k.channels) where
  left_are : (id : ConnId) → is_done k es id
      ≡ (is_pending k.listeners id || not (is_some (map.get k.channels id)))
  left_are id =
      ap (λ (fs : List (ConnId × plain.Channel)). is_pending k.listeners id || not (is_left conn_cmp fs id))
      begins
      ∙ ap (λ b. is_pending k.listeners id || not b) (left_all conn_cmp k.channels id)

  pub AreFilled-begin : (m : Channels) → AreFilled k (is_done_waiting k []) m → AreFilled k (is_done k es) m
  AreFilled-begin m filled id =
      agree_by (IsFilled k.directions id) (due k (is_done_waiting k [] id) id) (due k (is_done k es id) id)
      (map.get m id) (map.get m id)
      (ap (λ b. due k b id) (left_are id) ∙ same_due (is_pending k.listeners id) (map.get k.channels id)) refl
      (filled id)

  pub AreReached-begin : (h : Hosts) (m : Publications) → AreReached h k (is_done_waiting k []) m
      → AreReached h k (is_done k es) m
  AreReached-begin h m reached id channel done there first second =
      reached id channel
      (pending_then (is_pending k.listeners id) (map.get k.channels id) channel there
      (sym (left_are id) ∙ done))
      there first second

-- at the end it has come to all
module _ (k : PlainKernel) where
  all_done : (id : ConnId) → is_done k [] id ≡ true
  all_done id = or_true (is_pending k.listeners id)

  pub filled_all : (m : Channels) → AreFilled k (is_done k []) m → (id : ConnId)
      → Agree (IsFilled k.directions id) (map.get k.channels id) (map.get m id)
  filled_all m filled id =
      subst (λ b. Agree (IsFilled k.directions id) (due k b id) (map.get m id)) (all_done id) (filled id)

  pub reached_all : (h : Hosts) (m : Publications) → AreReached h k (is_done k []) m → ArePublished h k m
  reached_all h m reached id channel there first second = reached id channel (all_done id) there first second

module _ (k : PlainKernel) (e : ConnId × plain.Channel) (es : List (ConnId × plain.Channel))
    (walk : IsWalk k.channels (e ∷ es)) where
  done_own : is_done k es e.0 ≡ true
  done_own =
      ap (λ b. is_pending k.listeners e.0 || not b) (next_left conn_total conn_exact k.channels e es walk)
      ∙ or_true (is_pending k.listeners e.0)

  done_other : (q : ConnId) → q ≢ e.0 → is_done k (e ∷ es) q ≡ is_done k es q
  done_other q differ =
      ap (λ b. is_pending k.listeners q || not (b || is_left conn_cmp es q))
      (other_key conn_total conn_exact q e.0 differ)

  module _ (old : Channels) (filled : AreFilled k (is_done k (e ∷ es)) old) where
    -- what is there was done
    was_done : is_some (map.get old e.0) ≡ true → is_done k (e ∷ es) e.0 ≡ true
    was_done there = by_test (is_done k (e ∷ es) e.0) (map.get old e.0) there (filled e.0)
      where
        by_test : (b : Bool) (q : Option real.Channel) → is_some q ≡ true
            → Agree (IsFilled k.directions e.0) (due k b e.0) q → b ≡ true
        by_test true q there agree = refl
        by_test false None there agree = absurd (true_false (sym there))
        by_test false (Some y) there agree = absurd agree

    others_filled : (new : Channels) → ((q : ConnId) → q ≢ e.0 → map.get new q ≡ map.get old q)
        → (q : ConnId) → q ≢ e.0
        → Agree (IsFilled k.directions q) (due k (is_done k es q) q) (map.get new q)
    others_filled new beside q differ =
        agree_by (IsFilled k.directions q) (due k (is_done k (e ∷ es) q) q) (due k (is_done k es q) q)
        (map.get old q) (map.get new q) (ap (λ b. due k b q) (sym (done_other q differ))) (beside q differ)
        (filled q)

    each_filled : (new : Channels) → ((q : ConnId) → q ≢ e.0 → map.get new q ≡ map.get old q)
        → Agree (IsFilled k.directions e.0) (map.get k.channels e.0) (map.get new e.0)
        → AreFilled k (is_done k es) new
    each_filled new beside own q = elim (same_or_other conn_total conn_exact q e.0) [
      | inl same ↦
          subst (λ r. Agree (IsFilled k.directions r) (due k (is_done k es r) r) (map.get new r)) (sym same)
          (subst (λ b. Agree (IsFilled k.directions e.0) (due k b e.0) (map.get new e.0)) (sym done_own) own)
      | inr differ ↦ others_filled new beside q differ
    ]

    pub AreFilled-had : is_some (map.get old e.0) ≡ true → AreFilled k (is_done k es) old
    AreFilled-had there =
        each_filled old (λ q _. refl)
        (subst (λ b. Agree (IsFilled k.directions e.0) (due k b e.0) (map.get old e.0)) (was_done there)
        (filled e.0))

    pub AreFilled-added : (new : Channels) → HasFilled k e.0 old new → AreFilled k (is_done k es) new
    AreFilled-added new made =
        each_filled new
        (λ q differ. ap (λ (m : Channels). map.get m q) made.channels
        ∙ get_insert_other conn_total conn_exact old e.0 made.real_one q differ)
        (agree_by (IsFilled k.directions e.0) (Some made.plain_one) (map.get k.channels e.0)
        (Some made.real_one) (map.get new e.0) made.there
        (ap (λ (m : Channels). map.get m e.0) made.channels
        ∙ get_insert_same conn_total conn_exact old e.0 made.real_one) made.filled)

    pub AreReached-had : (h : Hosts) (m : Publications) → is_some (map.get old e.0) ≡ true
        → AreReached h k (is_done k (e ∷ es)) m → AreReached h k (is_done k es) m
    AreReached-had h m had reached id channel done there first second =
        elim (same_or_other conn_total conn_exact id e.0) [
          | inl same ↦
              reached id channel (ap (is_done k (e ∷ es)) same ∙ was_done had) there first second
          | inr differ ↦ reached id channel (done_other id differ ∙ done) there first second
        ]

  pub AreReached-added : (h : Hosts) (m m' : Publications) → AreReached h k (is_done k (e ∷ es)) m
      → (e.1.first.is_open ≡ true → e.1.second.is_open ≡ true → IsReached h k e.0 e.1 m')
      → ((q : ConnId) → q ≢ e.0 → map.get m' q ≡ map.get m q) → AreReached h k (is_done k es) m'
  AreReached-added h m m' reached own beside id channel done there first second =
      elim (same_or_other conn_total conn_exact id e.0) [
        | inl same ↦
            let value : channel ≡ e.1 =
            same_Some channel e.1 (sym there ∙ ap (map.get k.channels) same ∙ walk.entries.0) in
            subst (λ q. IsReached h k q channel m') (sym same)
            (subst (λ (x : plain.Channel). IsReached h k e.0 x m') (sym value)
            (own (ap (λ (x : plain.Channel). x.first.is_open) (sym value) ∙ first)
            (ap (λ (x : plain.Channel). x.second.is_open) (sym value) ∙ second)))
        | inr differ ↦
            reached_kept h k id channel m m' (beside id differ)
            (reached id channel (done_other id differ ∙ done) there first second)
      ]
