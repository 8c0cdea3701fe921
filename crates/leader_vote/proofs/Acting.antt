-- Who leads what names an end, looked for one description after the other.
--     AreOthers b listeners conn side from above      nobody leads one that names the end, of those after the
--                                                first one that do not come after the last one
--     others_begun, others_on, others_fewer, others_done
--     not_queued, is_queued, none_queued         a connection looked for in a queue place by place
use Rattle.std.proofs.Common.{◌≡◌, ◌+◌, ◌<◌, zero, suc, Bool, true, false, ◌||◌, List, [], ◌∷◌, take, inl, inr, refl, sym, ap, subst, ◌∙◌, arith}
use Rattle.std.specs.Prelude.{ℕ, Option, Some, None, IsSome, find, slice_get, option_map, option_and_then}
use Rattle.std.specs.List.{list_any}
use Rattle.std.specs.Option.{option_map_or}
use Rattle.std.specs.Ordering.{eq_by_cmp}
use Rattle.std.proofs.lemmas.Option.{same_Some, none-some}
use Rattle.std.specs.FinMap as map
use Rattle.views.proofs.MapLaws.{true_false}
use Rattle.sys_abi.specs.declared.identity.ConnId.{ConnId}
use Rattle.sys_abi.specs.declared.identity.DescId.{DescId}
use Rattle.sys_abi.specs.declared.identity.RealPid.{RealPid}
use Rattle.sys_abi.specs.Orders.{conn_cmp}
use Rattle.sys_abi.proofs.OrderLaws.{desc_total, desc_exact}
use Rattle.fd_tables.specs.declared.description.Desc.{Desc}
use Rattle.fd_tables.specs.Parts.{is_after}
use Rattle.fd_book.specs.Books.{Books}
use Rattle.wire_channels.specs.declared.listener.Listener.{Listener}
use Rattle.wire_channels.specs.Listeners.{Listeners}
use Rattle.leader_vote.specs.Agents.{leads_end, waits_in, IsAgentAfter}
use Rattle.leader_vote.proofs.KeptOwners.{value_of}
use Rattle.leader_vote.proofs.Walks.{count_of, next_is, walked, none_left, fewer_left}

abbrev pub AreOthers : Books → Listeners → ConnId → ℕ → Option DescId → Option DescId → Type 0
AreOthers b listeners conn side from above =
    (id : DescId) (d : Desc) → map.get b.descriptions id ≡ Some d → is_after from id ≡ true
    → is_after above id ≡ false → leads_end listeners conn side d ≡ None

module _ (b : Books) (listeners : Listeners) (conn : ConnId) (side : ℕ) (from : Option DescId) where
  pub others_begun : AreOthers b listeners conn side from from
  others_begun id d is after behind = true_false (sym after ∙ behind)

  module _ (above : Option DescId) (id : DescId)
      (next : find (is_after above) (map.keys b.descriptions) ≡ Some id) where
    its : IsSome (map.get b.descriptions id) × (is_after above id ≡ true)
    its = next_is desc_total desc_exact b.descriptions is_after (λ k. refl) (λ a k. refl) above id next

    pub others_on : AreOthers b listeners conn side from above
        → option_and_then (leads_end listeners conn side) (map.get b.descriptions id) ≡ None
        → AreOthers b listeners conn side from (Some id)
    others_on others nobody q d is after behind =
        elim (walked desc_total desc_exact b.descriptions is_after (λ k. refl) (λ a k. refl) above id q d
        next is behind) [
          | inl same ↦
              sym (ap (option_and_then (leads_end listeners conn side)) (ap (map.get b.descriptions) (sym
              same) ∙ is))
              ∙ nobody
          | inr before ↦ others q d is after before
        ]

    pub others_fewer : count_of (is_after (Some id)) (map.keys b.descriptions)
        < count_of (is_after above) (map.keys b.descriptions)
    others_fewer = fewer_left desc_total desc_exact b.descriptions is_after (λ k. refl) (λ a k. refl) above
        id its.0 its.1

    pub leader_found : (p : RealPid)
        → option_and_then (leads_end listeners conn side) (map.get b.descriptions id) ≡ Some p
        → IsAgentAfter b listeners from conn side (Some p)
    leader_found p leads =
        let x = value_of (map.get b.descriptions id) its.0 in
        (id, (x.0, (x.1, sym (ap (option_and_then (leads_end listeners conn side)) x.1) ∙ leads)))

  pub others_done : (above : Option DescId) → find (is_after above) (map.keys b.descriptions) ≡ None
      → AreOthers b listeners conn side from above → IsAgentAfter b listeners from conn side None
  others_done above none others id d is after =
      others id d is after
      (none_left desc_total desc_exact b.descriptions is_after (λ k. refl) (λ a k. refl) above id d none is)

-- a queue, place by place
place_more : (p : ConnId → Bool) (q : List ConnId) (n : ℕ)
    → list_any p (take (suc n) q) ≡ (list_any p (take n q) || option_map_or p (slice_get q n) false)
place_more p [] zero = refl
place_more p [] (suc n) = refl
place_more p (x ∷ q) zero = elim (p x) as (λ b. (b || false) ≡ (false || b)) [ true ↦ refl | false ↦ refl ]
place_more p (x ∷ q) (suc n) =
    ap (λ b. p x || b) (place_more p q n)
    ∙ elim (p x) as (λ b. (b || (list_any p (take n q) || option_map_or p (slice_get q n) false))
    ≡ ((b || list_any p (take n q)) || option_map_or p (slice_get q n) false)) [
      | true ↦ refl
      | false ↦
          refl
    ]

place_found : (p : ConnId → Bool) (q : List ConnId) (n place : ℕ) → place < n
    → option_map_or p (slice_get q place) false ≡ true → list_any p (take n q) ≡ true
place_found p q zero place below found = absurd (omega (arith, below))
place_found p [] (suc n) place below found = true_false (sym found)
place_found p (x ∷ q) (suc n) zero below found = ap (λ b. b || list_any p (take n q)) found
place_found p (x ∷ q) (suc n) (suc place) below found =
    let less : suc place < suc n = below in
    elim (p x) as (λ b. (b || list_any p (take n q)) ≡ true) [
      | true ↦ refl
      | false ↦ place_found p q n place (omega (arith, less)) found
    ]

abbrev pub waits_below : Option Listener → ConnId → ℕ → Bool
waits_below found conn n = option_map_or (λ (x : Listener). list_any (eq_by_cmp conn_cmp conn) (take n
    x.queue)) found false

abbrev queued_at : Option Listener → ConnId → ℕ → Bool
queued_at found conn place =
    option_map_or (eq_by_cmp conn_cmp conn)
    (option_and_then (λ (x : Listener). slice_get x.queue place) found) false

pub not_queued : (found : Option Listener) (conn : ConnId) (n : ℕ) → waits_below found conn n ≡ false
    → queued_at found conn n ≡ false → waits_below found conn (n + 1) ≡ false
not_queued None conn n none here = refl
not_queued (Some x) conn n none here =
    let next : n + 1 ≡ suc n = omega arith in
    ap (λ i. list_any (eq_by_cmp conn_cmp conn) (take i x.queue)) next
    ∙ place_more (eq_by_cmp conn_cmp conn) x.queue n ∙ (λ i. none i || here i)

pub is_queued : (found : Option Listener) (conn : ConnId) (backlog place : ℕ)
    → option_map (λ (x : Listener). x.backlog) found ≡ Some backlog → place < backlog
    → queued_at found conn place ≡ true → option_map_or (waits_in conn) found false ≡ true
is_queued None conn backlog place is below here = absurd (none-some backlog is)
is_queued (Some x) conn backlog place is below here =
    place_found (eq_by_cmp conn_cmp conn) x.queue x.backlog place
    (subst (λ n. place < n) (sym (same_Some x.backlog backlog is)) below) here

none_further : (p : ConnId → Bool) (q : List ConnId) (n place : ℕ) → slice_get q place ≡ None
    → list_any p (take place q) ≡ false → list_any p (take n q) ≡ false
none_further p [] zero place none before = refl
none_further p [] (suc n) place none before = refl
none_further p (x ∷ q) n zero none before = absurd (none-some x (sym none))
none_further p (x ∷ q) zero (suc place) none before = refl
none_further p (x ∷ q) (suc n) (suc place) none before =
    elim (p x) as (λ b. (b || list_any p (take place q)) ≡ false → (b || list_any p (take n q)) ≡ false) [
      | true ↦ λ is. is
      | false ↦ λ is. none_further p q n place none is
    ] before

-- behind a place at which none waits none does
pub none_queued : (found : Option Listener) (conn : ConnId) (n : ℕ) → waits_below found conn n ≡ false
    → option_and_then (λ (x : Listener). slice_get x.queue n) found ≡ None
    → option_map_or (waits_in conn) found false ≡ false
none_queued None conn n none here = refl
none_queued (Some x) conn n none here =
    none_further (eq_by_cmp conn_cmp conn) x.queue x.backlog n here none
