-- The votes of all processes of a list, one after the other.
--     IsLeft live n voters      each one that has not voted stands in the list from place n on
--     left_begun, left_on, all_marked      before the first vote, after each, and after the last
--     stays_on                  nothing but the votes changes
--     entered_named             each one that may vote is named, where all live processes are
use Rattle.std.proofs.Common.{◌≡◌, ◌≢◌, ◌+◌, ◌<◌, ◌≤◌, ℕ, Bool, true, false, cond, List, [], ◌∷◌, length, map as each, get_or, Option, Some, None, inl, inr, refl, sym, ap, subst, ◌∙◌}
use Rattle.std.specs.Prelude.{IsSome, is_some, Contains, ◌&&◌}
use Rattle.std.specs.Option.{option_map_or}
use Rattle.std.specs.List.{list_all}
use Rattle.std.specs.FinMap as map
use Rattle.std.proofs.lemmas.Option.{same_Some, none-some}
use Rattle.views.proofs.MapLaws.{true_false, same_or_other, get_insert_same, get_insert_other}
use Rattle.views.proofs.MapValues.{EachEntry, each_entry}
use Rattle.sys_abi.specs.declared.identity.VPid.{VPid}
use Rattle.sys_abi.proofs.OrderLaws.{vpid_total, vpid_exact}
use Rattle.barrier_core.specs.Barriers.{BarrierState}
use Rattle.plain_machine.specs.declared.kernel.PlainKernel.{PlainKernel}
use Rattle.plain_machine.specs.Kernel.{is_live}
use Rattle.leader_vote.specs.Voters.{Voters, marked, all_voted}
use Rattle.ckpt_stages.specs.Suspensions.{Suspension, IsEntered}
use Rattle.staged_cut.proofs.Places.{IsAhead, ahead_begun, ahead_on, none_ahead}

abbrev pub IsLeft : List VPid → ℕ → Voters → Type 0
IsLeft live n voters = (p : VPid) → map.get voters p ≡ Some false → IsAhead live n p

pub left_begun : (live : List VPid) (voters : Voters)
    → ((p : VPid) → IsSome (map.get voters p) → Contains live p) → IsLeft live 0 voters
left_begun live voters named p is = ahead_begun live p (named p (ap is_some is))

-- one that has not voted after a vote is another, and had not voted before
unvoted : (voters : Voters) (p q : VPid) → map.get (marked voters p) q ≡ Some false
    → (q ≢ p) × (map.get voters q ≡ Some false)
unvoted voters p q = by_found (map.get voters p) refl
  where
    by_found : (found : Option Bool) → map.get voters p ≡ found
        → map.get (option_map_or (λ _. map.insert voters p true) found voters) q ≡ Some false
        → (q ≢ p) × (map.get voters q ≡ Some false)
    by_found None at is =
        ((λ same. none-some false (sym at ∙ ap (map.get voters) (sym same) ∙ is)), is)
    by_found (Some before) at is = elim (same_or_other vpid_total vpid_exact q p) [
      | inl same ↦
          true_false (same_Some true false (sym (ap (map.get (map.insert voters p true)) same
          ∙ get_insert_same vpid_total vpid_exact voters p true) ∙ is))
      | inr differ ↦
          (differ, sym (get_insert_other vpid_total vpid_exact voters p true q differ) ∙ is)
    ]

pub left_on : (live : List VPid) (n : ℕ) (z p : VPid) (old new : Voters) → n < length live
    → p ≡ get_or live n z → new ≡ marked old p → IsLeft live n old → IsLeft live (n + 1) new
left_on live n z p old new there at marks left q is =
    let was = unvoted old p q (sym (ap (λ (voters : Voters). map.get voters q) marks) ∙ is) in
    ahead_on live n z q there (λ same. was.0 (same ∙ sym at)) (left q was.1)

list_of_each : (rows : List (VPid × Bool)) → EachEntry (λ _ voted. voted ≡ true) rows
    → list_all (λ voted. voted) (each (λ e. e.1) rows) ≡ true
list_of_each [] told = refl
list_of_each (e ∷ rows) told =
    ap (λ b. b && list_all (λ voted. voted) (each (λ e. e.1) rows)) told.0 ∙ list_of_each rows told.1

pub all_marked : (live : List VPid) (n : ℕ) (voters : Voters) → length live ≤ n → IsLeft live n voters
    → all_voted voters ≡ true
all_marked live n voters past left =
    list_of_each (map.entries voters)
    (each_entry vpid_total vpid_exact (λ _ voted. voted ≡ true) voters (λ p voted is. has_voted p voted is))
  where
    has_voted : (p : VPid) (voted : Bool) → map.get voters p ≡ Some voted → voted ≡ true
    has_voted p true is = refl
    has_voted p false is = none_ahead live n p past (left p is)

pub stays_on : (first mid new : Suspension) (voters : Voters) → mid ≡ record first { voters = mid.voters }
    → new ≡ record mid { voters = voters } → new ≡ record first { voters = new.voters }
stays_on first mid new voters before is =
    is ∙ ap (λ (s : Suspension). record s { voters = voters }) before
    ∙ ap (λ (v : Voters). record first { voters = v }) (sym (ap (λ (s : Suspension). s.voters) is))

pub entered_named : (k : PlainKernel) (next_id : ℕ) (barrier : BarrierState) (s : Suspension)
    (live : List VPid) → IsEntered k next_id barrier s
    → ((p : VPid) → is_live k p ≡ true → Contains live p)
    → (p : VPid) → IsSome (map.get s.voters p) → Contains live p
entered_named k next_id barrier s live entered listed p there =
    elim (is_live k p) as (λ t. is_live k p ≡ t → IsSome (cond t (Some false) None) → Contains live p) [
      | true ↦ λ lives _. listed p lives
      | false ↦ λ _ none. true_false (sym none)
    ] refl (subst IsSome (entered.voters p) there)
