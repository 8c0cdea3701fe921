-- What the stage that is released tells of each member.
--     reached_each, each_reached, some_lacking      the test of all members, and each of them
--     earlier_reached       who has reached a stage has reached the earlier ones
--     reached-released      each member has reached the released stage
--     released-whole        all that it is that a stage is released
--     held_up, not_held     none is released exactly where the barrier is held up
--     members_deep          each member has come as far as the released stage
use Rattle.std.proofs.Common.{◌≡◌, ◌≢◌, ℕ, ◌≤◌, Bool, true, false, cond, ◌&&◌, T, List, [], ◌∷◌, map as each, refl, sym, ap, subst, ◌∙◌, inl, inr, arith, lit≤}
use Rattle.std.specs.Prelude.{Some, None, ◌==◌, ◌⊎◌, is_some, find}
use Rattle.std.specs.List.{list_all}
use Rattle.std.specs.Ordering.{eq_by_cmp}
use Rattle.std.specs.FinMap as map
use Rattle.std.specs.FinMap.Entries.{below_all}
use Rattle.std.proofs.lemmas.Bool.{and_parts, eqb-true, leb-true, le-leb, eq-eqb}
use Rattle.sys_abi.specs.declared.identity.VPid.{VPid}
use Rattle.sys_abi.specs.Orders.{vpid_cmp}
use Rattle.sys_abi.proofs.OrderLaws.{vpid_total, vpid_exact}
use Rattle.views.proofs.Passes.{first, second}
use Rattle.views.proofs.MapLaws.{true_false, key_tied, same_key}
use Rattle.views.proofs.MapValues.{EachEntry, each_entry, at_entry, find_below}
use Rattle.barrier_core.specs.declared.stage.Stage.{Stage}
use Rattle.barrier_core.specs.declared.stage.Stage.TheVariants.{Suspended, Elected, Drained, Written, Refilled}
use Rattle.barrier_core.specs.declared.member.Member.{Member}
use Rattle.barrier_core.specs.Stages.{order, depth, latest_first}
use Rattle.barrier_core.specs.Members.{Members, has_reached, all_reached, latest_reached}
use Rattle.barrier_core.specs.Barriers.{BarrierState, released, AllReached, IsReleased, IsWaitedFor, IsHeldUp}
use Rattle.barrier_core.proofs.StageLaws.{order_positive, order_most}

abbrev Rows : Type 0
Rows = List (VPid × Member)

-- the test of all members
each_of_list : (p : Member → Bool) (es : Rows) → list_all p (each (λ e. e.1) es) ≡ true → EachEntry (λ _ m. p m ≡ true) es
each_of_list p [] all = tt
each_of_list p (e ∷ es) all = let parts = and_parts (p e.1) (list_all p (each (λ e. e.1) es)) all in (parts.0, each_of_list p es parts.1)

list_of_each : (p : Member → Bool) (es : Rows) → EachEntry (λ _ m. p m ≡ true) es → list_all p (each (λ e. e.1) es) ≡ true
list_of_each p [] told = refl
list_of_each p (e ∷ es) told = ap (λ b. b && list_all p (each (λ e. e.1) es)) told.0 ∙ list_of_each p es told.1

pub reached_each : (members : Members) (stage : Stage) → all_reached members stage ≡ true → AllReached members stage
unfolding all_reached
reached_each members stage all q m is =
    at_entry vpid_total vpid_exact (λ _ m. has_reached stage m ≡ true) members q m (each_of_list (has_reached stage) (map.entries members) all) is

pub each_reached : (members : Members) (stage : Stage) → AllReached members stage → all_reached members stage ≡ true
unfolding all_reached
each_reached members stage told =
    list_of_each (has_reached stage) (map.entries members) (each_entry vpid_total vpid_exact (λ _ m. has_reached stage m ≡ true) members told)

record IsLacking (p : Member → Bool) (es : Rows) : Type 0 where
  who : VPid
  member : Member
  found : map.find vpid_cmp who es ≡ Some member
  fails : p member ≡ false

later : (p : Member → Bool) (e : VPid × Member) (es : Rows) → T (below_all vpid_cmp e.0 es) → IsLacking p es → IsLacking p (e ∷ es)
later p e es below l = record {
  who = l.who;
  member = l.member;
  found = elim (eq_by_cmp vpid_cmp l.who e.0) as (λ t. eq_by_cmp vpid_cmp l.who e.0 ≡ t → cond t (Some e.1) (map.find vpid_cmp l.who es) ≡ Some l.member) [
    | true ↦ λ tied.
        true_false (ap is_some (sym l.found ∙ ap (λ k. map.find vpid_cmp k es) (same_key vpid_total vpid_exact l.who e.0 tied) ∙ find_below vpid_cmp e.0 es below))
    | false ↦ λ apart. l.found
  ] refl;
  fails = l.fails;
}

lacking : (p : Member → Bool) (es : Rows) → T (map.is_sorted vpid_cmp es) → list_all p (each (λ e. e.1) es) ≡ false → IsLacking p es
lacking p [] sorted fails = true_false fails
lacking p (e ∷ es) sorted fails =
    elim (p e.1) as (λ b. p e.1 ≡ b → (b && list_all p (each (λ e. e.1) es)) ≡ false → IsLacking p (e ∷ es)) [
      | true ↦ λ passes rest. later p e es (first _ _ sorted) (lacking p es (second _ _ sorted) rest)
      | false ↦ λ here rest. record {
        who = e.0;
        member = e.1;
        found = ap (λ b. cond b (Some e.1) (map.find vpid_cmp e.0 es)) (key_tied vpid_total vpid_exact e.0);
        fails = here;
      }
    ] refl fails

some_lacking : (b : BarrierState) → all_reached b.members Suspended ≡ false → (p : VPid) × IsWaitedFor b p
unfolding all_reached
some_lacking b fails =
    let l : IsLacking (has_reached Suspended) (map.entries b.members) = lacking (has_reached Suspended) (map.entries b.members) (map.entries_sorted b.members) fails in
    (l.who, (l.member, map.get-entries b.members l.who ∙ l.found, l.fails))

-- depths
pub reached-depth : (stage : Stage) (m : Member) → has_reached stage m ≡ true → order stage ≤ depth m.reached
reached-depth stage m is = leb-true (order stage) (depth m.reached) is

pub depth-reached : (stage : Stage) (m : Member) → order stage ≤ depth m.reached → has_reached stage m ≡ true
depth-reached stage m is = le-leb (order stage) (depth m.reached) is

pub earlier_reached : (early late : Stage) (members : Members) → order early ≤ order late → AllReached members late → AllReached members early
earlier_reached early late members before all q m is =
    let far : order late ≤ depth m.reached = reached-depth late m (all q m is) in
    depth-reached early m (omega (arith, before, far))

-- the first of the stages, from the latest, that passes
record IsFirst (f : Stage → Bool) (found : Stage) : Type 0 where
  passing : f found ≡ true
  greatest : (other : Stage) → f other ≡ true → order other ≤ order found

either : (t : Bool) (n k : ℕ) → (k ≤ n) ⊎ (t ≡ false) → t ≡ true → k ≤ n
either t n k (inl low) passes = low
either t n k (inr fails) passes = true_false (sym passes ∙ fails)

-- a stage that passes, where the greater ones do not
no_more : (f : Stage → Bool) (n : ℕ) → (order Refilled ≤ n) ⊎ (f Refilled ≡ false) → (order Written ≤ n) ⊎ (f Written ≡ false) → (order Drained ≤ n) ⊎ (f Drained ≡ false)
    → (order Elected ≤ n) ⊎ (f Elected ≡ false) → (order Suspended ≤ n) ⊎ (f Suspended ≡ false) → (other : Stage) → f other ≡ true → order other ≤ n
no_more f n a b c d e Refilled passes = either (f Refilled) n (order Refilled) a passes
no_more f n a b c d e Written passes = either (f Written) n (order Written) b passes
no_more f n a b c d e Drained passes = either (f Drained) n (order Drained) c passes
no_more f n a b c d e Elected passes = either (f Elected) n (order Elected) d passes
no_more f n a b c d e Suspended passes = either (f Suspended) n (order Suspended) e passes

first_of_all : (f : Stage → Bool) (found : Stage) → find f latest_first ≡ Some found → IsFirst f found
first_of_all f found is =
    elim (f Refilled) as (λ a. f Refilled ≡ a → cond a (Some Refilled) (find f (Written ∷ Drained ∷ Elected ∷ Suspended ∷ [])) ≡ Some found → IsFirst f found) [
      | true ↦ λ a h. taken Refilled a h (λ other _. order_most other)
      | false ↦ λ a h. elim (f Written) as (λ b. f Written ≡ b → cond b (Some Written) (find f (Drained ∷ Elected ∷ Suspended ∷ [])) ≡ Some found → IsFirst f found) [
        | true ↦ λ b h. taken Written b h (no_more f 4 (inr a) (inl (lit≤ tt)) (inl (lit≤ tt)) (inl (lit≤ tt)) (inl (lit≤ tt)))
        | false ↦ λ b h. elim (f Drained) as (λ c. f Drained ≡ c → cond c (Some Drained) (find f (Elected ∷ Suspended ∷ [])) ≡ Some found → IsFirst f found) [
          | true ↦ λ c h. taken Drained c h (no_more f 3 (inr a) (inr b) (inl (lit≤ tt)) (inl (lit≤ tt)) (inl (lit≤ tt)))
          | false ↦ λ c h. elim (f Elected) as (λ d. f Elected ≡ d → cond d (Some Elected) (find f (Suspended ∷ [])) ≡ Some found → IsFirst f found) [
            | true ↦ λ d h. taken Elected d h (no_more f 2 (inr a) (inr b) (inr c) (inl (lit≤ tt)) (inl (lit≤ tt)))
            | false ↦ λ d h. elim (f Suspended) as (λ e. f Suspended ≡ e → cond e (Some Suspended) None ≡ Some found → IsFirst f found) [
              | true ↦ λ e h. taken Suspended e h (no_more f 1 (inr a) (inr b) (inr c) (inr d) (inl (lit≤ tt)))
              | false ↦ λ e h. true_false (sym (ap is_some h))
            ] refl h
          ] refl h
        ] refl h
      ] refl h
    ] refl is
  where
    taken : (s : Stage) → f s ≡ true → Some s ≡ Some found → ((other : Stage) → f other ≡ true → order other ≤ order s) → IsFirst f found
    taken s here same most = let is : s ≡ found = cc in subst (IsFirst f) is (record { passing = here; greatest = most })

none_of_all : (f : Stage → Bool) → find f latest_first ≡ None → f Suspended ≡ false
none_of_all f is =
    elim (f Suspended) as (λ e. f Suspended ≡ e → e ≡ false) [
      | true ↦ λ here. true_false (sym (somewhere (f Refilled) (f Written) (f Drained) (f Elected)) ∙ ap (λ b. is_some (cond (f Refilled) (Some Refilled) (cond (f Written) (Some Written) (cond (f Drained) (Some Drained) (cond (f Elected) (Some Elected) (cond b (Some Suspended) None)))))) (sym here) ∙ ap is_some is)
      | false ↦ λ here. refl
    ] refl
  where
    somewhere : (a b c d : Bool) → is_some (cond a (Some Refilled) (cond b (Some Written) (cond c (Some Drained) (cond d (Some Elected) (Some Suspended))))) ≡ true
    somewhere true b c d = refl
    somewhere false true c d = refl
    somewhere false false true d = refl
    somewhere false false false true = refl
    somewhere false false false false = refl

-- what it is that a stage is released
record IsChosen (b : BarrierState) (stage : Stage) : Type 0 where
  asked : b.is_open ≡ true
  somebody : map.len b.members ≢ 0
  chosen : find (all_reached b.members) latest_first ≡ Some stage

released_chosen : (b : BarrierState) (stage : Stage) → released b ≡ Some stage → IsChosen b stage
unfolding released
released_chosen b stage is =
    elim b.is_open as (λ o. b.is_open ≡ o → cond o (latest_reached b.members) None ≡ Some stage → IsChosen b stage) [
      | true ↦ λ opened h. elim (map.len b.members == 0) as (λ e. (map.len b.members == 0) ≡ e → cond e None (find (all_reached b.members) latest_first) ≡ Some stage → IsChosen b stage) [
        | true ↦ λ none h. true_false (sym (ap is_some h))
        | false ↦ λ some h. record { asked = opened; somebody = λ zero. true_false (sym (eq-eqb _ 0 zero) ∙ some); chosen = h }
      ] refl h
      | false ↦ λ shut h. true_false (sym (ap is_some h))
    ] refl is

pub reached-released : (b : BarrierState) (stage : Stage) → released b ≡ Some stage → AllReached b.members stage
reached-released b stage is =
    let first : IsFirst (all_reached b.members) stage = first_of_all (all_reached b.members) stage (released_chosen b stage is).chosen in
    reached_each b.members stage first.passing

pub released-whole : (b : BarrierState) (stage : Stage) → released b ≡ Some stage → IsReleased b stage
released-whole b stage is =
    let how : IsChosen b stage = released_chosen b stage is in
    let first : IsFirst (all_reached b.members) stage = first_of_all (all_reached b.members) stage how.chosen in
    record {
      asked = how.asked;
      somebody = λ empty. how.somebody (ap map.len empty ∙ map.len-empty vpid_cmp Member);
      reached = reached_each b.members stage first.passing;
      greatest = λ later all. first.greatest later (each_reached b.members later all);
    }

pub held_up : (b : BarrierState) → released b ≡ None → IsHeldUp b
unfolding released
held_up b is =
    elim b.is_open as (λ o. b.is_open ≡ o → cond o (latest_reached b.members) None ≡ None → IsHeldUp b) [
      | true ↦ λ opened h. elim (map.len b.members == 0) as (λ e. (map.len b.members == 0) ≡ e → cond e None (find (all_reached b.members) latest_first) ≡ None → IsHeldUp b) [
        | true ↦ λ none h. inr (inl (map.empty_of_len b.members (eqb-true _ 0 none)))
        | false ↦ λ some h. inr (inr (some_lacking b (none_of_all (all_reached b.members) h)))
      ] refl h
      | false ↦ λ shut h. inl shut
    ] refl is

-- no stage is released while the barrier is held up
not_all : (b : BarrierState) (stage : Stage) → IsHeldUp b → IsReleased b stage → ⊥
not_all b stage (inl shut) how = true_false (sym how.asked ∙ shut)
not_all b stage (inr (inl empty)) how = how.somebody empty
not_all b stage (inr (inr lag)) how =
    true_false (sym (earlier_reached Suspended stage b.members (order_positive stage) how.reached lag.0 lag.1.0 lag.1.1) ∙ lag.1.2)

pub not_held : (b : BarrierState) → IsHeldUp b → released b ≡ None
not_held b held =
    elim (released b) as (λ o. released b ≡ o → o ≡ None) [
      | None ↦ λ is. refl
      | Some stage ↦ λ is. absurd (not_all b stage held (released-whole b stage is))
    ] refl

-- each member has come as far as the released stage
pub members_deep : (b : BarrierState) (q : VPid) (m : Member) → map.get b.members q ≡ Some m → depth (released b) ≤ depth m.reached
members_deep b q m is =
    elim (released b) as (λ o. released b ≡ o → depth o ≤ depth m.reached) [
      | None ↦ λ none. omega arith
      | Some stage ↦ λ here. reached-depth stage m (reached-released b stage here q m is)
    ] refl
