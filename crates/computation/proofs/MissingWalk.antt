-- A walk over the directions by the least one above the last, to the first of which bytes are missing.
--     from_above above entries       the entries after those up to the last one
--     next_is, nothing_left          the next one
--     missing_here, none_here        whether bytes of it are missing
use Rattle.std.proofs.Common.{◌≡◌, ◌<◌, ◌≤◌, ℕ, ◌-◌, Equal, Greater, true, false, cond, T, List, [], ◌∷◌, map as mapped, length}
use Rattle.std.proofs.Common.{Option, Some, None, refl, sym, ap, ◌∙◌, arith, tests}
use Rattle.std.specs.Prelude.{find as first_that, nat_lt}
use Rattle.std.specs.List.{filter_map}
use Rattle.std.specs.Ordering.{is_eq, is_lt, ordering_reverse}
use Rattle.std.specs.Cmp.{tied_itself}
use Rattle.std.specs.FinMap as map
use Rattle.std.specs.FinMap.{is_sorted, find}
use Rattle.std.specs.FinMap.Entries.{below_all}
use Rattle.std.proofs.lemmas.Option.{none-some, same_Some}
use Rattle.views.proofs.Passes.{first, second, less}
use Rattle.sys_abi.specs.declared.identity.Dir.{Dir}
use Rattle.sys_abi.specs.Orders.{dir_cmp}
use Rattle.sys_abi.proofs.OrderLaws.{dir_total}
use Rattle.plain_tables.specs.declared.channel.Direction.{Direction}
use Rattle.plain_machine.specs.declared.plain.Plain.{Plain}
use Rattle.wrap_calls.specs.HandedOn.{is_above}
use Rattle.trace_log.specs.Turns.{coming, if_missing, missing_in}
use Rattle.computation.proofs.Arrivals.{above_if_found}
use Rattle.computation.proofs.Threads.{one_more, none_more}

abbrev pub Entries : Type 0
Entries = List (Dir × Direction)

abbrev pub from_above : Option Dir → Entries → Entries
from_above above [] = []
from_above above (e ∷ es) = cond (is_above above e.0) (e ∷ es) (from_above above es)

abbrev keys_in : Entries → List Dir
keys_in es = mapped (λ e. e.0) es

all_above : (es : Entries) → from_above None es ≡ es
all_above [] = refl
all_above (e ∷ es) = refl

after_key : (k : Dir) (es : Entries) → T (below_all dir_cmp k es) → from_above (Some k) es ≡ es
after_key k [] below = refl
after_key k (e ∷ es) below =
    ap (λ r. cond (is_lt r) (e ∷ es) (from_above (Some k) es)) (less _ (first _ _ below))

nothing_in : (above : Option Dir) (es : Entries) → first_that (is_above above) (keys_in es) ≡ None
    → from_above above es ≡ []
nothing_in above [] none = refl
nothing_in above (e ∷ es) none = elim (is_above above e.0) as (λ b. is_above above e.0 ≡ b
    → cond b (Some e.0) (first_that (is_above above) (keys_in es)) ≡ None
    → cond b (e ∷ es) (from_above above es) ≡ []) [
      | true ↦ λ here is. absurd (none-some e.0 (sym is))
      | false ↦ λ fails is. nothing_in above es is
    ] refl none

pub record Next (above : Option Dir) (d : Dir) (es : Entries) : Type 0 where
  pub direction : Direction
  pub rest : Entries
  pub there : from_above above es ≡ (d, direction) ∷ rest
  pub found : find dir_cmp d es ≡ Some direction
  pub later : from_above (Some d) es ≡ rest

next_here : (above : Option Dir) (d : Dir) (e : Dir × Direction) (es : Entries)
    → T (below_all dir_cmp e.0 es) → is_above above e.0 ≡ true → e.0 ≡ d → Next above d (e ∷ es)
next_here above d e es below here same =
    let tied : dir_cmp d e.0 ≡ Equal = ap (λ k. dir_cmp k e.0) (sym same) ∙ tied_itself dir_total e.0 in
    record {
      direction = e.1;
      rest = es;
      there = ap (λ b. cond b (e ∷ es) (from_above above es)) here ∙ ap (λ k. (k, e.1) ∷ es) same;
      found = ap (λ r. cond (is_eq r) (Some e.1) (find dir_cmp d es)) tied;
      later = ap (λ r. cond (is_lt r) (e ∷ es) (from_above (Some d) es)) tied
          ∙ ap (λ k. from_above (Some k) es) (sym same) ∙ after_key e.0 es below;
    }

next_later : (above : Option Dir) (d : Dir) (e : Dir × Direction) (es : Entries)
    → T (below_all dir_cmp e.0 es) → is_above above e.0 ≡ false → Next above d es → Next above d (e ∷ es)
next_later above d e es below fails next =
    let after : dir_cmp d e.0 ≡ Greater =
    dir_total.antisymm d e.0 ∙ ap ordering_reverse (above_if_found e.0 d es next.direction below next.found) in
    record {
      direction = next.direction;
      rest = next.rest;
      there = ap (λ b. cond b (e ∷ es) (from_above above es)) fails ∙ next.there;
      found = ap (λ r. cond (is_eq r) (Some e.1) (find dir_cmp d es)) after ∙ next.found;
      later = ap (λ r. cond (is_lt r) (e ∷ es) (from_above (Some d) es)) after ∙ next.later;
    }

next_in : (above : Option Dir) (d : Dir) (es : Entries) → T (is_sorted dir_cmp es)
    → first_that (is_above above) (keys_in es) ≡ Some d → Next above d es
next_in above d [] sorted is = absurd (none-some d is)
next_in above d (e ∷ es) sorted is = elim (is_above above e.0) as (λ b. is_above above e.0 ≡ b
    → cond b (Some e.0) (first_that (is_above above) (keys_in es)) ≡ Some d → Next above d (e ∷ es)) [
      | true ↦ λ here same. next_here above d e es (first _ _ sorted) here (same_Some e.0 d same)
      | false ↦ λ fails same.
          next_later above d e es (first _ _ sorted) fails (next_in above d es (second _ _ sorted) same)
    ] refl is

module _ (g : Plain) where
  abbrev pub entries_of : Entries
  entries_of = map.entries g.kernel.directions

  -- what is missing is missing after those that were passed
  abbrev pub Passed : Option Dir → Type 0
  Passed above = coming g ≡ filter_map if_missing (from_above above entries_of)

  pub passed_none : Passed None
  unfolding coming
  passed_none = sym (ap (filter_map if_missing) (all_above entries_of))

  module _ (above : Option Dir) (passed : Passed above) where
    pub nothing_left : None ≡ first_that (is_above above) (map.keys g.kernel.directions) → coming g ≡ []
    nothing_left none = passed ∙ ap (filter_map if_missing) (nothing_in above entries_of (sym none))

    module _ (d : Dir) (is : Some d ≡ first_that (is_above above) (map.keys g.kernel.directions)) where
      pub next_is : Next above d entries_of
      next_is = next_in above d entries_of (map.entries_sorted g.kernel.directions) (sym is)

      counted : missing_in (map.get g.kernel.directions d)
          ≡ length next_is.direction.left - next_is.direction.arrived
      counted = ap missing_in (map.get-entries g.kernel.directions d ∙ next_is.found)

      module _ (n : ℕ) (told : n ≡ missing_in (map.get g.kernel.directions d)) where
        more : 0 < n → nat_lt next_is.direction.arrived (length next_is.direction.left) ≡ true
        more some = let count = told ∙ counted in grind (arith, tests)

        no_more : n ≤ 0 → nat_lt next_is.direction.arrived (length next_is.direction.left) ≡ false
        no_more none = let count = told ∙ counted in grind (arith, tests)

        pub missing_here : 0 < n → (rest : List Dir) × (coming g ≡ d ∷ rest)
        missing_here some = (
          filter_map if_missing next_is.rest,
          passed ∙ ap (filter_map if_missing) next_is.there
              ∙ one_more (d, next_is.direction) next_is.rest (more some),
        )

        pub none_here : n ≤ 0 → Passed (Some d)
        none_here none =
            passed ∙ ap (filter_map if_missing) next_is.there
            ∙ none_more (d, next_is.direction) next_is.rest (no_more none)
            ∙ sym (ap (filter_map if_missing) next_is.later)

      pub fewer : length (from_above (Some d) entries_of) < length (from_above above entries_of)
      fewer =
          let now = ap length next_is.there in
          let then = ap length next_is.later in
          grind arith
