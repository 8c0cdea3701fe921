-- The place in the rounds after a trace, and one more record that is due there.
use Rattle.std.proofs.Common.{◌≡◌, ℕ, Bool, true, false, cond, List, [], ◌∷◌, ◌++◌, Some, None, refl, sym, ap, ◌∙◌, arith}
use Rattle.std.proofs.lemmas.Bool.Decides.{nat_tests}
use Rattle.std.specs.Prelude.{◌==◌, ◌&&◌, ◌||◌, option_and_then}
use Rattle.std.specs.Option.{option_map_or}
use Rattle.std.specs.FinMap as map
use Rattle.sys_abi.specs.declared.identity.Dir.{Dir}
use Rattle.sys_abi.specs.declared.record.Record.{Record}
use Rattle.sys_abi.specs.declared.record.Record.TheVariants.{Arrive}
use Rattle.views.proofs.MapLaws.{true_false}
use Rattle.plain_machine.specs.declared.plain.Plain.{Plain}
use Rattle.plain_machine.specs.Records.{step}
use Rattle.plain_machine.specs.Runs.{run}
use Rattle.trace_log.specs.declared.requests.Schedule.{Schedule}
use Rattle.trace_log.specs.Requests.{NoRequest, Requested, can_be_held, is_mark}
use Rattle.trace_log.specs.Turns.{Due, After, coming, missing_in, due_at, is_arrival, is_due_at, is_same_dir}
use Rattle.checkpointer.specs.Rounds.{Standing, is_due_for_cut, is_first_arrival, is_due, request_waits, moved, moved_by, standing_after, each_is_due}
use Rattle.checkpointer.specs.Running.{walk}

pub record Pushed (schedule : Schedule) (g h : Plain) (at here : Standing) (records : List Record) (r : Record) : Type 0 where
  pub order : each_is_due schedule g at (records ++ r ∷ []) ≡ true
  pub ends : walk schedule g at (records ++ r ∷ []) ≡ Some (standing_after schedule h here r)

pub left_true : (a b : Bool) → (a && b) ≡ true → a ≡ true
left_true true b both = refl
left_true false b both = both

pub right_true : (a b : Bool) → (a && b) ≡ true → b ≡ true
right_true true b both = both
right_true false b both = true_false (sym both)

both_true : (a b : Bool) → a ≡ true → b ≡ true → (a && b) ≡ true
both_true true b first second = second
both_true false b first second = first

pub pushed : (schedule : Schedule) (g h next : Plain) (at here : Standing) (records : List Record) (r : Record) → run g records ≡ Some h → walk schedule g at records ≡ Some here → each_is_due schedule g at records ≡ true → is_due h here r ≡ true → step h r ≡ Some next → Pushed schedule g h at here records r
unfolding run walk each_is_due
pushed schedule g h next at here [] r runs walks order due goes =
    let same : g ≡ h = cc in
    let there : at ≡ here = cc in
    let goes_g : step g r ≡ Some next = ap (λ k. step k r) same ∙ goes in
    let due_there : is_due g at r ≡ true = ap (λ (a : Standing). is_due g a r) there ∙ ap (λ k. is_due k here r) same ∙ due in
    record {
      order = both_true (is_due g at r) _ due_there (ap (λ o. option_map_or (λ k. true) o false) goes_g);
      ends = ap (λ o. option_and_then (λ k. Some (standing_after schedule g at r)) o) goes_g ∙ ap (λ (a : Standing). Some (standing_after schedule g a r)) there ∙ ap (λ k. Some (standing_after schedule k here r)) same;
    }
pushed schedule g h next at here (x ∷ rest) r runs walks order due goes = let both = elim (step g x) as (λ o.
    option_and_then (λ k. run k rest) o ≡ Some h → option_and_then (λ k. walk schedule k (standing_after schedule g at x) rest) o ≡ Some here
    → (is_due g at x && option_map_or (λ k. each_is_due schedule k (standing_after schedule g at x) rest) o false) ≡ true
    → ((is_due g at x && option_map_or (λ k. each_is_due schedule k (standing_after schedule g at x) (rest ++ r ∷ [])) o false) ≡ true)
    × (option_and_then (λ k. walk schedule k (standing_after schedule g at x) (rest ++ r ∷ [])) o ≡ Some (standing_after schedule h here r))) [
      | None ↦ λ e f d. absurd (cc)
      | Some k ↦ λ e f d.
          let later = pushed schedule k h next (standing_after schedule g at x) here rest r e f (right_true (is_due g at x) _ d) due goes in
          (both_true (is_due g at x) _ (left_true (is_due g at x) _ d) later.order, later.ends)
    ] runs walks order in
    record { order = both.0; ends = both.1 }

-- a record that is due is so where no request waits, and a mark always is
pub free_is_due : (g : Plain) (at : Standing) (due : Due) (r : Record) → at.requests.phase ≡ NoRequest → due_at g at.upcoming ≡ Some due → is_due_at g (Some due) r ≡ true → is_due g at r ≡ true
free_is_due g at due r free there own = by (is_mark r)
  where
    by : (b : Bool) → (b || cond (request_waits at.requests.phase) (is_due_for_cut g r) (is_due_at g (due_at g at.upcoming) r)) ≡ true
    by true = refl
    by false = ap (λ phase. cond (request_waits phase) (is_due_for_cut g r) (is_due_at g (due_at g at.upcoming) r)) free ∙ ap (λ d. is_due_at g d r) there ∙ own

pub moved_on : (g : Plain) (at : Standing) (due : Due) (r : Record) → at.requests.phase ≡ NoRequest → due_at g at.upcoming ≡ Some due → is_mark r ≡ false → moved g at r ≡ After due r
moved_on g at due r free there plain =
    ap (λ b. cond (b || request_waits at.requests.phase) at.upcoming (moved_by (due_at g at.upcoming) at.upcoming r)) plain
    ∙ ap (λ phase. cond (request_waits phase) at.upcoming (moved_by (due_at g at.upcoming) at.upcoming r)) free
    ∙ ap (λ d. moved_by d at.upcoming r) there

pub mark_is_due : (g : Plain) (at : Standing) (r : Record) → is_mark r ≡ true → is_due g at r ≡ true
mark_is_due g at r marks = ap (λ b. b || cond (request_waits at.requests.phase) (is_due_for_cut g r) (is_due_at g (due_at g at.upcoming) r)) marks

-- a mark moves nobody
pub mark_stays : (g : Plain) (at : Standing) (r : Record) → is_mark r ≡ true → moved g at r ≡ at.upcoming
mark_stays g at r marks = ap (λ b. cond (b || request_waits at.requests.phase) at.upcoming (moved_by (due_at g at.upcoming) at.upcoming r)) marks

-- all bytes of a direction arrive that are missing
abbrev pub arrival_of : Plain → Dir → Record
arrival_of g dir = Arrive dir (missing_in (map.get g.kernel.directions dir))

itself : (n : ℕ) → (n == n) ≡ true
itself n = grind (arith, nat_tests)

same_dir : (d : Dir) → is_same_dir d d ≡ true
same_dir d = λ k. (itself d.conn.pid.0 k && itself d.conn.num k) && itself d.side k

pub is_own_arrival : (g : Plain) (dir : Dir) → is_arrival g dir (arrival_of g dir) ≡ true
is_own_arrival g dir = λ k. same_dir dir k && itself (missing_in (map.get g.kernel.directions dir)) k

-- while a request waits those of the least direction are due, which moves nobody
pub arrival_is_due : (g : Plain) (at : Standing) (dir : Dir) (rest : List Dir) → at.requests.phase ≡ Requested [] → can_be_held g ≡ true → coming g ≡ dir ∷ rest → is_due g at (arrival_of g dir) ≡ true
arrival_is_due g at dir rest waits held comes =
    ap (λ phase. cond (request_waits phase) (is_due_for_cut g (arrival_of g dir)) (is_due_at g (due_at g at.upcoming) (arrival_of g dir))) waits
    ∙ ap (λ b. b && is_first_arrival g (coming g) (arrival_of g dir)) held
    ∙ ap (λ dirs. is_first_arrival g dirs (arrival_of g dir)) comes
    ∙ is_own_arrival g dir

pub arrival_stays : (g : Plain) (at : Standing) (dir : Dir) → at.requests.phase ≡ Requested [] → moved g at (arrival_of g dir) ≡ at.upcoming
arrival_stays g at dir waits = ap (λ phase. cond (request_waits phase) at.upcoming (moved_by (due_at g at.upcoming) at.upcoming (arrival_of g dir))) waits
