-- All bytes of a direction arrive that are missing.
--     Head, head_of      the first direction of which bytes are missing, and those after it
--     missing_at         that of a plain state      arrival_goes, rest_is      the record, and what is missing then
--     arrived_kernel     the kernel part then       side_is                    its side is one of the two
use Rattle.std.proofs.Common.{◌≡◌, ℕ, ◌+◌, ◌-◌, Less, Equal, Greater, Bool, true, false, cond, T, List, [], ◌∷◌, length, Option, Some, None, refl, sym, ap, ◌∙◌, arith, tests}
use Rattle.std.specs.Prelude.{nat_lt, nat_le, ◌&&◌, ◌<◌, is_some, min}
use Rattle.std.specs.List.{filter_map}
use Rattle.std.specs.Ordering.{is_eq, ordering_reverse}
use Rattle.std.specs.Cmp.{tied_itself}
use Rattle.std.specs.FinMap as map
use Rattle.std.specs.FinMap.{is_sorted, find}
use Rattle.std.specs.FinMap.Entries.{below_all, put, by_order}
use Rattle.views.proofs.Passes.{first, second, less}
use Rattle.sys_abi.specs.declared.identity.Dir.{Dir}
use Rattle.sys_abi.specs.Orders.{dir_cmp}
use Rattle.sys_abi.proofs.OrderLaws.{dir_total, dir_exact}
use Rattle.sys_abi.specs.declared.record.Record.TheVariants.{Arrive}
use Rattle.plain_tables.specs.declared.channel.Direction.{Direction}
use Rattle.plain_machine.specs.declared.plain.Plain.{Plain}
use Rattle.plain_machine.specs.declared.kernel.PlainKernel.{PlainKernel}
use Rattle.plain_machine.specs.Tests.{all_arrived}
use Rattle.plain_machine.specs.Channels.{arrived_more, with_direction}
use Rattle.plain_machine.specs.Kernels.{IsKernel}
use Rattle.wrap_calls.specs.HandedOn.{after_arrival, arrived_in}
use Rattle.views.proofs.MapLaws.{true_false}
use Rattle.plain_machine.specs.Records.{Outcome, quiet, outcome, outcome_of_arrival}
use Rattle.trace_log.specs.Turns.{if_missing, coming, missing_in}
use Rattle.computation.proofs.Threads.{one_more, none_more}

abbrev pub is_missing : Direction → Bool
is_missing direction = nat_lt direction.arrived (length direction.left)

pub above_if_found : (k q : Dir) (es : List (Dir × Direction)) (d : Direction) → T (below_all dir_cmp k es) → find dir_cmp q es ≡ Some d → dir_cmp k q ≡ Less
above_if_found k q [] d below is = absurd (cc)
above_if_found k q (e ∷ es) d below is = elim (dir_cmp q e.0) as (λ r. dir_cmp q e.0 ≡ r → cond (is_eq r) (Some e.1) (find dir_cmp q es) ≡ Some d → dir_cmp k q ≡ Less) [
  | Less ↦ λ p is. above_if_found k q es d (second _ _ below) is
  | Equal ↦ λ p is. ap (dir_cmp k) (dir_exact q e.0 p) ∙ less _ (first _ _ below)
  | Greater ↦ λ p is. above_if_found k q es d (second _ _ below) is
] refl is

-- the first of them, and the rest once all its bytes have arrived
pub record Head (dir : Dir) (rest : List Dir) (es : List (Dir × Direction)) : Type 0 where
  pub direction : Direction
  pub found : find dir_cmp dir es ≡ Some direction
  pub missing : is_missing direction ≡ true
  pub later : (v : Direction) → is_missing v ≡ false → filter_map if_missing (put dir_cmp dir v es) ≡ rest

head_here : (e : Dir × Direction) (es : List (Dir × Direction)) (dir : Dir) (rest : List Dir) → is_missing e.1 ≡ true → e.0 ∷ filter_map if_missing es ≡ dir ∷ rest → Head dir rest (e ∷ es)
head_here e es dir rest missing is =
    let key : e.0 ≡ dir = cc in
    let tail : filter_map if_missing es ≡ rest = cc in
    let tied : dir_cmp dir e.0 ≡ Equal = ap (dir_cmp dir) key ∙ tied_itself dir_total dir in
    record {
      direction = e.1;
      found = ap (λ r. cond (is_eq r) (Some e.1) (find dir_cmp dir es)) tied;
      missing = missing;
      later = λ v none. ap (λ r. filter_map if_missing (by_order r ((dir, v) ∷ e ∷ es) ((e.0, v) ∷ es) (e ∷ put dir_cmp dir v es))) tied ∙ none_more (e.0, v) es none ∙ tail;
    }

head_later : (e : Dir × Direction) (es : List (Dir × Direction)) (dir : Dir) (rest : List Dir) → T (below_all dir_cmp e.0 es) → is_missing e.1 ≡ false → Head dir rest es → Head dir rest (e ∷ es)
head_later e es dir rest below here head =
    let after : dir_cmp dir e.0 ≡ Greater = dir_total.antisymm dir e.0 ∙ ap ordering_reverse (above_if_found e.0 dir es head.direction below head.found) in
    record {
      direction = head.direction;
      found = ap (λ r. cond (is_eq r) (Some e.1) (find dir_cmp dir es)) after ∙ head.found;
      missing = head.missing;
      later = λ v none. ap (λ r. filter_map if_missing (by_order r ((dir, v) ∷ e ∷ es) ((e.0, v) ∷ es) (e ∷ put dir_cmp dir v es))) after
          ∙ none_more e (put dir_cmp dir v es) here ∙ head.later v none;
    }

pub head_of : (es : List (Dir × Direction)) (dir : Dir) (rest : List Dir) → T (is_sorted dir_cmp es) → filter_map if_missing es ≡ dir ∷ rest → Head dir rest es
head_of [] dir rest sorted is = absurd (cc)
head_of (e ∷ es) dir rest sorted is = elim (is_missing e.1) as (λ b. is_missing e.1 ≡ b → Head dir rest (e ∷ es)) [
  | true ↦ λ missing. head_here e es dir rest missing (sym (one_more e es missing) ∙ is)
  | false ↦ λ here. head_later e es dir rest (first _ _ sorted) here (head_of es dir rest (second _ _ sorted) (sym (none_more e es here) ∙ is))
] refl

module _ (g : Plain) (dir : Dir) (rest : List Dir) (is : coming g ≡ dir ∷ rest) where
  pub missing_at : Head dir rest (map.entries g.kernel.directions)
  unfolding coming
  missing_at = head_of (map.entries g.kernel.directions) dir rest (map.entries_sorted g.kernel.directions) is

  pub found_at : map.get g.kernel.directions dir ≡ Some missing_at.direction
  found_at = map.get-entries g.kernel.directions dir ∙ missing_at.found

abbrev pub with_all : PlainKernel → Dir → Direction → PlainKernel
with_all k dir direction = record k { directions = map.insert k.directions dir (all_arrived direction) }

none_missing : (direction : Direction) → is_missing (all_arrived direction) ≡ false
none_missing direction = grind (arith, tests)

pub rest_is : (g h : Plain) (dir : Dir) (rest : List Dir) (is : coming g ≡ dir ∷ rest) → h.kernel.directions ≡ map.insert g.kernel.directions dir (all_arrived (missing_at g dir rest is).direction) → coming h ≡ rest
unfolding coming
rest_is g h dir rest is directions =
    ap (λ m. filter_map if_missing (map.entries m)) directions
    ∙ ap (filter_map if_missing) (map.entries-insert dir_total g.kernel.directions dir (all_arrived (missing_at g dir rest is).direction))
    ∙ (missing_at g dir rest is).later (all_arrived (missing_at g dir rest is).direction) (none_missing (missing_at g dir rest is).direction)

counted : (direction : Direction) → is_missing direction ≡ true → (nat_le 1 (length direction.left - direction.arrived) && nat_le (direction.arrived + (length direction.left - direction.arrived)) (length direction.left)) ≡ true
counted direction missing = grind (arith, tests)

all_there : (direction : Direction) → is_missing direction ≡ true → direction.arrived + (length direction.left - direction.arrived) ≡ length direction.left
all_there direction missing = grind (arith, tests)

pub arrival_goes : (g : Plain) (dir : Dir) (direction : Direction) → map.get g.kernel.directions dir ≡ Some direction → is_missing direction ≡ true
    → outcome g (Arrive dir (missing_in (map.get g.kernel.directions dir))) ≡ Some (quiet (record { kernel = with_all g.kernel dir direction; users = g.users }))
unfolding outcome
arrival_goes g dir direction there missing =
    let n = length direction.left - direction.arrived in
    ap (λ found. outcome_of_arrival g dir (missing_in found) found) there
    ∙ ap (λ b. cond b (outcome_by n) None) (counted direction missing)
    ∙ ap (λ (arrived : ℕ). let o : Outcome = quiet (record { kernel = record g.kernel { directions = map.insert g.kernel.directions dir (record { left = direction.left; arrived = arrived; ended = direction.ended; unread = direction.unread }) }; users = g.users }) in Some o) (all_there direction missing)
  where
    outcome_by : ℕ → Option Outcome
    outcome_by n = Some (quiet (record { kernel = record g.kernel { directions = map.insert g.kernel.directions dir (record { left = direction.left; arrived = direction.arrived + n; ended = direction.ended; unread = direction.unread }) }; users = g.users }))

-- the kernel part then, as the system's change tells it
same_min : (n : ℕ) → min n n ≡ n
same_min n = grind arith

pub arrived_kernel : (k : PlainKernel) (dir : Dir) (direction : Direction)
    → map.get k.directions dir ≡ Some direction → is_missing direction ≡ true
    → after_arrival k dir (missing_in (map.get k.directions dir)) ≡ with_all k dir direction
unfolding after_arrival
arrived_kernel k dir direction there missing =
    ap (λ found. arrived_in k dir (missing_in found) found) there
    ∙ ap (λ n. with_direction k dir (arrived_more n direction)) (same_min (length direction.left - direction.arrived))
    ∙ ap (λ n. with_direction k dir (let d : Direction = record direction { arrived = n } in d))
    (all_there direction missing)

side_by : (b c : Bool) (side : ℕ) → nat_lt side 2 ≡ b → true ≡ (b && c) → side < 2
side_by true c side is there = grind (arith, tests)
side_by false c side is there = true_false there

pub side_is : (k : PlainKernel) (dir : Dir) (direction : Direction) → IsKernel k
    → map.get k.directions dir ≡ Some direction → dir.side < 2
side_is k dir direction is there =
    side_by (nat_lt dir.side 2) _ dir.side refl (sym (ap is_some there) ∙ is.channels.sides dir)
