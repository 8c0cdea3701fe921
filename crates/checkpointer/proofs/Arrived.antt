-- What the arrival of bytes changes: nothing that a checkpoint asks for. And where none are missing all have arrived.
use Rattle.std.proofs.Common.{◌≡◌, ℕ, ◌+◌, ◌≤◌, true, false, cond, not, List, [], ◌∷◌, Option, Some, None, refl, sym, ap, subst, ◌∙◌, length, arith, tests}
use Rattle.std.specs.Prelude.{◌&&◌, nat_le, nat_lt, is_some}
use Rattle.std.specs.List.{filter_map, cons_option}
use Rattle.std.specs.Option.{option_map}
use Rattle.std.specs.FinMap as map
use Rattle.views.proofs.MapValues.{EachEntry, at_entry, get-map_values}
use Rattle.sys_abi.specs.declared.identity.Dir.{Dir}
use Rattle.sys_abi.specs.declared.record.Record.TheVariants.{Arrive}
use Rattle.sys_abi.proofs.OrderLaws.{dir_total, dir_exact}
use Rattle.plain_tables.specs.declared.channel.Direction.{Direction}
use Rattle.plain_machine.specs.declared.plain.Plain.{Plain}
use Rattle.plain_machine.specs.Records.{Outcome, outcome, outcome_of_arrival, with_arrived, quiet}
use Rattle.plain_machine.specs.Tests.{has_life, unsupported, all_arrived, full_arrive}
use Rattle.plain_machine.specs.Valid.{IsValid}
use Rattle.trace_log.specs.Requests.{CanBeHeld, can_be_held}
use Rattle.trace_log.specs.Turns.{coming, if_missing, missing_in}
use Rattle.plain_process.proofs.Giving.{Giving, gives, nothing, where_}
use Rattle.checkpointer.proofs.Walks.{arrival_of}

pub held_so : (g : Plain) → CanBeHeld g → can_be_held g ≡ true
held_so g held = λ k. not (held.lives k) && not (is_some (held.supported k))

-- it writes nothing, and what can be held in a set still can
pub record Arrives (g h : Plain) (dir : Dir) : Type 0 where
  pub makes : outcome g (arrival_of g dir) ≡ Some (quiet h)
  pub held : CanBeHeld g → CanBeHeld h

still_held : (g : Plain) (dir : Dir) (n : ℕ) (direction : Direction) → CanBeHeld g → CanBeHeld (with_arrived g dir direction n)
unfolding has_life unsupported
still_held g dir n direction held = record { lives = held.lives; supported = held.supported }

record HasMoved (g : Plain) (dir : Dir) (n : ℕ) (o : Outcome) : Type 0 where
  direction : Direction
  is : o ≡ quiet (with_arrived g dir direction n)

moved_by : (g : Plain) (dir : Dir) (n : ℕ) (found : Option Direction) → Giving (outcome_of_arrival g dir n found) (HasMoved g dir n)
moved_by g dir n None = nothing
moved_by g dir n (Some direction) = where_ (nat_le 1 n && nat_le (direction.arrived + n) (length direction.left)) (λ both. gives _ (record { direction = direction; is = refl }))

has_moved : (g : Plain) (dir : Dir) (n : ℕ) (o : Outcome) → outcome g (Arrive dir n) ≡ Some o → HasMoved g dir n o
unfolding outcome
has_moved g dir n o goes = (moved_by g dir n (map.get g.kernel.directions dir)).each o goes

pub arrives : (g h : Plain) (dir : Dir) (bytes : List ℕ) → outcome g (arrival_of g dir) ≡ Some (record { state = h; console = bytes }) → Arrives g h dir
arrives g h dir bytes makes =
    let n = missing_in (map.get g.kernel.directions dir) in
    let has = has_moved g dir n (record { state = h; console = bytes }) makes in
    let same : h ≡ with_arrived g dir has.direction n = ap (λ (o : Outcome). o.state) has.is in
    record { makes = makes ∙ ap (λ (o : Outcome). Some o) has.is ∙ ap (λ k. Some (quiet k)) (sym same); held = λ held. subst CanBeHeld (sym same) (still_held g dir n has.direction held) }

-- where none are missing
none_missing : (es : List (Dir × Direction)) → filter_map if_missing es ≡ [] → EachEntry (λ dir direction. nat_lt direction.arrived (length direction.left) ≡ false) es
none_missing [] none = tt
none_missing (e ∷ es) none = elim (nat_lt e.1.arrived (length e.1.left)) as (λ b. nat_lt e.1.arrived (length e.1.left) ≡ b → cons_option (cond b (Some e.0) None) (filter_map if_missing es) ≡ [] → EachEntry (λ dir direction. nat_lt direction.arrived (length direction.left) ≡ false) (e ∷ es)) [
  | true ↦ λ is nothing. absurd (cc)
  | false ↦ λ is nothing. (is, none_missing es nothing)
] refl none

as_it_is : (direction : Direction) → nat_lt direction.arrived (length direction.left) ≡ false → direction.arrived ≤ length direction.left → all_arrived direction ≡ direction
as_it_is direction none most = ap (λ n. let d : Direction = record { left = direction.left; arrived = n; ended = direction.ended; unread = direction.unread } in d) (equal direction.arrived (length direction.left) none most)
  where
    equal : (a b : ℕ) → nat_lt a b ≡ false → a ≤ b → b ≡ a
    equal a b none most = grind (arith, tests)

pub arrived_by_now : (g : Plain) → IsValid g → coming g ≡ [] → full_arrive g ≡ g
unfolding full_arrive coming
arrived_by_now g valid none =
    ap (λ directions. let moved : Plain = record { kernel = record g.kernel { directions = directions }; users = g.users } in moved)
    (map.same_map dir_total dir_exact _ _ (λ q. get-map_values all_arrived g.kernel.directions q ∙ by q (map.get g.kernel.directions q) refl))
  where
    by : (q : Dir) (found : Option Direction) → map.get g.kernel.directions q ≡ found → option_map all_arrived found ≡ found
    by q None is = refl
    by q (Some direction) is =
        ap (λ d. Some d) (as_it_is direction (at_entry dir_total dir_exact (λ dir d. nat_lt d.arrived (length d.left) ≡ false) g.kernel.directions q direction (none_missing (map.entries g.kernel.directions) none) is) (valid.kernel.channels.each q direction is).arrived)
