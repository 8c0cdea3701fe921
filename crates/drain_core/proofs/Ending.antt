-- A drain is done exactly where no work is left.
--     finished_live               a direction of a live channel that is finished is empty
--     finished_is, done_is        the tests
use Rattle.std.proofs.Common.{◌≡◌, ◌≢◌, ℕ, ◌==◌, ◌+◌, ◌*◌, ◌-◌, ◌≤◌, Bool, true, false, [], ◌∷◌, length, refl, sym, ap, ap₂, subst, ◌∙◌, arith, inl, inr}
use Rattle.std.specs.Prelude.{Option, Some, None, All, IsSome, is_some, not, ◌&&◌, if◌then◌else◌}
use Rattle.std.specs.Option.{option_map_or}
use Rattle.std.specs.List.{list_all}
use Rattle.std.proofs.lemmas.Bool.Decides.{nat_tests}
use Rattle.std.proofs.lemmas.List.Elements.{All-head, All-tail}
use Rattle.std.proofs.lemmas.List.Folds.{sum_by-zero}
use Rattle.views.proofs.MapLaws.{true_false}
use Rattle.sys_abi.specs.declared.identity.RealPid.{RealPid}
use Rattle.wire_net.specs.declared.cut_room.DirNotes.{DirNotes}
use Rattle.wire_channels.specs.Directions.{Direction}
use Rattle.wire_channels.specs.Channels.{Channels, direction_at}
use Rattle.wire_net.specs.Whereabouts.{stream}
use Rattle.drain_core.specs.Tasks.{has_sent}
use Rattle.drain_core.specs.Drains.{Notes, IsNoted, IsDraining, IsInStep, Fits, reads_on, has_arrived, is_finished, is_done}
use Rattle.drain_core.specs.Work.{work_on, work_aside, work_of, work_at, work_left}
use Rattle.drain_core.proofs.AllDirections.{for_each, one_of}
use Rattle.wire_net.proofs.Gains.{both_zero, stream_length}

pub finished_live : (x : DirNotes) (direction : Direction) → IsNoted x → IsDraining x direction → has_sent x ≡ true → reads_on x ≡ false → length (stream direction) ≡ 0
finished_live x direction noted drains sent read =
    let all_sent : x.sent ≡ 16 = grind (arith, nat_tests, sent) in
    let all_read : x.count + 16 ≤ x.read = grind (arith, nat_tests, read) in
    omega (arith, all_sent, all_read, noted.read, drains.total)

live_zero : (x : DirNotes) (direction : Direction) → IsNoted x → IsDraining x direction → (work_on x direction == 0) ≡ (has_sent x && not (reads_on x))
live_zero x direction noted drains = choice (has_sent x) (reads_on x) refl refl
  where
    rest : ℕ
    rest = 4 * (16 - x.sent) + 3 * length direction.sent + 2 * length direction.wire + length direction.received

    choice : (sent on : Bool) → has_sent x ≡ sent → reads_on x ≡ on → ((rest + ((if on then 1 else 0) + (if sent then 0 else 1))) == 0) ≡ (sent && not on)
    choice true false s r =
        let empty = finished_live x direction noted drains s r in
        let all : x.sent ≡ 16 = grind (arith, nat_tests, s) in
        let parts = stream_length direction in
        let zero : rest + (0 + 0) ≡ 0 = omega (arith, empty, all, parts) in
        grind (arith, nat_tests, zero)
    choice true true s r = let some : rest + (1 + 0) ≢ 0 = omega arith in grind (arith, nat_tests, some)
    choice false false s r = let some : rest + (0 + 1) ≢ 0 = omega arith in grind (arith, nat_tests, some)
    choice false true s r = let some : rest + (1 + 1) ≢ 0 = omega arith in grind (arith, nat_tests, some)

pub finished_is : (m : Channels) (x : DirNotes) → IsNoted x → IsInStep m x → (work_at m x == 0) ≡ is_finished m x
finished_is m x noted (inl aside) =
    found (direction_at m x.dir) ∙ ap (λ (o : Option RealPid). option_map_or (λ agent. has_sent x && not (reads_on x)) o (option_map_or has_arrived (direction_at m x.dir) true)) (sym aside.sender)
  where
    found : (o : Option Direction) → (option_map_or (work_of x) o 0 == 0) ≡ option_map_or has_arrived o true
    found None = refl
    found (Some direction) =
        ap (λ (b : Bool). (if b then work_on x direction else work_aside direction) == 0) (ap is_some aside.sender) ∙ both_zero (length direction.sent) (length direction.wire)
finished_is m x noted (inr under) =
    ap (λ (o : Option Direction). option_map_or (work_of x) o 0 == 0) under.found
    ∙ some x.sender under.sender
  where
    some : (o : Option RealPid) → IsSome o → ((if is_some o then work_on x under.direction else work_aside under.direction) == 0)
        ≡ option_map_or (λ agent. has_sent x && not (reads_on x)) o (option_map_or has_arrived (direction_at m x.dir) true)
    some None there = true_false (sym there)
    some (Some agent) there = live_zero x under.direction noted under.drains

same_tests : (p q : DirNotes → Bool) (notes : Notes) → All (λ x. p x ≡ q x) notes → list_all p notes ≡ list_all q notes
same_tests p q [] all = refl
same_tests p q (x ∷ notes) all = ap₂ (λ (a b : Bool). a && b) (All-head (λ y. p y ≡ q y) x notes all) (same_tests p q notes (All-tail (λ y. p y ≡ q y) x notes all))

pub done_is : (m : Channels) (notes : Notes) → Fits m notes → is_done m notes ≡ (work_left m notes == 0)
done_is m notes fits =
    sym (sum_by-zero (work_at m) notes ∙ same_tests (λ x. work_at m x == 0) (is_finished m) notes
    (for_each (λ x. (work_at m x == 0) ≡ is_finished m x) notes (λ front back x is.
    finished_is m x (one_of IsNoted front back x (subst (All IsNoted) is fits.noted)) (one_of (IsInStep m) front back x (subst (All (IsInStep m)) is fits.in_step)))))
