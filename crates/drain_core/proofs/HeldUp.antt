-- When an agent can move nothing.
--     held_up      exactly where each queue that it must read is empty, and each direction that it must write is full
use Rattle.std.proofs.Common.{◌≡◌, ◌≢◌, ℕ, ◌+◌, ◌<◌, ◌≤◌, Bool, true, false, [], ◌∷◌, length, refl, sym, ap, ap₂, subst, ◌∙◌, ◌↔◌, arith}
use Rattle.std.specs.Prelude.{Option, Some, None, All, IfSome, nat_lt, ◌||◌, if◌then◌else◌}
use Rattle.std.specs.Option.{option_map_or}
use Rattle.std.specs.List.{list_any}
use Rattle.std.proofs.lemmas.Bool.{or_parts}
use Rattle.std.proofs.lemmas.Bool.Decides.{nat_tests}
use Rattle.std.proofs.lemmas.List.{nil_from_length}
use Rattle.std.proofs.lemmas.List.Elements.{All-nil, All-cons}
use Rattle.std.proofs.lemmas.List.Folds.{list_any_none}
use Rattle.sys_abi.specs.declared.identity.RealPid.{RealPid}
use Rattle.wire_net.specs.declared.agents.Stepped.TheVariants as answer
use Rattle.wire_net.specs.declared.cut_room.DirNotes.{DirNotes}
use Rattle.wire_channels.specs.declared.limits.TheConstants.{QUEUE_LIMIT}
use Rattle.wire_channels.specs.Directions.{Direction, standing}
use Rattle.wire_channels.specs.Channels.{Channels, direction_at}
use Rattle.drain_core.specs.Tasks.{is_agent, has_sent, readable, sendable, reads, sends, moves}
use Rattle.drain_core.specs.Drains.{Notes, IsNoted, reads_on, has_work, moves_on, moves_any, answer_of, step_answer, IsBlocked, IsHeldUp}
use Rattle.drain_core.proofs.OneDrain.{unsent_length}
use Rattle.drain_core.proofs.AllDirections.{for_each, one_of}
use Rattle.wire_net.proofs.Gains.{again_is}

zero_test : (n : ℕ) → nat_lt 0 n ≡ false → n ≡ 0
zero_test n is = grind (arith, nat_tests, is)

test_zero : (n : ℕ) → n ≡ 0 → nat_lt 0 n ≡ false
test_zero n is = grind (arith, nat_tests, is)

nothing_readable : (p : RealPid) (x : DirNotes) (direction : Direction) → reads p x direction ≡ 0 → is_agent p x.reader ≡ true → reads_on x ≡ true → direction.received ≡ []
nothing_readable p x direction none agent on =
    let read : readable x direction ≡ 0 = sym (ap (λ (b : Bool). if b then readable x direction else 0) agent) ∙ none in
    let more : x.read < x.count + 16 = grind (arith, nat_tests, on) in
    nil_from_length direction.received (omega (arith, read, more))

nothing_sendable : (p : RealPid) (x : DirNotes) (direction : Direction) → x.sent ≤ 16 → sends p x direction ≡ 0 → is_agent p x.sender ≡ true → has_sent x ≡ false → QUEUE_LIMIT ≤ standing direction
nothing_sendable p x direction most none agent left =
    let sent : sendable x direction ≡ 0 = sym (ap (λ (b : Bool). if b then sendable x direction else 0) agent) ∙ none in
    let more : x.sent ≢ 16 = grind (arith, nat_tests, left) in
    let size = unsent_length x in
    omega (arith, sent, more, most, size)

blocked_of : (p : RealPid) (x : DirNotes) (direction : Direction) → IsNoted x → moves p x direction ≡ false → IsBlocked p x direction
blocked_of p x direction noted none =
    let parts = or_parts (nat_lt 0 (reads p x direction)) (nat_lt 0 (sends p x direction)) none in record {
      empty = nothing_readable p x direction (zero_test (reads p x direction) parts.0);
      full = nothing_sendable p x direction noted.sent (zero_test (sends p x direction) parts.1);
    }

no_reads : (p : RealPid) (x : DirNotes) (direction : Direction) → IsBlocked p x direction → reads p x direction ≡ 0
no_reads p x direction blocked = choice (is_agent p x.reader) (reads_on x) refl refl
  where
    choice : (agent on : Bool) → is_agent p x.reader ≡ agent → reads_on x ≡ on → (if agent then readable x direction else 0) ≡ 0
    choice false on a r = refl
    choice true true a r = let none : length direction.received ≡ 0 = ap length (blocked.empty a r) in omega (arith, none)
    choice true false a r = let all : x.count + 16 ≤ x.read = grind (arith, nat_tests, r) in omega (arith, all)

no_sends : (p : RealPid) (x : DirNotes) (direction : Direction) → IsBlocked p x direction → sends p x direction ≡ 0
no_sends p x direction blocked = choice (is_agent p x.sender) (has_sent x) refl refl
  where
    choice : (agent sent : Bool) → is_agent p x.sender ≡ agent → has_sent x ≡ sent → (if agent then sendable x direction else 0) ≡ 0
    choice false sent a s = refl
    choice true false a s = let full = blocked.full a s in omega (arith, full)
    choice true true a s =
        let all : x.sent ≡ 16 = grind (arith, nat_tests, s) in
        let size = unsent_length x in
        omega (arith, all, size)

still : (p : RealPid) (x : DirNotes) (direction : Direction) → IsBlocked p x direction → moves p x direction ≡ false
still p x direction blocked =
    ap₂ (λ (a b : Bool). a || b) (test_zero (reads p x direction) (no_reads p x direction blocked)) (test_zero (sends p x direction) (no_sends p x direction blocked))

all_still : (test : DirNotes → Bool) (notes : Notes) → list_any test notes ≡ false → All (λ x. test x ≡ false) notes
all_still test [] none = All-nil (λ x. test x ≡ false)
all_still test (x ∷ notes) none =
    let parts = or_parts (test x) (list_any test notes) none in
    All-cons (λ y. test y ≡ false) x notes parts.0 (all_still test notes parts.1)

-- of one direction, both ways
blocked_at : (p : RealPid) (m : Channels) (x : DirNotes) (found : Option Direction) → IsNoted x → option_map_or (moves p x) found false ≡ false → IfSome found (IsBlocked p x)
blocked_at p m x None noted none = tt
blocked_at p m x (Some direction) noted none = blocked_of p x direction noted none

still_at : (p : RealPid) (x : DirNotes) (found : Option Direction) → IfSome found (IsBlocked p x) → option_map_or (moves p x) found false ≡ false
still_at p x None blocked = refl
still_at p x (Some direction) blocked = still p x direction blocked

pub held_up : (p : RealPid) (m : Channels) (notes : Notes) → All IsNoted notes → (step_answer p m notes ≡ answer.Again) ↔ IsHeldUp p m notes
held_up p m notes noted = (
  λ is.
      let told = again_is (has_work p notes) (moves_any p m notes) is in record {
        work = told.0;
        blocked =
            for_each (λ x. IfSome (direction_at m x.dir) (IsBlocked p x)) notes (λ front back x among.
            blocked_at p m x (direction_at m x.dir) (one_of IsNoted front back x (subst (All IsNoted) among noted))
            (one_of (λ y. moves_on p m y ≡ false) front back x (subst (All (λ y. moves_on p m y ≡ false)) among (all_still (moves_on p m) notes told.1))));
      },
  λ held.
      ap₂ answer_of held.work (list_any_none (moves_on p m) notes (for_each (λ x. moves_on p m x ≡ false) notes (λ front back x among.
      still_at p x (direction_at m x.dir) (one_of (λ y. IfSome (direction_at m y.dir) (IsBlocked p y)) front back x (subst (All (λ y. IfSome (direction_at m y.dir) (IsBlocked p y))) among held.blocked))))),
)
