-- What a new round begins with, and what follows a turn.
use Rattle.std.proofs.Common.{◌≡◌, ℕ, Bool, true, false, cond, List, [], ◌∷◌, Option, Some, None, refl, sym, ap, ◌∙◌, map as each}
use Rattle.std.specs.Prelude.{option_map, is_some}
use Rattle.std.specs.FinMap as map
use Rattle.sys_abi.specs.declared.identity.Dir.{Dir}
use Rattle.sys_abi.specs.declared.record.Record.{Record}
use Rattle.sys_abi.specs.declared.record.Record.TheVariants.{User, Call, Deliver}
use Rattle.plain_machine.specs.declared.plain.Plain.{Plain}
use Rattle.plain_tables.specs.Tables.{pid}
use Rattle.checkpointer.specs.DidVariants.{Delivered, Served, Ran}
use Rattle.checkpointer.specs.HandedOn.{IsDid, first_signal}
use Rattle.trace_log.specs.Turns.{Due, Arrival, InTurn, Upcoming, NewRound, coming, first_turn, goes_on, round_of, new_round, next_turn, same_turn, after_turn, stands_in, due_at}
use Rattle.drive.specs.declared.rounds.Rounds.{Rounds}
use Rattle.drive.specs.declared.rounds.Turn.{Turn}
use Rattle.drive.specs.declared.rounds.Come.TheVariants as has_come
use Rattle.drive.specs.Scheduling.{place_in, rest_of, IsComeSo}

module _ (g : Plain) (numbers : List ℕ) (queued : each pid numbers ≡ map.keys g.users) where
  by_numbers : (dirs : List Dir) → coming g ≡ dirs → new_round g ≡ round_of g dirs (each pid numbers)
  by_numbers dirs is = ap (λ d. round_of g d (map.keys g.users)) is ∙ ap (round_of g dirs) (sym queued)

  pub nobody : numbers ≡ [] → None ≡ new_round g
  nobody none = sym (by_numbers (coming g) refl ∙ ap (λ n. round_of g (coming g) (each pid n)) none)

  somebody_waits : (n : List ℕ) → (n ≡ [] → ⊥) → (dir : Dir) (dirs : List Dir) → round_of g (dir ∷ dirs) (each pid n) ≡ Some (Arrival dir dirs)
  somebody_waits [] some dir dirs = absurd (some refl)
  somebody_waits (p ∷ ps) some dir dirs = refl

  pub arrival : (numbers ≡ [] → ⊥) → (dir : Dir) (rest : List Dir) → coming g ≡ dir ∷ rest → Some (Arrival dir (rest_of (coming g))) ≡ new_round g
  arrival some dir rest is = sym (by_numbers (dir ∷ rest) is ∙ somebody_waits numbers some dir rest ∙ ap (λ dirs. Some (Arrival dir (rest_of dirs))) (sym is))

  somebody_goes : (n : List ℕ) → (n ≡ [] → ⊥) → round_of g [] (each pid n) ≡ option_map InTurn (first_turn g (each pid n))
  somebody_goes [] some = absurd (some refl)
  somebody_goes (p ∷ ps) some = refl

  pub turn : (numbers ≡ [] → ⊥) → coming g ≡ [] → new_round g ≡ option_map InTurn (first_turn g (each pid numbers))
  turn some none = by_numbers [] none ∙ somebody_goes numbers some

-- after the turn of a thread, which it goes on with or not

module _ (rounds : Rounds) (g : Plain) (turn : Turn) where
  pub served : (r : Record) → IsDid Served r → after_turn g (place_in rounds turn) r ≡ next_turn g (place_in rounds turn)
  served (User p t n) did = absurd did
  served (Call p t) did = refl
  served (Deliver p t s) did = absurd did
  served _ did = absurd did

  pub ran : (place : _) (r : Record) → IsDid (Ran place) r → (stands : Bool) → stands ≡ stands_in (map.get g.users turn.process) turn.thread.0
      → after_turn g (place_in rounds turn) r ≡ cond stands (same_turn g (place_in rounds turn) true) (next_turn g (place_in rounds turn))
  ran place (User p t n) did stands is = ap (λ b. cond b (same_turn g (place_in rounds turn) true) (next_turn g (place_in rounds turn))) (sym is)
  ran place (Call p t) did stands is = absurd did
  ran place (Deliver p t s) did stands is = absurd did
  ran place _ did stands is = absurd did

  pub delivered : (r : Record) → IsDid Delivered r → (first : Bool) → first ≡ is_some (first_signal turn.next)
      → after_turn g (place_in rounds turn) r ≡ cond first (same_turn g (place_in rounds turn) false) (next_turn g (place_in rounds turn))
  delivered (Deliver p t s) did first is = ap (λ b. cond b (same_turn g (place_in rounds turn) false) (next_turn g (place_in rounds turn))) (sym is)
  delivered (User p t n) did first is = absurd did
  delivered (Call p t) did first is = absurd did
  delivered _ did first is = absurd did

  -- the thread goes on with its turn, or not

  pub stays : (has_run goes : Bool) → goes ≡ goes_on g turn.process turn.thread.0 (map.get g.users turn.process)
      → same_turn g (place_in rounds turn) has_run ≡ cond goes (Some (InTurn (record (place_in rounds turn) { signal = None; has_run = has_run }))) (next_turn g (place_in rounds turn))
  stays has_run goes is =
      ap (λ b. cond b (Some (InTurn (record (place_in rounds turn) { signal = None; has_run = has_run }))) (next_turn g (place_in rounds turn))) (sym is)

  -- how far the round has come

  pub worked_due : (did : _) (upcoming : Upcoming) → IsComeSo (has_come.Worked turn did) rounds g upcoming → (next : Option Due)
      → ((r : Record) → IsDid did r → next ≡ after_turn g (place_in rounds turn) r) → next ≡ due_at g upcoming
  unfolding IsComeSo
  worked_due did upcoming come next is = is come.0 come.1.0 ∙ ap (due_at g) (sym come.1.1)

pub new_due : (rounds : Rounds) (g : Plain) (upcoming : Upcoming) → IsComeSo has_come.NewRound rounds g upcoming → new_round g ≡ due_at g upcoming
unfolding IsComeSo
new_due rounds g upcoming come = ap (due_at g) (sym come)

pub arrived_due : (rounds : Rounds) (g : Plain) (upcoming : Upcoming) → IsComeSo has_come.Arrived rounds g upcoming → new_round g ≡ due_at g upcoming
unfolding IsComeSo
arrived_due rounds g upcoming come = ap (due_at g) (sym come.1.1)
