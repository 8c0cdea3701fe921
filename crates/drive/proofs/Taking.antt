-- One record that was chosen: it is due, and the round comes past it.
use Rattle.std.proofs.Common.{◌≡◌, ℕ, ◌==◌, ◌&&◌, true, false, Some, refl, sym, ap, ◌∙◌, arith}
use Rattle.std.proofs.lemmas.Bool.Decides.{nat_tests}
use Rattle.std.specs.FinMap as map
use Rattle.sys_abi.specs.declared.identity.Dir.{Dir}
use Rattle.sys_abi.specs.declared.record.Record.{Record}
use Rattle.sys_abi.specs.declared.record.Record.TheVariants.{User, Call, Deliver, Arrive}
use Rattle.views.proofs.MapLaws.{true_false}
use Rattle.trace_log.specs.Trace.{TraceState}
use Rattle.trace_log.specs.Requests.{is_mark}
use Rattle.trace_log.specs.Turns.{Due, Arrival, InTurn, After, coming, missing_in, is_arrival, is_same_dir}
use Rattle.plain_machine.specs.declared.plain.Plain.{Plain}
use Rattle.plain_machine.specs.Tests.{is_work}
use Rattle.checkpointer.specs.HandedOn.{Did}
use Rattle.checkpointer.specs.HandedOn.{IsTurnAt, Worked, Failed}
use Rattle.edge_io.specs.Sunk.{Sunk}
use Rattle.checkpointer.specs.HandedOn.{Takes}
use Rattle.drive.specs.declared.rounds.Turn.{Turn}
use Rattle.drive.specs.declared.rounds.Come.TheVariants as has_come
use Rattle.drive.specs.declared.rounds.Chosen.{Chosen}
use Rattle.drive.specs.declared.rounds.Chosen.TheVariants as to_do
use Rattle.drive.specs.declared.rounds.Made.{Made}
use Rattle.drive.specs.declared.rounds.Made.TheVariants as made_was
use Rattle.drive.specs.declared.rounds.Rounds.{Rounds}
use Rattle.drive.specs.Scheduling.{place_in, IsComeSo, chosen, rest_of, CanTurn, Notes, Spoils, IsPast}

work_is_no_mark : (r : Record) → is_work r ≡ true → is_mark r ≡ false
work_is_no_mark (User p t n) work = refl
work_is_no_mark (Call p t) work = refl
work_is_no_mark (Deliver p t s) work = refl
work_is_no_mark _ work = true_false (sym work)

turn_at : (rounds : Rounds) (g : Plain) (turn : Turn) → CanTurn g turn → IsTurnAt g turn.process turn.thread turn.next (place_in rounds turn)
turn_at rounds g turn can = record { process = refl; thread = refl; first = refl; stopped = can.stopped }

-- what was chosen, with what is known of it
abbrev pub Taken : Rounds → Plain → Plain → Rounds → Chosen → Made → TraceState → TraceState → Sunk → Type 0
Taken rounds g h after choice made from to console =
    (notes : Notes g h (chosen rounds g (Some choice)) made from to console) × IsPast after h (chosen rounds g (Some choice)) notes.noted

module _ (rounds : Rounds) (g h : Plain) (turn : Turn) (from to : TraceState) (console : Sunk) where
  pub worked : (did : Did) → CanTurn g turn → Worked g h turn.process turn.thread turn.next did from to console
      → Taken rounds g h (record { come = has_come.Worked turn did; threads = rounds.threads; processes = rounds.processes }) (to_do.Turn turn) made_was.Work from to console
  unfolding IsComeSo
  worked did can work =
      let own = work.due (place_in rounds turn) (turn_at rounds g turn can) in (
        record { noted = work.noted; own = own.due; no_mark = work_is_no_mark work.noted own.work; kind = own.work; took = work.took },
        λ d is. (work.noted, (work.kind, ap (λ due. After due work.noted) (some_same is))),
      )
    where
      some_same : {d : Due} → Some (InTurn (place_in rounds turn)) ≡ Some d → d ≡ InTurn (place_in rounds turn)
      some_same is = cc

  pub failed : CanTurn g turn → Failed g h turn.process turn.thread turn.next from to console → Spoils g h (chosen rounds g (Some (to_do.Turn turn))) from to console
  failed can fails =
      let own = fails.due (place_in rounds turn) (turn_at rounds g turn can) in
      record { noted = fails.noted; own = own.due; work = own.work; broke = fails.broke }

itself : (n : ℕ) → (n == n) ≡ true
itself n = grind (arith, nat_tests)

same_dir : (d : Dir) → is_same_dir d d ≡ true
same_dir d = λ k. (itself d.conn.pid.0 k && itself d.conn.num k) && itself d.side k

module _ (rounds : Rounds) (g h : Plain) (dir : Dir) (from to : TraceState) (console : Sunk) where
  abbrev n : ℕ
  n = missing_in (map.get g.kernel.directions dir)

  own : is_arrival g dir (Arrive dir n) ≡ true
  own = λ k. same_dir dir k && itself n k

  behind : coming h ≡ rest_of (coming g) → (d : Due) → Some (Arrival dir (rest_of (coming g))) ≡ Some d → After d (Arrive dir n) ≡ After (Arrival dir (coming h)) (Arrive dir n)
  behind rest d is =
      let same : d ≡ Arrival dir (rest_of (coming g)) = cc in
      ap (λ due. After due (Arrive dir n)) same ∙ ap (λ dirs. After (Arrival dir dirs) (Arrive dir n)) (sym rest)

  pub arrived : coming h ≡ rest_of (coming g) → Takes g h (Arrive dir n) from to console
      → Taken rounds g h (record { come = has_come.Arrived; threads = rounds.threads; processes = rounds.processes }) (to_do.Arrival dir) made_was.Arrival from to console
  unfolding IsComeSo
  arrived rest took = (record { noted = Arrive dir n; own = own; no_mark = refl; kind = refl; took = took }, λ d is. (dir, (Arrive dir n, behind rest d is)))
