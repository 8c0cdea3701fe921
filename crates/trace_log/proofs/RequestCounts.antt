-- The tally after a trace: how many work records it has, and the greatest generation, which each cut raises by one.
use Rattle.std.proofs.Common.{◌≡◌, ℕ, ◌+◌, Bool, true, false, cond, List, [], ◌∷◌, ◌++◌, refl, sym, ap, subst, ◌∙◌, arith}
use Rattle.std.specs.Prelude.{Some, None, length, ◌==◌, if◌then◌else◌}
use Rattle.std.specs.List.{count_by, filter_map, cons_option}
use Rattle.std.specs.FinMap as map
use Rattle.std.proofs.lemmas.List.Sums.{sum_by-cons}
use Rattle.std.proofs.lemmas.Bool.{true≢false}
use Rattle.sys_abi.specs.declared.record.Record.{Record}
use Rattle.sys_abi.specs.declared.record.Record.TheVariants.{User, Call, Deliver, Arrive, Cut, Drained, Refilled, Complete, Refused, Lapsed}
use Rattle.sys_abi.specs.declared.identity.VPid.{VPid}
use Rattle.sys_abi.specs.declared.identity.Dir.{Dir}
use Rattle.plain_machine.specs.declared.plain.Plain.{Plain}
use Rattle.plain_tables.specs.declared.channel.Direction.{Direction}
use Rattle.plain_machine.specs.Records.{step}
use Rattle.plain_machine.specs.Tests.{full_arrive, is_work}
use Rattle.trace_log.specs.declared.requests.Schedule.{Schedule}
use Rattle.trace_log.specs.declared.requests.Tally.{Tally}
use Rattle.trace_log.specs.Requests.{Requests, Phase, NoRequest, Requested, AfterCut, LeadsTo, MayStand, MayStandIn, CanBeHeld, first_requests, next_requests, phase_after, phase_after_work, phase_after_mark, tally_after, asks, cut_marks, all_left, left_in}
use Rattle.trace_log.specs.RequestLaws.{CountsWork, CountsCuts, is_cut}
use Rattle.trace_log.proofs.RequestFronts.{gives}

count_more : (p : Record → Bool) (r : Record) (rest : List Record) → count_by p (r ∷ rest) ≡ cond (p r) 1 0 + count_by p rest
count_more p r rest = sum_by-cons (λ x. cond (p x) 1 0) r rest

and_none : (n : ℕ) → n ≡ n + 0
and_none n = omega arith

work_after : (tally : Tally) (r : Record) → (tally_after tally r).work ≡ tally.work + cond (is_work r) 1 0
unfolding tally_after
work_after tally (User p t n) = refl
work_after tally (Call p t) = refl
work_after tally (Deliver p t s) = refl
work_after tally (Arrive dir n) = and_none tally.work
work_after tally (Cut generation) = and_none tally.work
work_after tally (Drained dir n) = and_none tally.work
work_after tally (Refilled dir n) = and_none tally.work
work_after tally (Complete generation) = and_none tally.work
work_after tally (Refused cause) = and_none tally.work
work_after tally Lapsed = and_none tally.work

add_up : (a b c d e f : ℕ) → a ≡ b + c → b ≡ d + e → f ≡ e + c → a ≡ d + f
add_up a b c d e f one two three = omega arith

work_in : (schedule : Schedule) (g last : Plain) (now later : Requests) (trace : List Record) → LeadsTo schedule g now trace last later → later.tally.work ≡ now.tally.work + count_by is_work trace
unfolding LeadsTo next_requests
work_in schedule g last now later [] whole = sym (ap (λ n. n.tally.work) whole.1) ∙ and_none now.tally.work
work_in schedule g last now later (r ∷ rest) whole =
    let first = gives (step g r) (λ next. LeadsTo schedule next (next_requests schedule g now r) rest last later) whole.1 in
    add_up _ _ _ _ _ _ (work_in schedule first.value last (next_requests schedule g now r) later rest first.holds) (work_after now.tally r) (count_more is_work r rest)

from_zero : (a b : ℕ) → a ≡ 0 + b → a ≡ b
from_zero a b e = omega arith

pub counts_work : CountsWork
counts_work schedule start last later trace whole = from_zero later.tally.work (count_by is_work trace) (work_in schedule start last (first_requests schedule) later trace whole)

-- the marks that stand between a cut and its outcome
abbrev pub is_between : Record → Bool
is_between (Drained dir n) = true
is_between (Refilled dir n) = true
is_between _ = false

abbrev pub AllBetween : List Record → Type 0
AllBetween [] = Unit {0}
AllBetween (mark ∷ still) = (is_between mark ≡ true) × AllBetween still

abbrev pub IsSound : Phase → Type 0
IsSound NoRequest = Unit {0}
IsSound (Requested since) = Unit {0}
IsSound (AfterCut still) = AllBetween still

left_between : (mark : Dir → ℕ → Record) → ((dir : Dir) (n : ℕ) → is_between (mark dir n) ≡ true) → (entries : List (Dir × Direction)) → AllBetween (filter_map (left_in mark) entries)
left_between mark each [] = tt
left_between mark each (e ∷ entries) =
    let more = left_between mark each entries in
    elim (length e.1.left == 0) as (λ b. AllBetween (cons_option (if b then None else Some (mark e.0 (length e.1.left))) (filter_map (left_in mark) entries))) [
      | true ↦ more
      | false ↦ (each e.0 (length e.1.left), more)
    ]

both_between : (xs ys : List Record) → AllBetween xs → AllBetween ys → AllBetween (xs ++ ys)
both_between [] ys all others = others
both_between (x ∷ xs) ys all others = (all.0, both_between xs ys all.1 others)

pub marks_between : (g : Plain) → AllBetween (cut_marks g)
unfolding cut_marks
marks_between g = both_between (all_left Drained g) (all_left Refilled g) (left_between Drained (λ dir n. refl) (map.entries g.kernel.directions)) (left_between Refilled (λ dir n. refl) (map.entries g.kernel.directions))

sound_after_work : (phase : Phase) (asked : Bool) (p : VPid) → IsSound phase → IsSound (phase_after_work phase asked p)
sound_after_work NoRequest true p sound = tt
sound_after_work NoRequest false p sound = tt
sound_after_work (Requested since) asked p sound = tt
sound_after_work (AfterCut still) asked p sound = sound

sound_after_mark : (phase : Phase) → IsSound phase → IsSound (phase_after_mark phase)
sound_after_mark NoRequest sound = tt
sound_after_mark (Requested since) sound = tt
sound_after_mark (AfterCut []) sound = tt
sound_after_mark (AfterCut (mark ∷ still)) sound = sound.1

sound_after : (phase : Phase) (asked : Bool) (g : Plain) (r : Record) → IsSound phase → IsSound (phase_after phase asked g r)
sound_after phase asked g (User p t n) sound = sound_after_work phase asked p sound
sound_after phase asked g (Call p t) sound = sound_after_work phase asked p sound
sound_after phase asked g (Deliver p t s) sound = sound_after_work phase asked p sound
sound_after phase asked g (Arrive dir n) sound = sound
sound_after phase asked g (Cut generation) sound = marks_between g
sound_after phase asked g (Drained dir n) sound = sound_after_mark phase sound
sound_after phase asked g (Refilled dir n) sound = sound_after_mark phase sound
sound_after phase asked g (Complete generation) sound = sound_after_mark phase sound
sound_after phase asked g (Refused cause) sound = sound_after_mark phase sound
sound_after phase asked g Lapsed sound = sound_after_mark phase sound

pub next_sound : (schedule : Schedule) (g : Plain) (now : Requests) (r : Record) → IsSound now.phase → IsSound (next_requests schedule g now r).phase
unfolding next_requests
next_sound schedule g now r sound = sound_after now.phase (asks schedule (tally_after now.tally r)) g r sound

pub stays_sound : (schedule : Schedule) (g last : Plain) (now later : Requests) (trace : List Record) → IsSound now.phase → LeadsTo schedule g now trace last later → IsSound later.phase
unfolding LeadsTo
stays_sound schedule g last now later [] sound whole = subst (λ n. IsSound n.phase) whole.1 sound
stays_sound schedule g last now later (r ∷ rest) sound whole =
    let first = gives (step g r) (λ next. LeadsTo schedule next (next_requests schedule g now r) rest last later) whole.1 in
    stays_sound schedule first.value last (next_requests schedule g now r) later rest (next_sound schedule g now r sound) first.holds

-- a cut stands where a request waits
pub record CutHere (g : Plain) (tally : Tally) (generation : ℕ) : Type 0 where
  pub held : CanBeHeld g
  pub arrived : full_arrive g ≡ g
  pub next : generation ≡ tally.greatest + 1

no_cut_between : (generation : ℕ) (mark : Record) → is_between mark ≡ true → Cut generation ≡ mark → ⊥
no_cut_between generation mark between same = true≢false (sym between ∙ sym (ap is_between same))

pub cut_in : (phase : Phase) (g : Plain) (tally : Tally) (generation : ℕ) → IsSound phase → MayStandIn phase g tally (Cut generation) → CutHere g tally generation
cut_in NoRequest g tally generation sound may = absurd (true≢false may)
cut_in (Requested since) g tally generation sound may = record { held = may.0; arrived = may.1; next = may.2 }
cut_in (AfterCut []) g tally generation sound may = absurd may
cut_in (AfterCut (mark ∷ still)) g tally generation sound may = absurd (no_cut_between generation mark sound.0 may)

pub cut_here : (g : Plain) (now : Requests) (generation : ℕ) → IsSound now.phase → MayStand g now (Cut generation) → CutHere g now.tally generation
unfolding MayStand
cut_here g now generation sound may = cut_in now.phase g now.tally generation sound may

greatest_after : (g : Plain) (now : Requests) (r : Record) → IsSound now.phase → MayStand g now r → (tally_after now.tally r).greatest ≡ now.tally.greatest + cond (is_cut r) 1 0
unfolding tally_after
greatest_after g now (User p t n) sound may = and_none now.tally.greatest
greatest_after g now (Call p t) sound may = and_none now.tally.greatest
greatest_after g now (Deliver p t s) sound may = and_none now.tally.greatest
greatest_after g now (Arrive dir n) sound may = and_none now.tally.greatest
greatest_after g now (Cut generation) sound may = (cut_here g now generation sound may).next
greatest_after g now (Drained dir n) sound may = and_none now.tally.greatest
greatest_after g now (Refilled dir n) sound may = and_none now.tally.greatest
greatest_after g now (Complete generation) sound may = and_none now.tally.greatest
greatest_after g now (Refused cause) sound may = and_none now.tally.greatest
greatest_after g now Lapsed sound may = and_none now.tally.greatest

pub greatest_in : (schedule : Schedule) (g last : Plain) (now later : Requests) (trace : List Record) → IsSound now.phase → LeadsTo schedule g now trace last later → later.tally.greatest ≡ now.tally.greatest + count_by is_cut trace
unfolding LeadsTo next_requests
greatest_in schedule g last now later [] sound whole = sym (ap (λ n. n.tally.greatest) whole.1) ∙ and_none now.tally.greatest
greatest_in schedule g last now later (r ∷ rest) sound whole =
    let first = gives (step g r) (λ next. LeadsTo schedule next (next_requests schedule g now r) rest last later) whole.1 in
    add_up _ _ _ _ _ _ (greatest_in schedule first.value last (next_requests schedule g now r) later rest (next_sound schedule g now r sound) first.holds) (greatest_after g now r sound whole.0) (count_more is_cut r rest)

pub counts_cuts : CountsCuts
counts_cuts schedule start last later trace whole = greatest_in schedule start last (first_requests schedule) later trace tt whole
