-- The cuts of a trace: what holds at each, that their generations differ, and that there are no marks where there are no channels.
use Rattle.std.proofs.Common.{◌≡◌, ℕ, ◌+◌, ◌<◌, ◌≤◌, Bool, true, false, cond, List, map as mapped, [], ◌∷◌, ◌++◌, refl, sym, ap, subst, ◌∙◌, arith}
use Rattle.std.specs.Prelude.{Option, Some, unwrap_or}
use Rattle.std.specs.List.{count_by, filter_map}
use Rattle.std.specs.FinMap as map
use Rattle.std.proofs.lemmas.List.Sums.{sum_by-cons}
use Rattle.sys_abi.specs.declared.record.Record.{Record}
use Rattle.sys_abi.specs.declared.record.Record.TheVariants.{Cut, Drained, Refilled}
use Rattle.plain_machine.specs.declared.plain.Plain.{Plain}
use Rattle.plain_machine.specs.Runs.{run}
use Rattle.plain_machine.specs.Tests.{full_arrive, all_arrived}
use Rattle.views.specs.Maps.{map_values}
use Rattle.views.proofs.MapValues.{entries-map_values}
use Rattle.trace_log.specs.declared.requests.Schedule.{Schedule}
use Rattle.trace_log.specs.Requests.{Requests, LeadsTo, RunsTo, CanBeHeld, first_requests, cut_marks, left_in, MayStand}
use Rattle.trace_log.specs.RequestLaws.{CutsAreCuts, CutsDiffer, NoChannels, is_cut}
use Rattle.trace_log.proofs.RequestFronts.{parts, runs}
use Rattle.trace_log.proofs.RequestCounts.{stays_sound, cut_here, greatest_in}

same_end : (g h : Plain) (o : Option Plain) → o ≡ Some g → o ≡ Some h → g ≡ h
same_end g h o one other = ap (λ a. unwrap_or a g) (sym one ∙ other)

stands_here : (schedule : Schedule) (g last : Plain) (now later : Requests) (r : Record) (rest : List Record) → LeadsTo schedule g now (r ∷ rest) last later → MayStand g now r
unfolding LeadsTo
stands_here schedule g last now later r rest leads = leads.0

-- what a cut tells: the state there, and the count of the cuts before it
record AtCut (schedule : Schedule) (front rest : List Record) (generation : ℕ) (g : Plain) (greatest : ℕ) : Type 0 where
  pub held : CanBeHeld g
  pub arrived : full_arrive g ≡ g
  pub number : generation ≡ schedule.opening + count_by is_cut front + 1
  pub most : generation ≤ greatest

at_most : (generation before later more : ℕ) → generation ≡ before + 1 → later ≡ before + (1 + more) → generation ≤ later
at_most generation before later more is total = omega arith

at_cut : (schedule : Schedule) (start last g : Plain) (later : Requests) (front rest : List Record) (generation : ℕ) →
    RunsTo schedule start (front ++ Cut generation ∷ rest) last later → run start front ≡ Some g → AtCut schedule front rest generation g later.tally.greatest
at_cut schedule start last g later front rest generation whole there =
    let all = parts schedule start last (first_requests schedule) later front (Cut generation ∷ rest) whole in
    let same : all.state ≡ g = same_end all.state g (run start front) (runs schedule start all.state (first_requests schedule) all.requests front all.begins) there in
    let sound = stays_sound schedule start all.state (first_requests schedule) all.requests front tt all.begins in
    let here = cut_here all.state all.requests generation sound (stands_here schedule all.state last all.requests later (Cut generation) rest all.ends) in
    let count = greatest_in schedule start all.state (first_requests schedule) all.requests front tt all.begins in
    let total = greatest_in schedule all.state last all.requests later (Cut generation ∷ rest) sound all.ends in
    record {
      held = subst CanBeHeld same here.held;
      arrived = subst (λ a. full_arrive a ≡ a) same here.arrived;
      number = here.next ∙ ap (λ n. n + 1) count;
      most = at_most generation all.requests.tally.greatest later.tally.greatest (count_by is_cut rest) here.next
          (total ∙ ap (λ n. all.requests.tally.greatest + n) (sum_by-cons (λ x. cond (is_cut x) 1 0) (Cut generation) rest));
    }

above_opening : (opening count generation : ℕ) → generation ≡ opening + count + 1 → opening < generation
above_opening opening count generation is = omega arith

pub cuts_are_cuts : CutsAreCuts
cuts_are_cuts schedule start last g later trace generation whole cut =
    let at = at_cut schedule start last g later cut.front cut.rest generation (subst (λ t. RunsTo schedule start t last later) cut.whole whole) cut.there in
    record {
      held = at.held;
      arrived = at.arrived;
      above = above_opening schedule.opening (count_by is_cut cut.front) generation at.number;
      most = at.most;
    }

head_or : Record → List Record → Record
head_or d [] = d
head_or d (x ∷ xs) = x

abbrev tail_of : List Record → List Record
tail_of [] = []
tail_of (x ∷ xs) = xs

more_cuts : (x : Record) (xs : List Record) → is_cut x ≡ true → count_by is_cut (x ∷ xs) ≡ 1 + count_by is_cut xs
more_cuts x xs is = sum_by-cons (λ a. cond (is_cut a) 1 0) x xs ∙ ap (λ b. cond b 1 0 + count_by is_cut xs) is

cut_first : (generation : ℕ) (x : Record) (xs rest others : List Record) → Cut generation ∷ rest ≡ x ∷ others → 0 ≡ count_by is_cut (x ∷ xs) → ⊥
unfolding head_or
cut_first generation x xs rest others same none =
    let first : Cut generation ≡ x = ap (head_or (Cut generation)) same in
    let more = more_cuts x xs (sym (ap is_cut first)) in
    omega arith

less_one : (b : Bool) (a c : ℕ) → cond b 1 0 + a ≡ cond b 1 0 + c → a ≡ c
less_one true a c e = omega arith
less_one false a c e = omega arith

one_front : (generation other : ℕ) (front back rest others : List Record) → front ++ Cut generation ∷ rest ≡ back ++ Cut other ∷ others → count_by is_cut front ≡ count_by is_cut back → front ≡ back
unfolding head_or
one_front generation other [] [] rest others same count = refl
one_front generation other [] (x ∷ back) rest others same count = absurd (cut_first generation x back rest (back ++ Cut other ∷ others) same count)
one_front generation other (x ∷ front) [] rest others same count = absurd (cut_first other x front others (front ++ Cut generation ∷ rest) (sym same) (sym count))
one_front generation other (x ∷ front) (y ∷ back) rest others same count =
    let first : x ≡ y = ap (head_or x) same in
    let counts = sym (sum_by-cons (λ a. cond (is_cut a) 1 0) x front) ∙ count ∙ sum_by-cons (λ a. cond (is_cut a) 1 0) y back ∙ ap (λ a. cond (is_cut a) 1 0 + count_by is_cut back) (sym first) in
    let more = one_front generation other front back rest others (ap tail_of same) (less_one (is_cut x) (count_by is_cut front) (count_by is_cut back) counts) in
    cc

one_count : (generation opening a b : ℕ) → generation ≡ opening + a + 1 → generation ≡ opening + b + 1 → a ≡ b
one_count generation opening a b one other = omega arith

pub cuts_differ : CutsDiffer
cuts_differ schedule start last g h later trace generation whole cut other =
    let first = at_cut schedule start last g later cut.front cut.rest generation (subst (λ t. RunsTo schedule start t last later) cut.whole whole) cut.there in
    let second = at_cut schedule start last h later other.front other.rest generation (subst (λ t. RunsTo schedule start t last later) other.whole whole) other.there in
    let same = one_front generation generation cut.front other.front cut.rest other.rest (sym cut.whole ∙ other.whole)
    (one_count generation schedule.opening (count_by is_cut cut.front) (count_by is_cut other.front) first.number second.number) in
    same_end g h (run start cut.front) cut.there (ap (run start) same ∙ other.there)

nothing_to_move : (g : Plain) → map.entries g.kernel.directions ≡ [] → map_values all_arrived g.kernel.directions ≡ g.kernel.directions
nothing_to_move g none = map.same_entries_map _ _ (entries-map_values all_arrived g.kernel.directions ∙ ap (λ es. mapped (λ e. (e.0, all_arrived e.1)) es) none ∙ sym none)

pub no_channels : NoChannels
unfolding full_arrive cut_marks
no_channels g none = (
  ap (λ directions. let moved : Plain = record { kernel = record g.kernel { directions = directions }; users = g.users } in moved) (nothing_to_move g none),
  ap (λ es. filter_map (left_in Drained) es ++ filter_map (left_in Refilled) es) none,
)
