-- A trace that leads on: a front and the rest, one record more, and the run that it is.
use Rattle.std.proofs.Common.{◌≡◌, List, [], ◌∷◌, ◌++◌, refl, sym, ap, subst, ◌∙◌}
use Rattle.std.specs.Prelude.{Option, Some, None, IsSomeAnd, option_and_then}
use Rattle.sys_abi.specs.declared.record.Record.{Record}
use Rattle.plain_machine.specs.declared.plain.Plain.{Plain}
use Rattle.plain_machine.specs.Records.{step}
use Rattle.plain_machine.specs.Runs.{run}
use Rattle.trace_log.specs.declared.requests.Schedule.{Schedule}
use Rattle.trace_log.specs.Requests.{Requests, LeadsTo, MayStand, first_requests, next_requests}
use Rattle.trace_log.specs.RequestLaws.{GoesOnByOne, GoesOn, HasFronts, IsARun}

-- the value, and what is known of it
pub record Gives {T : Type 0} (o : Option T) (P : T → Type 0) : Type 0 where
  pub value : T
  pub is : o ≡ Some value
  pub holds : P value

pub gives : {T : Type 0} (o : Option T) (P : T → Type 0) → IsSomeAnd o P → Gives o P
gives None P h = absurd h
gives (Some x) P h = record { value = x; is = refl; holds = h }

pub given : {T : Type 0} (o : Option T) (x : T) (P : T → Type 0) → o ≡ Some x → P x → IsSomeAnd o P
given o x P is holds = subst (λ a. IsSomeAnd a P) (sym is) holds

pub goes_on : GoesOn
unfolding LeadsTo
goes_on schedule g half last now mid later [] rest begins ends =
    subst (λ a. LeadsTo schedule a now rest last later) (sym begins.0) (subst (λ n. LeadsTo schedule half n rest last later) (sym begins.1) ends)
goes_on schedule g half last now mid later (r ∷ front) rest begins ends =
    let first = gives (step g r) (λ next. LeadsTo schedule next (next_requests schedule g now r) front half mid) begins.1 in (
      begins.0,
      given (step g r) first.value (λ next. LeadsTo schedule next (next_requests schedule g now r) (front ++ rest) last later) first.is
          (goes_on schedule first.value half last (next_requests schedule g now r) mid later front rest first.holds ends),
    )

-- a step that may stand there leads on by itself
pub leads_by_one : (schedule : Schedule) (g next : Plain) (now : Requests) (r : Record) → MayStand g now r → step g r ≡ Some next → LeadsTo schedule g now (r ∷ []) next (next_requests schedule g now r)
unfolding LeadsTo
leads_by_one schedule g next now r may is = (may, given (step g r) next (λ a. (a ≡ next) × (next_requests schedule g now r ≡ next_requests schedule g now r)) is (refl, refl))

pub goes_on_by_one : GoesOnByOne
goes_on_by_one schedule start g next now trace r so_far may is =
    goes_on schedule start g next (first_requests schedule) now (next_requests schedule g now r) trace (r ∷ []) so_far (leads_by_one schedule g next now r may is)

-- where the front comes to, from any state
pub record Parts (schedule : Schedule) (g : Plain) (now : Requests) (front rest : List Record) (last : Plain) (later : Requests) : Type 0 where
  pub state : Plain
  pub requests : Requests
  pub begins : LeadsTo schedule g now front state requests
  pub ends : LeadsTo schedule state requests rest last later

pub parts : (schedule : Schedule) (g last : Plain) (now later : Requests) (front rest : List Record) → LeadsTo schedule g now (front ++ rest) last later → Parts schedule g now front rest last later
unfolding LeadsTo
parts schedule g last now later [] rest whole = record { state = g; requests = now; begins = (refl, refl); ends = whole }
parts schedule g last now later (r ∷ front) rest whole =
    let first = gives (step g r) (λ next. LeadsTo schedule next (next_requests schedule g now r) (front ++ rest) last later) whole.1 in
    let more = parts schedule first.value last (next_requests schedule g now r) later front rest first.holds in
    record {
      state = more.state;
      requests = more.requests;
      begins = (whole.0, given (step g r) first.value (λ next. LeadsTo schedule next (next_requests schedule g now r) front more.state more.requests) first.is more.begins);
      ends = more.ends;
    }

pub has_fronts : HasFronts
has_fronts schedule start last later front rest whole =
    let all = parts schedule start last (first_requests schedule) later front rest whole in
    record { state = all.state; requests = all.requests; front_reaches = all.begins; rest_leads = all.ends }

pub runs : (schedule : Schedule) (g last : Plain) (now later : Requests) (trace : List Record) → LeadsTo schedule g now trace last later → run g trace ≡ Some last
unfolding LeadsTo run
runs schedule g last now later [] whole = ap (λ a. Some a) whole.0
runs schedule g last now later (r ∷ rest) whole =
    let first = gives (step g r) (λ next. LeadsTo schedule next (next_requests schedule g now r) rest last later) whole.1 in
    ap (option_and_then (λ next. run next rest)) first.is ∙ runs schedule first.value last (next_requests schedule g now r) later rest first.holds

pub is_a_run : IsARun
is_a_run schedule start last later trace whole = runs schedule start last (first_requests schedule) later trace whole
