-- The order in which one thread of the host makes the records of a run: those of the rounds, and marks
-- between them wherever they may stand. What a round makes due is seen when the next record comes, so after a
-- checkpoint that the last one asked for. While a request for a checkpoint waits nobody's turn goes on: where
-- a cut can come, all bytes that are missing of a direction arrive at once, one direction after the other, in
-- rising order.
--     is_due g at r                       the record may come at this state, where things have come this far
--     standing_after schedule g at r      how far they have come after it
--     each_is_due schedule g at records   each of the records is due when it comes, from this state and this
--                                         place on
--     GoesInRounds schedule g records     the same from the start of the rounds
use Rattle.std.specs.Prelude.{◌≡◌, ◌&&◌, ◌||◌, Bool, true, false, List, [], ◌∷◌, Option, Some, None, if◌then◌else◌}
use Rattle.std.specs.Option.{option_map_or}
use Rattle.sys_abi.specs.declared.identity.Dir.{Dir}
use Rattle.sys_abi.specs.declared.record.Record.{Record}
use Rattle.plain_machine.specs.declared.plain.Plain.{Plain}
use Rattle.plain_machine.specs.Records.{step}
use Rattle.trace_log.specs.declared.requests.Schedule.{Schedule}
use Rattle.trace_log.specs.Requests.{Phase, Requested, Requests, can_be_held, is_mark, first_requests, next_requests}
use Rattle.trace_log.specs.Turns.{Due, Upcoming, NewRound, After, coming, due_at, is_arrival, is_due_at}

-- how far the rounds and the requests have come
pub record Standing : Type 0 where
  pub upcoming : Upcoming
  pub requests : Requests

abbrev pub request_waits : Phase → Bool
request_waits (Requested since) = true
request_waits _ = false

-- while a request waits bytes arrive of the least direction of which some are missing, where a cut can come,
-- and else nothing does
abbrev pub is_first_arrival : Plain → List Dir → Record → Bool
is_first_arrival g [] r = false
is_first_arrival g (dir ∷ dirs) r = is_arrival g dir r

abbrev pub is_due_for_cut : Plain → Record → Bool
is_due_for_cut g r = can_be_held g && is_first_arrival g (coming g) r

abbrev pub is_due : Plain → Standing → Record → Bool
is_due g at r =
    is_mark r
    || (if request_waits at.requests.phase then is_due_for_cut g r else is_due_at g (due_at g at.upcoming) r)

-- a mark, and what comes while a request waits, leaves the rounds where they are
abbrev pub moved_by : Option Due → Upcoming → Record → Upcoming
moved_by None upcoming r = upcoming
moved_by (Some due) upcoming r = After due r

abbrev pub moved : Plain → Standing → Record → Upcoming
moved g at r =
    if is_mark r || request_waits at.requests.phase then at.upcoming
    else moved_by (due_at g at.upcoming) at.upcoming r

-- after a record that came at g
abbrev pub standing_after : Schedule → Plain → Standing → Record → Standing
standing_after schedule g at r =
    record { upcoming = moved g at r; requests = next_requests schedule g at.requests r }

unfoldable pub each_is_due : Schedule → Plain → Standing → List Record → Bool
each_is_due schedule g at [] = true
each_is_due schedule g at (r ∷ rest) =
    is_due g at r
    && option_map_or (λ h. each_is_due schedule h (standing_after schedule g at r) rest) (step g r) false

abbrev pub first_standing : Schedule → Standing
first_standing schedule = record { upcoming = NewRound; requests = first_requests schedule }

-- the records are those of the rounds that start at this state
abbrev pub GoesInRounds : Schedule → Plain → List Record → Type 0
GoesInRounds schedule g records = each_is_due schedule g (first_standing schedule) records ≡ true
