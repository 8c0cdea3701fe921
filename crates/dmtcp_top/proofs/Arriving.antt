-- What an arrival changes, and what stays once all bytes have arrived.
--     arrives_fully      the state once all bytes have arrived is the same after it
--     arrives_quietly    nothing is written
--     ends_on            somebody lives after it where somebody did before
--     rests_on           nobody lives or can go on after it where nobody did before
--     none_arrives       it is no step where all bytes have arrived
use Rattle.std.proofs.Common.{◌≡◌, ℕ, ◌+◌, true, not, [], Option, Some, None, inl, inr, refl, sym, ap, ◌∙◌, length, arith, tests}
use Rattle.std.specs.Prelude.{◌&&◌, nat_le}
use Rattle.std.specs.Option.{option_map}
use Rattle.std.specs.FinMap as map
use Rattle.views.specs.Maps.{map_values}
use Rattle.views.proofs.MapLaws.{insert_same}
use Rattle.views.proofs.MapValues.{map_values-insert, get-map_values}
use Rattle.sys_abi.proofs.OrderLaws.{dir_total, dir_exact}
use Rattle.sys_abi.specs.Orders.{dir_cmp}
use Rattle.sys_abi.specs.declared.identity.Dir.{Dir}
use Rattle.sys_abi.specs.declared.record.Record.TheVariants.{Arrive}
use Rattle.plain_machine.specs.declared.plain.Plain.{Plain}
use Rattle.plain_tables.specs.declared.channel.Direction.{Direction}
use Rattle.plain_machine.specs.Records.{Outcome, outcome, step, outcome_of_arrival, with_arrived, quiet}
use Rattle.plain_machine.specs.Tests.{ended, has_life, full_arrive, all_arrived}
use Rattle.plain_process.proofs.Giving.{Giving, gives, nothing, where_}
use Rattle.dmtcp_top.specs.OneOrder.{ComesToRest}
use Rattle.drive.proofs.HandedOn.{left_true, right_true}

record HasArrived (g : Plain) (dir : Dir) (n : ℕ) (found : Option Direction) (o : Outcome) : Type 0 where
  pub direction : Direction
  pub there : found ≡ Some direction
  pub some : nat_le 1 n ≡ true
  pub fits : nat_le (direction.arrived + n) (length direction.left) ≡ true
  pub is : o ≡ quiet (with_arrived g dir direction n)

arrived : (g : Plain) (dir : Dir) (n : ℕ) (found : Option Direction) → Giving (outcome_of_arrival g dir n found) (HasArrived g dir n found)
arrived g dir n None = nothing
arrived g dir n (Some direction) = where_ (nat_le 1 n && nat_le (direction.arrived + n) (length direction.left)) (λ both. gives _ (record {
  direction = direction;
  there = refl;
  some = left_true (nat_le 1 n) (nat_le (direction.arrived + n) (length direction.left)) both;
  fits = right_true (nat_le 1 n) (nat_le (direction.arrived + n) (length direction.left)) both;
  is = refl;
}))

has_arrived : (g : Plain) (dir : Dir) (n : ℕ) (o : Outcome) → outcome g (Arrive dir n) ≡ Some o → HasArrived g dir n (map.get g.kernel.directions dir) o
unfolding outcome
has_arrived g dir n o goes = (arrived g dir n (map.get g.kernel.directions dir)).each o goes

-- a direction that is there, with all its bytes arrived, is put in again
put_again : (directions : map.FinMap dir_cmp Direction) (dir : Dir) (direction : Direction) → map.get directions dir ≡ Some direction → map.insert (map_values all_arrived directions) dir (all_arrived direction) ≡ map_values all_arrived directions
put_again directions dir direction there = insert_same dir_total dir_exact (map_values all_arrived directions) dir (all_arrived direction) (get-map_values all_arrived directions dir ∙ ap (option_map all_arrived) there)

pub arrives_fully : (g : Plain) (dir : Dir) (n : ℕ) (o : Outcome) → outcome g (Arrive dir n) ≡ Some o → full_arrive o.state ≡ full_arrive g
unfolding full_arrive
arrives_fully g dir n o goes =
    let has = has_arrived g dir n o goes in
    let direction = has.direction in
    let after : Direction = record { left = direction.left; arrived = direction.arrived + n; ended = direction.ended; unread = direction.unread } in
    ap (λ (x : Outcome). full_arrive x.state) has.is
    ∙ ap (λ directions. let moved : Plain = record { kernel = record g.kernel { directions = directions }; users = g.users } in moved)
    (map_values-insert dir_total dir_exact all_arrived g.kernel.directions dir after ∙ put_again g.kernel.directions dir direction has.there)

pub arrives_quietly : (g : Plain) (dir : Dir) (n : ℕ) (o : Outcome) → outcome g (Arrive dir n) ≡ Some o → o.console ≡ []
arrives_quietly g dir n o goes = ap (λ (x : Outcome). x.console) (has_arrived g dir n o goes).is

lives_alike : (g : Plain) (dir : Dir) (direction : Direction) (n : ℕ) → has_life (with_arrived g dir direction n).kernel ≡ has_life g.kernel
unfolding has_life
lives_alike g dir direction n = refl

lives_on : (g : Plain) (dir : Dir) (n : ℕ) (o : Outcome) → outcome g (Arrive dir n) ≡ Some o → has_life o.state.kernel ≡ has_life g.kernel
lives_on g dir n o goes =
    let has = has_arrived g dir n o goes in
    ap (λ (x : Outcome). has_life x.state.kernel) has.is ∙ lives_alike g dir has.direction n

pub ends_on : (g : Plain) (dir : Dir) (n : ℕ) (o : Outcome) → outcome g (Arrive dir n) ≡ Some o → ended o.state ≡ ended g
ends_on g dir n o goes = ap not (lives_on g dir n o goes)

pub rests_on : (g : Plain) (dir : Dir) (n : ℕ) (o : Outcome) → outcome g (Arrive dir n) ≡ Some o → ComesToRest g → ComesToRest o.state
rests_on g dir n o goes (inl over) = inl (ends_on g dir n o goes ∙ over)
rests_on g dir n o goes (inr stuck) = inr (record {
  lives = lives_on g dir n o goes ∙ stuck.lives;
  still = λ r work. ap (λ h. step h r) (arrives_fully g dir n o goes) ∙ stuck.still r work;
})

-- the same bytes can't arrive twice
still_there : (g : Plain) (dir : Dir) (direction : Direction) → full_arrive g ≡ g → map.get g.kernel.directions dir ≡ Some direction → direction.arrived ≡ length direction.left
unfolding full_arrive
still_there g dir direction all there =
    let same : Some (all_arrived direction) ≡ Some direction =
    sym (ap (option_map all_arrived) there) ∙ sym (get-map_values all_arrived g.kernel.directions dir) ∙ ap (λ (h : Plain). map.get h.kernel.directions dir) all ∙ there in
    let one : all_arrived direction ≡ direction = cc in
    sym (ap (λ (d : Direction). d.arrived) one)

too_many : {A : Type 0} (n arrived left : ℕ) → nat_le 1 n ≡ true → nat_le (arrived + n) left ≡ true → arrived ≡ left → A
too_many n arrived left some fits all = absurd (grind (arith, tests))

pub none_arrives : {A : Type 0} (g : Plain) (dir : Dir) (n : ℕ) (o : Outcome) → full_arrive g ≡ g → outcome g (Arrive dir n) ≡ Some o → A
none_arrives g dir n o all goes =
    let has = has_arrived g dir n o goes in
    too_many n has.direction.arrived (length has.direction.left) has.some has.fits (still_there g dir has.direction all has.there)
