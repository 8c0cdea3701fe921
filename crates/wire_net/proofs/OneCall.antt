-- A read and a send of an agent on a direction of the network.
--     with_channels       the network with other channels
--     nothing_received    the network where nothing was read
--     some_sent           how many bytes were sent where some could be
use Rattle.std.proofs.Common.{◌≡◌, ◌≢◌, ℕ, ◌==◌, Bool, true, false, cond, refl, sym, ap, ◌∙◌, arith}
use Rattle.std.specs.Prelude.{Option, Some, None, Ok, Err, IfSome, not, ◌&&◌, ◌||◌, min}
use Rattle.std.proofs.lemmas.Bool.Decides.{nat_tests}
use Rattle.views.proofs.MapLaws.{true_false}
use Rattle.sys_abi.specs.declared.identity.Dir.{Dir}
use Rattle.wire_channels.specs.declared.net_fault.NetFault.{NetFault}
use Rattle.wire_channels.specs.declared.net_fault.NetFault.TheVariants as fault
use Rattle.wire_channels.specs.Directions.{Direction, room, after_receive}
use Rattle.wire_channels.specs.Channels.{Channels, at_direction}
use Rattle.wire_net.specs.Networks.{Network}
use Rattle.wire_channels.specs.Answers.{send_answer_on}
use Rattle.wire_net.specs.Noted.{IsFlowing}
use Rattle.wire_channels.proofs.OneDirection.{unchanged_direction}

abbrev pub with_channels : Network → Channels → Network
with_channels t m = record { nodes = t.nodes; port_base = t.port_base; listeners = t.listeners; channels = m }

pub nothing_received : (t : Network) (d : Dir) → t ≡ with_channels t (at_direction t.channels d (after_receive 0))
nothing_received t d = ap (with_channels t) (sym (unchanged_direction t.channels d (after_receive 0) (λ direction. refl)))

-- how many bytes were sent, where the direction goes on and some are to be sent
answered : (direction : Direction) (k n : ℕ) (none full : Bool) → (k == 0) ≡ none → (room direction == 0) ≡ full → k ≢ 0
    → Ok n ≡ cond (full && not none) (Err fault.NotReady) (Ok (min k (room direction))) → n ≢ 0
answered direction k n true full none_is full_is some is = absurd (some (let zero : k ≡ 0 = grind (arith, nat_tests) in zero))
answered direction k n false true none_is full_is some is = absurd (apart is)
  where
    apart : {why : NetFault} → Ok n ≡ Err why → ⊥
    apart e = cc
answered direction k n false false none_is full_is some is =
    let same : n ≡ min k (room direction) = cc in
    let room_left : room direction ≢ 0 = grind (arith, nat_tests) in
    omega (arith, same, room_left, some)

flowing : (direction : Direction) (k n : ℕ) (ended unread : Bool) → direction.is_ended ≡ ended → direction.is_unread ≡ unread → IsFlowing direction → k ≢ 0
    → Ok n ≡ cond (ended || unread) (Err fault.Ended) (cond ((room direction == 0) && not (k == 0)) (Err fault.NotReady) (Ok (min k (room direction)))) → n ≢ 0
flowing direction k n true unread ended_is unread_is flows some is = true_false (sym ended_is ∙ flows.goes_on)
flowing direction k n false true ended_is unread_is flows some is = true_false (sym unread_is ∙ flows.is_read)
flowing direction k n false false ended_is unread_is flows some is = answered direction k n (k == 0) (room direction == 0) refl refl some is

pub some_sent : (found : Option Direction) (k n : ℕ) → IfSome found IsFlowing → k ≢ 0 → Ok n ≡ send_answer_on found k → n ≢ 0
some_sent None k n flows some is = absurd (apart is)
  where
    apart : {why : NetFault} → Ok n ≡ Err why → ⊥
    apart e = cc
some_sent (Some direction) k n flows some is = flowing direction k n direction.is_ended direction.is_unread refl refl flows some is
