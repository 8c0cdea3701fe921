-- A network whose channels are all filled has the directions of the kernel part, where all bytes have
-- arrived.
--     direction_seen             a direction whose bytes all stand where they can be read
--     silent                     a closed end sends no more and is not read
--     SameDirections-filled      all directions
use Rattle.std.proofs.Common.{◌≡◌, ℕ, ◌-◌, ◌<◌, ◌≤◌, Bool, true, false, ◌++◌, append-nil, length, Option, Some, None, refl, sym, ap, ◌∙◌, arith}
use Rattle.std.specs.Prelude.{◌&&◌, zero, suc, nat_lt, is_some, option_map, slice_index_or}
use Rattle.std.specs.FinMap as map
use Rattle.std.proofs.lemmas.Bool.Decides.{nat_tests}
use Rattle.views.specs.Seen.{Agree}
use Rattle.views.proofs.MapLaws.{true_false}
use Rattle.views.proofs.Seen.{agree_by, agree_real}
use Rattle.sys_abi.specs.declared.identity.ConnId.{ConnId}
use Rattle.sys_abi.specs.declared.identity.Dir.{Dir}
use Rattle.plain_process.specs.Valid.{Each}
use Rattle.plain_tables.specs.declared.channel.Channel as plain
use Rattle.plain_tables.specs.declared.channel.Direction as plain_direction
use Rattle.plain_tables.specs.Objects.{end_of}
use Rattle.plain_tables.specs.Tables as tables
use Rattle.plain_tables.specs.Valid.Channels.{AreChannels}
use Rattle.wire_channels.specs.declared.channel.Channel.{Channel}
use Rattle.wire_channels.specs.Channels.{direction_of, direction_at}
use Rattle.wire_channels.specs.Directions.{Direction}
use Rattle.wire_net.specs.Networks.{Network}
use Rattle.wire_net.specs.Whereabouts.{stream}
use Rattle.host_tables.specs.Network.{SameDirection, SameDirections, IsSilent}
use Rattle.host_tables.proofs.DirectionChanges.{same_direction}
use Rattle.rebuild_tables.specs.Filled.{IsStanding, IsFilled}
use Rattle.rebuild_tables.proofs.FilledChannels.{direction_there}

stream_is : (x : plain_direction.Direction) (y : Direction) → IsStanding x y → stream y ≡ x.left
stream_is x y is =
    ap (λ sent. (y.received ++ y.wire) ++ sent) is.sent ∙ append-nil (y.received ++ y.wire)
    ∙ ap (λ wire. y.received ++ wire) is.wire ∙ append-nil y.received ∙ is.received

pub direction_seen : (t : Network) (d : Dir) (x : plain_direction.Direction) (y : Direction)
    → direction_at t.channels d ≡ Some y → IsStanding x y → x.arrived ≡ length x.left
    → SameDirection t None d x y
direction_seen t d x y at is arrived =
    same_direction t d x y at (record {
      left = sym (stream_is x y is);
      arrived = arrived ∙ sym (ap length is.received);
      ended = is.ended;
      unread = is.unread;
    })

is_none : {X : Type 0} (found : Option X) → is_some found ≡ false → found ≡ None
is_none None none = refl
is_none (Some x) none = true_false none

at_none : {X : Type 0} (b : Bool) (found : Option X) → found ≡ None → (b && is_some found) ≡ false
at_none true found none = ap is_some none
at_none false found none = refl

above : (side : ℕ) → 2 ≤ side → nat_lt side 2 ≡ false
above side high = grind (arith, nat_tests)

module _ (channels : tables.Channels) (directions : tables.Directions)
    (whole : AreChannels channels directions) where
  module _ (id : ConnId) (channel : plain.Channel) (there : map.get channels id ≡ Some channel) (c : Channel)
      (filled : IsFilled directions id channel c) where
    silent_by : (side : ℕ) → side < 2 → 1 - side < 2 → (end_of channel side).is_open ≡ false
        → IsSilent side c
    silent_by side low other shut =
        let out = direction_there channels directions whole id channel there side low in
        let inward = direction_there channels directions whole id channel there (1 - side) other in
        let closed = whole.closed id side channel there low shut in
        record {
          ended = sym (filled.each side low out.0 out.1).ended ∙ closed.ended out.0 out.1;
          unread =
              sym (filled.each (1 - side) other inward.0 inward.1).unread
              ∙ closed.unread inward.0 inward.1;
        }

    pub silent : (side : ℕ) → side < 2 → slice_index_or c.open_ends side true ≡ false → IsSilent side c
    silent zero low shut =
        silent_by 0 (omega arith) (omega arith)
        (sym (ap (λ ends. slice_index_or ends 0 true) filled.open_ends) ∙ shut)
    silent (suc zero) low shut =
        silent_by 1 (omega arith) (omega arith)
        (sym (ap (λ ends. slice_index_or ends 1 true) filled.open_ends) ∙ shut)
    silent (suc (suc n)) low shut = absurd (omega arith)

  module _ (t : Network)
      (filled : (id : ConnId) → Agree (IsFilled directions id) (map.get channels id) (map.get t.channels id))
      (arrived : Each directions (λ d direction. direction.arrived ≡ length direction.left)) where
    at_by : (d : Dir) → d.side < 2 → (o : Option plain.Channel) (q : Option Channel)
        → map.get channels d.conn ≡ o → map.get t.channels d.conn ≡ q → Agree (IsFilled directions d.conn) o q
        → Agree (SameDirection t None d) (map.get directions d) (direction_at t.channels d)
    at_by d low None None virt real h =
        agree_by (SameDirection t None d) None _ None _
        (is_none (map.get directions d)
        (whole.sides d ∙ at_none (nat_lt d.side 2) (map.get channels d.conn) virt))
        (ap (option_map (direction_of d.side)) real) tt
    at_by d low None (Some c) virt real h = absurd h
    at_by d low (Some channel) None virt real h = absurd h
    at_by d low (Some channel) (Some c) virt real h =
        let x = direction_there channels directions whole d.conn channel virt d.side low in
        let y = direction_of d.side c in
        let at : direction_at t.channels d ≡ Some y = ap (option_map (direction_of d.side)) real in
        agree_by (SameDirection t None d) (Some x.0) (map.get directions d) (Some y)
        (direction_at t.channels d) x.1 at
        (direction_seen t d x.0 y at (h.each d.side low x.0 x.1) (arrived d x.0 x.1))

    pub SameDirections-filled : SameDirections t None directions
    SameDirections-filled = record {
      at = λ d low.
          at_by d low (map.get channels d.conn) (map.get t.channels d.conn) refl refl (filled d.conn);
      no_other = λ d high. is_none (map.get directions d)
          (whole.sides d ∙ ap (λ b. b && is_some (map.get channels d.conn)) (above d.side high));
      closed = λ id c side at low shut.
          let own =
          agree_real (IsFilled directions id) (map.get channels id) (map.get t.channels id) c
          (filled id) at in
          silent id own.0 own.1.0 c own.1.1 side low shut;
    }
