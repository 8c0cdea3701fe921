-- How many bytes of a direction are on the way, through the pairs.
--     missing_told, missing_none
use Rattle.std.proofs.Common.{◌≡◌, ℕ, ◌+◌, ◌-◌, ◌<◌, ◌≤◌, ◌++◌, length, refl, sym, ap, ◌∙◌, arith}
use Rattle.std.specs.Prelude.{Option, Some, None}
use Rattle.std.specs.FinMap as map
use Rattle.std.proofs.lemmas.List.{length-append}
use Rattle.views.specs.Seen.{Agree}
use Rattle.sys_abi.specs.declared.identity.Dir.{Dir}
use Rattle.plain_tables.specs.declared.channel.Direction.{Direction}
use Rattle.plain_machine.specs.declared.kernel.PlainKernel.{PlainKernel}
use Rattle.wire_channels.specs.Directions.{Direction as RealDirection}
use Rattle.wire_channels.specs.Channels as channels
use Rattle.wire_net.specs.Whereabouts.{stream}
use Rattle.host_tables.specs.declared.kernel.Kernel.{Kernel}
use Rattle.host_tables.specs.Network.{SameDirection}
use Rattle.host_tables.specs.Stands.{Given, Stands}
use Rattle.host_tables.proofs.DirectionChanges.{left_alone}
use Rattle.wrap_passing.specs.OfWrapNames.Changes.{missing_in}
use Rattle.wrap_calls.specs.Directions.{on_the_way}

counted : (all received wire sent arrived : ℕ) → all ≡ received + wire + sent → arrived ≡ received
    → all - arrived ≡ sent + wire
counted all received wire sent arrived e f = omega (arith, e, f)

pub on_way : (x : Direction) (y : RealDirection) → x.left ≡ stream y → x.arrived ≡ length y.received
    → length x.left - x.arrived ≡ length y.sent + length y.wire
on_way x y left arrived =
    counted (length x.left) (length y.received) (length y.wire) (length y.sent) x.arrived
    (ap length left ∙ length-append (y.received ++ y.wire) y.sent
    ∙ ap (λ n. n + length y.sent) (length-append y.received y.wire)) arrived

module _ (g : Given) (real : Kernel) (k : PlainKernel) (st : Stands g None real k) (d : Dir) where
  missing_by : (o : Option Direction) (q : Option RealDirection)
      → channels.direction_at real.net.channels d ≡ q
      → Agree (SameDirection real.net None d) o q → on_the_way q ≡ missing_in o
  missing_by None None is same = refl
  missing_by None (Some y) is same = absurd same
  missing_by (Some x) None is same = absurd same
  missing_by (Some x) (Some y) is same =
      sym (on_way x y (left_alone real.net d x y is same) same.arrived)

  pub missing_told : d.side < 2
      → on_the_way (channels.direction_at real.net.channels d) ≡ missing_in (map.get k.directions d)
  missing_told less =
      missing_by (map.get k.directions d) (channels.direction_at real.net.channels d) refl
      (st.directions.at d less)

  pub missing_none : 2 ≤ d.side → missing_in (map.get k.directions d) ≡ 0
  missing_none more = ap missing_in (st.directions.no_other d more)
