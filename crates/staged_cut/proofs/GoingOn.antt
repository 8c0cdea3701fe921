-- A computation all of whose bytes have arrived, and one that goes on from there.
--     whole_already      its kernel part with all bytes arrived is as it is
--     can_begin          one can begin with the same parts
use Rattle.std.proofs.Common.{◌≡◌, length, refl, sym, ap, subst, ◌∙◌}
use Rattle.std.specs.Prelude.{Option, Some, None, option_map}
use Rattle.std.specs.FinMap as map
use Rattle.views.specs.Maps.{map_values}
use Rattle.views.proofs.MapValues.{get-map_values}
use Rattle.sys_abi.proofs.OrderLaws.{dir_total, dir_exact}
use Rattle.plain_tables.specs.declared.channel.Direction.{Direction}
use Rattle.plain_machine.specs.declared.kernel.PlainKernel.{PlainKernel}
use Rattle.plain_machine.specs.Tests.{all_arrived, unsupported}
use Rattle.plain_machine.specs.Valid.{IsValid}
use Rattle.run_start.specs.HandedOn.{Computation, plain_of, IsReady}
use Rattle.run_start.proofs.HandedOn.{Guests, plain_is}
use Rattle.run_start.specs.declared.start.Start.{Start}
use Rattle.run_start.specs.Starts.{CanBegin}
use Rattle.seen_kernel.specs.Seen.{all_in}
use Rattle.seen_kernel.specs.Unheld.{AllArrived}
use Rattle.run_start.specs.HandedOn.{HasNoDatagrams}
use Rattle.staged_cut.proofs.Supported.{no_datagrams}

arrived_already : (o : Option Direction)
    → ((x : Direction) → o ≡ Some x → x.arrived ≡ length x.left) → option_map all_arrived o ≡ o
arrived_already None arrived = refl
arrived_already (Some x) arrived =
    ap (λ n. Some (record { left = x.left; arrived = n; ended = x.ended; unread = x.unread }))
    (sym (arrived x refl))

pub whole_already : (k : PlainKernel) → AllArrived k.directions → all_in k ≡ k
whole_already k arrived =
    ap (λ directions. record k { directions = directions })
    (map.same_map dir_total dir_exact (map_values all_arrived k.directions) k.directions (λ d.
    get-map_values all_arrived k.directions d ∙ arrived_already (map.get k.directions d) (arrived d)))

pub can_begin : (c : Computation) (s : Start) → IsReady c → unsupported (plain_of c) ≡ None
    → AllArrived c.kernel.directions → s.kernel ≡ c.kernel → s.guests ≡ c.guests → CanBegin s
can_begin c s ready supported arrived kernel guests = record {
  valid = subst IsValid (sym (plain_is s.kernel c.kernel _ _ kernel
      (ap (λ (m : Guests). map_values (λ guest. guest.user) m) guests))) ready.valid;
  numbered = λ p guest there. ready.numbered p guest (ap (λ m. map.get m p) (sym guests) ∙ there);
  arrived = subst (λ (k : PlainKernel). AllArrived k.directions) (sym kernel) arrived;
  plain = subst (λ (k : PlainKernel). HasNoDatagrams k.descriptions) (sym kernel)
      (no_datagrams (plain_of c) ready.valid.kernel supported);
}
