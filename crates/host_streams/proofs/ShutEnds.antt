-- The ends of a channel that are shut, through the pairs.
--     no_side                      a kernel part has no directions of other sides than 0 and 1
--     ended, unread                a direction sends no more, or is read no more, if it is there
use Rattle.std.proofs.Common.{◌≡◌, ◌<◌, ◌≤◌, Option, Some, None, refl, sym, ap, subst}
use Rattle.std.specs.Prelude.{option_map}
use Rattle.std.specs.Option.{option_map_or}
use Rattle.std.specs.FinMap as map
use Rattle.std.proofs.lemmas.Option.{none-some}
use Rattle.sys_abi.specs.declared.identity.Dir.{Dir}
use Rattle.plain_tables.specs.declared.channel.Direction as plain_direction
use Rattle.plain_tables.specs.Closing.{with_end, without_reader}
use Rattle.plain_tables.specs.Tables.{Directions, changed_at, changed_by}
use Rattle.plain_machine.specs.declared.kernel.PlainKernel.{PlainKernel}
use Rattle.wire_channels.specs.declared.channel.Channel.{Channel}
use Rattle.wire_channels.specs.Directions.{Direction, after_end, after_stop_reading}
use Rattle.wire_channels.specs.Channels as channels
use Rattle.host_processes.proofs.HandedOn.{ended_kept, unread_kept, plain_of}
use Rattle.host_processes.specs.OfHostTables.declared.kernel.Kernel.{Kernel}
use Rattle.host_processes.specs.OfHostTables.Stands.{Given, Stands}
use Rattle.host_streams.proofs.ReadRows.{no_direction}

-- a change of a direction that is not there

unchanged_virt : (m : Directions) (d : Dir) (f : plain_direction.Direction → plain_direction.Direction)
    → map.get m d ≡ None → changed_at m d f ≡ m
unchanged_virt m d f none = ap (changed_by m d f) none

unchanged_real : (m : channels.Channels) (d : Dir) (f : Direction → Direction) (o : Option Channel)
    → map.get m d.conn ≡ o → option_map (channels.direction_of d.side) o ≡ None
    → channels.at_direction m d f ≡ m
unchanged_real m d f None is none =
    ap (λ o. option_map_or (λ channel. map.insert m d.conn (channels.at_side d.side f channel)) o m) is
unchanged_real m d f (Some channel) is none =
    absurd (none-some (channels.direction_of d.side channel) (sym none))

pub no_side : (g : Given) (real : Kernel) (k : PlainKernel) → Stands g None real k → (d : Dir) → 2 ≤ d.side
    → (f : plain_direction.Direction → plain_direction.Direction)
    → Stands g None real (record k { directions = changed_at k.directions d f })
no_side g real k st d more f =
    subst (λ (m : Directions). Stands g None real (record k { directions = m }))
    (sym (unchanged_virt k.directions d f (st.directions.no_other d more))) st

module _ (g : Given) (real : Kernel) (k : PlainKernel) (st : Stands g None real k) (d : Dir)
    (less : d.side < 2) where
  abbrev now : (Direction → Direction) → Kernel
  now f = record real { net = record real.net { channels = channels.at_direction real.net.channels d f } }

  abbrev then : (plain_direction.Direction → plain_direction.Direction) → PlainKernel
  then f = record k { directions = changed_at k.directions d f }

  nothing : (f : Direction → Direction) (h : plain_direction.Direction → plain_direction.Direction)
      → channels.direction_at real.net.channels d ≡ None → Stands g None (now f) (then h)
  nothing f h none =
      subst (λ (m : channels.Channels). Stands g None
      (record real { net = record real.net { channels = m } }) (then h))
      (sym (unchanged_real real.net.channels d f (map.get real.net.channels d.conn) refl none))
      (subst (λ (m : Directions). Stands g None real (record k { directions = m }))
      (sym (unchanged_virt k.directions d h (no_direction g real k st d less none))) st)

  there : (f : plain_direction.Direction → plain_direction.Direction) (x : plain_direction.Direction)
      (real' : Kernel)
      → map.get k.directions d ≡ Some x → Stands g None real'
      (record k { directions = map.insert k.directions d (f x) })
      → Stands g None real' (then f)
  there f x real' is stands =
      subst (λ (m : Directions). Stands g None real' (record k { directions = m }))
      (sym (ap (changed_by k.directions d f) is)) stands

  pub ended : Stands g None (now after_end) (then with_end)
  ended = by_found (channels.direction_at real.net.channels d) refl
    where
      by_found : (o : Option Direction) → channels.direction_at real.net.channels d ≡ o
          → Stands g None (now after_end) (then with_end)
      by_found None is = nothing after_end with_end is
      by_found (Some y) is =
          there with_end (plain_of g real k st d less y is).0 (now after_end)
          (plain_of g real k st d less y is).1.0 (ended_kept g real k st d less y is)

  pub unread : Stands g None (now after_stop_reading) (then without_reader)
  unread = by_found (channels.direction_at real.net.channels d) refl
    where
      by_found : (o : Option Direction) → channels.direction_at real.net.channels d ≡ o
          → Stands g None (now after_stop_reading) (then without_reader)
      by_found None is = nothing after_stop_reading without_reader is
      by_found (Some y) is =
          there without_reader (plain_of g real k st d less y is).0 (now after_stop_reading)
          (plain_of g real k st d less y is).1.0 (unread_kept g real k st d less y is)
