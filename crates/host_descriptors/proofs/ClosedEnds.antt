-- An end of a channel closes on both sides: it is silent then, and marked closed, or its channel is gone.
--     ended_kept, unread_kept      a direction sends no more;  a direction is read no more
--     end_closed                   an end closes
--     ends_closed                  the accepting ends of connections close, one after the other
use Rattle.std.proofs.Common.{◌≡◌, ◌≢◌, ℕ, zero, suc, ◌-◌, ◌<◌, Bool, true, false, cond, List, [], ◌∷◌, Option, Some, None, refl, sym, ap, ◌∙◌, subst, arith}
use Rattle.std.specs.Prelude.{option_map, option_and_then, slice_index_or, slice_set, ◌==◌}
use Rattle.std.specs.Option.{option_map_or}
use Rattle.std.specs.FinMap as map
use Rattle.views.proofs.MapLaws.{get_insert_same, insert_insert}
use Rattle.views.proofs.Seen.{agree_real}
use Rattle.sys_abi.specs.declared.identity.ConnId.{ConnId}
use Rattle.sys_abi.specs.declared.identity.Dir.{Dir}
use Rattle.sys_abi.proofs.OrderLaws.{conn_total, conn_exact}
use Rattle.host_tables.specs.OfPlainTables.declared.channel.Channel as plain
use Rattle.host_tables.specs.OfPlainTables.declared.channel.Direction as plain_direction
use Rattle.host_tables.specs.OfPlainTables.Closing.{with_closed, with_end, without_reader, silenced, closed_channels, closed_channels_by, closed_directions, closed_directions_by, pending_channels, pending_directions}
use Rattle.host_tables.specs.OfPlainTables.Objects.{dir, end_of}
use Rattle.host_tables.specs.OfPlainTables.Tables.{Channels, Directions, changed_at, changed_by}
use Rattle.host_tables.specs.OfPlainMachine.declared.kernel.PlainKernel.{PlainKernel}
use Rattle.host_tables.specs.OfPlainMachine.Channels.{with_direction, close_side, close_pending}
use Rattle.wire_channels.specs.declared.channel.Channel.{Channel}
use Rattle.wire_channels.specs.Directions.{Direction, after_end, after_stop_reading}
use Rattle.wire_channels.specs.Channels as channels
use Rattle.wire_channels.proofs.OneDirection.{direction_beside}
use Rattle.host_tables.specs.declared.kernel.Kernel.{Kernel}
use Rattle.host_tables.specs.Network.{seen_channel, SameDirection, IsSilent}
use Rattle.host_tables.specs.Stands.{Given, Stands}
use Rattle.host_tables.proofs.DirectionChanges.{IsSeen, seen_direction, KeepsSilence, direction_put}
use Rattle.host_descriptors.proofs.MarkedEnds.{any_open, other_open, IsBoth, both, end_marked, channel_gone}

-- one direction

ends_silently : KeepsSilence after_end
ends_silently = record { ended = λ y is. refl; unread = λ y is. is }

stops_silently : KeepsSilence after_stop_reading
stops_silently = record { ended = λ y is. is; unread = λ y is. refl }

abbrev with_net : Kernel → channels.Channels → Kernel
with_net real channels = record real { net = record real.net { channels = channels } }

module _ (g : Given) (real : Kernel) (k : PlainKernel) (st : Stands g None real k) (d : Dir) (less : d.side < 2)
    (y : Direction) (there : channels.direction_at real.net.channels d ≡ Some y) where
  pub plain_of : (x : plain_direction.Direction) × ((map.get k.directions d ≡ Some x)
      × SameDirection real.net None d x y)
  plain_of =
      agree_real (SameDirection real.net None d) (map.get k.directions d)
      (channels.direction_at real.net.channels d) y (st.directions.at d less) there

  seen : IsSeen plain_of.0 y
  seen = seen_direction real.net d plain_of.0 y there plain_of.1.1

  pub ended_kept : Stands g None (with_net real (channels.at_direction real.net.channels d after_end))
      (with_direction k d (with_end plain_of.0))
  ended_kept =
      direction_put g real k st d less after_end ends_silently (with_end plain_of.0) y there (record {
        left = seen.left;
        arrived = seen.arrived;
        ended = refl;
        unread = seen.unread;
      })

  pub unread_kept : Stands g None (with_net real (channels.at_direction real.net.channels d after_stop_reading))
      (with_direction k d (without_reader plain_of.0))
  unread_kept =
      direction_put g real k st d less after_stop_reading stops_silently (without_reader plain_of.0) y there
      (record {
        left = refl;
        arrived = refl;
        ended = seen.ended;
        unread = refl;
      })

-- an end

silent_end : (side : ℕ) (channel : Channel) → side < 2
    → IsSilent side (channels.at_side (1 - side) after_stop_reading (channels.at_side side after_end channel))
silent_end zero channel less = record { ended = refl; unread = refl }
silent_end (suc zero) channel less = record { ended = refl; unread = refl }
silent_end (suc (suc n)) channel less = absurd (never n less)
  where
    never : (n : ℕ) → suc (suc n) < 2 → ⊥
    never n h = omega (arith, h)

abbrev ended_by : Channel → Bool → Channel
ended_by channel a =
    cond a (record channel { first = after_end channel.first })
    (record channel { second = after_end channel.second })

same_ends : (side : ℕ) (channel : Channel)
    → (channels.at_side (1 - side) after_stop_reading (channels.at_side side after_end channel)).open_ends
    ≡ channel.open_ends
same_ends side channel = by_sides (side == 0) (1 - side == 0)
  where
    by_sides : (a b : Bool)
        → (cond b (record (ended_by channel a) { first = after_stop_reading (ended_by channel a).first })
        (record (ended_by channel a) { second = after_stop_reading (ended_by channel a).second })).open_ends
        ≡ channel.open_ends
    by_sides true true = refl
    by_sides true false = refl
    by_sides false true = refl
    by_sides false false = refl

-- the change of a channel that is there
put_there : (m : channels.Channels) (id : ConnId) (side : ℕ) (f : Direction → Direction) (channel : Channel)
    → map.get m id ≡ Some channel → channels.at_direction m (dir id side) f ≡ map.insert m id (channels.at_side side f channel)
put_there m id side f channel is =
    ap (λ o. option_map_or (λ value. map.insert m id (channels.at_side side f value)) o m) is

apart : (id : ConnId) (side : ℕ) → side < 2 → dir id (1 - side) ≢ dir id side
apart id side less same = never side less (ap (λ (d : Dir). d.side) same)
  where
    never : (s : ℕ) → s < 2 → 1 - s ≡ s → ⊥
    never s h e = omega (arith, h, e)

less_other : (side : ℕ) → 1 - side < 2
less_other side = omega arith

module _ (g : Given) (real : Kernel) (k : PlainKernel) (st : Stands g None real k) (id : ConnId) (side : ℕ)
    (less : side < 2) (channel : Channel) (there : map.get real.net.channels id ≡ Some channel) where
  abbrev m : channels.Channels
  m = real.net.channels

  abbrev out : Dir
  out = dir id side

  abbrev inward : Dir
  inward = dir id (1 - side)

  there_out : channels.direction_at m out ≡ Some (channels.direction_of side channel)
  there_out = ap (option_map (channels.direction_of side)) there

  abbrev x_out : plain_direction.Direction
  x_out = (plain_of g real k st out less (channels.direction_of side channel) there_out).0

  abbrev real_1 : Kernel
  real_1 = with_net real (channels.at_direction m out after_end)

  abbrev k_1 : PlainKernel
  k_1 = with_direction k out (with_end x_out)

  st_1 : Stands g None real_1 k_1
  st_1 = ended_kept g real k st out less (channels.direction_of side channel) there_out

  there_in : channels.direction_at real_1.net.channels inward ≡ Some (channels.direction_of (1 - side) channel)
  there_in =
      direction_beside m out inward after_end less (less_other side) (apart id side less)
      ∙ ap (option_map (channels.direction_of (1 - side))) there

  abbrev x_in : plain_direction.Direction
  x_in = (plain_of g real_1 k_1 st_1 inward (less_other side) (channels.direction_of (1 - side) channel) there_in).0

  abbrev m_2 : channels.Channels
  m_2 = channels.at_direction real_1.net.channels inward after_stop_reading

  abbrev real_2 : Kernel
  real_2 = with_net real_1 m_2

  abbrev k_2 : PlainKernel
  k_2 = with_direction k_1 inward (without_reader x_in)

  st_2 : Stands g None real_2 k_2
  st_2 = unread_kept g real_1 k_1 st_1 inward (less_other side) (channels.direction_of (1 - side) channel) there_in

  abbrev c_1 : Channel
  c_1 = channels.at_side side after_end channel

  abbrev c_2 : Channel
  c_2 = channels.at_side (1 - side) after_stop_reading c_1

  m_1_is : channels.at_direction m out after_end ≡ map.insert m id c_1
  m_1_is = put_there m id side after_end channel there

  at_1 : map.get real_1.net.channels id ≡ Some c_1
  at_1 = ap (λ n. map.get n id) m_1_is ∙ get_insert_same conn_total conn_exact m id c_1

  m_2_is : m_2 ≡ map.insert m id c_2
  m_2_is =
      put_there real_1.net.channels id (1 - side) after_stop_reading c_1 at_1
      ∙ ap (λ n. map.insert n id c_2) m_1_is ∙ insert_insert conn_total conn_exact m id c_1 c_2

  at_2 : map.get m_2 id ≡ Some c_2
  at_2 = ap (λ n. map.get n id) m_2_is ∙ get_insert_same conn_total conn_exact m id c_2

  -- the plain side
  abbrev found : IsBoth g.conns k.channels id channel
  found = both g.conns k.channels m st.channels id channel there

  abbrev seen_now : plain.Channel
  seen_now = seen_channel channel found.conn

  at_out : map.get k.directions out ≡ Some x_out
  at_out = (plain_of g real k st out less (channels.direction_of side channel) there_out).1.0

  at_in : map.get (map.insert k.directions out (with_end x_out)) inward ≡ Some x_in
  at_in = (plain_of g real_1 k_1 st_1 inward (less_other side) (channels.direction_of (1 - side) channel) there_in).1.0

  silenced_is : silenced k.directions id side
      ≡ map.insert (map.insert k.directions out (with_end x_out)) inward (without_reader x_in)
  unfolding silenced
  silenced_is =
      ap (λ o. changed_at (changed_by k.directions out with_end o) inward without_reader) at_out
      ∙ ap (changed_by (map.insert k.directions out (with_end x_out)) inward without_reader) at_in

  marked_is : Stands g None
      (with_net real (map.insert m id (channels.without_end side channel)))
      (record k {
        channels = map.insert k.channels id (with_closed side seen_now);
        directions = silenced k.directions id side;
      })
  marked_is =
      subst (λ (n : channels.Channels). Stands g None (with_net real n) (record k {
        channels = map.insert k.channels id (with_closed side seen_now);
        directions = silenced k.directions id side;
      }))
      (ap (λ n. map.insert n id (channels.without_end side channel)) m_2_is
      ∙ insert_insert conn_total conn_exact m id c_2 (channels.without_end side channel))
      (subst (λ (ds : Directions). Stands g None (with_net real (map.insert m_2 id (channels.without_end side channel)))
      (record k {
        channels = map.insert k.channels id (with_closed side seen_now);
        directions = ds;
      })) (sym silenced_is)
      (subst (λ (ends : List Bool). Stands g None
      (with_net real (map.insert m_2 id (channels.without_end side channel)))
      (record k_2 {
        channels = map.insert k.channels id
            (with_closed side (seen_channel (record c_2 { open_ends = ends }) found.conn));
      })) (same_ends side channel)
      (end_marked g real_2 k_2 st_2 id side less c_2 at_2 (silent_end side channel less) found.conn found.listed)))

  -- whether the other end is open
  abbrev other : Bool
  other = (end_of seen_now (1 - side)).is_open

  other_by : (s : ℕ) → s < 2 → (end_of seen_now (1 - s)).is_open ≡ slice_index_or channel.open_ends (1 - s) false
  other_by zero h = refl
  other_by (suc zero) h = refl
  other_by (suc (suc n)) h = absurd (never n h)
    where
      never : (n : ℕ) → suc (suc n) < 2 → ⊥
      never n h = omega (arith, h)

  other_is : channels.is_open (channels.without_end side channel) ≡ other
  other_is =
      ap (λ (ends : List Bool). any_open (slice_set ends side false)) (same_ends side channel)
      ∙ other_open channel.open_ends side found.two less ∙ sym (other_by side less)

  abbrev closed_net : Bool → channels.Channels
  closed_net b = cond b (map.insert m id (channels.without_end side channel)) (map.remove m id)

  abbrev closed_virt : Bool → Channels
  closed_virt b = cond b (map.insert k.channels id (with_closed side seen_now)) (map.remove k.channels id)

  abbrev closed_dirs : Bool → Directions
  closed_dirs b =
      cond b (silenced k.directions id side) (map.remove (map.remove k.directions (dir id 0)) (dir id 1))

  by_other : (b : Bool) → Stands g None (with_net real (closed_net b))
      (record k { channels = closed_virt b; directions = closed_dirs b })
  by_other true = marked_is
  by_other false = channel_gone g real k st id

  close_is : close_side k id side ≡ record k { channels = closed_virt other; directions = closed_dirs other }
  unfolding closed_channels closed_directions
  close_is = ap (λ o. record k {
    channels = closed_channels_by k.channels id side o;
    directions = closed_directions_by k.directions id side o;
  }) found.seen

  net_is : channels.after_close side m id ≡ closed_net other
  net_is =
      ap (λ o. channels.put_back m id (option_map (channels.without_end side) o)) there ∙ ap closed_net other_is

  pub end_there : Stands g None (with_net real (channels.after_close side m id)) (close_side k id side)
  end_there =
      subst (λ (n : channels.Channels). Stands g None (with_net real n) (close_side k id side)) (sym net_is)
      (subst (λ (q : PlainKernel). Stands g None (with_net real (closed_net other)) q) (sym close_is)
      (by_other other))

module _ (g : Given) (real : Kernel) (k : PlainKernel) (st : Stands g None real k) (id : ConnId) (side : ℕ)
    (less : side < 2) where
  none_there : map.get real.net.channels id ≡ None → close_side k id side ≡ k
  unfolding closed_channels closed_directions
  none_there none =
      ap (λ o. record k {
        channels = closed_channels_by k.channels id side o;
        directions = closed_directions_by k.directions id side o;
      })
      (st.channels.each id
      ∙ ap (option_and_then (λ channel. option_map (seen_channel channel) (map.get g.conns id))) none)

  by_found : (o : Option Channel) → map.get real.net.channels id ≡ o
      → Stands g None (with_net real (channels.after_close side real.net.channels id)) (close_side k id side)
  by_found None is =
      subst (λ (n : channels.Channels). Stands g None (with_net real n) (close_side k id side))
      (sym (ap (λ o. channels.put_back real.net.channels id (option_map (channels.without_end side) o)) is))
      (subst (λ (q : PlainKernel). Stands g None real q) (sym (none_there is)) st)
  by_found (Some channel) is = end_there g real k st id side less channel is

  pub end_closed : Stands g None (with_net real (channels.after_close side real.net.channels id)) (close_side k id side)
  end_closed = by_found (map.get real.net.channels id) refl

pub ends_closed : (g : Given) (real : Kernel) (k : PlainKernel) → Stands g None real k → (queue : List ConnId)
    → Stands g None (with_net real (channels.after_closes 1 real.net.channels queue)) (close_pending k queue)
unfolding pending_channels pending_directions
ends_closed g real k st [] = st
ends_closed g real k st (id ∷ rest) =
    ends_closed g (with_net real (channels.after_close 1 real.net.channels id)) (close_side k id 1)
    (end_closed g real k st id 1 (omega arith)) rest
