-- Bytes arrive: they pass from the sender's queue to the wire, and from there to the receiver's queue.
--     passed n y             a direction after that
--     count_passed           so many bytes have arrived
--     arrived_wrapped        the system then stands for the kernel part in which they have
use Rattle.std.proofs.Common.{◌≡◌, ℕ, ◌+◌, ◌-◌, ◌<◌, ◌≤◌, length, take, refl, sym, ap, ◌∙◌, subst, arith}
use Rattle.std.specs.Prelude.{Option, Some, None, min, option_map}
use Rattle.std.specs.FinMap as map
use Rattle.std.specs.Option.{option_map_or}
use Rattle.std.proofs.lemmas.List.{length-append, length-take}
use Rattle.std.proofs.lemmas.Option.{none-some}
use Rattle.views.specs.Seen.{Agree}
use Rattle.sys_abi.specs.declared.identity.Dir.{Dir}
use Rattle.plain_tables.specs.declared.channel.Direction.{Direction}
use Rattle.plain_machine.specs.declared.kernel.PlainKernel.{PlainKernel}
use Rattle.plain_machine.specs.Channels.{with_direction, arrived_more}
use Rattle.plain_machine.specs.Kernels.{IsKernel}
use Rattle.plain_machine.proofs.WholeChanges.{whole_arrival}
use Rattle.wire_channels.specs.Answers.{bytes_on}
use Rattle.wire_channels.specs.Directions.{Direction as RealDirection, after_move}
use Rattle.wire_channels.specs.declared.place.Place.TheVariants.{Send, Wire}
use Rattle.wire_channels.specs.Channels as channels
use Rattle.wire_channels.specs.Channels.{Channels, direction_at, at_direction}
use Rattle.wire_channels.specs.declared.channel.Channel.{Channel}
use Rattle.wire_channels.proofs.OneDirection.{changed_twice, direction_changed}
use Rattle.wire_net.specs.Networks.{Network}
use Rattle.wire_net.specs.Whereabouts.{stream}
use Rattle.wire_net.proofs.Streams.{stream-move}
use Rattle.host_tables.specs.declared.kernel.Kernel.{Kernel}
use Rattle.host_tables.specs.declared.system.System.{System}
use Rattle.host_tables.specs.Network.{SameDirection}
use Rattle.host_tables.specs.Stands.{Given, Stands}
use Rattle.host_tables.specs.Systems.{given_of}
use Rattle.host_tables.proofs.DirectionChanges.{KeepsSilence, direction_put, left_alone}
use Rattle.wrap_passing.specs.OfWrapNames.Changes.{missing_in, arrived_in, after_arrival}
use Rattle.wrap_passing.specs.OfWrapNames.Wrapping.{IsWrapped}
use Rattle.wrap_passing.proofs.OfWrapNames.Keeps.{others}
use Rattle.wrap_passing.proofs.OfWrapNames.Kept.{kept_wrapped}
use Rattle.wrap_calls.proofs.MissingBytes.{on_way}

abbrev pub passed : ℕ → RealDirection → RealDirection
passed n y = after_move Wire n (after_move Send n y)

silent : (n : ℕ) → KeepsSilence (passed n)
silent n = record { ended = λ y h. h; unread = λ y h. h }

-- what was on the wire, and what was moved there
moved_on : (n sent wire : ℕ) → min n (wire + min n sent) ≡ min n (sent + wire)
moved_on n sent wire = grind arith

on_wire : (n : ℕ) (y : RealDirection)
    → length (after_move Send n y).wire ≡ length y.wire + min n (length y.sent)
on_wire n y =
    length-append y.wire (take n y.sent) ∙ ap (λ m. length y.wire + m) (length-take n y.sent)

pub count_moved : (n : ℕ) (x : Direction) (y : RealDirection) → x.left ≡ stream y
    → x.arrived ≡ length y.received
    → min n (length (after_move Send n y).wire) ≡ min n (length x.left - x.arrived)
count_moved n x y left arrived =
    ap (min n) (on_wire n y) ∙ moved_on n (length y.sent) (length y.wire)
    ∙ ap (min n) (sym (on_way x y left arrived))

received_more : (n : ℕ) (y : RealDirection)
    → length (passed n y).received ≡ length y.received + min n (length (after_move Send n y).wire)
received_more n y =
    length-append y.received (take n (after_move Send n y).wire)
    ∙ ap (λ m. length y.received + m) (length-take n (after_move Send n y).wire)

same_bytes : (n : ℕ) (y : RealDirection) → stream y ≡ stream (passed n y)
same_bytes n y = sym (stream-move Wire n (after_move Send n y) ∙ stream-move Send n y)

no_more : (n left arrived : ℕ) → arrived ≤ left → arrived + min n (left - arrived) ≤ left
no_more n left arrived h = grind (arith, h)

abbrev pub moved_net : Network → Dir → ℕ → Network
moved_net t d n = record t { channels = at_direction t.channels d (passed n) }

abbrev pub moved_kernel : Kernel → Dir → ℕ → Kernel
moved_kernel real d n = record real { net = moved_net real.net d n }

abbrev pub moved_system : System → Dir → ℕ → System
moved_system s d n = record s { kernel = moved_kernel s.kernel d n }

abbrev with_channels : System → Channels → System
with_channels s c = record s { kernel = record s.kernel { net = record s.kernel.net { channels = c } } }

-- the second of two moves
pub count_by : (m : Channels) (d : Dir) (n : ℕ) (q : Option RealDirection) → direction_at m d ≡ q
    → min n (length (bytes_on Wire (direction_at (at_direction m d (after_move Send n)) d)))
    ≡ min n (length (bytes_on Wire (option_map (after_move Send n) q)))
count_by m d n q is =
    ap (λ o. min n (length (bytes_on Wire o)))
    (direction_changed m d (after_move Send n) ∙ ap (option_map (after_move Send n)) is)

module _ (s : System) (next_id : ℕ) (k : PlainKernel) (w : IsWrapped s next_id k) (d : Dir)
    (less : d.side < 2)
    (n : ℕ) where
  abbrev g : Given
  g = given_of s

  abbrev st : Stands g None s.kernel k
  st = w.stands.tables

  abbrev Same : Direction → RealDirection → Type 0
  Same = SameDirection s.kernel.net None d

  abbrev told : ℕ
  told =
      min n
      (length (bytes_on Wire (direction_at (at_direction s.kernel.net.channels d (after_move Send n)) d)))

  count_found : (o : Option Direction) (q : Option RealDirection) → direction_at s.kernel.net.channels d ≡ q
      → Agree Same o q → min n (length (bytes_on Wire (option_map (after_move Send n) q)))
      ≡ min n (missing_in o)
  count_found None None is same = refl
  count_found None (Some y) is same = absurd same
  count_found (Some x) None is same = absurd same
  count_found (Some x) (Some y) is same =
      count_moved n x y (left_alone s.kernel.net d x y is same) same.arrived

  pub count_passed : told ≡ min n (missing_in (map.get k.directions d))
  count_passed =
      count_by s.kernel.net.channels d n (direction_at s.kernel.net.channels d) refl
      ∙ count_found (map.get k.directions d) (direction_at s.kernel.net.channels d) refl
      (st.directions.at d less)

  module _ (x : Direction) (is : map.get k.directions d ≡ Some x) (y : RealDirection)
      (there : direction_at s.kernel.net.channels d ≡ Some y) (same : Same x y) where
    abbrev more : ℕ
    more = min n (length x.left - x.arrived)

    left : x.left ≡ stream y
    left = left_alone s.kernel.net d x y there same

    put : Stands g None (moved_kernel s.kernel d n) (with_direction k d (arrived_more more x))
    put =
        direction_put g s.kernel k st d less (passed n) (silent n) (arrived_more more x) y there
        (record {
          left = left ∙ same_bytes n y;
          arrived = (λ i. same.arrived i + sym (count_moved n x y left same.arrived) i)
              ∙ sym (received_more n y);
          ended = same.ended;
          unread = same.unread;
        })

    whole : IsKernel (with_direction k d (arrived_more more x))
    whole =
        whole_arrival k d x more w.stands.kernel is
        (no_more n (length x.left) x.arrived (w.stands.kernel.channels.each d x is).arrived)

    put_wrapped : IsWrapped (moved_system s d n) next_id (with_direction k d (arrived_more more x))
    put_wrapped =
        let keeps = others k k.descriptors k.names k.files
        (map.insert k.directions d (arrived_more more x)) k.inboxes in
        kept_wrapped s next_id k w (moved_system s d n) (with_direction k d (arrived_more more x))
        (record { ids = refl; conns = refl; names = refl; stands = put }) keeps.tables
        (keeps.makers ∙ w.stands.exact.makers) whole

  -- no such direction: nothing is moved
  unmoved : (m : Channels) (o : Option Channel) → map.get m d.conn ≡ o
      → option_map (channels.direction_of d.side) o ≡ None → at_direction m d (passed n) ≡ m
  unmoved m None is none =
      ap (λ o. option_map_or (λ c. map.insert m d.conn (channels.at_side d.side (passed n) c)) o m) is
  unmoved m (Some c) is none = absurd (none-some (channels.direction_of d.side c) (sym none))

  arrived_by : (o : Option Direction) (q : Option RealDirection) → map.get k.directions d ≡ o
      → direction_at s.kernel.net.channels d ≡ q → Agree Same o q
      → IsWrapped (moved_system s d n) next_id (arrived_in k d n o)
  arrived_by None None is there same =
      subst (λ c. IsWrapped (with_channels s c) next_id k)
      (sym (unmoved s.kernel.net.channels (map.get s.kernel.net.channels d.conn) refl there)) w
  arrived_by None (Some y) is there same = absurd same
  arrived_by (Some x) None is there same = absurd same
  arrived_by (Some x) (Some y) is there same = put_wrapped x is y there same

  pub arrived_wrapped : IsWrapped (moved_system s d n) next_id (after_arrival k d n)
  unfolding after_arrival
  arrived_wrapped =
      arrived_by (map.get k.directions d) (direction_at s.kernel.net.channels d) refl refl
      (st.directions.at d less)

-- two moves, one after the other
pub two_moves : (t t' t'' : Network) (d : Dir) (n : ℕ)
    → t' ≡ record t { channels = at_direction t.channels d (after_move Send n) }
    → t'' ≡ record t' { channels = at_direction t'.channels d (after_move Wire n) } → t'' ≡ moved_net t d n
two_moves t t' t'' d n first second =
    second
    ∙ ap (λ (u : Network). record u { channels = at_direction u.channels d (after_move Wire n) }) first
    ∙ ap (λ (c : Channels). record t { channels = c })
    (changed_twice t.channels d (after_move Send n) (after_move Wire n))
