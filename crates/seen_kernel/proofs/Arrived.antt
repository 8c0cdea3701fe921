-- A system that no stage holds, and all of whose bytes have arrived.
--     whole_already      its kernel part with all bytes arrived is as it is
--     told_unheld        its owners are those of its book, and what can be read of each direction is all of
--                        it
use Rattle.std.proofs.Common.{◌≡◌, ◌<◌, ℕ, true, false, ◌||◌, cond, List, [], ◌∷◌, ◌++◌, length, map as each, append_assoc, refl, sym, ap, ◌∙◌, arith}
use Rattle.std.specs.Prelude.{Option, Some, None, is_some, IsSome, option_map, option_and_then, All}
use Rattle.std.specs.Ordering.{eq_by_cmp}
use Rattle.std.specs.FinMap as map
use Rattle.std.proofs.lemmas.List.Elements.{All-nil, All-cons, All-head, All-tail}
use Rattle.views.specs.Maps.{map_values}
use Rattle.views.proofs.MapLaws.{true_false}
use Rattle.views.proofs.MapValues.{get-map_values}
use Rattle.views.proofs.Seen.{agree_real}
use Rattle.sys_abi.specs.declared.identity.Dir.{Dir}
use Rattle.sys_abi.specs.declared.identity.RealPid.{RealPid}
use Rattle.sys_abi.specs.Orders.{dir_cmp}
use Rattle.sys_abi.proofs.OrderLaws.{dir_total, dir_exact}
use Rattle.fd_tables.specs.declared.description.Desc.{Desc}
use Rattle.plain_tables.specs.declared.channel.Direction as plain
use Rattle.plain_tables.specs.Tables.{Directions}
use Rattle.plain_machine.specs.declared.kernel.PlainKernel.{PlainKernel}
use Rattle.plain_machine.specs.Tests.{all_arrived}
use Rattle.wire_channels.specs.declared.channel.Channel.{Channel}
use Rattle.wire_channels.specs.Answers.{received_on}
use Rattle.wire_channels.specs.Channels.{Channels, direction_of, direction_at}
use Rattle.wire_channels.specs.Directions.{Direction}
use Rattle.wire_net.specs.declared.cut_room.DirBytes.{DirBytes}
use Rattle.wire_net.specs.DrainedNets.{list_on}
use Rattle.wire_net.specs.Networks.{Network}
use Rattle.wire_net.specs.Whereabouts.{stream, stream_on, whereabouts}
use Rattle.wire_net.proofs.Streams.{whereabouts-none}
use Rattle.host_tables.specs.declared.system.System.{System}
use Rattle.host_tables.specs.Network.{SameDirection, SameDirections}
use Rattle.host_tables.specs.Systems.{StandsFor}
use Rattle.leader_vote.specs.Directions.{AreDirs, is_listed}
use Rattle.leader_vote.specs.Owners.{KeepsOwners}
use Rattle.seen_kernel.specs.Descriptions.{HasNoDatagrams}
use Rattle.seen_kernel.specs.Seen.{Owners, IsToldBy, all_in}
use Rattle.seen_kernel.specs.Unheld.{AllArrived, arrived_in}

-- the kernel part

arrived_already : (o : Option plain.Direction)
    → ((x : plain.Direction) → o ≡ Some x → x.arrived ≡ length x.left) → option_map all_arrived o ≡ o
arrived_already None arrived = refl
arrived_already (Some x) arrived =
    ap (λ n. Some (record { left = x.left; arrived = n; ended = x.ended; unread = x.unread }))
    (sym (arrived x refl))

pub whole_already : (k : PlainKernel) → AllArrived k.directions → all_in k ≡ k
whole_already k arrived =
    ap (λ directions. record k { directions = directions })
    (map.same_map dir_total dir_exact (map_values all_arrived k.directions) k.directions (λ d.
    get-map_values all_arrived k.directions d ∙ arrived_already (map.get k.directions d) (arrived d)))

-- bytes

no_more : (xs ys : List ℕ) → length xs ≡ length (xs ++ ys) → xs ≡ xs ++ ys
no_more [] [] same = refl
no_more [] (y ∷ ys) same = absurd (omega (arith, same))
no_more (x ∷ xs) ys same =
    let rest : length xs ≡ length (xs ++ ys) = omega (arith, same) in ap (λ zs. x ∷ zs) (no_more xs ys rest)

all_received : (y : Direction) → length y.received ≡ length (stream y) → y.received ≡ stream y
all_received y same =
    let joined = append_assoc y.received y.wire y.sent in
    no_more y.received (y.wire ++ y.sent) (same ∙ ap (λ (xs : List ℕ). length xs) joined) ∙ sym joined

module _ (t : Network) (virt : Directions) (same : SameDirections t None virt)
    (arrived : AllArrived virt) where
  received_all : (d : Dir) → d.side < 2
      → received_on (direction_at t.channels d) ≡ whereabouts t map.empty d
  received_all d side = by (direction_at t.channels d) refl ∙ sym (whereabouts-none t d)
    where
      by : (found : Option Direction) → direction_at t.channels d ≡ found
          → received_on (direction_at t.channels d) ≡ stream_on (direction_at t.channels d)
      by None at = ap received_on at ∙ sym (ap stream_on at)
      by (Some y) at =
          let x = agree_real (SameDirection t None d) (map.get virt d) (direction_at t.channels d) y
          (same.at d side) at in
          let left = x.1.1.left ∙ whereabouts-none t d ∙ ap stream_on at in
          ap received_on at
          ∙ all_received y (sym x.1.1.arrived ∙ arrived d x.0 x.1.0 ∙ ap (λ (xs : List ℕ). length xs) left)
          ∙ sym (ap stream_on at)

  bytes_of_all : (dirs : List Dir) → All (λ d. d.side < 2) dirs
      → All (λ list. list.bytes ≡ whereabouts t map.empty list.dir) (each (arrived_in t.channels) dirs)
  bytes_of_all [] sides = All-nil (λ (list : DirBytes). list.bytes ≡ whereabouts t map.empty list.dir)
  bytes_of_all (d ∷ dirs) sides =
      All-cons (λ (list : DirBytes). list.bytes ≡ whereabouts t map.empty list.dir)
      (arrived_in t.channels d) (each (arrived_in t.channels) dirs)
      (received_all d (All-head (λ (d : Dir). d.side < 2) d dirs sides))
      (bytes_of_all dirs (All-tail (λ (d : Dir). d.side < 2) d dirs sides))

-- lists

has_list : (m : Channels) (d : Dir) (dirs : List Dir) → is_listed d dirs ≡ true
    → is_some (list_on d (each (arrived_in m) dirs)) ≡ true
has_list m d [] listed = true_false (sym listed)
has_list m d (e ∷ dirs) listed =
    elim (eq_by_cmp dir_cmp e d) as (λ b. (b || is_listed d dirs) ≡ true
    → is_some (cond b (Some (arrived_in m e)) (list_on d (each (arrived_in m) dirs))) ≡ true) [
      | true ↦ λ here. refl
      | false ↦ λ there. has_list m d dirs there
    ] listed

channel_there : (side : ℕ) (o : Option Channel) → IsSome (option_map (direction_of side) o) → IsSome o
channel_there side None none = none
channel_there side (Some channel) some = refl

kept_so : (o : Option (Option RealPid)) (d : Desc) → o ≡ Some d.owner
    → d.owner ≡ option_and_then (λ owner. owner) o
kept_so o d is = sym (ap (option_and_then (λ owner. owner)) is)

pub told_unheld : (s : System) (k : PlainKernel) → StandsFor s None k → AllArrived k.directions
    → HasNoDatagrams k.descriptions → (owners : Owners) → KeepsOwners s.kernel.book owners
    → (dirs : List Dir) → AreDirs s.conns.conns dirs
    → IsToldBy s None owners (each (arrived_in s.kernel.net.channels) dirs) k
told_unheld s k is arrived plain owners kept dirs are = record {
  stands = is;
  plain = plain;
  owners_are = λ id d at.
      kept_so (map.get owners id) d (kept id ∙ ap (option_map (λ (d : Desc). d.owner)) at);
  bytes_are = record {
    whole = λ d side there.
        has_list s.kernel.net.channels d dirs (are.whole d side
        (is.tables.channels.listed d.conn
        (channel_there d.side (map.get s.kernel.net.channels d.conn) there)));
    bytes = bytes_of_all s.kernel.net k.directions is.tables.directions arrived dirs are.sides;
  };
}
