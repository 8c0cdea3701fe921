-- The channels of a valid kernel part fit the fields of the shared image.
--     channel_fits      each of them, after those before it
use Rattle.std.proofs.Common.{◌≡◌, ℕ, ◌+◌, ◌*◌, ◌<◌, ◌≤◌, ◌^◌, ◌==◌, ◌&&◌, ◌||◌, Bool, true, false, List, [], length, map as each, inl, inr, refl, sym, ap, subst, ◌∙◌, arith, lit<}
use Rattle.std.specs.Prelude.{not, nat_le, nat_lt, Option, Some, None, is_some, option_map}
use Rattle.std.specs.FinMap as map
use Rattle.std.proofs.lemmas.List.{length-map}
use Rattle.views.proofs.MapLaws.{true_false}
use Rattle.sys_abi.specs.declared.identity.ConnId.{ConnId}
use Rattle.sys_abi.specs.declared.identity.VirtAddr.{VirtAddr}
use Rattle.sys_abi.proofs.OrderLaws.{conn_total, conn_exact}
use Rattle.plain_machine.specs.declared.kernel.PlainKernel.{PlainKernel}
use Rattle.plain_machine.specs.Kernels.{IsKernel}
use Rattle.plain_tables.specs.declared.channel.Channel.{Channel}
use Rattle.plain_tables.specs.declared.channel.ChannelKind.{ChannelKind}
use Rattle.plain_tables.specs.declared.channel.ChannelKind.TheVariants.{Pair, Internet, Pipe}
use Rattle.plain_tables.specs.declared.channel.Direction.{Direction}
use Rattle.plain_tables.specs.Objects.{dir}
use Rattle.plain_tables.specs.Valid.Channels.{IsDirection, HasAddress}
use Rattle.shared_items.specs.declared.shared.ChannelImage.{ChannelImage}
use Rattle.shared_items.specs.SharedTests as field
use Rattle.shared_items.specs.SharedFits.{FitsNumber, SideFits, ChannelFits, flag, number_of_kind, host_number, port_number}
use Rattle.image_format.specs.Fields.{last_item}
use Rattle.image_codec.specs.KernelImages.{channel_image, side_image}
use Rattle.image_codec.proofs.ChannelsBack.{has_side}
use Rattle.image_codec.proofs.FittingFiles.{bytes_fit}
use Rattle.image_codec.proofs.Listings.{IsSplit, IsBefore, IsLast, last_before}
use Rattle.image_codec.proofs.TestFacts.{and_true, both_true, or_later, is_below, is_at_most, pair_after}

-- what is left in a direction
left_fits : (direction : Direction) → IsDirection direction → (kind side : ℕ) → (((kind == 2) && (side == 1)) ≡ true → direction.left ≡ [])
    → FitsNumber (field.is_left_count kind side (flag direction.ended + 2 * flag direction.unread)) (length direction.left)
left_fits direction is kind side quiet =
    let few = is.size in
    (omega (arith, few), both_true (nat_le (length direction.left) 65536) _ (is_at_most (length direction.left) 65536 few) (by_cases direction.unread ((kind == 2) && (side == 1)) is.unread quiet))
  where
    may_write : (ended : Bool) → (nat_lt (flag ended + 2 * flag false) 2 && not false) ≡ true
    may_write true = refl
    may_write false = refl

    by_cases : (unread pipe : Bool) → (unread ≡ true → direction.left ≡ []) → (pipe ≡ true → direction.left ≡ [])
        → ((length direction.left == 0) || (nat_lt (flag direction.ended + 2 * flag unread) 2 && not pipe)) ≡ true
    by_cases true pipe none empty = ap (λ (left : List ℕ). (length left == 0) || (nat_lt (flag direction.ended + 2 * flag true) 2 && not pipe)) (none refl)
    by_cases false true none empty = ap (λ (left : List ℕ). (length left == 0) || (nat_lt (flag direction.ended + 2 * flag false) 2 && not true)) (empty refl)
    by_cases false false none empty = or_later (length direction.left == 0) _ (may_write direction.ended)

-- an address
host_fits : (kind : ChannelKind) (address : Option VirtAddr) → HasAddress kind address → FitsNumber (field.is_side_host (number_of_kind kind)) (host_number address)
host_fits Internet (Some address) has = let small = has.0 in (omega (arith, small), is_below address.host 16 small)
host_fits Internet None has = absurd has
host_fits Pair None has = (lit< tt, refl)
host_fits Pair (Some address) has = absurd has
host_fits Pipe None has = (lit< tt, refl)
host_fits Pipe (Some address) has = absurd has

port_fits : (kind : ChannelKind) (address : Option VirtAddr) → HasAddress kind address → FitsNumber (field.is_side_port (number_of_kind kind)) (port_number address)
port_fits Internet (Some address) has =
    let small = has.1 in
    let most : address.port ≤ 65535 = omega (arith, small) in
    (omega (arith, small), is_at_most address.port 65535 most)
port_fits Internet None has = absurd has
port_fits Pair None has = (lit< tt, refl)
port_fits Pair (Some address) has = absurd has
port_fits Pipe None has = (lit< tt, refl)
port_fits Pipe (Some address) has = absurd has

has_address : (kind : ChannelKind) (address : Option VirtAddr) → HasAddress kind address → is_some address ≡ (number_of_kind kind == 1)
has_address Internet (Some address) has = refl
has_address Internet None has = absurd has
has_address Pair None has = refl
has_address Pair (Some address) has = absurd has
has_address Pipe None has = refl
has_address Pipe (Some address) has = absurd has

pipe_is : (kind : ChannelKind) → (number_of_kind kind == 2) ≡ true → kind ≡ Pipe
pipe_is Pair is = absurd cc
pipe_is Internet is = absurd cc
pipe_is Pipe is = refl

module _ (k : PlainKernel) (is : IsKernel k) where
  pub channel_count_fits : FitsNumber field.is_channel_count (length (each (channel_image k.directions) (map.entries k.channels)))
  channel_count_fits =
      let same : length (each (channel_image k.directions) (map.entries k.channels)) ≡ map.len k.channels = length-map (map.entries k.channels) (channel_image k.directions) ∙ sym (map.len-entries k.channels) in
      let few : map.len k.channels ≤ 256 = is.channels.count in
      let fits : length (each (channel_image k.directions) (map.entries k.channels)) ≤ 256 = omega (arith, same, few) in
      (omega (arith, fits), is_at_most (length (each (channel_image k.directions) (map.entries k.channels))) 256 fits)

  -- the pair of a channel is above the one before
  abbrev pair : ChannelImage → ℕ × ℕ
  pair c = (c.id.pid.0, c.id.num)

  abbrev IsNext : ConnId → Option ChannelImage → Type 0
  IsNext conn last = (field.is_maker_after (option_map pair last) conn.pid.0 ≡ true) × (field.is_number_after (option_map pair last) conn.pid.0 conn.num ≡ true)

  next_by_last : (conn : ConnId) (last : Option ChannelImage) → IsLast conn_total conn_exact (channel_image k.directions) (IsBefore conn_total conn_exact k.channels conn) last → IsNext conn last
  next_by_last conn last (inl none) = subst (IsNext conn) (sym none) (refl, refl)
  next_by_last conn last (inr (q, v, some, before)) = subst (IsNext conn) (sym some) (pair_after q.pid.0 q.num conn.pid.0 conn.num before.1)

  module _ (conn : ConnId) (channel : Channel) (xs : List (ConnId × Channel)) (split : IsSplit conn_total conn_exact k.channels xs (conn, channel)) where
    abbrev front : List ChannelImage
    front = each (channel_image k.directions) xs

    next : IsNext conn (last_item front)
    next = next_by_last conn (last_item front) (last_before conn_total conn_exact (channel_image k.directions) (IsBefore conn_total conn_exact k.channels conn) xs split.before)

    maker_fits : FitsNumber (field.is_maker k.next_id (field.last_channel front)) conn.pid.0
    maker_fits =
        let known : conn.pid.0 < k.next_id = (is.made.joined conn channel split.found).known in
        let last : k.next_id < 2 ^ 31 = is.numbers.last_id in
        (omega (arith, last, known), both_true (field.is_maker_after (field.last_channel front) conn.pid.0) _ next.0 (is_below conn.pid.0 k.next_id known))

    number_fits : FitsNumber (field.is_number_after (field.last_channel front) conn.pid.0) conn.num
    number_fits = let word = (is.made.joined conn channel split.found).word in (word, next.1)

    -- each side, with its direction
    side_fits : (side : ℕ) (address : Option VirtAddr) → nat_lt side 2 ≡ true → HasAddress channel.kind address
        → ((direction : Direction) → map.get k.directions (dir conn side) ≡ Some direction → ((number_of_kind channel.kind == 2) && (side == 1)) ≡ true → direction.left ≡ [])
        → SideFits (number_of_kind channel.kind) side (side_image (map.get k.directions (dir conn side)) address)
    side_fits side address below has quiet =
        by_found (map.get k.directions (dir conn side)) refl (has_side k is conn channel side split.found below)
      where
        by_found : (found : Option Direction) → map.get k.directions (dir conn side) ≡ found → is_some found ≡ true → SideFits (number_of_kind channel.kind) side (side_image found address)
        by_found None known some = true_false (sym some)
        by_found (Some direction) known some =
            let fits = is.channels.each (dir conn side) direction known in
            record {
              size = left_fits direction fits (number_of_kind channel.kind) side (quiet direction known);
              left = bytes_fit direction.left fits.bytes;
              has_address = has_address channel.kind address has;
              host = host_fits channel.kind address has;
              port = port_fits channel.kind address has;
            }

    none_at_first : (b : Bool) → (b && false) ≡ true → ⊥
    none_at_first true same = true_false (sym same)
    none_at_first false same = true_false (sym same)

    pub channel_fits : ChannelFits k.next_id front (channel_image k.directions (conn, channel))
    channel_fits =
        let (first, second) = is.channels.addresses conn channel split.found in
        record {
          maker = maker_fits;
          number = number_fits;
          first = side_fits 0 channel.first.address refl first (λ direction known pipe. absurd (none_at_first (number_of_kind channel.kind == 2) pipe));
          second = side_fits 1 channel.second.address refl second (λ direction known pipe.
              is.channels.pipes conn channel direction split.found (pipe_is channel.kind (and_true (number_of_kind channel.kind == 2) true pipe).0) known);
        }
