-- The channels of an image, with their directions, are in order in its kernel part.
--     sent, sending      a direction is that of a side
--     channels_are      the topic
use Rattle.std.proofs.Common.{◌≡◌, ℕ, ◌-◌, ◌&&◌, ◌||◌, ◌<◌, ◌≤◌, true, false, [], ◌∷◌, map as each, refl, sym, ap, subst, ◌∙◌, ⊎_elim, arith, lit<}
use Rattle.std.specs.Prelude.{Some, is_some, nat_lt}
use Rattle.std.specs.FinMap as map
use Rattle.std.proofs.lemmas.List.{length-map}
use Rattle.sys_abi.specs.declared.identity.ConnId.{ConnId}
use Rattle.sys_abi.specs.declared.identity.Dir.{Dir}
use Rattle.sys_abi.proofs.OrderLaws.{conn_total, conn_exact, dir_total, dir_exact}
use Rattle.plain_machine.specs.declared.kernel.PlainKernel.{PlainKernel}
use Rattle.plain_tables.specs.declared.channel.Channel.{Channel}
use Rattle.plain_tables.specs.declared.channel.ChannelKind.TheVariants.{Pipe}
use Rattle.plain_tables.specs.declared.channel.Direction.{Direction}
use Rattle.plain_tables.specs.Objects.{dir, end_of}
use Rattle.plain_tables.specs.Valid.Channels.{AreChannels, IsDirection, IsClosed, HasAddress}
use Rattle.plain_tables.proofs.Entries.{found_at}
use Rattle.shared_items.specs.declared.shared.ChannelImage.{ChannelImage}
use Rattle.shared_items.specs.declared.shared.Shared.{Shared}
use Rattle.image_codec.specs.KernelParts.{kernel_of, channel_entry, channel_end, direction_entry}
use Rattle.shared_items.specs.SharedFits.{IsShared}
use Rattle.shared_items.specs.Sides.{is_side_named}
use Rattle.shared_items.specs.WholeShared as whole
use Rattle.image_codec.proofs.Listings.{len_made}
use Rattle.image_codec.proofs.Items.{IsItem, first_or_later, nothing_in}
use Rattle.image_codec.proofs.KernelItems.{IsInOrder, channel_item, item_channel, direction_item, first_direction, second_direction}
use Rattle.image_codec.proofs.OrderedItems.{in_order}
use Rattle.image_codec.proofs.ImageSides.{IsSide, AreSides, sides_are, which_side}
use Rattle.image_codec.proofs.TestFacts.{and_true, both_ways, is_below, below}

other_side : (side : ℕ) → side < 2 → 1 - side < 2
other_side side below = omega (arith, below)

-- an end of the channel of an image
pub end_is : (s : Shared) (it : ChannelImage) (side : ℕ) → side < 2 → end_of (channel_entry s.descriptions it).1 side ≡ channel_end s.descriptions it.id side (whole.side_of it side)
end_is s it side below = ⊎_elim
    (λ (at : side ≡ 0). subst (λ n. end_of (channel_entry s.descriptions it).1 n ≡ channel_end s.descriptions it.id n (whole.side_of it n)) (sym at) refl)
    (λ (at : side ≡ 1). subst (λ n. end_of (channel_entry s.descriptions it).1 n ≡ channel_end s.descriptions it.id n (whole.side_of it n)) (sym at) refl)
    (which_side side below)

-- a direction, with the side of an image that sends there
pub record IsSent (s : Shared) (at : Dir) (direction : Direction) : Type 0 where
  pub it : ChannelImage
  pub there : IsItem s.channels it
  pub conn : it.id ≡ at.conn
  pub below : at.side < 2
  pub value : (direction_entry it.id at.side (whole.side_of it at.side)).1 ≡ direction

sent_at : (s : Shared) (it : ChannelImage) → IsItem s.channels it → (side : ℕ) → side < 2 → (at : Dir) (direction : Direction) → direction_entry it.id side (whole.side_of it side) ≡ (at, direction) → IsSent s at direction
sent_at s it there side below at direction same =
    let key : dir it.id side ≡ at = ap (λ (e : Dir × Direction). e.0) same in
    let value : (direction_entry it.id side (whole.side_of it side)).1 ≡ direction = ap (λ (e : Dir × Direction). e.1) same in
    let sides : side ≡ at.side = ap (λ (d : Dir). d.side) key in
    record {
      it = it;
      there = there;
      conn = ap (λ (d : Dir). d.conn) key;
      below = subst (λ n. n < 2) sides below;
      value = subst (λ n. (direction_entry it.id n (whole.side_of it n)).1 ≡ direction) sides value;
    }

module _ (s : Shared) (order : IsInOrder s) where
  abbrev k : PlainKernel
  k = kernel_of s

  pub sent : (at : Dir) (direction : Direction) → map.get k.directions at ≡ Some direction → IsSent s at direction
  sent at direction found =
      let (it, there, in_it) = direction_item s at direction found in
      ⊎_elim
      (λ same. sent_at s it there 0 (lit< tt) at direction same)
      (λ later. ⊎_elim
      (λ same. sent_at s it there 1 (lit< tt) at direction same)
      (λ none. absurd (nothing_in (at, direction) none))
      (first_or_later (direction_entry it.id 1 it.second) (at, direction) [] later))
      (first_or_later (direction_entry it.id 0 it.first) (at, direction) (direction_entry it.id 1 it.second ∷ []) in_it)

  pub sending : (it : ChannelImage) (side : ℕ) → IsItem s.channels it → side < 2 → map.get k.directions (dir it.id side) ≡ Some (direction_entry it.id side (whole.side_of it side)).1
  sending it side there below = ⊎_elim
      (λ (at : side ≡ 0). subst (λ n. map.get k.directions (dir it.id n) ≡ Some (direction_entry it.id n (whole.side_of it n)).1) (sym at) (first_direction s order it there))
      (λ (at : side ≡ 1). subst (λ n. map.get k.directions (dir it.id n) ≡ Some (direction_entry it.id n (whole.side_of it n)).1) (sym at) (second_direction s order it there))
      (which_side side below)

  -- both directions of each channel, and no others
  sides : (at : Dir) → is_some (map.get k.directions at) ≡ (nat_lt at.side 2 && is_some (map.get k.channels at.conn))
  sides at = both_ways (is_some (map.get k.directions at)) (nat_lt at.side 2 && is_some (map.get k.channels at.conn))
      (λ some.
      let (direction, found) = found_at dir_total dir_exact k.directions at some in
      let from = sent at direction found in
      let channel : is_some (map.get k.channels at.conn) ≡ true = subst (λ conn. is_some (map.get k.channels conn) ≡ true) from.conn (ap is_some (item_channel s order from.it from.there)) in
      let below = is_below at.side 2 from.below in
      λ i. below i && channel i)
      (λ some.
      let (low, channel) = and_true (nat_lt at.side 2) (is_some (map.get k.channels at.conn)) some in
      let (value, found) = found_at conn_total conn_exact k.channels at.conn channel in
      let (it, there, same) = channel_item s at.conn value found in
      let conn : it.id ≡ at.conn = ap (λ (e : ConnId × Channel). e.0) same in
      subst (λ c. is_some (map.get k.directions (dir c at.side)) ≡ true) conn (ap is_some (sending it at.side there (below at.side 2 low))))

  module _ (are : AreSides s) where
    side_is : (it : ChannelImage) (side : ℕ) → IsItem s.channels it → side < 2 → IsSide it.kind side (whole.side_of it side)
    side_is it side there below = ⊎_elim
        (λ (at : side ≡ 0). subst (λ n. IsSide it.kind n (whole.side_of it n)) (sym at) (are.first it there))
        (λ (at : side ≡ 1). subst (λ n. IsSide it.kind n (whole.side_of it n)) (sym at) (are.second it there))
        (which_side side below)

    direction_is : (at : Dir) (direction : Direction) → map.get k.directions at ≡ Some direction → IsDirection direction
    direction_is at direction found =
        let from = sent at direction found in
        let side = side_is from.it at.side from.there from.below in
        subst IsDirection from.value (record { arrived = omega arith; size = side.size; bytes = side.bytes; unread = side.unread })

    pipe_is : (conn : ConnId) (channel : Channel) (direction : Direction) → map.get k.channels conn ≡ Some channel → channel.kind ≡ Pipe
        → map.get k.directions (dir conn 1) ≡ Some direction → direction.left ≡ []
    pipe_is conn channel direction there pipe found =
        let (it, at, same) = channel_item s conn channel there in
        let from = sent (dir conn 1) direction found in
        let known : Some (channel_entry s.descriptions from.it).1 ≡ Some channel = sym (item_channel s order from.it from.there) ∙ ap (map.get k.channels) from.conn ∙ there in
        let value : (channel_entry s.descriptions from.it).1 ≡ channel = cc in
        let kind : from.it.kind ≡ Pipe = ap (λ (c : Channel). c.kind) value ∙ pipe in
        ap (λ (d : Direction). d.left) (sym from.value) ∙ (are.second from.it from.there).pipe kind refl

    closed_is : (conn : ConnId) (side : ℕ) (channel : Channel) → map.get k.channels conn ≡ Some channel → side < 2 → (end_of channel side).is_open ≡ false
        → IsClosed (map.get k.directions (dir conn side)) (map.get k.directions (dir conn (1 - side)))
    closed_is conn side channel there below shut =
        let (it, at, same) = channel_item s conn channel there in
        let key : it.id ≡ conn = ap (λ (e : ConnId × Channel). e.0) same in
        let value : (channel_entry s.descriptions it).1 ≡ channel = ap (λ (e : ConnId × Channel). e.1) same in
        let unnamed : is_side_named s.descriptions it.id side ≡ false = ap (λ e. e.is_open) (sym (end_is s it side below)) ∙ ap (λ (c : Channel). (end_of c side).is_open) value ∙ shut in
        let out = sending it side at below in
        let inward = sending it (1 - side) at (other_side side below) in
        subst (λ c. IsClosed (map.get k.directions (dir c side)) (map.get k.directions (dir c (1 - side)))) key
        (record {
          ended = λ direction found.
              let both : Some (direction_entry it.id side (whole.side_of it side)).1 ≡ Some direction = sym out ∙ found in
              let one : (direction_entry it.id side (whole.side_of it side)).1 ≡ direction = cc in
              ap (λ (d : Direction). d.ended) (sym one) ∙ are.ended it side at below unnamed;
          unread = λ direction found.
              let both : Some (direction_entry it.id (1 - side) (whole.side_of it (1 - side))).1 ≡ Some direction = sym inward ∙ found in
              let one : (direction_entry it.id (1 - side) (whole.side_of it (1 - side))).1 ≡ direction = cc in
              ap (λ (d : Direction). d.unread) (sym one) ∙ are.unread it side at below unnamed;
        })

    channel_count : map.len k.channels ≤ 256
    unfolding kernel_of
    channel_count =
        let made = len_made conn_total conn_exact (each (channel_entry s.descriptions) s.channels) in
        let same = length-map s.channels (channel_entry s.descriptions) in
        let few = are.count in
        omega (arith, made, same, few)

    channels_of : AreChannels k.channels k.directions
    channels_of = record {
      count = channel_count;
      sides = sides;
      addresses = λ conn channel found.
          let (it, at, same) = channel_item s conn channel found in
          let value : (channel_entry s.descriptions it).1 ≡ channel = ap (λ (e : ConnId × Channel). e.1) same in
          subst (λ (c : Channel). HasAddress c.kind c.first.address × HasAddress c.kind c.second.address) value ((are.first it at).address, (are.second it at).address);
      open_end = λ conn channel found.
          let (it, at, same) = channel_item s conn channel found in
          let value : (channel_entry s.descriptions it).1 ≡ channel = ap (λ (e : ConnId × Channel). e.1) same in
          subst (λ (c : Channel). (c.first.is_open || c.second.is_open) ≡ true) value (are.named it at);
      each = direction_is;
      pipes = pipe_is;
      closed = closed_is;
    }

pub channels_are : (s : Shared) → IsShared s → AreChannels (kernel_of s).channels (kernel_of s).directions
channels_are s is = channels_of s (in_order s is.fields) (sides_are s is)
