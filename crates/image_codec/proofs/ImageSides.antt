-- What the fields of the sides of an image's channels tell, and the test at the end.
--     IsSide kind side image      of one side
--     AreSides s, sides_are      of all channels of an image that can be spelled
use Rattle.std.proofs.Common.{◌≡◌, ℕ, ◌+◌, ◌-◌, ◌*◌, ◌==◌, ◌&&◌, ◌||◌, ◌<◌, ◌≤◌, ◌^◌, Bool, true, false, List, [], ◌∷◌, length, refl, sym, ap, subst, ◌∙◌, ⊎_elim, arith}
use Rattle.std.specs.Prelude.{◌⊎◌, Option, Some, None, is_some, nat_lt, nat_le, All}
use Rattle.views.proofs.MapLaws.{true_false}
use Rattle.sys_abi.specs.declared.identity.VirtAddr.{VirtAddr}
use Rattle.plain_process.specs.Valid.{IsByte}
use Rattle.plain_tables.specs.declared.channel.ChannelKind.{ChannelKind}
use Rattle.plain_tables.specs.declared.channel.ChannelKind.TheVariants.{Pair, Internet, Pipe}
use Rattle.plain_tables.specs.Valid.Channels.{HasAddress}
use Rattle.shared_items.specs.declared.shared.SideImage.{SideImage}
use Rattle.shared_items.specs.declared.shared.ChannelImage.{ChannelImage}
use Rattle.shared_items.specs.declared.shared.Shared.{Shared}
use Rattle.shared_items.specs.SharedFits.{IsShared, ChannelFits, SideFits, flag, side_flags, number_of_kind, host_number, port_number}
use Rattle.shared_items.specs.SharedTests as field
use Rattle.shared_items.specs.Sides.{is_side_named}
use Rattle.shared_items.specs.WholeShared as whole
use Rattle.image_codec.proofs.Items.{IsItem, item_fits, item_passes}
use Rattle.image_codec.proofs.ItemFacts.{all_items}
use Rattle.image_codec.proofs.ListedProcesses.{ends_of}
use Rattle.image_codec.proofs.TestFacts.{and_true, or_either, equal_numbers, below, at_most}

pub record IsSide (kind : ChannelKind) (side : ℕ) (image : SideImage) : Type 0 where
  pub size : length image.left ≤ 65536
  pub bytes : All IsByte image.left
  pub unread : image.unread ≡ true → image.left ≡ []
  pub pipe : kind ≡ Pipe → side ≡ 1 → image.left ≡ []
  pub address : HasAddress kind image.address

pub record AreSides (s : Shared) : Type 0 where
  pub count : length s.channels ≤ 256
  pub first : (it : ChannelImage) → IsItem s.channels it → IsSide it.kind 0 it.first
  pub second : (it : ChannelImage) → IsItem s.channels it → IsSide it.kind 1 it.second
  pub named : (it : ChannelImage) → IsItem s.channels it → (is_side_named s.descriptions it.id 0 || is_side_named s.descriptions it.id 1) ≡ true
  pub ended : (it : ChannelImage) (side : ℕ) → IsItem s.channels it → side < 2 → is_side_named s.descriptions it.id side ≡ false → (whole.side_of it side).ended ≡ true
  pub unread : (it : ChannelImage) (side : ℕ) → IsItem s.channels it → side < 2 → is_side_named s.descriptions it.id side ≡ false → (whole.side_of it (1 - side)).unread ≡ true

pub which_side : (side : ℕ) → side < 2 → (side ≡ 0) ⊎ (side ≡ 1)
which_side side below = grind (arith)

-- bytes
pub bytes_of : (bytes : List ℕ) → field.are_bytes bytes ≡ true → All IsByte bytes
bytes_of bytes are = all_items IsByte bytes (λ byte at. below byte (2 ^ 8) (item_passes (λ n. nat_lt n (2 ^ 8)) bytes byte are at))

no_bytes : (bytes : List ℕ) → length bytes ≡ 0 → bytes ≡ []
no_bytes [] none = refl
no_bytes (byte ∷ bytes) none = absurd (omega (arith, none))

unless_held : (bytes : List ℕ) (may : Bool) → ((length bytes == 0) || may) ≡ true → may ≡ false → bytes ≡ []
unless_held bytes may is none = ⊎_elim
    (λ empty. no_bytes bytes (equal_numbers (length bytes) 0 empty))
    (λ held. true_false (sym held ∙ none))
    (or_either (length bytes == 0) may is)

unread_holds : (kind side : ℕ) (ended : Bool) → field.may_hold_bytes kind side (flag ended + 2 * flag true) ≡ false
unread_holds kind side true = refl
unread_holds kind side false = refl

pipe_holds : (flags : ℕ) → field.may_hold_bytes 2 1 flags ≡ false
pipe_holds flags = by_test (nat_lt flags 2)
  where
    by_test : (b : Bool) → (b && false) ≡ false
    by_test true = refl
    by_test false = refl

-- an internet connection's sides have addresses
address_is : (kind : ChannelKind) (address : Option VirtAddr) → is_some address ≡ (number_of_kind kind == 1) → field.is_side_host (number_of_kind kind) (host_number address) ≡ true
    → field.is_side_port (number_of_kind kind) (port_number address) ≡ true → HasAddress kind address
address_is Pair None has host port = tt
address_is Pair (Some address) has host port = true_false has
address_is Internet None has host port = true_false (sym has)
address_is Internet (Some address) has host port =
    let least = at_most address.port 65535 port in
    (below address.host 16 host, omega (arith, least))
address_is Pipe None has host port = tt
address_is Pipe (Some address) has host port = true_false has

side_is : (kind : ChannelKind) (side : ℕ) (image : SideImage) → SideFits (number_of_kind kind) side image → IsSide kind side image
side_is kind side image fits =
    let (few, held) = and_true (nat_le (length image.left) 65536) ((length image.left == 0) || field.may_hold_bytes (number_of_kind kind) side (side_flags image)) fits.size.1 in
    record {
      size = at_most (length image.left) 65536 few;
      bytes = bytes_of image.left fits.left;
      unread = λ is. unless_held image.left (field.may_hold_bytes (number_of_kind kind) side (side_flags image)) held
          (ap (λ b. field.may_hold_bytes (number_of_kind kind) side (flag image.ended + 2 * flag b)) is ∙ unread_holds (number_of_kind kind) side image.ended);
      pipe = λ pipe one. unless_held image.left (field.may_hold_bytes (number_of_kind kind) side (side_flags image)) held
          ((λ i. field.may_hold_bytes (number_of_kind (pipe i)) (one i) (side_flags image)) ∙ pipe_holds (side_flags image));
      address = address_is kind image.address fits.has_address fits.host.1 fits.port.1;
    }

-- a side that nothing names sends no more, and what it is sent is read no more
closed_by : (named ended unread : Bool) → (named || (ended && unread)) ≡ true → named ≡ false → (ended ≡ true) × (unread ≡ true)
closed_by true ended unread is none = true_false none
closed_by false ended unread is none = and_true ended unread is

module _ (s : Shared) (is : IsShared s) where
  channel_fits : (it : ChannelImage) (at : IsItem s.channels it) → ChannelFits s.next_id at.front it
  channel_fits it at = item_fits (ChannelFits s.next_id) s.channels it is.fields.channels at

  record IsNamed (it : ChannelImage) : Type 0 where
    some : (is_side_named s.descriptions it.id 0 || is_side_named s.descriptions it.id 1) ≡ true
    first : whole.is_named_or_closed s.descriptions it.id 0 it.first it.second ≡ true
    second : whole.is_named_or_closed s.descriptions it.id 1 it.second it.first ≡ true

  rightly_named : (it : ChannelImage) → IsItem s.channels it → IsNamed it
  rightly_named it at =
      let some = is_side_named s.descriptions it.id 0 || is_side_named s.descriptions it.id 1 in
      let first = whole.is_named_or_closed s.descriptions it.id 0 it.first it.second in
      let second = whole.is_named_or_closed s.descriptions it.id 1 it.second it.first in
      let (both, last) = and_true (some && first) second (item_passes (whole.is_rightly_named s.descriptions) s.channels it (ends_of s is).named at) in
      let (one, next) = and_true some first both in
      record { some = one; first = next; second = last }

  closed_at : (it : ChannelImage) (side : ℕ) → IsItem s.channels it → side < 2 → is_side_named s.descriptions it.id side ≡ false
      → ((whole.side_of it side).ended ≡ true) × ((whole.side_of it (1 - side)).unread ≡ true)
  closed_at it side at below none =
      let named = rightly_named it at in
      ⊎_elim
      (λ (zero : side ≡ 0).
      subst (λ n. ((whole.side_of it n).ended ≡ true) × ((whole.side_of it (1 - n)).unread ≡ true)) (sym zero)
      (closed_by (is_side_named s.descriptions it.id 0) it.first.ended it.second.unread named.first (ap (is_side_named s.descriptions it.id) (sym zero) ∙ none)))
      (λ (one : side ≡ 1).
      subst (λ n. ((whole.side_of it n).ended ≡ true) × ((whole.side_of it (1 - n)).unread ≡ true)) (sym one)
      (closed_by (is_side_named s.descriptions it.id 1) it.second.ended it.first.unread named.second (ap (is_side_named s.descriptions it.id) (sym one) ∙ none)))
      (which_side side below)

  pub sides_are : AreSides s
  sides_are = record {
    count = at_most (length s.channels) 256 is.fields.channel_count.1;
    first = λ it at. side_is it.kind 0 it.first (channel_fits it at).first;
    second = λ it at. side_is it.kind 1 it.second (channel_fits it at).second;
    named = λ it at. (rightly_named it at).some;
    ended = λ it side at below none. (closed_at it side at below none).0;
    unread = λ it side at below none. (closed_at it side at below none).1;
  }
