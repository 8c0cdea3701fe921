-- What the end of the shared image tests of the files and the channels of a valid kernel part.
--     all_kept      each file has a name or is open
--     all_rightly_named      each channel has a side that is named, and a side that isn't is closed
use Rattle.std.proofs.Common.{◌≡◌, ℕ, ◌-◌, ◌<◌, ◌==◌, ◌&&◌, ◌||◌, Bool, true, false, List, [], length, map as each, refl, sym, ap, ◌∙◌, ⊎_elim, arith, lit<}
use Rattle.std.specs.Prelude.{not, nat_lt, Option, Some, None, is_some, unwrap_or}
use Rattle.std.specs.List.{list_all}
use Rattle.std.specs.FinMap as map
use Rattle.std.specs.FinMap.{nat_cmp-IsAntisymmetric}
use Rattle.std.specs.Cmp.{nat_cmp_total}
use Rattle.views.proofs.MapLaws.{true_false}
use Rattle.sys_abi.specs.declared.identity.ConnId.{ConnId}
use Rattle.sys_abi.specs.declared.identity.VirtAddr.{VirtAddr}
use Rattle.sys_abi.proofs.OrderLaws.{name_total, name_exact, desc_total, desc_exact, conn_total, conn_exact}
use Rattle.plain_machine.specs.declared.kernel.PlainKernel.{PlainKernel}
use Rattle.plain_machine.specs.Kernels.{IsKernel}
use Rattle.plain_tables.specs.declared.description.Object.{Object}
use Rattle.plain_tables.specs.declared.description.Object.TheVariants as object
use Rattle.plain_tables.specs.declared.description.Description.{Description}
use Rattle.plain_tables.specs.declared.channel.Channel.{Channel}
use Rattle.plain_tables.specs.declared.channel.Direction.{Direction}
use Rattle.plain_tables.specs.Objects.{dir, end_of, is_file, has_name, has_open}
use Rattle.shared_items.specs.declared.shared.DescriptionImage.{DescriptionImage}
use Rattle.shared_items.specs.Sides.{is_side_named}
use Rattle.shared_items.specs.WholeShared.{opens, is_opened, is_kept_file, is_named_or_closed, is_rightly_named}
use Rattle.image_codec.specs.KernelImages.{file_image, names_by_number, channel_image, side_image, description_image, object_image}
use Rattle.image_codec.proofs.ChannelsBack.{has_side, named_image}
use Rattle.image_codec.proofs.FilesBack.{name_back}
use Rattle.image_codec.proofs.Listings.{all_images, some_image}
use Rattle.image_codec.proofs.MadeMaps.{which_value}
use Rattle.image_codec.proofs.TestFacts.{or_either, or_later, equal_numbers, other_number}

-- what is closed in each direction that is there is so in its image
ended_image : (found : Option Direction) (address : Option VirtAddr) → is_some found ≡ true → ((direction : Direction) → found ≡ Some direction → direction.ended ≡ true) → (side_image found address).ended ≡ true
ended_image None address some told = true_false (sym some)
ended_image (Some direction) address some told = told direction refl

unread_image : (found : Option Direction) (address : Option VirtAddr) → is_some found ≡ true → ((direction : Direction) → found ≡ Some direction → direction.unread ≡ true) → (side_image found address).unread ≡ true
unread_image None address some told = true_false (sym some)
unread_image (Some direction) address some told = told direction refl

module _ (k : PlainKernel) (is : IsKernel k) where
  abbrev descriptions : List DescriptionImage
  descriptions = each (description_image k.listeners) (map.entries k.descriptions)

  -- files
  opens_file : (number : ℕ) (o : Object) → is_file number o ≡ true → opens number (object_image k.listeners o) ≡ true
  opens_file number object.Console at = true_false (sym at)
  opens_file number (object.File n offset) at = at
  opens_file number (object.Stream conn side) at = true_false (sym at)
  opens_file number (object.Socket address) at = true_false (sym at)
  opens_file number (object.Listener address) at = true_false (sym at)
  opens_file number (object.Datagram peer) at = true_false (sym at)
  opens_file number (object.Counter value) at = true_false (sym at)

  opened : (number : ℕ) → has_open k.descriptions number ≡ true → is_opened descriptions number ≡ true
  opened number has =
      let (d, x, there, at) = which_value desc_total desc_exact (λ (y : Description). is_file number y.object) k.descriptions has in
      some_image desc_total desc_exact (description_image k.listeners) (λ (it : DescriptionImage). opens number it.object) k.descriptions d x there (opens_file number x.object at)

  named : (number : ℕ) → has_name k.names number ≡ true → not (length (unwrap_or (map.get (names_by_number k.names) number) []) == 0) ≡ true
  named number has =
      let (name, n, found, same) = which_value name_total name_exact (λ m. m == number) k.names has in
      let leads : map.get k.names name ≡ Some number = found ∙ ap (λ m. Some m) (equal_numbers n number same) in
      let some = (is.files.named name number leads).0.some in
      let long : (length name == 0) ≡ false = other_number (length name) 0 (λ none. omega (arith, some, none)) in
      ap (λ (f : Option (List ℕ)). not (length (unwrap_or f []) == 0)) (name_back k is name number leads) ∙ (λ i. not (long i))

  kept : (number : ℕ) (bytes : List ℕ) → map.get k.files number ≡ Some bytes → is_kept_file descriptions (file_image (names_by_number k.names) (number, bytes)) ≡ true
  kept number bytes there = ⊎_elim
      (λ has. ap (λ b. b || is_opened descriptions number) (named number has))
      (λ open_there. or_later (not (length (unwrap_or (map.get (names_by_number k.names) number) []) == 0)) _ (opened number open_there))
      (or_either (has_name k.names number) (has_open k.descriptions number) (is.open_files.kept number bytes there))

  pub all_kept : list_all (is_kept_file descriptions) (each (file_image (names_by_number k.names)) (map.entries k.files)) ≡ true
  all_kept = all_images nat_cmp_total nat_cmp-IsAntisymmetric (file_image (names_by_number k.names)) (is_kept_file descriptions) k.files kept

  -- channels: a side is named where it is open
  module _ (conn : ConnId) (channel : Channel) (there : map.get k.channels conn ≡ Some channel) where
    is_open_as : (side : ℕ) → side < 2 → (end_of channel side).is_open ≡ is_side_named descriptions conn side
    is_open_as side below = is.streams.opened conn channel side there below ∙ sym (named_image k is conn side)

    named_or_closed : (side : ℕ) (address other : Option VirtAddr) → side < 2 → nat_lt side 2 ≡ true → nat_lt (1 - side) 2 ≡ true
        → is_named_or_closed descriptions conn side (side_image (map.get k.directions (dir conn side)) address) (side_image (map.get k.directions (dir conn (1 - side))) other) ≡ true
    named_or_closed side address other below is_side is_other = by_named (is_side_named descriptions conn side) refl
      where
        by_named : (b : Bool) → is_side_named descriptions conn side ≡ b
            → is_named_or_closed descriptions conn side (side_image (map.get k.directions (dir conn side)) address) (side_image (map.get k.directions (dir conn (1 - side))) other) ≡ true
        by_named true is_named = ap (λ b. b || ((side_image (map.get k.directions (dir conn side)) address).ended && (side_image (map.get k.directions (dir conn (1 - side))) other).unread)) is_named
        by_named false unnamed =
            let closed = is.channels.closed conn side channel there below (is_open_as side below ∙ unnamed) in
            let ended = ended_image (map.get k.directions (dir conn side)) address (has_side k is conn channel side there is_side) closed.ended in
            let unread = unread_image (map.get k.directions (dir conn (1 - side))) other (has_side k is conn channel (1 - side) there is_other) closed.unread in
            or_later (is_side_named descriptions conn side) _ (λ i. ended i && unread i)

    rightly_named : is_rightly_named descriptions (channel_image k.directions (conn, channel)) ≡ true
    rightly_named =
        let first = is_open_as 0 (lit< tt) in
        let second = is_open_as 1 (lit< tt) in
        let one = is.channels.open_end conn channel there in
        let some : (is_side_named descriptions conn 0 || is_side_named descriptions conn 1) ≡ true = sym (λ i. first i || second i) ∙ one in
        let this = named_or_closed 0 channel.first.address channel.second.address (lit< tt) refl refl in
        let that = named_or_closed 1 channel.second.address channel.first.address (lit< tt) refl refl in
        λ i. some i && this i && that i

  pub all_rightly_named : list_all (is_rightly_named descriptions) (each (channel_image k.directions) (map.entries k.channels)) ≡ true
  all_rightly_named = all_images conn_total conn_exact (channel_image k.directions) (is_rightly_named descriptions) k.channels rightly_named
