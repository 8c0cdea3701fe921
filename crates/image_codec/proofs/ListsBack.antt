-- The files, channels and descriptions of a shared image come back from its kernel part, where its items are in order.
use Rattle.std.proofs.Common.{◌≡◌, ℕ, List, [], ◌∷◌, map as each, refl, sym, ap, ◌∙◌}
use Rattle.std.specs.Prelude.{Option, Some, None, is_some, unwrap_or}
use Rattle.std.specs.List.{AllByRecursion}
use Rattle.std.specs.Ordering.{nat_cmp}
use Rattle.std.specs.Cmp.{nat_cmp_total}
use Rattle.std.specs.FinMap as map
use Rattle.views.proofs.MapLaws.{true_false}
use Rattle.sys_abi.specs.declared.identity.VirtAddr.{VirtAddr}
use Rattle.sys_abi.specs.Orders.{desc_cmp, conn_cmp}
use Rattle.sys_abi.proofs.OrderLaws.{desc_total, conn_total}
use Rattle.plain_machine.specs.declared.kernel.PlainKernel.{PlainKernel}
use Rattle.plain_tables.specs.declared.channel.Listening.{Listening}
use Rattle.plain_tables.specs.Tables.{Listeners}
use Rattle.shared_items.specs.declared.shared.FileImage.{FileImage}
use Rattle.shared_items.specs.declared.shared.ChannelImage.{ChannelImage}
use Rattle.shared_items.specs.declared.shared.ObjectImage.{ObjectImage}
use Rattle.shared_items.specs.declared.shared.ObjectImage.TheVariants.{Console, File, Stream, Socket, Listener}
use Rattle.shared_items.specs.declared.shared.DescriptionImage.{DescriptionImage}
use Rattle.shared_items.specs.declared.shared.Shared.{Shared}
use Rattle.image_format.proofs.Rising.{RisesFrom, entries_made, undone}
use Rattle.image_codec.specs.KernelParts.{kernel_of, description_entry, object_of, listening_of, file_entry, name_entry, named_entry, channel_entry}
use Rattle.image_codec.specs.KernelImages.{names_by_number, file_image, side_image, channel_image, object_image, listener_image, description_image}
use Rattle.image_codec.proofs.FilesBack.{name_leads, has_name}
use Rattle.image_codec.proofs.Items.{IsItem, at_start, in_later}
use Rattle.image_codec.proofs.KernelItems.{IsInOrder, same_some, name_item, item_name, first_direction, second_direction, item_listener}

-- what is so of each item is so of all
pub each_of_items : {X : Type 0} (Q : X → Type 0) (xs : List X) → ((x : X) → IsItem xs x → Q x) → AllByRecursion Q xs
each_of_items Q [] told = tt
each_of_items Q (x ∷ xs) told = (told x (at_start x xs), each_of_items Q xs (λ y at. told y (in_later x y xs at)))

-- the name of a file
named_by : (given : List ℕ) (m : ℕ) (name : List ℕ) (number : ℕ) → named_entry given m ≡ Some (name, number) → (given ≡ name) × (m ≡ number)
named_by [] m name number is = cc
named_by (byte ∷ rest) m name number is =
    let same : (byte ∷ rest, m) ≡ (name, number) = same_some (byte ∷ rest, m) (name, number) is in
    (ap (λ (e : List ℕ × ℕ). e.0) same, ap (λ (e : List ℕ × ℕ). e.1) same)

pub name_of : (f : FileImage) (name : List ℕ) (number : ℕ) → name_entry f ≡ Some (name, number) → (f.name ≡ name) × (f.number ≡ number)
name_of f name number is = named_by f.name f.number name number is

-- an object, whose listener is found
object_back : (listeners : Listeners) (o : ObjectImage) → ((address : VirtAddr) (listening : Listening) → listening_of o ≡ Some (address, listening) → map.get listeners address ≡ Some listening)
    → object_image listeners (object_of o) ≡ o
object_back listeners Console told = refl
object_back listeners (File number offset) told = refl
object_back listeners (Stream conn side) told = refl
object_back listeners (Socket address) told = refl
object_back listeners (Listener address backlog pending) told = ap (listener_image address) (told address _ refl)

module _ (s : Shared) (order : IsInOrder s) where
  abbrev k : PlainKernel
  k = kernel_of s

  found_name : (f : FileImage) → IsItem s.files f → (found : Option (List ℕ)) → map.get (names_by_number k.names) f.number ≡ found → unwrap_or found [] ≡ f.name
  found_name f at None known = by_name f.name refl
    where
      by_name : (name : List ℕ) → f.name ≡ name → [] ≡ name
      by_name [] same = refl
      by_name (byte ∷ rest) same =
          let leads = item_name s order f (byte ∷ rest) f.number at (ap (λ name. named_entry name f.number) same) in
          true_false (sym (has_name k.names (byte ∷ rest) f.number leads) ∙ ap is_some known)
  found_name f at (Some name) known =
      let (g, there, is) = name_item s name f.number (name_leads k.names f.number name known) in
      let (named, numbered) = name_of g name f.number is in
      let same : g ≡ f = order.files g f there at numbered in
      sym named ∙ ap (λ (h : FileImage). h.name) same

  file_back : (f : FileImage) → IsItem s.files f → file_image (names_by_number k.names) (file_entry f) ≡ f
  file_back f at = λ i. record f { name = found_name f at (map.get (names_by_number k.names) f.number) refl i }

  pub files_back : RisesFrom nat_cmp None (each (λ (f : FileImage). f.number) s.files) → each (file_image (names_by_number k.names)) (map.entries k.files) ≡ s.files
  unfolding kernel_of
  files_back rises =
      ap (each (file_image (names_by_number k.names))) (entries_made nat_cmp_total file_entry s.files rises)
      ∙ undone file_entry (file_image (names_by_number k.names)) s.files (each_of_items (λ f. file_image (names_by_number k.names) (file_entry f) ≡ f) s.files file_back)

  channel_back : (c : ChannelImage) → IsItem s.channels c → channel_image k.directions (channel_entry s.descriptions c) ≡ c
  channel_back c at = λ i. record c {
    first = side_image (first_direction s order c at i) c.first.address;
    second = side_image (second_direction s order c at i) c.second.address;
  }

  pub channels_back : RisesFrom conn_cmp None (each (λ (c : ChannelImage). c.id) s.channels) → each (channel_image k.directions) (map.entries k.channels) ≡ s.channels
  unfolding kernel_of
  channels_back rises =
      ap (each (channel_image k.directions)) (entries_made conn_total (channel_entry s.descriptions) s.channels rises)
      ∙ undone (channel_entry s.descriptions) (channel_image k.directions) s.channels (each_of_items (λ c. channel_image k.directions (channel_entry s.descriptions c) ≡ c) s.channels channel_back)

  description_back : (it : DescriptionImage) → IsItem s.descriptions it → description_image k.listeners (description_entry it) ≡ it
  description_back it at = λ i. record it { object = object_back k.listeners it.object (λ address listening is. item_listener s order it address listening at is) i }

  pub descriptions_back : RisesFrom desc_cmp None (each (λ (d : DescriptionImage). d.id) s.descriptions) → each (description_image k.listeners) (map.entries k.descriptions) ≡ s.descriptions
  unfolding kernel_of
  descriptions_back rises =
      ap (each (description_image k.listeners)) (entries_made desc_total description_entry s.descriptions rises)
      ∙ undone description_entry (description_image k.listeners) s.descriptions (each_of_items (λ d. description_image k.listeners (description_entry d) ≡ d) s.descriptions description_back)
