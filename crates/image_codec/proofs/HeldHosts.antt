-- What a description of a valid kernel part stands for has its holders' host, as the end of the shared image tests it.
--     object_of_host      what is of the host that the kernel part says
use Rattle.std.proofs.Common.{◌≡◌, ℕ, ◌==◌, ◌&&◌, ◌||◌, Bool, true, false, List, [], ◌∷◌, map as each, refl, sym, ap, ◌∙◌}
use Rattle.std.specs.Prelude.{Option, Some, None, option_map, option_and_then, if◌then◌else◌}
use Rattle.std.specs.List.{list_any, list_all}
use Rattle.std.specs.FinMap as map
use Rattle.views.proofs.MapLaws.{true_false, key_tied, same_key}
use Rattle.sys_abi.specs.declared.identity.ConnId.{ConnId}
use Rattle.sys_abi.specs.declared.identity.VirtAddr.{VirtAddr}
use Rattle.sys_abi.proofs.OrderLaws.{conn_total, conn_exact}
use Rattle.plain_machine.specs.declared.kernel.PlainKernel.{PlainKernel}
use Rattle.plain_machine.specs.Kernels.{IsKernel}
use Rattle.sys_abi.specs.declared.maker.Maker.{Maker}
use Rattle.plain_tables.specs.declared.description.Object.{Object}
use Rattle.plain_tables.specs.declared.description.Object.TheVariants as object
use Rattle.plain_tables.specs.declared.channel.Channel.{Channel}
use Rattle.plain_tables.specs.declared.channel.Listening.{Listening}
use Rattle.plain_tables.specs.Objects.{end_of, host_of_end, host_of_object}
use Rattle.plain_tables.specs.Valid.Sockets.{has_host}
use Rattle.shared_items.specs.declared.shared.ChannelImage.{ChannelImage}
use Rattle.shared_items.specs.Sides.{same_channel}
use Rattle.shared_items.specs.WholeShared.{is_of_host, is_end_of_host, is_side_of_host, is_object_of_host}
use Rattle.image_codec.specs.KernelImages.{channel_image, object_image, listener_image, maker_or}
use Rattle.image_codec.proofs.Listings.{all_images}
use Rattle.image_codec.proofs.TestFacts.{implied, or_later, same_number, equal_numbers}

-- tests
same_as : (m n : ℕ) → m ≡ n → (m == n) ≡ true
same_as m n same = ap (λ o. o == n) same ∙ same_number n

pub maker_has : (found : Option Maker) (host : ℕ) → has_host found host ≡ true → host ≡ (maker_or found).host
maker_has None host has = true_false (sym has)
maker_has (Some maker) host has = sym (equal_numbers maker.host host has)

-- what is so of each that is found in a list is so of all of it
all_queued : (test : ConnId → Bool) (queue : List ConnId) → ((conn : ConnId) → list_any (same_channel conn) queue ≡ true → test conn ≡ true) → list_all test queue ≡ true
all_queued test [] told = refl
all_queued test (conn ∷ queue) told =
    let here : test conn ≡ true = told conn (ap (λ b. b || list_any (same_channel conn) queue) (key_tied conn_total conn_exact conn)) in
    let rest = all_queued test queue (λ other some. told other (or_later (same_channel other conn) _ some)) in
    λ i. here i && rest i

module _ (k : PlainKernel) (is : IsKernel k) where
  abbrev channels : List ChannelImage
  channels = each (channel_image k.directions) (map.entries k.channels)

  same_address : (conn : ConnId) (channel : Channel) (first : Bool)
      → (let image = channel_image k.directions (conn, channel) in if first then image.first else image.second).address ≡ (if first then channel.first else channel.second).address
  same_address conn channel true = refl
  same_address conn channel false = refl

  -- an end of a channel
  end_of_host : (conn : ConnId) (side host : ℕ) → ((found : ℕ) → host_of_end k.channels conn side ≡ Some found → found ≡ host) → is_side_of_host channels host side conn ≡ true
  end_of_host conn side host told =
      all_images conn_total conn_exact (channel_image k.directions) (is_end_of_host host conn side) k.channels (λ other channel there.
      implied (same_channel conn other) _ (λ same.
      let at : conn ≡ other = same_key conn_total conn_exact conn other same in
      ap (is_of_host host) (same_address other channel (side == 0)) ∙ by_found channel (ap (map.get k.channels) at ∙ there) (end_of channel side).address refl))
    where
      by_found : (channel : Channel) → map.get k.channels conn ≡ Some channel → (found : Option VirtAddr) → (end_of channel side).address ≡ found → is_of_host host found ≡ true
      by_found channel there None known = refl
      by_found channel there (Some address) known =
          same_as address.host host (told address.host
          (ap (λ (o : Option Channel). option_map (λ (a : VirtAddr). a.host) (option_and_then (λ (c : Channel). (end_of c side).address) o)) there
          ∙ ap (option_map (λ (a : VirtAddr). a.host)) known))

  -- a listener, with what waits there
  listener_of_host : (address : VirtAddr) (host : ℕ) → address.host ≡ host → (found : Option Listening) → map.get k.listeners address ≡ found → is_object_of_host channels host (listener_image address found) ≡ true
  listener_of_host address host same None known = let here = same_as address.host host same in λ i. here i && true
  listener_of_host address host same (Some listening) known =
      let here = same_as address.host host same in
      let queue = all_queued (is_side_of_host channels host 1) listening.queue (λ conn queued.
      end_of_host conn 1 host (λ found at. is.hosts.pending address listening conn found known queued at ∙ same)) in
      λ i. here i && queue i

  pub object_of_host : (o : Object) (host : ℕ) → ((found : ℕ) → host_of_object k.channels o ≡ Some found → found ≡ host) → is_object_of_host channels host (object_image k.listeners o) ≡ true
  object_of_host object.Console host told = refl
  object_of_host (object.File number offset) host told = refl
  object_of_host (object.Stream conn side) host told = end_of_host conn side host told
  object_of_host (object.Socket address) host told = same_as address.host host (told address.host refl)
  object_of_host (object.Listener address) host told = listener_of_host address host (told address.host refl) (map.get k.listeners address) refl
  object_of_host (object.Datagram peer) host told = refl
  object_of_host (object.Counter value) host told = refl
