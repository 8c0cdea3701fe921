-- The open descriptions and the listeners of a kernel part come back from what is made of them.
use Rattle.std.proofs.Common.{◌≡◌, true, [], map as each, refl, sym, ap, subst, ◌∙◌}
use Rattle.std.specs.Prelude.{Option, Some, None, is_some}
use Rattle.std.specs.List.{filter_map, cons_option}
use Rattle.std.specs.FinMap as map
use Rattle.views.proofs.MapLaws.{key_tied, same_key, true_false}
use Rattle.views.proofs.MapValues.{EachEntry, some_among-values}
use Rattle.sys_abi.specs.declared.identity.DescId.{DescId}
use Rattle.sys_abi.specs.declared.identity.VirtAddr.{VirtAddr}
use Rattle.sys_abi.specs.Orders.{address_cmp}
use Rattle.sys_abi.proofs.OrderLaws.{desc_total, desc_exact, address_total, address_exact}
use Rattle.plain_machine.specs.declared.kernel.PlainKernel.{PlainKernel}
use Rattle.plain_machine.specs.Kernels.{IsKernel}
use Rattle.plain_machine.specs.Tests.{unsupported_kind}
use Rattle.plain_tables.specs.declared.description.Object.{Object}
use Rattle.plain_tables.specs.declared.description.Object.TheVariants as object
use Rattle.plain_tables.specs.declared.description.Description.{Description}
use Rattle.plain_tables.specs.declared.channel.Listening.{Listening}
use Rattle.plain_tables.specs.Tables.{Listeners}
use Rattle.plain_tables.specs.Objects.{is_listener_at}
use Rattle.plain_tables.proofs.Entries.{found_at}
use Rattle.shared_items.specs.declared.shared.DescriptionImage.{DescriptionImage}
use Rattle.image_codec.specs.KernelParts.{description_entry, object_of, listening_of}
use Rattle.image_codec.specs.KernelImages.{description_image, object_image, listener_image, IsSupported}
use Rattle.image_codec.proofs.MadeMaps.{each_back, filtered_back, there_at, which_value}

listener_back : (address : VirtAddr) (found : Option Listening) → object_of (listener_image address found) ≡ object.Listener address
listener_back address None = refl
listener_back address (Some listening) = refl

pub object_back : (listeners : Listeners) (o : Object) → unsupported_kind o ≡ None → object_of (object_image listeners o) ≡ o
object_back listeners object.Console supported = refl
object_back listeners (object.File number offset) supported = refl
object_back listeners (object.Stream conn side) supported = refl
object_back listeners (object.Socket address) supported = refl
object_back listeners (object.Listener address) supported = listener_back address (map.get listeners address)
object_back listeners (object.Datagram peer) supported = cc
object_back listeners (object.Counter value) supported = cc

pub listener_object : (address : VirtAddr) (o : Object) → is_listener_at address o ≡ true → o ≡ object.Listener address
listener_object address object.Console is = true_false (sym is)
listener_object address (object.File number offset) is = true_false (sym is)
listener_object address (object.Stream conn side) is = true_false (sym is)
listener_object address (object.Socket other) is = true_false (sym is)
listener_object address (object.Listener other) is = ap (λ a. object.Listener a) (sym (same_key address_total address_exact address other is))
listener_object address (object.Datagram peer) is = true_false (sym is)
listener_object address (object.Counter value) is = true_false (sym is)

module _ (k : PlainKernel) (is : IsKernel k) where
  pub descriptions_back : IsSupported k → map.from_entries (each description_entry (each (description_image k.listeners) (map.entries k.descriptions))) ≡ k.descriptions
  descriptions_back supported = each_back desc_total desc_exact desc_total desc_exact (description_image k.listeners) k.descriptions k.descriptions description_entry
      (λ d x there. there ∙ (λ i. Some (record x { object = sym (object_back k.listeners x.object (supported d x there)) i })))
      (λ d x there. (d, x, there, refl))

  -- a listener's description has a queue, and a queue has a description
  pub has_queue : (d : DescId) (x : Description) (address : VirtAddr) → map.get k.descriptions d ≡ Some x → is_listener_at address x.object ≡ true → is_some (map.get k.listeners address) ≡ true
  has_queue d x address there at =
      is.listeners.described address ∙ some_among-values desc_total desc_exact (λ (y : Description). is_listener_at address y.object) k.descriptions d x there at

  pub has_listener : (address : VirtAddr) (listening : Listening) → map.get k.listeners address ≡ Some listening → (d : DescId) × (x : Description) × (map.get k.descriptions d ≡ Some x) × (x.object ≡ object.Listener address)
  has_listener address listening found =
      let some = sym (is.listeners.described address) ∙ ap is_some found in
      let (d, x, there, at) = which_value desc_total desc_exact (λ (y : Description). is_listener_at address y.object) k.descriptions some in
      (d, x, there, listener_object address x.object at)

  abbrev IsQueue : VirtAddr → Listening → Type 0
  IsQueue address listening = map.get k.listeners address ≡ Some listening

  queue_is : (address : VirtAddr) (found : Option Listening) → map.get k.listeners address ≡ found → is_some found ≡ true → EachEntry IsQueue (cons_option (listening_of (listener_image address found)) [])
  queue_is address None known some = true_false (sym some)
  queue_is address (Some listening) known some = (known, tt)

  queues_are : (o : Object) → ((address : VirtAddr) → o ≡ object.Listener address → is_some (map.get k.listeners address) ≡ true) → EachEntry IsQueue (cons_option (listening_of (object_image k.listeners o)) [])
  queues_are object.Console some = tt
  queues_are (object.File number offset) some = tt
  queues_are (object.Stream conn side) some = tt
  queues_are (object.Socket address) some = tt
  queues_are (object.Listener address) some = queue_is address (map.get k.listeners address) refl (some address refl)
  queues_are (object.Datagram peer) some = tt
  queues_are (object.Counter value) some = tt

  pub listeners_back : map.from_entries (filter_map (λ (d : DescriptionImage). listening_of d.object) (each (description_image k.listeners) (map.entries k.descriptions))) ≡ k.listeners
  listeners_back = filtered_back address_total address_exact desc_total desc_exact (description_image k.listeners) k.listeners k.descriptions (λ (d : DescriptionImage). listening_of d.object)
      (λ d x there. queues_are x.object (λ address at. let (l, known) = listed d x there address at in ap is_some known))
      (λ address listening found.
      let (d, x, there, at) = has_listener address listening found in
      (d, x, there, at_queue address listening x.object at found))
    where
      listed : (d : DescId) (x : Description) → map.get k.descriptions d ≡ Some x → (address : VirtAddr) → x.object ≡ object.Listener address → (l : Listening) × (map.get k.listeners address ≡ Some l)
      listed d x there address at =
          found_at address_total address_exact k.listeners address
          (has_queue d x address there (ap (is_listener_at address) at ∙ key_tied address_total address_exact address))

      at_queue : (address : VirtAddr) (listening : Listening) (o : Object) → o ≡ object.Listener address → map.get k.listeners address ≡ Some listening
          → is_some (map.find address_cmp address (cons_option (listening_of (object_image k.listeners o)) [])) ≡ true
      at_queue address listening o at found =
          subst (λ p. is_some (map.find address_cmp address (cons_option (listening_of (object_image k.listeners p)) [])) ≡ true) (sym at)
          (subst (λ l. is_some (map.find address_cmp address (cons_option (listening_of (listener_image address l)) [])) ≡ true) (sym found)
          (there_at address_total address_exact address listening []))
