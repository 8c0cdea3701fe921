-- A side of a channel is named in the kernel part of an image as it is in the image.
--     stream_named, queue_named      what names a side
--     same_named      so the tests on the image and on the kernel part answer alike
use Rattle.std.proofs.Common.{◌≡◌, ℕ, ◌==◌, ◌&&◌, ◌||◌, Bool, true, false, refl, sym, ap, subst, ◌∙◌, ⊎_elim}
use Rattle.std.specs.Prelude.{Some}
use Rattle.std.specs.List.{list_any}
use Rattle.views.proofs.MapLaws.{true_false}
use Rattle.views.proofs.MapValues.{some_among-values}
use Rattle.sys_abi.specs.declared.identity.ConnId.{ConnId}
use Rattle.sys_abi.specs.declared.identity.DescId.{DescId}
use Rattle.sys_abi.specs.declared.identity.VirtAddr.{VirtAddr}
use Rattle.sys_abi.proofs.OrderLaws.{desc_total, desc_exact, address_total, address_exact}
use Rattle.plain_machine.specs.declared.kernel.PlainKernel.{PlainKernel}
use Rattle.plain_tables.specs.declared.description.Description.{Description}
use Rattle.plain_tables.specs.declared.channel.Listening.{Listening}
use Rattle.plain_tables.specs.Objects.{is_end, is_queued, is_pending, has_stream, is_named}
use Rattle.shared_items.specs.declared.shared.ObjectImage.{ObjectImage}
use Rattle.shared_items.specs.declared.shared.ObjectImage.TheVariants.{Console, File, Stream, Socket, Listener}
use Rattle.shared_items.specs.declared.shared.DescriptionImage.{DescriptionImage}
use Rattle.shared_items.specs.declared.shared.Shared.{Shared}
use Rattle.shared_items.specs.Sides.{names_side, is_side_named, same_channel}
use Rattle.image_codec.specs.KernelParts.{kernel_of, description_entry, listening_of, object_of}
use Rattle.image_codec.proofs.MadeMaps.{which_value}
use Rattle.image_codec.proofs.Items.{IsItem, some_item, which_item}
use Rattle.image_codec.proofs.KernelItems.{IsInOrder, description_item, item_description, listener_item, item_listener}
use Rattle.image_codec.proofs.TestFacts.{and_true, or_either, or_later, both_ways, equal_numbers}

none_waits : (b : Bool) → (b && false) ≡ true → ⊥
none_waits true is = true_false (sym is)
none_waits false is = true_false (sym is)

-- an end of a channel, as the image has it
pub end_image : (conn : ConnId) (side : ℕ) (o : ObjectImage) → is_end conn side (object_of o) ≡ true → names_side conn side o ≡ true
end_image conn side Console at = true_false (sym at)
end_image conn side (File number offset) at = true_false (sym at)
end_image conn side (Stream other end) at = at
end_image conn side (Socket address) at = true_false (sym at)
end_image conn side (Listener address backlog pending) at = true_false (sym at)

-- a queue, as the image has it
pub queue_image : (conn : ConnId) (o : ObjectImage) (a : VirtAddr) (l : Listening) → listening_of o ≡ Some (a, l) → is_queued conn l ≡ true → names_side conn 1 o ≡ true
queue_image conn Console a l is queued = cc
queue_image conn (File number offset) a l is queued = cc
queue_image conn (Stream other end) a l is queued = cc
queue_image conn (Socket address) a l is queued = cc
queue_image conn (Listener address backlog pending) a l is queued =
    let same : (a, l) ≡ (address, record { backlog = backlog; queue = pending }) = cc in
    ap (λ (e : VirtAddr × Listening). is_queued conn e.1) (sym same) ∙ queued

module _ (s : Shared) (order : IsInOrder s) where
  abbrev k : PlainKernel
  k = kernel_of s

  -- a stream refers to the side
  pub stream_named : (conn : ConnId) (side : ℕ) (it : DescriptionImage) → IsItem s.descriptions it → is_end conn side (object_of it.object) ≡ true → has_stream k.descriptions conn side ≡ true
  stream_named conn side it at is =
      some_among-values desc_total desc_exact (λ (y : Description). is_end conn side y.object) k.descriptions it.id (description_entry it).1 (item_description s order it at) is

  pub named_stream : (conn : ConnId) (side : ℕ) → has_stream k.descriptions conn side ≡ true
      → (it : DescriptionImage) × IsItem s.descriptions it × (is_end conn side (object_of it.object) ≡ true)
  named_stream conn side some =
      let (d, x, found, is) = which_value desc_total desc_exact (λ (y : Description). is_end conn side y.object) k.descriptions some in
      let (it, at, same) = description_item s d x found in
      (it, at, ap (λ (e : DescId × Description). is_end conn side e.1.object) same ∙ is)

  -- a connection waits
  pub queue_named : (conn : ConnId) (it : DescriptionImage) (a : VirtAddr) (l : Listening) → IsItem s.descriptions it → listening_of it.object ≡ Some (a, l) → is_queued conn l ≡ true
      → is_pending k.listeners conn ≡ true
  queue_named conn it a l at is queued = some_among-values address_total address_exact (is_queued conn) k.listeners a l (item_listener s order it a l at is) queued

  pub named_queue : (conn : ConnId) → is_pending k.listeners conn ≡ true
      → (it : DescriptionImage) × (a : VirtAddr) × (l : Listening) × IsItem s.descriptions it × (listening_of it.object ≡ Some (a, l)) × (is_queued conn l ≡ true)
  named_queue conn some =
      let (a, l, found, queued) = which_value address_total address_exact (is_queued conn) k.listeners some in
      let (it, at, is) = listener_item s a l found in
      (it, a, l, at, is, queued)

  by_object : (conn : ConnId) (side : ℕ) (it : DescriptionImage) → IsItem s.descriptions it → (o : ObjectImage) → it.object ≡ o → names_side conn side o ≡ true → is_named k.descriptions k.listeners conn side ≡ true
  by_object conn side it at Console what named = true_false (sym named)
  by_object conn side it at (File number offset) what named = true_false (sym named)
  by_object conn side it at (Stream other end) what named =
      ap (λ b. b || ((side == 1) && is_pending k.listeners conn)) (stream_named conn side it at (ap (λ o. is_end conn side (object_of o)) what ∙ named))
  by_object conn side it at (Socket address) what named = true_false (sym named)
  by_object conn side it at (Listener address backlog pending) what named =
      let (at_one, queued) = and_true (side == 1) (list_any (same_channel conn) pending) named in
      let waits = queue_named conn it address (record { backlog = backlog; queue = pending }) at (ap listening_of what) queued in
      or_later (has_stream k.descriptions conn side) _ (λ i. at_one i && waits i)

  pub same_named : (conn : ConnId) (side : ℕ) → is_side_named s.descriptions conn side ≡ is_named k.descriptions k.listeners conn side
  unfolding is_side_named
  same_named conn side = both_ways (is_side_named s.descriptions conn side) (is_named k.descriptions k.listeners conn side)
      (λ some. let (it, at, named) = which_item (λ (d : DescriptionImage). names_side conn side d.object) s.descriptions some in by_object conn side it at it.object refl named)
      (λ named. ⊎_elim
      (λ has. let (it, at, is) = named_stream conn side has in some_item (λ (d : DescriptionImage). names_side conn side d.object) s.descriptions it at (end_image conn side it.object is))
      (λ waits.
      let (at_one, pending) = and_true (side == 1) (is_pending k.listeners conn) waits in
      let (it, a, l, at, is, queued) = named_queue conn pending in
      some_item (λ (d : DescriptionImage). names_side conn side d.object) s.descriptions it at
      (subst (λ n. names_side conn n it.object ≡ true) (sym (equal_numbers side 1 at_one)) (queue_image conn it.object a l is queued)))
      (or_either (has_stream k.descriptions conn side) ((side == 1) && is_pending k.listeners conn) named))
