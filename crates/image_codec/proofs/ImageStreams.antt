-- The streams of an image are in order in its kernel part.
--     streams_are      the topic
use Rattle.std.proofs.Common.{◌≡◌, ℕ, ◌==◌, ◌&&◌, ◌<◌, ◌%◌, true, false, not, sym, ap, subst, ◌∙◌, ⊎_elim, arith}
use Rattle.std.specs.Prelude.{Some, nat_le, if◌then◌else◌}
use Rattle.std.specs.List.{list_any}
use Rattle.std.specs.FinMap as map
use Rattle.views.proofs.MapLaws.{true_false, same_key}
use Rattle.sys_abi.specs.declared.identity.DescId.{DescId}
use Rattle.sys_abi.specs.declared.identity.ConnId.{ConnId}
use Rattle.sys_abi.specs.declared.identity.VirtAddr.{VirtAddr}
use Rattle.sys_abi.proofs.OrderLaws.{conn_total, conn_exact}
use Rattle.plain_machine.specs.declared.kernel.PlainKernel.{PlainKernel}
use Rattle.plain_tables.specs.declared.description.Description.{Description}
use Rattle.plain_tables.specs.declared.channel.Channel.{Channel}
use Rattle.plain_tables.specs.declared.channel.ChannelKind.{ChannelKind}
use Rattle.plain_tables.specs.declared.channel.ChannelKind.TheVariants.{Pipe}
use Rattle.plain_tables.specs.declared.channel.Listening.{Listening}
use Rattle.plain_tables.specs.Objects.{is_end, is_queued, is_pending, has_stream, is_named, end_of}
use Rattle.plain_tables.specs.Valid.Channels.{AreStreams, IsStream}
use Rattle.shared_items.specs.declared.shared.ObjectImage.{ObjectImage}
use Rattle.shared_items.specs.declared.shared.ObjectImage.TheVariants.{Console, File, Stream, Socket, Listener}
use Rattle.shared_items.specs.declared.shared.DescriptionImage.{DescriptionImage}
use Rattle.shared_items.specs.declared.shared.Shared.{Shared}
use Rattle.shared_items.specs.SharedFormat.{VERSION}
use Rattle.shared_items.specs.SharedFits.{IsShared, DescriptionFits, ObjectFits}
use Rattle.shared_items.specs.SharedTests as field
use Rattle.shared_items.specs.Sides.{names_side, is_side_named, same_channel}
use Rattle.image_codec.specs.KernelParts.{kernel_of, channel_entry, object_of, listening_of}
use Rattle.image_codec.proofs.Items.{IsItem, item_fits, which_item, two_items}
use Rattle.image_codec.proofs.KernelItems.{IsInOrder, channel_item, item_channel, description_item}
use Rattle.image_codec.proofs.OrderedItems.{in_order}
use Rattle.image_codec.proofs.ImageChannels.{end_is}
use Rattle.image_codec.proofs.NamedBefore.{side_named, fresh_end, fresh_queue}
use Rattle.image_codec.proofs.NamedSides.{end_image, queue_image, named_stream, named_queue, same_named}
use Rattle.image_codec.proofs.TestFacts.{and_true, not_true, equal_numbers, at_most}

mode_is : (kind : ChannelKind) (flags side : ℕ) → field.fits_mode kind flags side ≡ true → kind ≡ Pipe → flags % 4 ≡ (if side == 0 then 1 else 0)
mode_is kind flags side fits pipe = equal_numbers (flags % 4) (if side == 0 then 1 else 0) (ap (λ k. field.fits_mode k flags side) (sym pipe) ∙ fits)

module _ (s : Shared) (is : IsShared s) where
  abbrev k : PlainKernel
  k = kernel_of s

  pub order : IsInOrder s
  order = in_order s is.fields

  pub description_fits : (it : DescriptionImage) (at : IsItem s.descriptions it) → DescriptionFits VERSION s.next_id s.files s.channels at.front it
  description_fits it at = item_fits (DescriptionFits VERSION s.next_id s.files s.channels) s.descriptions it is.fields.descriptions at

  pub object_fits : (it : DescriptionImage) (at : IsItem s.descriptions it) → ObjectFits s.files s.channels at.front it.flags it.object
  object_fits it at = (description_fits it at).what

  stream_is : (it : DescriptionImage) (at : IsItem s.descriptions it) (o : ObjectImage) → ObjectFits s.files s.channels at.front it.flags o → IsStream k.channels it.flags (object_of o)
  stream_is it at Console fits = tt
  stream_is it at (File number offset) fits = tt
  stream_is it at (Stream conn side) fits =
      let ends = list_any (field.has_end conn it.flags side) s.channels in
      let (first, fresh) = and_true (nat_le side 1 && ends) (not (is_side_named at.front conn side)) fits.end.1 in
      let (low, some) = and_true (nat_le side 1) ends first in
      let (c, there, has) = which_item (field.has_end conn it.flags side) s.channels some in
      let (key, mode) = and_true (same_channel conn c.id) (field.fits_mode c.kind it.flags side) has in
      let same : conn ≡ c.id = same_key conn_total conn_exact conn c.id key in
      let below = at_most side 1 low in (
        (channel_entry s.descriptions c).1,
        ap (map.get k.channels) same ∙ item_channel s order c there,
        record { is_side = omega (arith, below); mode = mode_is c.kind it.flags side mode },
      )
  stream_is it at (Socket address) fits = tt
  stream_is it at (Listener address backlog pending) fits = tt

  -- no two streams are one end
  before : (conn : ConnId) (side : ℕ) (it jt : DescriptionImage) (at : IsItem s.descriptions it) → IsItem at.front jt → is_end conn side (object_of it.object) ≡ true → names_side conn side jt.object ≡ true → ⊥
  before conn side it jt at front end named =
      true_false (sym (side_named s.files s.channels at.front conn side jt front named) ∙ fresh_end s.files s.channels at.front it.flags conn side it.object (object_fits it at) end)

  one_stream : (conn : ConnId) (side : ℕ) (it jt : DescriptionImage) → IsItem s.descriptions it → IsItem s.descriptions jt → is_end conn side (object_of it.object) ≡ true → is_end conn side (object_of jt.object) ≡ true → it ≡ jt
  one_stream conn side it jt at by end too = ⊎_elim
      (λ same. same)
      (⊎_elim
      (λ front. absurd (before conn side jt it by front too (end_image conn side it.object end)))
      (λ front. absurd (before conn side it jt at front end (end_image conn side jt.object too))))
      (two_items s.descriptions it jt at by)

  once : (d e : DescId) (x y : Description) (conn : ConnId) (side : ℕ) → map.get k.descriptions d ≡ Some x → map.get k.descriptions e ≡ Some y
      → is_end conn side x.object ≡ true → is_end conn side y.object ≡ true → d ≡ e
  once d e x y conn side found there end too =
      let (it, at, first) = description_item s d x found in
      let (jt, by, second) = description_item s e y there in
      let same = one_stream conn side it jt at by
      (ap (λ (p : DescId × Description). is_end conn side p.1.object) first ∙ end)
      (ap (λ (p : DescId × Description). is_end conn side p.1.object) second ∙ too) in
      ap (λ (p : DescId × Description). p.0) (sym first) ∙ ap (λ (i : DescriptionImage). i.id) same ∙ ap (λ (p : DescId × Description). p.0) second

  -- a stream is not at a side that waits
  pub queue_before : (conn : ConnId) (it jt : DescriptionImage) (a : VirtAddr) (l : Listening) (at : IsItem s.descriptions it) → IsItem at.front jt → listening_of it.object ≡ Some (a, l) → is_queued conn l ≡ true
      → names_side conn 1 jt.object ≡ true → ⊥
  queue_before conn it jt a l at front listens queued named =
      true_false (sym (side_named s.files s.channels at.front conn 1 jt front named) ∙ fresh_queue s.files s.channels at.front it.flags conn it.object a l (object_fits it at) listens queued)

  no_listener : (conn : ConnId) (side : ℕ) (o : ObjectImage) (a : VirtAddr) (l : Listening) → is_end conn side (object_of o) ≡ true → listening_of o ≡ Some (a, l) → ⊥
  no_listener conn side Console a l end listens = true_false (sym end)
  no_listener conn side (File number offset) a l end listens = true_false (sym end)
  no_listener conn side (Stream other at) a l end listens = cc
  no_listener conn side (Socket address) a l end listens = true_false (sym end)
  no_listener conn side (Listener address backlog pending) a l end listens = true_false (sym end)

  apart : (conn : ConnId) → has_stream k.descriptions conn 1 ≡ true → is_pending k.listeners conn ≡ false
  apart conn has = not_true (is_pending k.listeners conn) (λ waits.
      let (it, at, end) = named_stream s order conn 1 has in
      let (jt, a, l, by, listens, queued) = named_queue s order conn waits in
      ⊎_elim
      (λ (same : it ≡ jt). no_listener conn 1 jt.object a l (ap (λ (i : DescriptionImage). is_end conn 1 (object_of i.object)) (sym same) ∙ end) listens)
      (⊎_elim
      (λ front. queue_before conn jt it a l by front listens queued (end_image conn 1 it.object end))
      (λ front. before conn 1 it jt at front end (queue_image conn jt.object a l listens queued)))
      (two_items s.descriptions it jt at by))

  opened : (conn : ConnId) (channel : Channel) (side : ℕ) → map.get k.channels conn ≡ Some channel → side < 2 → (end_of channel side).is_open ≡ is_named k.descriptions k.listeners conn side
  opened conn channel side found below =
      let (it, at, same) = channel_item s conn channel found in
      ap (λ (e : ConnId × Channel). (end_of e.1 side).is_open) (sym same) ∙ ap (λ e. e.is_open) (end_is s it side below) ∙ same_named s order it.id side
      ∙ ap (λ (e : ConnId × Channel). is_named k.descriptions k.listeners e.0 side) same

  pub streams_are : AreStreams k.descriptions k.listeners k.channels
  streams_are = record {
    each = λ d x found.
        let (it, at, same) = description_item s d x found in
        subst (λ (p : DescId × Description). IsStream k.channels p.1.flags p.1.object) same (stream_is it at it.object (object_fits it at));
    once = once;
    apart = apart;
    opened = opened;
  }
