-- The numbers of an image that can be spelled are in range, and those of its descriptions and channels were given out by their makers; no
-- description is a datagram end or an event counter.
--     numbers_are, made_are, inboxes_are, counters_are      a topic each
use Rattle.std.proofs.Common.{◌≡◌, ◌^◌, ◌<◌, ◌==◌, true, false, refl, sym, ap, subst, ◌∙◌, arith}
use Rattle.std.specs.Prelude.{nat_le, nat_lt, Option, Some, None, is_some}
use Rattle.std.specs.FinMap as map
use Rattle.views.proofs.MapLaws.{true_false}
use Rattle.sys_abi.specs.declared.identity.VPid.{VPid}
use Rattle.sys_abi.specs.declared.identity.DescId.{DescId}
use Rattle.sys_abi.specs.declared.identity.ConnId.{ConnId}
use Rattle.sys_abi.specs.declared.life.Life.{Life}
use Rattle.sys_abi.specs.declared.life.Life.TheVariants.{Live, Zombie}
use Rattle.sys_abi.specs.Lives.{lives}
use Rattle.sys_abi.specs.Orders.{desc_cmp}
use Rattle.sys_abi.proofs.OrderLaws.{desc_total, desc_exact}
use Rattle.plain_process.specs.Valid.{Each}
use Rattle.plain_machine.specs.declared.kernel.PlainKernel.{PlainKernel}
use Rattle.sys_abi.specs.declared.maker.Maker.{Maker}
use Rattle.plain_tables.specs.declared.channel.Channel.{Channel}
use Rattle.plain_tables.specs.declared.description.Description.{Description}
use Rattle.plain_tables.specs.declared.description.Object.{Object}
use Rattle.plain_tables.specs.Objects.{is_datagram, knows}
use Rattle.plain_tables.specs.Tables.{is_live_process, lives_in}
use Rattle.plain_tables.specs.Valid.Processes.{AreNumbers}
use Rattle.plain_tables.specs.Valid.Descriptions.{IsMade, HasMadePeer, AreMade}
use Rattle.plain_tables.specs.Valid.Datagrams.{is_datagram_in, AreInboxes, IsCounter, AreCounters}
use Rattle.plain_tables.proofs.Entries.{no_entry}
use Rattle.shared_items.specs.declared.shared.ChannelImage.{ChannelImage}
use Rattle.shared_items.specs.declared.shared.ObjectImage.{ObjectImage}
use Rattle.shared_items.specs.declared.shared.ObjectImage.TheVariants.{Console, File, Stream, Socket, Listener}
use Rattle.shared_items.specs.declared.shared.ProcessEntry.{ProcessEntry}
use Rattle.shared_items.specs.declared.shared.Shared.{Shared}
use Rattle.shared_items.specs.SharedTests as field
use Rattle.shared_items.specs.SharedFits.{IsShared, ChannelFits, ProcessFits, state_of}
use Rattle.image_codec.specs.KernelParts.{kernel_of, object_of}
use Rattle.image_codec.proofs.Items.{IsItem, item_fits, item_passes}
use Rattle.image_codec.proofs.KernelItems.{IsInOrder, channel_item, description_item, maker_item, item_process}
use Rattle.image_codec.proofs.ListedKernels.{opened}
use Rattle.image_codec.proofs.OrderedItems.{in_order}
use Rattle.image_codec.proofs.TestFacts.{and_true, follows, same_number, below, at_most}

-- an object of an image is no datagram end and no counter
no_datagram : (o : ObjectImage) → is_datagram (object_of o) ≡ false
no_datagram Console = refl
no_datagram (File number offset) = refl
no_datagram (Stream conn side) = refl
no_datagram (Socket address) = refl
no_datagram (Listener address backlog pending) = refl

knows_none : (d : DescId) (o : ObjectImage) → knows d (object_of o) ≡ false
knows_none d Console = refl
knows_none d (File number offset) = refl
knows_none d (Stream conn side) = refl
knows_none d (Socket address) = refl
knows_none d (Listener address backlog pending) = refl

no_counter : (o : ObjectImage) → IsCounter (object_of o)
no_counter Console = tt
no_counter (File number offset) = tt
no_counter (Stream conn side) = tt
no_counter (Socket address) = tt
no_counter (Listener address backlog pending) = tt

module _ (s : Shared) (is : IsShared s) where
  abbrev k : PlainKernel
  k = kernel_of s

  order : IsInOrder s
  order = in_order s is.fields

  pub numbers_are : AreNumbers s.next_id s.next_file
  numbers_are =
      let (least, most) = and_true (nat_le 40000 s.next_id) (nat_lt s.next_id (2 ^ 31)) is.fields.next_id.1 in
      let word = is.fields.next_file.0 in
      record {
        first_id = at_most 40000 s.next_id least;
        last_id = below s.next_id (2 ^ 31) most;
        first_file = at_most 1 s.next_file is.fields.next_file.1;
        last_file = omega (arith, word);
      }

  -- every object of the kernel part is that of an item
  of_item : (P : Object → Type 0) → ((o : ObjectImage) → P (object_of o)) → Each k.descriptions (λ d description. P description.object)
  of_item P told d x found =
      let (it, at, entry) = description_item s d x found in
      subst P (ap (λ (e : DescId × Description). e.1.object) entry) (told it.object)

  has_no_peer : (o : ObjectImage) → HasMadePeer s.next_id k.processes k.makers (object_of o)
  has_no_peer Console = tt
  has_no_peer (File number offset) = tt
  has_no_peer (Stream conn side) = tt
  has_no_peer (Socket address) = tt
  has_no_peer (Listener address backlog pending) = tt

  -- a channel's number was given out
  made_above : (p : ProcessEntry) → IsItem s.processes p → lives p.life ≡ true → field.is_made s.channels s.descriptions p.pid.0 p.made ≡ true
  made_above p at alive = by_life p.life refl alive
    where
      by_life : (life : Life) → p.life ≡ life → lives life ≡ true → field.is_made s.channels s.descriptions p.pid.0 p.made ≡ true
      by_life Live is_live alive =
          let state = (item_fits (ProcessFits s.next_id s.channels s.descriptions) s.processes p is.fields.processes at).life.state.1 in
          (and_true (nat_le 0 field.LAST_STATE) (field.is_made s.channels s.descriptions p.pid.0 p.made)
          (subst (λ (l : Life). field.is_state s.channels s.descriptions p.pid.0 p.parent p.made (state_of l) ≡ true) is_live state)).1
      by_life (Zombie status) is_live alive = true_false (sym alive)

  life_of_item : (p : ProcessEntry) → IsItem s.processes p → lives_in k.processes p.pid ≡ lives p.life
  life_of_item p at = ap is_live_process (item_process s order p at)

  joined_item : (c : ChannelImage) → IsItem s.channels c → IsMade s.next_id k.processes k.makers c.id.pid c.id.num
  joined_item c at =
      let fits = item_fits (ChannelFits s.next_id) s.channels c is.fields.channels at in
      record {
        known = below c.id.pid.0 s.next_id (and_true (field.is_maker_after (field.last_channel at.front) c.id.pid.0) (nat_lt c.id.pid.0 s.next_id) fits.maker.1).1;
        word = let word = fits.number.0 in omega (arith, word);
        below = below_made;
      }
    where
      below_made : (m : Maker) → map.get k.makers c.id.pid ≡ Some m → lives_in k.processes c.id.pid ≡ true → c.id.num < m.made
      below_made m known alive =
          let (p, there, entry) = maker_item s c.id.pid m known in
          let pid_is : p.pid ≡ c.id.pid = ap (λ (e : VPid × Maker). e.0) entry in
          let made_is : p.made ≡ m.made = ap (λ (e : VPid × Maker). e.1.made) entry in
          let lives_too : lives p.life ≡ true = sym (life_of_item p there) ∙ ap (lives_in k.processes) pid_is ∙ alive in
          let above = and_true (field.is_above_channels p.pid.0 p.made s.channels) (field.is_above_descriptions p.pid.0 p.made s.descriptions) (made_above p there lives_too) in
          let mine = item_passes (λ (d : ChannelImage). field.is_number_below p.pid.0 p.made d.id.pid.0 d.id.num) s.channels c above.0 at in
          let less = below c.id.num p.made (follows (c.id.pid.0 == p.pid.0) _ mine (ap (λ (q : VPid). c.id.pid.0 == q.0) pid_is ∙ same_number c.id.pid.0)) in
          subst (λ n. c.id.num < n) made_is less

  pub made_are : AreMade s.next_id k.processes k.makers k.descriptions k.channels
  made_are = record {
    opened = opened s is;
    peers = of_item (HasMadePeer s.next_id k.processes k.makers) has_no_peer;
    joined = λ conn channel found.
        let (c, at, entry) = channel_item s conn channel found in
        subst (λ (id : ConnId). IsMade s.next_id k.processes k.makers id.pid id.num) (ap (λ (e : ConnId × Channel). e.0) entry) (joined_item c at);
  }

  pub inboxes_are : AreInboxes k.descriptions k.inboxes
  unfolding kernel_of
  inboxes_are = record {
    same = λ d. ap is_some (map.get-empty desc_cmp d) ∙ sym (none_in d (map.get k.descriptions d) refl);
    other = λ d. of_item (λ o. knows d o ≡ false) (knows_none d) d;
    paired = λ d e x y there known knows_it. true_false (sym knows_it ∙ of_item (λ o. knows e o ≡ false) (knows_none e) d x there);
    once = λ d e peer x y there known knows_it too. true_false (sym knows_it ∙ of_item (λ o. knows peer o ≡ false) (knows_none peer) d x there);
    messages = λ d messages found. absurd (no_entry desc_total desc_exact d messages found);
  }
    where
      none_in : (d : DescId) (found : Option Description) → map.get k.descriptions d ≡ found → is_datagram_in found ≡ false
      none_in d None known = refl
      none_in d (Some x) known = of_item (λ o. is_datagram o ≡ false) no_datagram d x known

  pub counters_are : AreCounters k.descriptions
  counters_are = record { each = of_item IsCounter no_counter }
