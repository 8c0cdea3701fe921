-- What the fields of an open description tell of those in front of it: none names a side that it names.
--     fresh_end, fresh_queue      no side that it names is named before
--     Waits, waits_in      what the fields of a connection tell that waits at a listener
use Rattle.std.proofs.Common.{◌≡◌, ℕ, ◌==◌, ◌&&◌, Bool, true, false, not, List, sym, ap, ◌∙◌}
use Rattle.std.specs.Prelude.{Some, nat_le}
use Rattle.std.specs.List.{list_any}
use Rattle.views.proofs.MapLaws.{true_false, same_key}
use Rattle.sys_abi.specs.declared.identity.ConnId.{ConnId}
use Rattle.sys_abi.specs.declared.identity.VirtAddr.{VirtAddr}
use Rattle.sys_abi.proofs.OrderLaws.{conn_total, conn_exact}
use Rattle.plain_tables.specs.declared.channel.Listening.{Listening}
use Rattle.plain_tables.specs.Objects.{is_end, is_queued}
use Rattle.shared_items.specs.declared.shared.FileImage.{FileImage}
use Rattle.shared_items.specs.declared.shared.ChannelImage.{ChannelImage}
use Rattle.shared_items.specs.declared.shared.ObjectImage.{ObjectImage}
use Rattle.shared_items.specs.declared.shared.ObjectImage.TheVariants.{Console, File, Stream, Socket, Listener}
use Rattle.shared_items.specs.declared.shared.DescriptionImage.{DescriptionImage}
use Rattle.shared_items.specs.SharedFits.{ObjectFits, ConnectionFits}
use Rattle.shared_items.specs.SharedTests as field
use Rattle.shared_items.specs.Sides.{names_side, is_side_named, same_channel}
use Rattle.image_codec.specs.KernelParts.{object_of, listening_of}
use Rattle.image_codec.proofs.Items.{IsItem, item_fits, some_item, which_item}
use Rattle.image_codec.proofs.TestFacts.{and_true, refused, not_true, equal_numbers}

untrue : (b : Bool) → not b ≡ true → b ≡ false
untrue b is = not_true b (refused b is)

module _ (files : List FileImage) (channels : List ChannelImage) (front : List DescriptionImage) where
  pub side_named : (conn : ConnId) (side : ℕ) (it : DescriptionImage) → IsItem front it → names_side conn side it.object ≡ true → is_side_named front conn side ≡ true
  unfolding is_side_named
  side_named conn side it at names = some_item (λ (d : DescriptionImage). names_side conn side d.object) front it at names

  -- an end of a channel that nothing names before
  pub fresh_end : (flags : ℕ) (conn : ConnId) (side : ℕ) (o : ObjectImage) → ObjectFits files channels front flags o → is_end conn side (object_of o) ≡ true → is_side_named front conn side ≡ false
  fresh_end flags conn side Console fits at = true_false (sym at)
  fresh_end flags conn side (File number offset) fits at = true_false (sym at)
  fresh_end flags conn side (Stream other end) fits at =
      let (key, place) = and_true (same_channel conn other) (side == end) at in
      let (rest, fresh) = and_true (nat_le end 1 && list_any (field.has_end other flags end) channels) (not (is_side_named front other end)) fits.end.1 in
      (λ i. is_side_named front (same_key conn_total conn_exact conn other key i) (equal_numbers side end place i)) ∙ untrue (is_side_named front other end) fresh
  fresh_end flags conn side (Socket address) fits at = true_false (sym at)
  fresh_end flags conn side (Listener address backlog pending) fits at = true_false (sym at)

  -- what waits at a listener
  pub record Waits (earlier : List ConnId) (conn : ConnId) : Type 0 where
    pub channel : list_any (field.is_connection conn) channels ≡ true
    pub fresh : is_side_named front conn 1 ≡ false
    pub once : list_any (same_channel conn) earlier ≡ false

  pub waits_in : (earlier : List ConnId) (conn : ConnId) → ConnectionFits channels front earlier conn → Waits earlier conn
  waits_in earlier conn fits =
      let there = list_any (field.is_connection conn) channels in
      let (first, once) = and_true (there && not (is_side_named front conn 1)) (not (list_any (same_channel conn) earlier)) fits.number.1 in
      let (channel, fresh) = and_true there (not (is_side_named front conn 1)) first in
      record { channel = channel; fresh = untrue (is_side_named front conn 1) fresh; once = untrue (list_any (same_channel conn) earlier) once }

  fresh_in : (conn : ConnId) (pending : List ConnId) → ((other : ConnId) → IsItem pending other → is_side_named front other 1 ≡ false) → list_any (same_channel conn) pending ≡ true → is_side_named front conn 1 ≡ false
  fresh_in conn pending told some =
      let (other, at, same) = which_item (same_channel conn) pending some in
      ap (λ c. is_side_named front c 1) (same_key conn_total conn_exact conn other same) ∙ told other at

  pub fresh_queue : (flags : ℕ) (conn : ConnId) (o : ObjectImage) (a : VirtAddr) (l : Listening) → ObjectFits files channels front flags o → listening_of o ≡ Some (a, l) → is_queued conn l ≡ true → is_side_named front conn 1 ≡ false
  fresh_queue flags conn Console a l fits is queued = cc
  fresh_queue flags conn (File number offset) a l fits is queued = cc
  fresh_queue flags conn (Stream other end) a l fits is queued = cc
  fresh_queue flags conn (Socket address) a l fits is queued = cc
  fresh_queue flags conn (Listener address backlog pending) a l fits is queued =
      let same : (address, record { backlog = backlog; queue = pending }) ≡ (a, l) = cc in
      fresh_in conn pending
      (λ other at. (waits_in at.front other (item_fits (ConnectionFits channels front) pending other fits.queue at)).fresh)
      (ap (λ (e : VirtAddr × Listening). is_queued conn e.1) same ∙ queued)
