-- The listeners of an image that can be spelled are those of a kernel part that a run may reach: a queue holds internet connections, each once.
--     listeners_are      the topic
use Rattle.std.proofs.Common.{◌≡◌, ◌≢◌, true, List, length, refl, sym, ap, subst, ◌∙◌, ⊎_elim, arith}
use Rattle.std.specs.Prelude.{Option, Some, None, is_some}
use Rattle.std.specs.List.{list_any}
use Rattle.std.specs.Ordering.{eq_by_cmp}
use Rattle.std.specs.FinMap as map
use Rattle.views.proofs.MapLaws.{true_false, key_tied, same_key}
use Rattle.views.proofs.MapValues.{some_among-values}
use Rattle.sys_abi.specs.declared.identity.DescId.{DescId}
use Rattle.sys_abi.specs.declared.identity.ConnId.{ConnId}
use Rattle.sys_abi.specs.declared.identity.VirtAddr.{VirtAddr}
use Rattle.sys_abi.specs.Orders.{conn_cmp}
use Rattle.sys_abi.proofs.OrderLaws.{desc_total, desc_exact, conn_total, conn_exact, address_total, address_exact}
use Rattle.plain_machine.specs.declared.kernel.PlainKernel.{PlainKernel}
use Rattle.plain_tables.specs.declared.description.Description.{Description}
use Rattle.plain_tables.specs.declared.channel.ChannelKind.{ChannelKind}
use Rattle.plain_tables.specs.declared.channel.ChannelKind.TheVariants.{Pair, Internet, Pipe}
use Rattle.plain_tables.specs.declared.channel.Listening.{Listening}
use Rattle.plain_tables.specs.Objects.{is_listener_at, is_queued}
use Rattle.plain_tables.specs.Valid.Sockets.{IsConnection, IsListening, AreListeners}
use Rattle.shared_items.specs.declared.shared.ObjectImage.{ObjectImage}
use Rattle.shared_items.specs.declared.shared.ObjectImage.TheVariants.{Console, File, Stream, Socket, Listener}
use Rattle.shared_items.specs.declared.shared.DescriptionImage.{DescriptionImage}
use Rattle.shared_items.specs.declared.shared.Shared.{Shared}
use Rattle.shared_items.specs.SharedTests as field
use Rattle.shared_items.specs.Sides.{same_channel}
use Rattle.shared_items.specs.SharedFits.{IsShared, ObjectFits, ListenerFits, ConnectionFits}
use Rattle.image_codec.specs.KernelParts.{kernel_of, channel_entry, object_of, description_entry, listening_of}
use Rattle.image_codec.proofs.ImageStreams.{object_fits, queue_before}
use Rattle.image_codec.proofs.ItemFacts.{all_items, item_pairs}
use Rattle.image_codec.proofs.NamedBefore.{waits_in}
use Rattle.image_codec.proofs.NamedSides.{queue_image}
use Rattle.image_codec.proofs.Items.{IsItem, item_fits, some_item, which_item, two_items}
use Rattle.image_codec.proofs.KernelItems.{IsInOrder, same_some, listener_item, description_item, item_channel, item_description, item_listener}
use Rattle.image_codec.proofs.MadeMaps.{which_value}
use Rattle.image_codec.proofs.OrderedItems.{in_order, is_listener}
use Rattle.image_codec.proofs.TestFacts.{and_true, both_ways, at_most}

-- objects of an image, as listeners
is_internet : (kind : ChannelKind) → field.is_internet kind ≡ true → kind ≡ Internet
is_internet Pair is = true_false (sym is)
is_internet Internet is = refl
is_internet Pipe is = true_false (sym is)

listens : (o : ObjectImage) (address : VirtAddr) (x : Listening) → listening_of o ≡ Some (address, x) → is_listener_at address (object_of o) ≡ true
listens o address x is = ap (λ (p : ObjectImage). is_listener_at address (object_of p)) (is_listener o address x is) ∙ key_tied address_total address_exact address

abbrev Listens : VirtAddr → ObjectImage → Type 0
Listens address o = (x : Listening) × (listening_of o ≡ Some (address, x))

listening_at : (o : ObjectImage) (address : VirtAddr) → is_listener_at address (object_of o) ≡ true → Listens address o
listening_at Console address is = true_false (sym is)
listening_at (File number offset) address is = true_false (sym is)
listening_at (Stream conn side) address is = true_false (sym is)
listening_at (Socket other) address is = true_false (sym is)
listening_at (Listener other backlog pending) address is =
    let same : address ≡ other = same_key address_total address_exact address other is in
    (record { backlog = backlog; queue = pending }, λ i. Some (sym same i, record { backlog = backlog; queue = pending }))

module _ (s : Shared) (is : IsShared s) where
  abbrev k : PlainKernel
  k = kernel_of s

  order : IsInOrder s
  order = in_order s is.fields

  listener_fits : (it : DescriptionImage) (at : IsItem s.descriptions it) (address : VirtAddr) (x : Listening) → listening_of it.object ≡ Some (address, x) → ListenerFits s.channels at.front address x.backlog x.queue
  listener_fits it at address x entry = subst (ObjectFits s.files s.channels at.front it.flags) (is_listener it.object address x entry) (object_fits s is it at)

  connection_is : (front : List DescriptionImage) (earlier : List ConnId) (conn : ConnId) → ConnectionFits s.channels front earlier conn → IsConnection k.channels conn
  connection_is front earlier conn fits =
      let (c, at, test) = which_item (field.is_connection conn) s.channels (waits_in s.files s.channels front earlier conn fits).channel in
      let (tied, kind) = and_true (same_channel conn c.id) (field.is_internet c.kind) test in
      let same : conn ≡ c.id = same_key conn_total conn_exact conn c.id tied in
      ((channel_entry s.descriptions c).1, ap (map.get k.channels) same ∙ item_channel s order c at, is_internet c.kind kind)

  differs : (front : List DescriptionImage) (earlier : List ConnId) (conn later : ConnId) → ConnectionFits s.channels front earlier later → IsItem earlier conn → conn ≢ later
  differs front earlier conn later fits at same =
      true_false (sym (some_item (same_channel later) earlier conn at (ap (eq_by_cmp conn_cmp later) same ∙ key_tied conn_total conn_exact later)) ∙ (waits_in s.files s.channels front earlier later fits).once)

  is_listening : (it : DescriptionImage) → IsItem s.descriptions it → (address : VirtAddr) (x : Listening) → listening_of it.object ≡ Some (address, x) → IsListening k.channels x
  is_listening it at address x entry =
      let fits = listener_fits it at address x entry in
      let word = fits.room.0 in
      record {
        room = at_most (length x.queue) x.backlog fits.count.1;
        backlog = omega (arith, word);
        connections = all_items (IsConnection k.channels) x.queue (λ conn there. connection_is at.front there.front conn (item_fits (ConnectionFits s.channels at.front) x.queue conn fits.queue there));
        once = item_pairs (ConnectionFits s.channels at.front) (λ conn later. conn ≢ later) (differs at.front) x.queue fits.queue;
      }

  described : (address : VirtAddr) → is_some (map.get k.listeners address) ≡ list_any (λ (x : Description). is_listener_at address x.object) (map.values k.descriptions)
  described address = both_ways (is_some (map.get k.listeners address)) (list_any (λ (x : Description). is_listener_at address x.object) (map.values k.descriptions))
      (λ some. there (map.get k.listeners address) refl some)
      (λ some.
      let (d, x, found, at_it) = which_value desc_total desc_exact (λ (y : Description). is_listener_at address y.object) k.descriptions some in
      let (it, at, entry) = description_item s d x found in
      let (listening, listens_there) = listening_at it.object address (ap (λ (e : DescId × Description). is_listener_at address e.1.object) entry ∙ at_it) in
      ap is_some (item_listener s order it address listening at listens_there))
    where
      there : (found : Option Listening) → map.get k.listeners address ≡ found → is_some found ≡ true → list_any (λ (x : Description). is_listener_at address x.object) (map.values k.descriptions) ≡ true
      there None known some = true_false (sym some)
      there (Some listening) known some =
          let (it, at, entry) = listener_item s address listening known in
          some_among-values desc_total desc_exact (λ (x : Description). is_listener_at address x.object) k.descriptions it.id (description_entry it).1 (item_description s order it at) (listens it.object address listening entry)

  -- a connection waits at one
  one_queue : (conn : ConnId) (it jt : DescriptionImage) (a b : VirtAddr) (x y : Listening) → IsItem s.descriptions it → IsItem s.descriptions jt
      → listening_of it.object ≡ Some (a, x) → listening_of jt.object ≡ Some (b, y) → is_queued conn x ≡ true → is_queued conn y ≡ true → it ≡ jt
  one_queue conn it jt a b x y at by first second queued also = ⊎_elim
      (λ same. same)
      (⊎_elim
      (λ front. absurd (queue_before s is conn jt it b y by front second also (queue_image conn it.object a x first queued)))
      (λ front. absurd (queue_before s is conn it jt a x at front first queued (queue_image conn jt.object b y second also))))
      (two_items s.descriptions it jt at by)

  pub listeners_are : AreListeners k.descriptions k.listeners k.channels
  listeners_are = record {
    each = λ address listening found. let (it, at, entry) = listener_item s address listening found in is_listening it at address listening entry;
    described = described;
    apart = λ a b x y conn found too queued also.
        let (it, at, entry) = listener_item s a x found in
        let (jt, by, other) = listener_item s b y too in
        let same = one_queue conn it jt a b x y at by entry other queued also in
        let one = same_some (a, x) (b, y) (sym entry ∙ ap (λ (d : DescriptionImage). listening_of d.object) same ∙ other) in
        ap (λ (e : VirtAddr × Listening). e.0) one;
  }
