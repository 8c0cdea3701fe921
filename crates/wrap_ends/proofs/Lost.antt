-- What a kernel part loses by a close, by what the close tells of the real description.
--     HasKept k k'             nothing but descriptors
--     HasLost k k' id o        that description, with what its object stood for
--     close_kept, close_lost   the close of a descriptor
use Rattle.std.proofs.Common.{◌≡◌, ℕ, cond, List, [], Option, Some, None, refl, sym, ap, ◌∙◌, subst}
use Rattle.std.specs.Prelude.{option_map, option_and_then}
use Rattle.std.specs.FinMap as map
use Rattle.std.proofs.lemmas.Option.{none-some}
use Rattle.sys_abi.specs.declared.descriptor.Descriptor.{Descriptor}
use Rattle.sys_abi.specs.declared.identity.ConnId.{ConnId}
use Rattle.sys_abi.specs.declared.identity.DescId.{DescId}
use Rattle.sys_abi.specs.declared.identity.RealPid.{RealPid}
use Rattle.sys_abi.specs.declared.identity.VPid.{VPid}
use Rattle.fd_tables.specs.declared.description.Desc.{Desc}
use Rattle.fd_tables.specs.declared.description.Object as real_object
use Rattle.fd_tables.specs.declared.real_slot.RealSlot.{RealSlot}
use Rattle.fd_tables.specs.Slots as slots
use Rattle.fd_book.specs.Books as books
use Rattle.fd_book.specs.Books.{IsWhole}
use Rattle.plain_tables.specs.declared.channel.Listening.{Listening}
use Rattle.plain_tables.specs.declared.description.Object.{Object}
use Rattle.plain_tables.specs.declared.description.Object.TheVariants.{Console, File, Stream, Socket, Listener, Datagram, Counter}
use Rattle.plain_tables.specs.Closing.{closed_channels, pending_channels}
use Rattle.plain_tables.specs.Tables.{Channels, Listeners, slot}
use Rattle.plain_machine.specs.declared.kernel.PlainKernel.{PlainKernel}
use Rattle.plain_machine.specs.Channels.{close_queue, without_listener, close_listener}
use Rattle.plain_machine.specs.Closing.{let_go, released, released_by, without_descriptor, closed_by, close_fd}
use Rattle.plain_machine.specs.Kernels.{IsKernel}
use Rattle.host_tables.specs.declared.kernel.Kernel.{Kernel}
use Rattle.host_tables.specs.Descriptions.{seen_object}
use Rattle.host_tables.specs.Stands.{Given, Stands}
use Rattle.host_tables.proofs.LookUps.{at_slot, some_value}
use Rattle.host_tables.proofs.SlotChanges.{same_held, slot_taken}
use Rattle.host_descriptors.specs.declared.closing.Closed.{Closed}
use Rattle.host_descriptors.specs.LetGo.{closed_of}
use Rattle.host_descriptors.proofs.CloseCall.{in_between, close_is, closed_none, lost_none, held_none, held_some}
use Rattle.host_descriptors.proofs.ObjectsAt.{object_in}
use Rattle.host_descriptors.proofs.FinishedCloses.{put_on}

-- the connections that wait at a listener
abbrev pub queue_in : Option Listening → List ConnId
queue_in None = []
queue_in (Some listening) = listening.queue

abbrev pub channels_after : Channels → Listeners → Object → Channels
channels_after channels listeners (Stream conn side) = closed_channels channels conn side
channels_after channels listeners (Listener a) = pending_channels channels (queue_in (map.get listeners a))
channels_after channels listeners _ = channels

abbrev pub listeners_after : Listeners → Object → Listeners
listeners_after listeners (Listener a) = map.remove listeners a
listeners_after listeners _ = listeners

pub record HasKept (k k' : PlainKernel) : Type 0 where
  pub descriptions : k'.descriptions ≡ k.descriptions
  pub listeners : k'.listeners ≡ k.listeners
  pub channels : k'.channels ≡ k.channels

pub record HasLost (k k' : PlainKernel) (id : DescId) (o : Object) : Type 0 where
  pub descriptions : k'.descriptions ≡ map.remove k.descriptions id
  pub listeners : k'.listeners ≡ listeners_after k.listeners o
  pub channels : k'.channels ≡ channels_after k.channels k.listeners o

-- what goes with a description leaves the descriptions
module _ (k : PlainKernel) (id : DescId) where
  pub record Goes (k' : PlainKernel) (o : Object) : Type 0 where
    pub descriptions : k'.descriptions ≡ k.descriptions
    pub listeners : k'.listeners ≡ listeners_after k.listeners o
    pub channels : k'.channels ≡ channels_after k.channels k.listeners o

  queue_goes : (a : _) (o : Option Listening)
      → (close_queue (without_listener k a) o).channels ≡ pending_channels k.channels (queue_in o)
  unfolding pending_channels
  queue_goes a None = refl
  queue_goes a (Some listening) = refl

  queue_keeps : (a : _) (o : Option Listening)
      → ((close_queue (without_listener k a) o).listeners ≡ map.remove k.listeners a)
      × ((close_queue (without_listener k a) o).descriptions ≡ k.descriptions)
  queue_keeps a None = (refl, refl)
  queue_keeps a (Some listening) = (refl, refl)

  pub goes : (o : Object) → Goes (let_go k id o) o
  unfolding close_listener
  goes Console = record { descriptions = refl; listeners = refl; channels = refl }
  goes (File number offset) = record { descriptions = refl; listeners = refl; channels = refl }
  goes (Stream conn side) = record { descriptions = refl; listeners = refl; channels = refl }
  goes (Socket address) = record { descriptions = refl; listeners = refl; channels = refl }
  goes (Listener a) =
      let o = map.get k.listeners a in
      record {
        descriptions = (queue_keeps a o).1;
        listeners = (queue_keeps a o).0;
        channels = queue_goes a o;
      }
  goes (Datagram peer) = record { descriptions = refl; listeners = refl; channels = refl }
  goes (Counter value) = record { descriptions = refl; listeners = refl; channels = refl }

-- by what is told
abbrev pub LosesWith : Given → Kernel → PlainKernel → PlainKernel → Option Closed → Type 0
LosesWith g old k k' None = HasKept k k'
LosesWith g old k k' (Some c) = HasLost k k' c.desc (seen_object g.names old.datagrams c.desc c.object)

module _ (g : Given) (old : Kernel) (k : PlainKernel) (whole : IsKernel k) (st : Stands g None old k)
    (p : VPid)
    (who : RealPid) (paired : map.get g.pids p.0 ≡ Some who) (fd : ℕ) (sound : IsWhole old.book) where
  abbrev at : RealSlot
  at = slots.slot who fd

  abbrev Loses : Option Closed → Type 0
  Loses closed = LosesWith g old k (close_fd k p fd) closed

  kept_self : HasKept k k
  kept_self = record { descriptions = refl; listeners = refl; channels = refl }

  nothing : map.get old.book.descriptors at ≡ None → HasKept k (close_fd k p fd)
  nothing none = subst (HasKept k) (sym (closed_none g old k st p who paired fd none)) kept_self

  module _ (d : Descriptor) (is : map.get old.book.descriptors at ≡ Some d) where
    -- another descriptor refers to the description
    held : books.lost_by_close old.book at ≡ None → HasKept k (close_fd k p fd)
    unfolding close_fd released
    held none =
        let real_held = held_none old.book at d is none in
        let virt_held =
        same_held g.pids g.virts st.paired.inverse (map.remove k.descriptors (slot p fd))
        (map.remove old.book.descriptors at)
        (slot_taken g.pids g.virts st.paired.inverse k.descriptors old.book.descriptors st.descriptors p who
        paired fd)
        d.desc ∙ real_held in
        subst (λ (q : PlainKernel). HasKept k q)
        (sym (ap (closed_by k (slot p fd))
        (at_slot g.pids g.virts old.book.descriptors k.descriptors st.descriptors p who paired fd ∙ is)
        ∙ ap (λ b. cond b (without_descriptor k (slot p fd))
        (released_by (without_descriptor k (slot p fd)) d.desc (map.get k.descriptions d.desc))) virt_held))
        (record { descriptions = refl; listeners = refl; channels = refl })

    module _ (x : Desc) (described : map.get old.book.descriptions d.desc ≡ Some x) (id : DescId)
        (lost : books.lost_by_close old.book at ≡ Some id) where
      went : HasLost k (close_fd k p fd) d.desc (seen_object g.names old.datagrams d.desc x.object)
      went =
          let o = seen_object g.names old.datagrams d.desc x.object in
          let mid = in_between g old k whole st p who paired fd d is (books.after_close old.book at) refl x
          described
          id lost in
          let gone = goes mid d.desc o in
          subst (λ (q : PlainKernel). HasLost k q d.desc o)
          (sym (close_is g old k whole st p who paired fd d is (books.after_close old.book at) refl x
          described id lost))
          (record { descriptions = gone.descriptions; listeners = gone.listeners; channels = gone.channels })

      pub told : Loses (Some (record { desc = id; object = x.object }))
      told =
          subst (λ (i : DescId). HasLost k (close_fd k p fd) i (seen_object g.names old.datagrams i x.object))
          (held_some old.book at d is id lost).1 went

    by_lost : (x : Desc) → map.get old.book.descriptions d.desc ≡ Some x → (lost : Option DescId)
        → lost ≡ books.lost_by_close old.book at → Loses (closed_of lost (Some x.object))
    by_lost x described None e = held (sym e)
    by_lost x described (Some id) e = told x described id (sym e)

  none_told : (lost : Option DescId) → lost ≡ None → (found : Option real_object.Object)
      → HasKept k (close_fd k p fd) → Loses (closed_of lost found)
  none_told None e found kept = kept
  none_told (Some id) e found kept = absurd (none-some id (sym e))

  by_slot : (lost : Option DescId) → lost ≡ books.lost_by_close old.book at
      → (found : Option real_object.Object)
      → found ≡ object_in old.book at → (o : Option Descriptor) → map.get old.book.descriptors at ≡ o
      → Loses (closed_of lost found)
  by_slot lost lost_is found found_is None e =
      none_told lost (lost_is ∙ lost_none old.book at e) found (nothing e)
  by_slot lost lost_is found found_is (Some d) e =
      let x = some_value (map.get old.book.descriptions d.desc) (sound.described at d e) in
      subst (λ o. Loses (closed_of lost o))
      (sym (found_is
      ∙ ap (option_and_then (λ (y : Descriptor). option_map (λ (z : Desc). z.object)
      (map.get old.book.descriptions y.desc))) e
      ∙ ap (option_map (λ (z : Desc). z.object)) x.1))
      (by_lost d e x.0 x.1 lost lost_is)

  pub loses : (lost : Option DescId) → lost ≡ books.lost_by_close old.book at
      → (found : Option real_object.Object) → found ≡ object_in old.book at → Loses (closed_of lost found)
  loses lost lost_is found found_is =
      by_slot lost lost_is found found_is (map.get old.book.descriptors at) refl

  -- with another descriptor in its place
  placed : (extra : Option Descriptor) (closed : Option Closed) → Loses closed
      → LosesWith g old k (put_on p fd extra (close_fd k p fd)) closed
  placed None closed loses = loses
  placed (Some d) None loses =
      record { descriptions = loses.descriptions; listeners = loses.listeners; channels = loses.channels }
  placed (Some d) (Some c) loses =
      record { descriptions = loses.descriptions; listeners = loses.listeners; channels = loses.channels }

  pub loses_placed : (extra : Option Descriptor) (lost : Option DescId)
      → lost ≡ books.lost_by_close old.book at
      → (found : Option real_object.Object) → found ≡ object_in old.book at
      → LosesWith g old k (put_on p fd extra (close_fd k p fd)) (closed_of lost found)
  loses_placed extra lost lost_is found found_is =
      placed extra (closed_of lost found) (loses lost lost_is found found_is)
