-- The close of a descriptor on both sides.
--     may_go              what the object that goes owes
--     closed_none, closed_nothing      no descriptor is there
--     closed_held         another descriptor refers to the description
--     closed_gone         what the description was of goes with it
--     closed_datagram     so does the end of a datagram pair
use Rattle.std.proofs.Common.{◌≡◌, ◌≢◌, ℕ, ◌≤◌, Bool, true, false, cond, [], length, Option, Some, None, inl, inr, refl, sym, ap, ◌∙◌, subst, arith}
use Rattle.std.specs.Prelude.{option_map, IsSome}
use Rattle.std.specs.FinMap as map
use Rattle.std.proofs.lemmas.Option.{same_Some, none-some}
use Rattle.views.proofs.MapLaws.{same_or_other, get_remove_same, get_remove_other}
use Rattle.sys_abi.specs.declared.descriptor.Descriptor.{Descriptor}
use Rattle.sys_abi.specs.declared.identity.VPid.{VPid}
use Rattle.sys_abi.specs.declared.identity.DescId.{DescId}
use Rattle.sys_abi.specs.declared.identity.RealPid.{RealPid}
use Rattle.sys_abi.proofs.OrderLaws.{desc_total, desc_exact}
use Rattle.conn_table.specs.declared.pairs.DatagramPair.{DatagramPair}
use Rattle.conn_table.specs.Pairs.{Pairs, after_close}
use Rattle.fd_tables.specs.declared.description.Desc.{Desc}
use Rattle.fd_tables.specs.declared.description.Object as real_object
use Rattle.fd_tables.specs.declared.description.Object.TheVariants as object
use Rattle.fd_tables.specs.declared.real_slot.RealSlot.{RealSlot}
use Rattle.fd_book.specs.Books as books
use Rattle.fd_tables.specs.Slots as slots
use Rattle.fd_book.specs.Books.{Books}
use Rattle.host_tables.specs.OfPlainTables.Tables.{slot, is_held}
use Rattle.host_tables.specs.OfPlainMachine.declared.kernel.PlainKernel.{PlainKernel}
use Rattle.host_tables.specs.OfPlainMachine.Closing.{let_go, without_description, released, released_by, without_descriptor, closed_by, close_fd}
use Rattle.host_tables.specs.OfPlainMachine.Kernels.{IsKernel}
use Rattle.host_tables.specs.declared.kernel.Kernel.{Kernel}
use Rattle.host_tables.specs.Datagrams.{told_end, IsOpenEnd}
use Rattle.host_tables.specs.Descriptions.{seen_object, seen_desc, IsTold, SameDescriptions}
use Rattle.host_tables.specs.Stands.{Given, Stands}
use Rattle.host_tables.proofs.DescriptionChanges.{IsStillTold, SameDescriptions-remove, SameInboxes-remove, HasNoInbox}
use Rattle.host_tables.proofs.Frames.{book_kept}
use Rattle.host_tables.proofs.LookUps.{at_slot, some_value}
use Rattle.host_tables.proofs.SlotChanges.{same_held, slot_taken, taken_kept}
use Rattle.host_descriptors.specs.LetGo.{MayGo}
use Rattle.host_descriptors.proofs.DatagramCloses.{still_known, SameInboxes-closed}

module _ (g : Given) (old : Kernel) (k : PlainKernel) (whole : IsKernel k) (st : Stands g None old k) where
  no_empty_name : map.get old.files.names [] ≡ None
  no_empty_name = sym (ap (λ m. map.get m []) st.files.names_are) ∙ by_found (map.get k.names []) refl
    where
      long : 1 ≤ length {A = ℕ} [] → ⊥
      long h = omega (arith, h)

      by_found : (o : Option ℕ) → map.get k.names [] ≡ o → map.get k.names [] ≡ None
      by_found None e = e
      by_found (Some n) e = absurd (long (whole.files.named [] n e).0.some)

  module _ (id : DescId) (x : Desc) (there : map.get old.book.descriptions id ≡ Some x) where
    seen_there : map.get k.descriptions id ≡ Some (seen_desc g.virts g.names old.datagrams None id x)
    seen_there =
        st.descriptions.each id ∙ ap (option_map (seen_desc g.virts g.names old.datagrams None id)) there

    by_object : (o : real_object.Object) → x.object ≡ o → HasNoInbox o → MayGo g old id o
    by_object object.Console is no_end = tt
    by_object (object.File number offset) is no_end = no_empty_name
    by_object (object.Stream conn side) is no_end =
        (whole.streams.each id (record (seen_desc g.virts g.names old.datagrams None id x) {
          object = seen_object g.names old.datagrams id (object.Stream conn side);
        }) (seen_there ∙ ap (λ w. Some (record (seen_desc g.virts g.names old.datagrams None id x) {
          object = seen_object g.names old.datagrams id w;
        })) is)).2.is_side
    by_object object.Socket is no_end = tt
    by_object (object.Listener at) is no_end =
        (subst (IsTold g.names g.addresses old.datagrams id) is
        (st.descriptions.objects id x there)).1
    by_object (object.Datagram queue side) is no_end = absurd (no_end queue side refl)
    by_object (object.Counter value) is no_end = tt

    pub may_go : HasNoInbox x.object → MayGo g old id x.object
    may_go no_end = by_object x.object refl no_end

module _ (g : Given) (old : Kernel) (k : PlainKernel) (st : Stands g None old k) (p : VPid) (who : RealPid)
    (paired : map.get g.pids p.0 ≡ Some who) (fd : ℕ) where
  abbrev place : RealSlot
  place = slots.slot who fd

  slot_is : map.get k.descriptors (slot p fd) ≡ map.get old.book.descriptors place
  slot_is = at_slot g.pids g.virts old.book.descriptors k.descriptors st.descriptors p who paired fd

  pub closed_none : map.get old.book.descriptors place ≡ None → close_fd k p fd ≡ k
  unfolding close_fd
  closed_none none = ap (closed_by k (slot p fd)) (slot_is ∙ none)

  module _ (d : Descriptor) (is : map.get old.book.descriptors place ≡ Some d) where
    abbrev pub less_slots : Books
    less_slots = record old.book { descriptors = map.remove old.book.descriptors place }

    abbrev pub without_slot : PlainKernel
    without_slot = without_descriptor k (slot p fd)

    slot_removed : Stands g None (record old { book = less_slots }) without_slot
    slot_removed = taken_kept g None old k st p who paired fd

    held_is : is_held without_slot.descriptors d.desc
        ≡ books.is_held less_slots.descriptors d.desc
    held_is =
        same_held g.pids g.virts st.paired.inverse without_slot.descriptors less_slots.descriptors
        slot_removed.descriptors d.desc

    closes : close_fd k p fd ≡ released without_slot d.desc
    unfolding close_fd
    closes = ap (closed_by k (slot p fd)) (slot_is ∙ is)

    abbrev by_held : Bool → PlainKernel
    by_held b = cond b without_slot (released_by without_slot d.desc (map.get k.descriptions d.desc))

    kept : books.is_held less_slots.descriptors d.desc ≡ true
        → Stands g None (record old { book = less_slots }) (close_fd k p fd)
    unfolding released
    kept held = subst (Stands g None (record old { book = less_slots })) (sym (closes ∙ ap by_held (held_is ∙ held)))
        slot_removed

    module _ (x : Desc) (described : map.get old.book.descriptions d.desc ≡ Some x) where
      abbrev pub less_descs : Books
      less_descs = record less_slots { descriptions = map.remove old.book.descriptions d.desc }

      abbrev pub without_desc : PlainKernel
      without_desc = without_description without_slot d.desc

      desc_removed : HasNoInbox x.object → Stands g None (record old { book = less_descs }) without_desc
      desc_removed no_end =
          book_kept g None old k st less_descs (map.remove k.descriptors (slot p fd))
          (map.remove k.descriptions d.desc)
          (slot_taken g.pids g.virts st.paired.inverse k.descriptors old.book.descriptors st.descriptors p who
          paired fd)
          (SameDescriptions-remove g.virts g.names g.addresses old.datagrams None k.descriptions
          old.book.descriptions st.descriptions d.desc)
          (SameInboxes-remove old.datagrams k.inboxes old.book.descriptions st.inboxes d.desc x described no_end)

      gone : books.is_held less_slots.descriptors d.desc ≡ false
          → close_fd k p fd ≡ let_go without_desc d.desc (seen_object g.names old.datagrams d.desc x.object)
      unfolding released
      gone held =
          closes ∙ ap by_held (held_is ∙ held)
          ∙ ap (released_by without_slot d.desc) (st.descriptions.each d.desc
          ∙ ap (option_map (seen_desc g.virts g.names old.datagrams None d.desc)) described)

      -- with the end of a datagram pair
      module _ (queue side : ℕ) (object_is : x.object ≡ object.Datagram queue side) where
        abbrev pairs' : Pairs
        pairs' = after_close side old.datagrams queue

        own : IsOpenEnd old.datagrams d.desc queue side
        own =
            subst (IsTold g.names g.addresses old.datagrams d.desc) object_is
            (st.descriptions.objects d.desc x described)

        pair_there : (o : Option DatagramPair) → option_map (told_end side) o ≡ Some (d.desc, true) → IsSome o
        pair_there None e = absurd (none-some (d.desc, true) e)
        pair_there (Some pair) e = refl

        told : (q : DescId) (e : Desc) → map.get old.book.descriptions q ≡ Some e
            → IsTold g.names g.addresses old.datagrams q e.object
        told q e at = st.descriptions.objects q e at

        module _ (pair : DatagramPair) (there : map.get old.datagrams queue ≡ Some pair) where
          still : (q : DescId) (e : Desc) → q ≢ d.desc → map.get old.book.descriptions q ≡ Some e
              → IsStillTold g.names g.names g.addresses old.datagrams pairs' q e.object
          still q e differ at =
              still_known old.datagrams queue side own.0 pair there d.desc own q differ g.names g.addresses e.object
              (told q e at)

          seen_still : (q : DescId) → q ≢ d.desc → (o : Option Desc) → map.get old.book.descriptions q ≡ o
              → option_map (seen_desc g.virts g.names old.datagrams None q) o
              ≡ option_map (seen_desc g.virts g.names pairs' None q) o
          seen_still q differ None at = refl
          seen_still q differ (Some e) at =
              ap (λ w. Some (record (seen_desc g.virts g.names old.datagrams None q e) { object = w }))
              (sym (still q e differ at).same)

          was : (q : DescId) (e : Desc) → map.get less_descs.descriptions q ≡ Some e
              → (q ≢ d.desc) × (map.get old.book.descriptions q ≡ Some e)
          was q e at = elim (same_or_other desc_total desc_exact q d.desc) [
            | inl here ↦ absurd (none-some e
                (sym (get_remove_same desc_total desc_exact old.book.descriptions d.desc)
                ∙ ap (map.get less_descs.descriptions) (sym here) ∙ at))
            | inr differ ↦ (
              differ,
              sym (get_remove_other desc_total desc_exact old.book.descriptions d.desc q differ) ∙ at,
            )
          ]

          descs : SameDescriptions g.virts g.names g.addresses pairs' None (map.remove k.descriptions d.desc)
              less_descs.descriptions
          descs = record {
            each = λ q. elim (same_or_other desc_total desc_exact q d.desc) [
              | inl here ↦
                  ap (map.get (map.remove k.descriptions d.desc)) here
                  ∙ get_remove_same desc_total desc_exact k.descriptions d.desc
                  ∙ sym (ap (option_map (seen_desc g.virts g.names pairs' None q))
                  (ap (map.get less_descs.descriptions) here
                  ∙ get_remove_same desc_total desc_exact old.book.descriptions d.desc))
              | inr differ ↦
                  get_remove_other desc_total desc_exact k.descriptions d.desc q differ ∙ st.descriptions.each q
                  ∙ seen_still q differ (map.get old.book.descriptions q) refl
                  ∙ sym (ap (option_map (seen_desc g.virts g.names pairs' None q))
                  (get_remove_other desc_total desc_exact old.book.descriptions d.desc q differ))
            ];
            owners = λ q e at. st.descriptions.owners q e (was q e at).1;
            objects = λ q e at. let w = was q e at in (still q e w.0 w.1).told;
          }

          end_removed : Stands g None (record old { book = less_descs; datagrams = pairs' })
              (record without_desc { inboxes = map.remove k.inboxes d.desc })
          end_removed = record {
            paired = st.paired;
            numbered = st.numbered;
            processes = st.processes;
            descriptors = slot_taken g.pids g.virts st.paired.inverse k.descriptors old.book.descriptors
                st.descriptors p who paired fd;
            descriptions = descs;
            inboxes = SameInboxes-closed old.datagrams queue side own.0 pair there k.inboxes
                old.book.descriptions st.inboxes d.desc own x described object_is g.names g.addresses told;
            files = st.files;
            channels = st.channels;
            directions = st.directions;
            listeners = st.listeners;
          }

        pub datagram_removed : books.is_held less_slots.descriptors d.desc ≡ false
            → Stands g None (record old { book = less_descs; datagrams = pairs' }) (close_fd k p fd)
        datagram_removed held =
            let pair = some_value (map.get old.datagrams queue) (pair_there (map.get old.datagrams queue) own.1) in
            subst (Stands g None (record old { book = less_descs; datagrams = pairs' }))
            (sym (gone held ∙ ap (λ w. let_go without_desc d.desc (seen_object g.names old.datagrams d.desc w)) object_is))
            (end_removed pair.0 pair.1)

-- what a close of the book leaves where no descriptor is there

pub after_none : (b : Books) (at : RealSlot) → map.get b.descriptors at ≡ None → books.after_close b at ≡ b
unfolding books.after_close
after_none b at none = ap (books.without_descriptor b at) none

pub lost_none : (b : Books) (at : RealSlot) → map.get b.descriptors at ≡ None → books.lost_by_close b at ≡ None
unfolding books.lost_by_close
lost_none b at none = ap (books.lost_without b at) none

-- what a close of the book leaves, by whether another descriptor refers to the description
module _ (b : Books) (at : RealSlot) (d : Descriptor) (is : map.get b.descriptors at ≡ Some d) where
  abbrev still_held : Bool
  still_held = books.is_held (map.remove b.descriptors at) d.desc

  abbrev after_by : Bool → Books
  after_by h = record {
    descriptions = cond h b.descriptions (map.remove b.descriptions d.desc);
    descriptors = map.remove b.descriptors at;
  }

  pub after_is : (h : Bool) → still_held ≡ h → books.after_close b at ≡ after_by h
  unfolding books.after_close
  after_is h e = ap (books.without_descriptor b at) is ∙ ap after_by e

  lost_is : (h : Bool) → still_held ≡ h → books.lost_by_close b at ≡ cond h None (Some d.desc)
  unfolding books.lost_by_close
  lost_is h e = ap (books.lost_without b at) is ∙ ap (λ x. cond x None (Some d.desc)) e

  by_none : (h : Bool) → still_held ≡ h → books.lost_by_close b at ≡ None → still_held ≡ true
  by_none true e none = e
  by_none false e none = absurd (none-some d.desc (sym none ∙ lost_is false e))

  pub held_none : books.lost_by_close b at ≡ None → still_held ≡ true
  held_none none = by_none still_held refl none

  by_some : (h : Bool) → still_held ≡ h → (id : DescId) → books.lost_by_close b at ≡ Some id
      → (still_held ≡ false) × (d.desc ≡ id)
  by_some true e id some = absurd (none-some id (sym (lost_is true e) ∙ some))
  by_some false e id some = (e, same_Some d.desc id (sym (lost_is false e) ∙ some))

  pub held_some : (id : DescId) → books.lost_by_close b at ≡ Some id → (still_held ≡ false) × (d.desc ≡ id)
  held_some id some = by_some still_held refl id some

module _ (g : Given) (old : Kernel) (k : PlainKernel) (whole : IsKernel k) (st : Stands g None old k) (p : VPid)
    (who : RealPid) (paired : map.get g.pids p.0 ≡ Some who) (fd : ℕ) (d : Descriptor)
    (is : map.get old.book.descriptors (slots.slot who fd) ≡ Some d) (b : Books)
    (after : b ≡ books.after_close old.book (slots.slot who fd)) where
  pub closed_held : books.lost_by_close old.book (slots.slot who fd) ≡ None
      → Stands g None (record old { book = b }) (close_fd k p fd)
  closed_held none =
      let held = held_none old.book (slots.slot who fd) d is none in
      subst (λ w. Stands g None (record old { book = w }) (close_fd k p fd))
      (sym (after ∙ after_is old.book (slots.slot who fd) d is true held)) (kept g old k st p who paired fd d is held)

  module _ (x : Desc) (described : map.get old.book.descriptions d.desc ≡ Some x) (id : DescId)
      (lost : books.lost_by_close old.book (slots.slot who fd) ≡ Some id) where
    not_held : books.is_held (map.remove old.book.descriptors (slots.slot who fd)) d.desc ≡ false
    not_held = (held_some old.book (slots.slot who fd) d is id lost).0

    b_is : b ≡ less_descs g old k st p who paired fd d is x described
    b_is = after ∙ after_is old.book (slots.slot who fd) d is false not_held

    -- the kernel in between, and what is left to do
    abbrev pub in_between : PlainKernel
    in_between = without_desc g old k st p who paired fd d is x described

    pub stands_between : HasNoInbox x.object → Stands g None (record old { book = b }) in_between
    stands_between no_end =
        subst (λ w. Stands g None (record old { book = w }) in_between) (sym b_is)
        (desc_removed g old k st p who paired fd d is x described no_end)

    pub close_is : close_fd k p fd ≡ let_go in_between d.desc (seen_object g.names old.datagrams d.desc x.object)
    close_is = gone g old k st p who paired fd d is x described not_held

    pub closed_gone : HasNoInbox x.object → (new : Kernel)
        → ((g : Given) (k : PlainKernel) (q : DescId) → Stands g None (record old { book = b }) k
        → MayGo g (record old { book = b }) q x.object
        → Stands g None new (let_go k q (seen_object g.names old.datagrams q x.object)))
        → Stands g None new (close_fd k p fd)
    closed_gone no_end new goes =
        subst (Stands g None new) (sym close_is)
        (goes g in_between d.desc (stands_between no_end) (may_go g old k whole st d.desc x described no_end))

    pub closed_datagram : (queue side : ℕ) → x.object ≡ object.Datagram queue side → (pairs : Pairs)
        → pairs ≡ after_close side old.datagrams queue
        → Stands g None (record old { book = b; datagrams = pairs }) (close_fd k p fd)
    closed_datagram queue side object_is pairs closes =
        subst (λ w. Stands g None (record old { book = w; datagrams = pairs }) (close_fd k p fd)) (sym b_is)
        (subst (λ w. Stands g None (record old {
          book = less_descs g old k st p who paired fd d is x described;
          datagrams = w;
        }) (close_fd k p fd)) (sym closes)
        (datagram_removed g old k st p who paired fd d is x described queue side object_is not_held))

module _ (g : Given) (old : Kernel) (k : PlainKernel) (st : Stands g None old k) (p : VPid) (who : RealPid)
    (paired : map.get g.pids p.0 ≡ Some who) (fd : ℕ)
    (none : map.get old.book.descriptors (slots.slot who fd) ≡ None) where
  pub closed_nothing : (b : Books) → b ≡ books.after_close old.book (slots.slot who fd)
      → Stands g None (record old { book = b }) (close_fd k p fd)
  closed_nothing b is =
      subst (λ (w : Books). Stands g None (record old { book = w }) (close_fd k p fd))
      (sym (is ∙ after_none old.book (slots.slot who fd) none))
      (subst (Stands g None old) (sym (closed_none g old k st p who paired fd none)) st)
