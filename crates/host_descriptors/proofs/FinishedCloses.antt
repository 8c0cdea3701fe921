-- A close is finished: the kernel stands for the kernel part after the plain close, also where another descriptor
-- was put in the place of the one that closed.
--     put_in, put_on      that descriptor, on either side
--     finished            what was left to do is done
--     told_close          what is told is what the close made nobody's
use Rattle.std.proofs.Common.{◌≡◌, ◌≢◌, ℕ, Option, Some, None, inl, inr, refl, sym, ap, ◌∙◌, subst}
use Rattle.std.specs.Prelude.{option_map, option_and_then, IfSome, IfNone}
use Rattle.std.specs.FinMap as map
use Rattle.std.proofs.lemmas.Option.{none-some}
use Rattle.sys_abi.specs.declared.descriptor.Descriptor.{Descriptor}
use Rattle.sys_abi.specs.declared.identity.VPid.{VPid}
use Rattle.sys_abi.specs.declared.identity.DescId.{DescId}
use Rattle.sys_abi.specs.declared.identity.RealPid.{RealPid}
use Rattle.sys_abi.specs.declared.identity.VirtAddr.{VirtAddr}
use Rattle.conn_table.specs.Pairs.{Pairs, after_close}
use Rattle.fd_tables.specs.declared.description.Desc.{Desc}
use Rattle.fd_tables.specs.declared.description.Object as real_object
use Rattle.fd_tables.specs.declared.description.Object.TheVariants as object
use Rattle.fd_tables.specs.declared.real_slot.RealSlot.{RealSlot}
use Rattle.fd_book.specs.Books as books
use Rattle.fd_tables.specs.Slots as slots
use Rattle.fd_book.specs.Books.{Books, IsWhole}
use Rattle.host_tables.specs.OfPlainTables.declared.channel.Listening.{Listening}
use Rattle.host_tables.specs.OfPlainTables.declared.description.Object as plain
use Rattle.host_tables.specs.OfPlainTables.declared.description.Object.TheVariants.{Console, File, Stream, Socket, Listener, Datagram, Counter}
use Rattle.host_tables.specs.OfPlainMachine.declared.kernel.PlainKernel.{PlainKernel}
use Rattle.host_tables.specs.OfPlainMachine.Channels.{close_queue, without_listener, close_listener}
use Rattle.host_tables.specs.OfPlainMachine.Closing.{let_go, close_fd}
use Rattle.host_tables.specs.OfPlainMachine.Kernel.{with_descriptor}
use Rattle.host_tables.specs.OfPlainMachine.Kernels.{IsKernel}
use Rattle.host_tables.specs.declared.kernel.Kernel.{Kernel}
use Rattle.host_tables.specs.Descriptions.{seen_object}
use Rattle.host_tables.specs.Stands.{Given, Stands}
use Rattle.host_tables.proofs.LookUps.{some_value}
use Rattle.host_tables.proofs.SlotChanges.{put_kept}
use Rattle.host_descriptors.specs.declared.closing.Closed.{Closed}
use Rattle.host_descriptors.specs.LetGo.{HasLetGo, IsToldClose, closed_of}
use Rattle.host_descriptors.proofs.CloseCall.{may_go, closed_none, closed_held, closed_datagram, in_between, stands_between, close_is, after_none, lost_none, held_some}
use Rattle.host_descriptors.proofs.ObjectsAt.{object_in, datagram_or}

abbrev pub put_in : RealSlot → Option Descriptor → Books → Books
put_in at None b = b
put_in at (Some d) b = books.with_descriptor b at d.desc d.cloexec

abbrev pub put_on : VPid → ℕ → Option Descriptor → PlainKernel → PlainKernel
put_on p fd None k = k
put_on p fd (Some d) k = with_descriptor k p fd d

module _ (p : VPid) (fd : ℕ) (d : Descriptor) (k : PlainKernel) where
  by_queue : (a : VirtAddr) (o : Option Listening)
      → close_queue (without_listener (with_descriptor k p fd d) a) o
      ≡ with_descriptor (close_queue (without_listener k a) o) p fd d
  by_queue a None = refl
  by_queue a (Some listening) = refl

  let_go_beside : (id : DescId) (o : plain.Object)
      → let_go (with_descriptor k p fd d) id o ≡ with_descriptor (let_go k id o) p fd d
  unfolding close_listener
  let_go_beside id Console = refl
  let_go_beside id (File number offset) = refl
  let_go_beside id (Stream conn side) = refl
  let_go_beside id (Socket address) = refl
  let_go_beside id (Listener address) = by_queue address (map.get k.listeners address)
  let_go_beside id (Datagram peer) = refl
  let_go_beside id (Counter value) = refl

let_go_put : (p : VPid) (fd : ℕ) (extra : Option Descriptor) (k : PlainKernel) (id : DescId) (o : plain.Object)
    → let_go (put_on p fd extra k) id o ≡ put_on p fd extra (let_go k id o)
let_go_put p fd None k id o = refl
let_go_put p fd (Some d) k id o = let_go_beside p fd d k id o

put_both : (g : Given) (real : Kernel) (k : PlainKernel) → Stands g None real k → (p : VPid) (r : RealPid)
    → map.get g.pids p.0 ≡ Some r → (fd : ℕ) (extra : Option Descriptor)
    → Stands g None (record real { book = put_in (slots.slot r fd) extra real.book }) (put_on p fd extra k)
put_both g real k st p r paired fd None = st
put_both g real k st p r paired fd (Some d) = put_kept g None real k st p r paired fd d

module _ (g : Given) (old : Kernel) (k : PlainKernel) (whole : IsKernel k) (st : Stands g None old k) (p : VPid)
    (who : RealPid) (paired : map.get g.pids p.0 ≡ Some who) (fd : ℕ) (sound : IsWhole old.book)
    (extra : Option Descriptor) where
  abbrev at : RealSlot
  at = slots.slot who fd

  abbrev b : Books
  b = books.after_close old.book at

  module _ (book : Books) (book_is : book ≡ put_in at extra b) (lost : Option DescId) (lost_is : lost ≡ books.lost_by_close old.book at)
      (found : Option real_object.Object) (found_is : found ≡ object_in old.book at) (new : Kernel)
      (closed : Option Closed) (closed_is : closed ≡ closed_of lost found)
      (goes : IfSome closed (λ c. HasLetGo (record old { book = book }) new c.object))
      (stays : IfNone closed (new ≡ record old { book = book })) where
    abbrev between : Kernel
    between = record old { book = book }

    as_none : lost ≡ None → new ≡ between
    as_none none =
        subst (λ c. IfNone c (new ≡ between)) (closed_is ∙ ap (λ o. closed_of o found) none) stays

    -- the book as it is
    in_book : (pairs : Pairs) (kept : PlainKernel)
        → Stands g None (record old { book = put_in at extra b; datagrams = pairs }) kept
        → Stands g None (record old { book = book; datagrams = pairs }) kept
    in_book pairs kept stands =
        subst (λ (w : Books). Stands g None (record old { book = w; datagrams = pairs }) kept) (sym book_is) stands

    -- nothing goes
    unmoved : (kept : PlainKernel) → Stands g None (record old { book = b }) kept → lost ≡ None
        → Stands g None new (put_on p fd extra kept)
    unmoved kept stands none =
        subst (λ (r : Kernel). Stands g None r (put_on p fd extra kept)) (sym (as_none none))
        (in_book old.datagrams (put_on p fd extra kept)
        (put_both g (record old { book = b }) kept stands p who paired fd extra))

    at_none : map.get old.book.descriptors at ≡ None → Stands g None new (put_on p fd extra (close_fd k p fd))
    at_none none =
        unmoved (close_fd k p fd)
        (subst (λ (w : Books). Stands g None (record old { book = w }) (close_fd k p fd))
        (sym (after_none old.book at none))
        (subst (Stands g None old) (sym (closed_none g old k st p who paired fd none)) st))
        (lost_is ∙ lost_none old.book at none)

    module _ (d : Descriptor) (is : map.get old.book.descriptors at ≡ Some d) (x : Desc)
        (described : map.get old.book.descriptions d.desc ≡ Some x) where
      found_some : found ≡ Some x.object
      found_some =
          found_is
          ∙ ap (option_and_then (λ (e : Descriptor). option_map (λ (y : Desc). y.object)
          (map.get old.book.descriptions e.desc))) is
          ∙ ap (option_map (λ (y : Desc). y.object)) described

      module _ (id : DescId) (gone : lost ≡ Some id) where
        lost_some : books.lost_by_close old.book at ≡ Some id
        lost_some = sym lost_is ∙ gone

        has_let_go : HasLetGo between new x.object
        has_let_go =
            subst (λ c. IfSome c (λ (e : Closed). HasLetGo between new e.object))
            (closed_is ∙ (λ i. closed_of (gone i) (found_some i))) goes

        datagram : (queue side : ℕ) → x.object ≡ object.Datagram queue side
            → Stands g None new (put_on p fd extra (close_fd k p fd))
        datagram queue side object_is =
            let closes =
            closed_datagram g old k whole st p who paired fd d is b refl x described id lost_some queue side object_is
            (after_close side old.datagrams queue) refl in
            subst (λ (r : Kernel). Stands g None r (put_on p fd extra (close_fd k p fd)))
            (sym (has_let_go.end queue side object_is))
            (in_book (after_close side old.datagrams queue) (put_on p fd extra (close_fd k p fd))
            (put_both g (record old { book = b; datagrams = after_close side old.datagrams queue })
            (close_fd k p fd) closes p who paired fd extra))

        other : ((queue side : ℕ) → x.object ≢ object.Datagram queue side)
            → Stands g None new (put_on p fd extra (close_fd k p fd))
        other no_end =
            let mid = in_between g old k whole st p who paired fd d is b refl x described id lost_some in
            subst (λ (q : PlainKernel). Stands g None new q)
            (let_go_put p fd extra mid d.desc (seen_object g.names old.datagrams d.desc x.object)
            ∙ ap (put_on p fd extra)
            (sym (close_is g old k whole st p who paired fd d is b refl x described id lost_some)))
            (has_let_go.goes g (put_on p fd extra mid) d.desc
            (in_book old.datagrams (put_on p fd extra mid)
            (put_both g (record old { book = b }) mid
            (stands_between g old k whole st p who paired fd d is b refl x described id lost_some no_end)
            p who paired fd extra))
            (may_go g old k whole st d.desc x described no_end))

        went : Stands g None new (put_on p fd extra (close_fd k p fd))
        went = elim (datagram_or x.object) [
          | inl is_end ↦ datagram is_end.0 is_end.1.0 is_end.1.1
          | inr no_end ↦ other no_end
        ]

      by_lost : (o : Option DescId) → lost ≡ o → Stands g None new (put_on p fd extra (close_fd k p fd))
      by_lost None none =
          unmoved (close_fd k p fd)
          (closed_held g old k whole st p who paired fd d is b refl (sym lost_is ∙ none)) none
      by_lost (Some id) gone = went id gone

    by_slot : (o : Option Descriptor) → map.get old.book.descriptors at ≡ o
        → Stands g None new (put_on p fd extra (close_fd k p fd))
    by_slot None none = at_none none
    by_slot (Some d) is =
        let x = some_value (map.get old.book.descriptions d.desc) (sound.described at d is) in
        by_lost d is x.0 x.1 lost refl

    pub finished : Stands g None new (put_on p fd extra (close_fd k p fd))
    finished = by_slot (map.get old.book.descriptors at) refl

module _ (b : Books) (at : RealSlot) where
  is_told_none : books.lost_by_close b at ≡ None → IsToldClose b at None
  is_told_none none = record { desc = sym none; object = tt }

  by_nobody : (lost : Option DescId) → lost ≡ books.lost_by_close b at → (found : Option real_object.Object)
      → lost ≡ None → IsToldClose b at (closed_of lost found)
  by_nobody None is found none = is_told_none (sym is)
  by_nobody (Some id) is found none = absurd (none-some id (sym none))

  by_desc : (d : Descriptor) → map.get b.descriptors at ≡ Some d → (x : Desc)
      → map.get b.descriptions d.desc ≡ Some x → (lost : Option DescId) → lost ≡ books.lost_by_close b at
      → IsToldClose b at (closed_of lost (Some x.object))
  by_desc d there x described None is = is_told_none (sym is)
  by_desc d there x described (Some id) is = record {
    desc = is;
    object = ap (λ i. option_map (λ (y : Desc). y.object) (map.get b.descriptions i))
        (sym (held_some b at d there id (sym is)).1)
        ∙ ap (option_map (λ (y : Desc). y.object)) described;
  }

  module _ (sound : IsWhole b) (lost : Option DescId) (lost_is : lost ≡ books.lost_by_close b at)
      (found : Option real_object.Object) (found_is : found ≡ object_in b at) where
    by_there : (o : Option Descriptor) → map.get b.descriptors at ≡ o → IsToldClose b at (closed_of lost found)
    by_there None none = by_nobody lost lost_is found (lost_is ∙ lost_none b at none)
    by_there (Some d) is =
        let x = some_value (map.get b.descriptions d.desc) (sound.described at d is) in
        subst (λ o. IsToldClose b at (closed_of lost o))
        (sym (found_is
        ∙ ap (option_and_then (λ (e : Descriptor). option_map (λ (y : Desc). y.object)
        (map.get b.descriptions e.desc))) is
        ∙ ap (option_map (λ (y : Desc). y.object)) x.1))
        (by_desc d is x.0 x.1 lost lost_is)

    pub told_close : (closed : Option Closed) → closed ≡ closed_of lost found → IsToldClose b at closed
    told_close closed is =
        subst (λ c. IsToldClose b at c) (sym is) (by_there (map.get b.descriptors at) refl)
