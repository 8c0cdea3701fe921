-- eventfd2 and socket over real numbers, through the pairs.
--     counter_refused, counter_unnumbered, counter_full, counter_made      what eventfd2 answers
--     socket_foreign, .., socket_made                                     what socket does
use Rattle.std.proofs.Common.{◌≡◌, ℕ, List, Bool, true, false, Option, Some, None, refl, sym, ap, ◌∙◌, subst, arith}
use Rattle.std.specs.Prelude.{◌==◌}
use Rattle.std.specs.FinMap as map
use Rattle.views.specs.Numbers.{Byte, Flags}
use Rattle.sys_abi.specs.declared.errors.TheConstants.{EINVAL, ENFILE, EMFILE, EAFNOSUPPORT}
use Rattle.sys_abi.specs.declared.flags.TheConstants.{O_RDWR, O_NONBLOCK, O_CLOEXEC}
use Rattle.sys_abi.specs.declared.identity.DescId.{DescId}
use Rattle.sys_abi.specs.declared.identity.RealPid.{RealPid}
use Rattle.sys_abi.specs.declared.identity.VPid.{VPid}
use Rattle.sys_abi.specs.declared.identity.VirtAddr.{VirtAddr}
use Rattle.sys_abi.specs.Flags.{has_flag}
use Rattle.fd_tables.specs.declared.description.Desc.{Desc}
use Rattle.fd_tables.specs.declared.description.Object as real_object
use Rattle.fd_tables.specs.declared.description.Object.TheVariants as object
use Rattle.fd_tables.specs.Numbers.{AllUsed, IsLowestFree}
use Rattle.fd_tables.specs.Slots as slots
use Rattle.fd_book.specs.Books.{Books}
use Rattle.plain_process.specs.Attempts.{Fails, Gives}
use Rattle.plain_tables.specs.declared.description.Object.TheVariants as plain
use Rattle.plain_machine.specs.declared.kernel.PlainKernel.{PlainKernel}
use Rattle.plain_machine.specs.Addresses.{AF_INET, address_at}
use Rattle.plain_machine.specs.Kernel.{free_from, has_numbers, host_of, made_of, numbered, placed}
use Rattle.plain_machine.specs.Making.{are_making_flags, end_flags, desc_id}
use Rattle.plain_machine.specs.Rows.Counters.{eventfd2_row}
use Rattle.plain_machine.specs.Rows.Sockets.{socket_row}
use Rattle.plain_machine.specs.SocketWords.{socket_flags}
use Rattle.host_tables.specs.declared.kernel.Kernel.{Kernel}
use Rattle.host_tables.specs.declared.attempt.Attempt.{Attempt}
use Rattle.host_tables.specs.declared.attempt.Attempt.TheVariants as answer
use Rattle.host_tables.specs.Requests.{next_desc}
use Rattle.host_tables.specs.Serves.{After, Serves, ByNumber, same, with_new_name}
use Rattle.host_tables.specs.Stands.{Given, Stands, with_name}
use Rattle.host_tables.proofs.LookUps.{free_none, free_some}
use Rattle.host_tables.proofs.MakerChanges.{made_kept}
use Rattle.host_makers.specs.Places.{new_desc, with_placed, WasFull, WasPlaced}
use Rattle.host_makers.proofs.Answered.{refused_by, made_by, none_left, some_left}
use Rattle.host_makers.proofs.MadeRows.{refused, passed, none_given_out, none_free, given, counter, counter_is, socket, is_stream, socket_is}
use Rattle.host_makers.proofs.NewDescriptions.{counter_empty, placed_kept, socket_kept}

module _ (g : Given) (real : Kernel) (k : PlainKernel) (p : VPid) (x : List Byte) where
  abbrev after_socket : Option DescId → After
  after_socket id n m given = with_new_name given id (address_at (host_of k p) 0)

  -- refusals

  module _ (value : ℕ) (flags : Flags) where
    abbrev pub CounterSays : Kernel → Attempt → Type 0
    CounterSays new a = Serves ByNumber same g real new x x a (eventfd2_row k p value flags)

    pub counter_refused : are_making_flags flags ≡ false
        → CounterSays real (answer.Fails (record { 0 = EINVAL }))
    counter_refused is =
        refused_by same g real real x x (eventfd2_row k p value flags) EINVAL
        (counter_is k p value flags false _ _ is refl refl ∙ refused EINVAL _) refl refl

    pub counter_unnumbered : are_making_flags flags ≡ true → None ≡ next_desc k p
        → CounterSays real (answer.Fails (record { 0 = ENFILE }))
    counter_unnumbered is none =
        refused_by same g real real x x (eventfd2_row k p value flags) ENFILE
        (counter_is k p value flags true false _ is
        (none_left (has_numbers k p) (desc_id p (made_of k p)) none) refl
        ∙ passed EINVAL _ ∙ none_given_out _ (counter k p value flags)) refl refl

  module _ (domain socket_type protocol : ℕ) (id : Option DescId) where
    abbrev pub SocketSays : Kernel → Attempt → Type 0
    SocketSays new a =
        Serves ByNumber (after_socket id) g real new x x a (socket_row k p domain socket_type protocol)

    pub socket_foreign : (domain == AF_INET) ≡ false
        → SocketSays real (answer.Fails (record { 0 = EAFNOSUPPORT }))
    socket_foreign is =
        refused_by (after_socket id) g real real x x (socket_row k p domain socket_type protocol) EAFNOSUPPORT
        (socket_is k p domain socket_type protocol false _ _ _ is refl refl refl ∙ refused EAFNOSUPPORT _)
        refl refl

    pub socket_refused : (domain == AF_INET) ≡ true → is_stream k p domain socket_type protocol ≡ false
        → SocketSays real (answer.Fails (record { 0 = EINVAL }))
    socket_refused family is =
        refused_by (after_socket id) g real real x x (socket_row k p domain socket_type protocol) EINVAL
        (socket_is k p domain socket_type protocol true false _ _ family is refl refl
        ∙ passed EAFNOSUPPORT _ ∙ refused EINVAL _) refl refl

    pub socket_unnumbered : (domain == AF_INET) ≡ true → is_stream k p domain socket_type protocol ≡ true
        → None ≡ next_desc k p → SocketSays real (answer.Fails (record { 0 = ENFILE }))
    socket_unnumbered family is none =
        refused_by (after_socket id) g real real x x (socket_row k p domain socket_type protocol) ENFILE
        (socket_is k p domain socket_type protocol true true false _ family is
        (none_left (has_numbers k p) (desc_id p (made_of k p)) none) refl
        ∙ passed EAFNOSUPPORT _ ∙ passed EINVAL _ ∙ none_given_out _ (socket k p domain socket_type protocol))
        refl refl

  -- with a number

  module _ (st : Stands g None real k) (who : RealPid) (paired : map.get g.pids p.0 ≡ Some who) (id : DescId)
      (named : Some id ≡ next_desc k p) (new : map.get real.book.descriptions id ≡ None) (b : Books)
      (desc : Desc) (cloexec : Bool) where
    left : has_numbers k p ≡ true
    left = (some_left (has_numbers k p) id (desc_id p (made_of k p)) named).0

    own : id ≡ desc_id p (made_of k p)
    own = (some_left (has_numbers k p) id (desc_id p (made_of k p)) named).1

    has_made : Stands g None real (numbered k p 1)
    has_made = made_kept g None real k st p 1

    none_at : AllUsed real.book.descriptors who 0 → free_from k p 0 ≡ Fails EMFILE
    none_at full = free_none g real k st p who paired 0 (omega arith) full

    one_at : (fd : ℕ) → IsLowestFree real.book.descriptors who 0 fd → free_from k p 0 ≡ Gives fd
    one_at fd lowest = free_some g real k st p who paired 0 fd (omega arith) lowest

    -- by what was placed
    stands_by : (then : Given) (fd : ℕ) (o : real_object.Object) (flags : Flags) (closes : Bool)
        (made : PlainKernel)
        → WasPlaced real.book b who id desc cloexec fd → desc ≡ new_desc o flags → cloexec ≡ closes
        → Stands then None
        (record real { book = with_placed real.book (slots.slot who fd) id (new_desc o flags) closes }) made
        → Stands then None (record real { book = b }) made
    stands_by then fd o flags closes made was is_desc is_cloexec stands =
        subst (λ (w : Books). Stands then None (record real { book = w }) made)
        (sym (was.after ∙ (λ i. with_placed real.book (slots.slot who fd) id (is_desc i) (is_cloexec i))))
        stands

    module _ (value : ℕ) (flags : Flags) (valid : are_making_flags flags ≡ true) where
      pub counter_full : WasFull real.book b (AllUsed real.book.descriptors who 0)
          → CounterSays value flags (record real { book = b }) (answer.Fails (record { 0 = EMFILE }))
      counter_full full =
          refused_by same g real (record real { book = b }) x x (eventfd2_row k p value flags) EMFILE
          (counter_is k p value flags true true _ valid left (none_at full.lacks)
          ∙ passed EINVAL _ ∙ none_free EMFILE (counter k p value flags))
          (ap (λ (w : Books). record real { book = w }) full.same) refl

      pub counter_made : (fd : ℕ) → WasPlaced real.book b who id desc cloexec fd
          → desc ≡ new_desc (object.Counter value) (end_flags O_RDWR flags)
          → cloexec ≡ has_flag flags O_CLOEXEC
          → CounterSays value flags (record real { book = b }) (answer.Gives fd)
      counter_made fd was is_desc is_cloexec =
          made_by same g real (record real { book = b }) x x (eventfd2_row k p value flags)
          (counter k p value flags fd) fd
          (counter_is k p value flags true true _ valid left (one_at fd was.lowest)
          ∙ passed EINVAL _ ∙ given fd (counter k p value flags)) refl
          (stands_by g fd (object.Counter value) (end_flags O_RDWR flags) (has_flag flags O_CLOEXEC)
          (counter k p value flags fd) was is_desc is_cloexec
          (subst (λ d. Stands g None (record real {
            book = with_placed real.book (slots.slot who fd) id
                (new_desc (object.Counter value) (end_flags O_RDWR flags)) (has_flag flags O_CLOEXEC);
          }) (placed (numbered k p 1) p fd d (has_flag flags O_CLOEXEC)
          (plain.Counter value) (end_flags O_RDWR flags))) own
          (placed_kept g real (numbered k p 1) has_made p who paired fd id (has_flag flags O_CLOEXEC) new
          (end_flags O_RDWR flags) (object.Counter value) (counter_empty value) tt)))

    module _ (domain socket_type protocol : ℕ) (family : (domain == AF_INET) ≡ true)
        (valid : is_stream k p domain socket_type protocol ≡ true) where
      abbrev address : VirtAddr
      address = address_at (host_of k p) 0

      pub socket_full : WasFull real.book b (AllUsed real.book.descriptors who 0)
          → SocketSays domain socket_type protocol (Some id) (record real { book = b })
          (answer.Fails (record { 0 = EMFILE }))
      socket_full full =
          refused_by (after_socket (Some id)) g real (record real { book = b }) x x
          (socket_row k p domain socket_type protocol) EMFILE
          (socket_is k p domain socket_type protocol true true true _ family valid left (none_at full.lacks)
          ∙ passed EAFNOSUPPORT _ ∙ passed EINVAL _
          ∙ none_free EMFILE (socket k p domain socket_type protocol))
          (ap (λ (w : Books). record real { book = w }) full.same) refl

      pub socket_made : (fd : ℕ) → WasPlaced real.book b who id desc cloexec fd
          → desc ≡ new_desc object.Socket (socket_flags (has_flag socket_type O_NONBLOCK))
          → cloexec ≡ has_flag socket_type O_CLOEXEC
          → SocketSays domain socket_type protocol (Some id) (record real { book = b }) (answer.Gives fd)
      socket_made fd was is_desc is_cloexec =
          made_by (after_socket (Some id)) g real (record real { book = b }) x x
          (socket_row k p domain socket_type protocol) (socket k p domain socket_type protocol fd) fd
          (socket_is k p domain socket_type protocol true true true _ family valid left (one_at fd was.lowest)
          ∙ passed EAFNOSUPPORT _ ∙ passed EINVAL _ ∙ given fd (socket k p domain socket_type protocol)) refl
          (stands_by (with_name g id address) fd object.Socket
          (socket_flags (has_flag socket_type O_NONBLOCK))
          (has_flag socket_type O_CLOEXEC) (socket k p domain socket_type protocol fd) was is_desc is_cloexec
          (subst (λ d. Stands (with_name g id address) None (record real {
            book = with_placed real.book (slots.slot who fd) id
                (new_desc object.Socket (socket_flags (has_flag socket_type O_NONBLOCK)))
                (has_flag socket_type O_CLOEXEC);
          }) (placed (numbered k p 1) p fd d
          (has_flag socket_type O_CLOEXEC) (plain.Socket address)
          (socket_flags (has_flag socket_type O_NONBLOCK)))) own
          (socket_kept g real (numbered k p 1) has_made p who paired fd id (has_flag socket_type O_CLOEXEC)
          new
          (socket_flags (has_flag socket_type O_NONBLOCK)) address)))
