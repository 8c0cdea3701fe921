-- A close of one descriptor, and the rows of close and dup3, by every kernel part for which the system stood.
--     closed_placed      a descriptor closed, and another may be in its place
--     refused, served    an error, and an answer
--     dup3_invalid, dup3_beyond      the tests of dup3
use Rattle.std.proofs.Common.{◌≡◌, ℕ, Bool, true, false, List, Option, Some, None, refl, sym, ap, ◌∙◌, subst}
use Rattle.std.specs.Prelude.{◌==◌, ◌&&◌, not, nat_lt, IfSome, IfNone}
use Rattle.std.specs.FinMap as map
use Rattle.views.specs.Limits.{DESCRIPTOR_LIMIT}
use Rattle.views.specs.Numbers.{Byte, Flags}
use Rattle.sys_abi.specs.declared.descriptor.Descriptor.{Descriptor}
use Rattle.sys_abi.specs.declared.errors.TheConstants.{EBADF, EINVAL}
use Rattle.sys_abi.specs.declared.flags.TheConstants.{O_CLOEXEC}
use Rattle.sys_abi.specs.declared.identity.DescId.{DescId}
use Rattle.sys_abi.specs.declared.identity.RealPid.{RealPid}
use Rattle.sys_abi.specs.declared.identity.VPid.{VPid}
use Rattle.fd_book.specs.Books as books
use Rattle.fd_book.specs.Books.{Books, IsWhole}
use Rattle.fd_tables.specs.Slots as slots
use Rattle.fd_tables.specs.declared.description.Object.{Object}
use Rattle.plain_process.specs.Attempts.{Try, Fails, and_then, need}
use Rattle.plain_machine.specs.declared.kernel.PlainKernel.{PlainKernel}
use Rattle.plain_machine.specs.Attempts.{Served, replied}
use Rattle.plain_machine.specs.Closing.{close_fd}
use Rattle.plain_machine.specs.Kernel.{Held, held}
use Rattle.plain_machine.specs.Kernels.{IsKernel}
use Rattle.plain_machine.specs.Rows.Descriptors.{is_cloexec_at_most, moved_to, dup3_row, close_row}
use Rattle.plain_machine.proofs.WholeClosing.{close_closes}
use Rattle.host_tables.specs.declared.reply.KernelReply.TheVariants.{Done, Error}
use Rattle.host_tables.specs.declared.system.System.{System}
use Rattle.host_tables.specs.Stands.{Stands}
use Rattle.host_tables.specs.Systems.{given_of}
use Rattle.host_descriptors.specs.declared.closing.Closed.{Closed}
use Rattle.host_descriptors.specs.LetGo.{HasLetGo, closed_of}
use Rattle.host_descriptors.proofs.FinishedCloses.{put_in, put_on, finished, told_close}
use Rattle.host_descriptors.proofs.ObjectsAt.{object_in}
use Rattle.host_descriptors.proofs.HeldTold.{IsThere, told, row_told, row_bad}
use Rattle.wrap_names.specs.Wrapping.{IsWrapped, StandsAfter}
use Rattle.wrap_ends.specs.Forgetting.{HasForgotten}
use Rattle.wrap_ends.proofs.Cleaned.{IsCloser, clean_wrapped}
use Rattle.wrap_ends.proofs.Forgotten.{cleaned}
use Rattle.wrap_ends.proofs.Lost.{loses_placed}

module _ (s : System) (next_id : ℕ) (k : PlainKernel) (w : IsWrapped s next_id k) (p : VPid) (who : RealPid)
    (paired : map.get s.ids.pids p.0 ≡ Some who) where
  abbrev pub st : Stands (given_of s) None s.kernel k
  st = w.stands.tables

  module _ (fd : ℕ) (sound : IsWhole s.kernel.book) (extra : Option Descriptor) where
    abbrev then : PlainKernel
    then = put_on p fd extra (close_fd k p fd)

    closer : IsKernel then → IsCloser k then
    closer whole = closer_by extra whole
      where
        closer_by : (o : Option Descriptor) → IsKernel (put_on p fd o (close_fd k p fd))
            → IsCloser k (put_on p fd o (close_fd k p fd))
        closer_by None whole =
            let closes = close_closes k p fd in
            record {
              whole = whole;
              processes = closes.processes;
              makers = closes.makers;
              next_id = closes.next_id;
            }
        closer_by (Some d) whole =
            let closes = close_closes k p fd in
            record {
              whole = whole;
              processes = closes.processes;
              makers = closes.makers;
              next_id = closes.next_id;
            }

    pub closed_placed : IsKernel then → (b : Books)
        → b ≡ put_in (slots.slot who fd) extra (books.after_close s.kernel.book (slots.slot who fd))
        → (lost : Option DescId) → lost ≡ books.lost_by_close s.kernel.book (slots.slot who fd)
        → (found : Option Object) → found ≡ object_in s.kernel.book (slots.slot who fd) → (s' : System)
        → IfSome (closed_of lost found) (λ c. HasLetGo (record s.kernel { book = b }) s'.kernel c.object)
        → IfSome (closed_of lost found) (HasForgotten (record s { kernel = record s.kernel { book = b } }) s')
        → IfNone (closed_of lost found) (s' ≡ record s { kernel = record s.kernel { book = b } })
        → IsWrapped s' next_id then
    closed_placed whole b b_is lost lost_is found found_is s' goes forgets stays =
        let stands = finished (given_of s) s.kernel k w.stands.kernel st p who paired fd sound extra b b_is
        lost lost_is found found_is s'.kernel (closed_of lost found) refl goes
        (kernel_stays (closed_of lost found) stays) in
        clean_wrapped s next_id k w then (closer whole) s' stands
        (cleaned s next_id k w then b s' stands (closed_of lost found)
        (loses_placed (given_of s) s.kernel k w.stands.kernel st p who paired fd sound extra lost lost_is
        found found_is)
        (told_close s.kernel.book (slots.slot who fd) sound lost lost_is found found_is
        (closed_of lost found) refl).object
        forgets stays)
      where
        kernel_stays : (o : Option Closed)
            → IfNone o (s' ≡ record s { kernel = record s.kernel { book = b } })
            → IfNone o (s'.kernel ≡ record s.kernel { book = b })
        kernel_stays None is = ap (λ (x : System). x.kernel) is
        kernel_stays (Some c) is = tt

  -- rows

  pub refused : (e : ℕ) (m : Try Served) (x : List Byte) → m ≡ Fails e
      → StandsAfter s next_id k x x (Error (record { 0 = e })) m
  refused e m x is =
      subst (λ n. StandsAfter s next_id k x x (Error (record { 0 = e })) n) (sym is) (w, (refl, refl))

  pub served : (s' : System) (k' : PlainKernel) (n : ℕ) (m : Try Served) (x : List Byte) → m ≡ replied k' n
      → IsWrapped s' next_id k' → StandsAfter s' next_id k x x (Done n) m
  served s' k' n m x is after =
      subst (λ y. StandsAfter s' next_id k x x (Done n) y) (sym is) (after, (refl, refl))

  pub close_refused : (fd : ℕ) (x : List Byte) → map.get s.kernel.book.descriptors (slots.slot who fd) ≡ None
      → StandsAfter s next_id k x x (Error (record { 0 = EBADF })) (close_row k p fd)
  unfolding close_row
  close_refused fd x none =
      refused EBADF (close_row k p fd) x
      (row_bad (given_of s) s.kernel k st p who paired fd none (λ h. replied (close_fd k p fd) 0))

  pub close_served : (fd : ℕ) (x : List Byte) → IsThere s.kernel who fd → (s' : System)
      → IsWrapped s' next_id (close_fd k p fd) → StandsAfter s' next_id k x x (Done 0) (close_row k p fd)
  unfolding close_row
  close_served fd x there s' after =
      served s' (close_fd k p fd) 0 (close_row k p fd) x
      (row_told (given_of s) s.kernel k st p who paired fd there (λ h. replied (close_fd k p fd) 0)) after

  -- dup3

  module _ (fd to : ℕ) (flags : Flags) (x : List Byte) where
    abbrev moves : Held → Try Served
    moves h = replied (moved_to k p h to (flags == O_CLOEXEC)) to

    abbrev below : Bool → Held → Try Served
    below b h = and_then (need b EBADF) (λ _. moves h)

    abbrev tested : Bool → Bool → Held → Try Served
    tested a b h = and_then (need a EINVAL) (λ _. below b h)

    abbrev is_valid : Bool
    is_valid = not (to == fd) && is_cloexec_at_most flags

    pub dup3_bad : map.get s.kernel.book.descriptors (slots.slot who fd) ≡ None
        → StandsAfter s next_id k x x (Error (record { 0 = EBADF })) (dup3_row k p fd to flags)
    unfolding dup3_row
    dup3_bad none =
        refused EBADF (dup3_row k p fd to flags) x
        (row_bad (given_of s) s.kernel k st p who paired fd none
        (tested is_valid (nat_lt to DESCRIPTOR_LIMIT)))

    pub dup3_invalid : IsThere s.kernel who fd → is_valid ≡ false
        → StandsAfter s next_id k x x (Error (record { 0 = EINVAL })) (dup3_row k p fd to flags)
    unfolding dup3_row and_then need
    dup3_invalid there is =
        refused EINVAL (dup3_row k p fd to flags) x
        (row_told (given_of s) s.kernel k st p who paired fd there
        (tested is_valid (nat_lt to DESCRIPTOR_LIMIT))
        ∙ ap (λ a. tested a (nat_lt to DESCRIPTOR_LIMIT)
        (told (given_of s) s.kernel k st p who paired fd there)) is)

    pub dup3_beyond : IsThere s.kernel who fd → is_valid ≡ true → nat_lt to DESCRIPTOR_LIMIT ≡ false
        → StandsAfter s next_id k x x (Error (record { 0 = EBADF })) (dup3_row k p fd to flags)
    unfolding dup3_row and_then need
    dup3_beyond there is far =
        refused EBADF (dup3_row k p fd to flags) x
        (row_told (given_of s) s.kernel k st p who paired fd there
        (tested is_valid (nat_lt to DESCRIPTOR_LIMIT))
        ∙ (λ i. tested (is i) (far i) (told (given_of s) s.kernel k st p who paired fd there)))

  -- the move

  module _ (fd to : ℕ) (cloexec : Bool) (x : List Byte) where
    abbrev pub moving : Try Served
    moving = and_then (held k p fd) (λ h. replied (moved_to k p h to cloexec) to)

    pub move_bad : map.get s.kernel.book.descriptors (slots.slot who fd) ≡ None
        → StandsAfter s next_id k x x (Error (record { 0 = EBADF })) moving
    move_bad none =
        refused EBADF moving x
        (row_bad (given_of s) s.kernel k st p who paired fd none
        (λ h. replied (moved_to k p h to cloexec) to))

    pub move_is : (there : IsThere s.kernel who fd)
        → moving
        ≡ replied (moved_to k p (told (given_of s) s.kernel k st p who paired fd there) to cloexec) to
    move_is there =
        row_told (given_of s) s.kernel k st p who paired fd there
        (λ h. replied (moved_to k p h to cloexec) to)
