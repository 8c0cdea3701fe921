-- The rows that close a descriptor, through the pairs.
--     close_bad, close_done        the row of close
--     dup3_bad, dup3_invalid, dup3_beyond, dup3_is      the tests of dup3 in their order, and what is left then
--     moved_bad, moved_done        a descriptor at the number that was asked for
use Rattle.std.proofs.Common.{◌≡◌, ℕ, Bool, true, false, List, refl, sym, ap, ◌∙◌, subst}
use Rattle.std.specs.Prelude.{◌==◌, ◌&&◌, not, nat_lt, Some, None}
use Rattle.std.specs.FinMap as map
use Rattle.std.proofs.lemmas.Bool.{eqb-true, eq-eqb}
use Rattle.views.specs.Numbers.{Byte, Flags}
use Rattle.views.specs.Limits.{DESCRIPTOR_LIMIT}
use Rattle.sys_abi.specs.declared.errors.TheConstants.{EBADF, EINVAL}
use Rattle.sys_abi.specs.declared.flags.TheConstants.{O_CLOEXEC}
use Rattle.sys_abi.specs.declared.identity.VPid.{VPid}
use Rattle.sys_abi.specs.declared.identity.RealPid.{RealPid}
use Rattle.fd_tables.specs.Slots as slots
use Rattle.plain_process.specs.Attempts.{Try, Fails, and_then, need}
use Rattle.host_tables.specs.OfPlainMachine.declared.kernel.PlainKernel.{PlainKernel}
use Rattle.host_tables.specs.OfPlainMachine.Attempts.{Served, replied}
use Rattle.host_tables.specs.OfPlainMachine.Closing.{close_fd}
use Rattle.host_tables.specs.OfPlainMachine.Kernel.{Held, held}
use Rattle.host_tables.specs.OfPlainMachine.Rows.Descriptors.{is_cloexec_at_most, moved_to, dup3_row, close_row}
use Rattle.host_tables.specs.declared.kernel.Kernel.{Kernel}
use Rattle.host_tables.specs.declared.attempt.Attempt.{Attempt}
use Rattle.host_tables.specs.declared.attempt.Attempt.TheVariants as answer
use Rattle.host_tables.specs.Serves.{Serves, ByNumber, same}
use Rattle.host_tables.specs.Stands.{Given, Stands}
use Rattle.host_descriptors.proofs.HeldTold.{IsThere, told, row_told, row_bad}

module _ (g : Given) (real : Kernel) (k : PlainKernel) (st : Stands g None real k) (p : VPid) (r : RealPid)
    (paired : map.get g.pids p.0 ≡ Some r) (fd : ℕ) (x : List Byte) where
  abbrev pub Says : Kernel → Attempt → Try Served → Type 0
  Says new a m = Serves ByNumber same g real new x x a m

  refuses : (e : ℕ) (m : Try Served) → m ≡ Fails e → Says real (answer.Fails (record { 0 = e })) m
  refuses e m is =
      subst (Says real (answer.Fails (record { 0 = e }))) (sym is)
      (record { answer = refl; kernel = refl; bytes = refl })

  bad : (f : Held → Try Served) → map.get real.book.descriptors (slots.slot r fd) ≡ None
      → Says real (answer.Fails (record { 0 = EBADF })) (and_then (held k p fd) f)
  bad f none = refuses EBADF (and_then (held k p fd) f) (row_bad g real k st p r paired fd none f)

  -- close

  pub close_bad : map.get real.book.descriptors (slots.slot r fd) ≡ None
      → Says real (answer.Fails (record { 0 = EBADF })) (close_row k p fd)
  unfolding close_row
  close_bad none = bad (λ h. replied (close_fd k p fd) 0) none

  pub close_done : IsThere real r fd → (new : Kernel) → Stands g None new (close_fd k p fd)
      → Says new (answer.Gives 0) (close_row k p fd)
  unfolding close_row
  close_done there new stands =
      subst (Says new (answer.Gives 0))
      (sym (row_told g real k st p r paired fd there (λ h. replied (close_fd k p fd) 0)))
      (record { reply = refl; bytes = refl; stands = stands })

  -- dup3

  module _ (to : ℕ) (flags : Flags) where
    abbrev moves : Held → Try Served
    moves h = replied (moved_to k p h to (flags == O_CLOEXEC)) to

    abbrev below : Bool → Held → Try Served
    below b h = and_then (need b EBADF) (λ _. moves h)

    abbrev tested : Bool → Bool → Held → Try Served
    tested a b h = and_then (need a EINVAL) (λ _. below b h)

    abbrev is_valid : Bool
    is_valid = not (to == fd) && is_cloexec_at_most flags

    pub dup3_bad : map.get real.book.descriptors (slots.slot r fd) ≡ None
        → Says real (answer.Fails (record { 0 = EBADF })) (dup3_row k p fd to flags)
    unfolding dup3_row
    dup3_bad none = bad (tested is_valid (nat_lt to DESCRIPTOR_LIMIT)) none

    pub dup3_invalid : IsThere real r fd → is_valid ≡ false
        → Says real (answer.Fails (record { 0 = EINVAL })) (dup3_row k p fd to flags)
    unfolding dup3_row and_then need
    dup3_invalid there is =
        refuses EINVAL (dup3_row k p fd to flags)
        (row_told g real k st p r paired fd there (tested is_valid (nat_lt to DESCRIPTOR_LIMIT))
        ∙ ap (λ a. tested a (nat_lt to DESCRIPTOR_LIMIT) (told g real k st p r paired fd there)) is)

    pub dup3_beyond : IsThere real r fd → is_valid ≡ true → nat_lt to DESCRIPTOR_LIMIT ≡ false
        → Says real (answer.Fails (record { 0 = EBADF })) (dup3_row k p fd to flags)
    unfolding dup3_row and_then need
    dup3_beyond there is far =
        refuses EBADF (dup3_row k p fd to flags)
        (row_told g real k st p r paired fd there (tested is_valid (nat_lt to DESCRIPTOR_LIMIT))
        ∙ (λ i. tested (is i) (far i) (told g real k st p r paired fd there)))

    pub dup3_is : is_valid ≡ true → nat_lt to DESCRIPTOR_LIMIT ≡ true
        → dup3_row k p fd to flags ≡ and_then (held k p fd) moves
    unfolding dup3_row and_then need
    dup3_is is low = λ i. and_then (held k p fd) (tested (is i) (low i))

  -- the move

  module _ (to : ℕ) (cloexec : Bool) where
    abbrev pub moving : Try Served
    moving = and_then (held k p fd) (λ h. replied (moved_to k p h to cloexec) to)

    pub moved_bad : map.get real.book.descriptors (slots.slot r fd) ≡ None
        → Says real (answer.Fails (record { 0 = EBADF })) moving
    moved_bad none = bad (λ h. replied (moved_to k p h to cloexec) to) none

    pub moved_done : (there : IsThere real r fd) (new : Kernel)
        → Stands g None new (moved_to k p (told g real k st p r paired fd there) to cloexec)
        → Says new (answer.Gives to) moving
    moved_done there new stands =
        subst (Says new (answer.Gives to))
        (sym (row_told g real k st p r paired fd there (λ h. replied (moved_to k p h to cloexec) to)))
        (record { reply = refl; bytes = refl; stands = stands })

-- the tests of dup3

pub is_valid_move : (to fd : ℕ) (b : Bool) → (to ≡ fd → ⊥) → b ≡ true → (not (to == fd) && b) ≡ true
is_valid_move to fd b differ e = by_same (to == fd) refl
  where
    by_same : (c : Bool) → (to == fd) ≡ c → (not (to == fd) && b) ≡ true
    by_same true is = absurd (differ (eqb-true to fd is))
    by_same false is = λ i. not (is i) && e i

pub same_move : (to fd : ℕ) (b : Bool) → to ≡ fd → (not (to == fd) && b) ≡ false
same_move to fd b e = ap (λ c. not c && b) (eq-eqb to fd e)

pub flags_refused : (a b : Bool) → b ≡ false → (a && b) ≡ false
flags_refused true b e = e
flags_refused false b e = refl
