-- The row of lseek through the pairs.
--     seek_no_start, seek_no_place, seek_done      the tests in their order, and the move
--     lseek_bad, lseek_at, seek_other              by what the descriptor leads to
use Rattle.std.proofs.Common.{◌≡◌, ◌≢◌, ℕ, [], Option, Some, None, refl, ap, ◌∙◌}
use Rattle.std.specs.FinMap as map
use Rattle.sys_abi.specs.declared.errors.TheConstants.{EBADF, EINVAL, ESPIPE}
use Rattle.sys_abi.specs.declared.identity.VPid.{VPid}
use Rattle.sys_abi.specs.declared.identity.RealPid.{RealPid}
use Rattle.fd_tables.specs.declared.description.Object as real_object
use Rattle.fd_tables.specs.declared.description.Object.TheVariants as object
use Rattle.fd_tables.specs.Slots as slots
use Rattle.conn_table.specs.Pairs.{Pairs}
use Rattle.sys_abi.specs.declared.identity.DescId.{DescId}
use Rattle.plain_tables.specs.declared.description.Object.TheVariants.{File}
use Rattle.plain_process.specs.Attempts.{Try, Fails, and_then, found}
use Rattle.plain_machine.specs.declared.kernel.PlainKernel.{PlainKernel}
use Rattle.plain_machine.specs.Attempts.{Served, replied}
use Rattle.plain_machine.specs.Kernel as plain
use Rattle.plain_machine.specs.Kernel.{held, with_object}
use Rattle.plain_machine.specs.Rows.Files.{seek_start, place_moved, file_size, seek, lseek_row}
use Rattle.host_descriptors.specs.OfHostTables.declared.kernel.Kernel.{Kernel}
use Rattle.host_descriptors.specs.OfHostTables.Descriptions.{Names, seen_object}
use Rattle.host_descriptors.specs.OfHostTables.Stands.{Given, Stands}
use Rattle.host_descriptors.specs.declared.held.Held.{Held}
use Rattle.host_descriptors.specs.Held.{held_in, seen_held}
use Rattle.host_descriptors.proofs.FcntlRows.{past_held}
use Rattle.host_descriptors.proofs.HeldTold.{row_bad}

module _ (k : PlainKernel) (h : plain.Held) (offset whence number at size : ℕ)
    (size_is : file_size k number ≡ size) where
  abbrev by_place : Option ℕ → Try Served
  by_place o = and_then (found o EINVAL) (λ place. replied (with_object k h (File number place)) place)

  abbrev by_start : Option ℕ → Try Served
  by_start o = and_then (found o EINVAL) (λ start. by_place (place_moved offset start))

  abbrev the_seek : Try Served
  the_seek = seek k h offset whence (File number at)

  seek_is : (o : Option ℕ) → seek_start whence at size ≡ o → the_seek ≡ by_start o
  unfolding seek
  seek_is o is = ap (λ n. by_start (seek_start whence at n)) size_is ∙ ap by_start is

  pub seek_no_start : seek_start whence at size ≡ None → the_seek ≡ Fails EINVAL
  unfolding and_then found
  seek_no_start none = seek_is None none

  pub seek_no_place : (start : ℕ) → seek_start whence at size ≡ Some start → place_moved offset start ≡ None
      → the_seek ≡ Fails EINVAL
  unfolding and_then found
  seek_no_place start is none = seek_is (Some start) is ∙ ap by_place none

  pub seek_done : (start place : ℕ) → seek_start whence at size ≡ Some start
      → place_moved offset start ≡ Some place → the_seek ≡ replied (with_object k h (File number place)) place
  unfolding and_then found
  seek_done start place is moved = seek_is (Some start) is ∙ ap by_place moved

module _ (g : Given) (real : Kernel) (k : PlainKernel) (st : Stands g None real k) (p : VPid) (who : RealPid)
    (paired : map.get g.pids p.0 ≡ Some who) (fd offset whence : ℕ) where
  pub lseek_bad : map.get real.book.descriptors (slots.slot who fd) ≡ None
      → lseek_row k p fd offset whence ≡ Fails EBADF
  unfolding lseek_row
  lseek_bad none =
      row_bad g real k st p who paired fd none (λ h. seek k h offset whence h.description.object)

  module _ (h : Held) (is : held_in real.book (slots.slot who fd) ≡ Some h) where
    pub lseek_at : (o : real_object.Object) → h.description.object ≡ o → lseek_row k p fd offset whence
        ≡ seek k (seen_held g real h) offset whence (seen_object g.names real.datagrams h.desc o)
    unfolding lseek_row
    lseek_at o at =
        past_held g real k st p who paired fd 0 [] h is (λ w. seek k w offset whence w.description.object)
        ∙ ap (λ w. seek k (seen_held g real h) offset whence (seen_object g.names real.datagrams h.desc w)) at

-- what is no file
pub seek_other : (k : PlainKernel) (h : plain.Held) (offset whence : ℕ) (names : Names) (pairs : Pairs) (id : DescId)
    (o : real_object.Object) → ((number at : ℕ) → o ≢ object.File number at)
    → seek k h offset whence (seen_object names pairs id o) ≡ Fails ESPIPE
unfolding seek
seek_other k h offset whence names pairs id object.Console other = refl
seek_other k h offset whence names pairs id (object.File number at) other = absurd (other number at refl)
seek_other k h offset whence names pairs id (object.Stream conn side) other = refl
seek_other k h offset whence names pairs id object.Socket other = refl
seek_other k h offset whence names pairs id (object.Listener at) other = refl
seek_other k h offset whence names pairs id (object.Datagram queue side) other = refl
seek_other k h offset whence names pairs id (object.Counter value) other = refl
