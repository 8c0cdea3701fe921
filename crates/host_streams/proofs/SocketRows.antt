-- The rows of setsockopt and shutdown, by the socket that the descriptor leads to.
--     setsockopt_fails, setsockopt_gives
--     shutdown_fails, shutdown_is
--     shut_gives, shut_refused, shut_invalid      the object that is shut
--     shut_both                                   an end that sends no more and reads no more
use Rattle.std.proofs.Common.{◌≡◌, ℕ, ◌-◌, Bool, true, false, refl, sym, ap, ◌∙◌}
use Rattle.std.specs.Prelude.{nat_le, if◌then◌else◌}
use Rattle.sys_abi.specs.declared.errors.TheConstants.{EINVAL, ENOTCONN}
use Rattle.sys_abi.specs.declared.identity.ConnId.{ConnId}
use Rattle.sys_abi.specs.declared.identity.DescId.{DescId}
use Rattle.sys_abi.specs.declared.identity.VPid.{VPid}
use Rattle.conn_table.specs.Pairs.{Pairs}
use Rattle.fd_tables.specs.declared.description.Object as real_object
use Rattle.fd_tables.specs.declared.description.Object.TheVariants as real
use Rattle.plain_process.specs.Attempts.{Try, Fails, Gives, and_then, need}
use Rattle.plain_tables.specs.Closing.{with_end, without_reader, silenced}
use Rattle.plain_tables.specs.Objects.{dir}
use Rattle.plain_tables.specs.Tables.{Directions, changed_at}
use Rattle.plain_machine.specs.declared.kernel.PlainKernel.{PlainKernel}
use Rattle.plain_machine.specs.Attempts.{Served, replied}
use Rattle.plain_machine.specs.Kernel.{Held}
use Rattle.plain_machine.specs.Rows.Sockets.{setsockopt_row, shut, shut_object, shutdown_row}
use Rattle.plain_machine.specs.SocketWords.{socket_at}
use Rattle.host_processes.specs.OfHostTables.Descriptions.{Names, seen_object}
use Rattle.host_streams.proofs.ReadRows.{not_equal}

module _ (k : PlainKernel) (p : VPid) (fd : ℕ) where
  pub setsockopt_fails : (e : ℕ) → socket_at k p fd ≡ Fails e → setsockopt_row k p fd ≡ Fails e
  unfolding setsockopt_row and_then
  setsockopt_fails e is = ap (λ (m : Try Held). and_then m (λ h. replied k 0)) is

  pub setsockopt_gives : (h : Held) → socket_at k p fd ≡ Gives h → setsockopt_row k p fd ≡ replied k 0
  unfolding setsockopt_row and_then
  setsockopt_gives h is = ap (λ (m : Try Held). and_then m (λ h. replied k 0)) is

  pub shutdown_fails : (how e : ℕ) → socket_at k p fd ≡ Fails e → shutdown_row k p fd how ≡ Fails e
  unfolding shutdown_row and_then
  shutdown_fails how e is = ap (λ (m : Try Held). and_then m (λ h. shut_object k how h.description.object)) is

  pub shutdown_is : (how : ℕ) (h : Held) → socket_at k p fd ≡ Gives h
      → shutdown_row k p fd how ≡ shut_object k how h.description.object
  unfolding shutdown_row and_then
  shutdown_is how h is = ap (λ (m : Try Held). and_then m (λ h. shut_object k how h.description.object)) is

-- objects

module _ (k : PlainKernel) (names : Names) (pairs : Pairs) (id : DescId) (how : ℕ) where
  abbrev row_of : real_object.Object → Try Served
  row_of o = shut_object k how (seen_object names pairs id o)

  pub shut_gives : nat_le how 2 ≡ true → (conn : ConnId) (side : ℕ)
      → row_of (real.Stream conn side) ≡ replied (record k { directions = shut k.directions conn side how }) 0
  unfolding and_then need
  shut_gives known conn side =
      ap (λ b. and_then (need b EINVAL)
      (λ _. replied (record k { directions = shut k.directions conn side how }) 0)) known

  unknown_by : (m : Try Served) → nat_le how 2 ≡ false → and_then (need (nat_le how 2) EINVAL)
      (λ _. m) ≡ Fails EINVAL
  unfolding and_then need
  unknown_by m unknown = ap (λ b. and_then (need b EINVAL) (λ _. m)) unknown

  known_by : (m : Try Served) → nat_le how 2 ≡ true → and_then (need (nat_le how 2) EINVAL) (λ _. m) ≡ m
  unfolding and_then need
  known_by m known = ap (λ b. and_then (need b EINVAL) (λ _. m)) known

  pub shut_invalid : nat_le how 2 ≡ false → (o : real_object.Object)
      → ((queue side : ℕ) → o ≡ real.Datagram queue side → ⊥) → row_of o ≡ Fails EINVAL
  shut_invalid unknown real.Console no_end = unknown_by (Fails ENOTCONN) unknown
  shut_invalid unknown (real.File number offset) no_end = unknown_by (Fails ENOTCONN) unknown
  shut_invalid unknown (real.Stream conn side) no_end =
      unknown_by (replied (record k { directions = shut k.directions conn side how }) 0) unknown
  shut_invalid unknown real.Socket no_end = unknown_by (Fails ENOTCONN) unknown
  shut_invalid unknown (real.Listener at) no_end = unknown_by (Fails ENOTCONN) unknown
  shut_invalid unknown (real.Datagram queue side) no_end = absurd (no_end queue side refl)
  shut_invalid unknown (real.Counter value) no_end = unknown_by (Fails ENOTCONN) unknown

  pub shut_refused : nat_le how 2 ≡ true → (o : real_object.Object)
      → ((queue side : ℕ) → o ≡ real.Datagram queue side → ⊥)
      → ((conn : ConnId) (side : ℕ) → o ≡ real.Stream conn side → ⊥) → row_of o ≡ Fails ENOTCONN
  shut_refused known real.Console no_end none = known_by (Fails ENOTCONN) known
  shut_refused known (real.File number offset) no_end none = known_by (Fails ENOTCONN) known
  shut_refused known (real.Stream conn side) no_end none = absurd (none conn side refl)
  shut_refused known real.Socket no_end none = known_by (Fails ENOTCONN) known
  shut_refused known (real.Listener at) no_end none = known_by (Fails ENOTCONN) known
  shut_refused known (real.Datagram queue side) no_end none = absurd (no_end queue side refl)
  shut_refused known (real.Counter value) no_end none = known_by (Fails ENOTCONN) known

pub stream_is : (o : real_object.Object) (conn : ConnId) (side : ℕ) → o ≡ real.Stream conn side
    → (queue other : ℕ) → o ≡ real.Datagram queue other → ⊥
stream_is o conn side is queue other e = never (sym is ∙ e)
  where
    never : ◌≡◌ {A = real_object.Object} (real.Stream conn side) (real.Datagram queue other) → ⊥
    never h = cc

-- neither sends nor reads
pub shut_both : (directions : Directions) (conn : ConnId) (side how : ℕ) → (how ≡ 0 → ⊥) → (how ≡ 1 → ⊥)
    → shut directions conn side how
    ≡ changed_at (changed_at directions (dir conn side) with_end) (dir conn (1 - side)) without_reader
unfolding shut silenced
shut_both directions conn side how some more =
    λ i. by_tests (not_equal how 0 some i) (not_equal how 1 more i)
  where
    by_tests : Bool → Bool → Directions
    by_tests first second =
        if first then changed_at directions (dir conn (1 - side)) without_reader else
        if second then changed_at directions (dir conn side) with_end else
        silenced directions conn side
