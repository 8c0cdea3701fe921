-- The tests of a bind, and what they find.
-- Source: `man 2 bind`.
--     host_for object length       the host of a socket that isn't bound, by an address of so many bytes
--     address_for k own given      the address that the bytes name, for a socket of this host
--     bound_told g real k found    the row by what the tests found
--     IsUnbound b at bound         what was found is the socket of that descriptor
use Rattle.std.specs.Prelude.{◌≡◌, ◌==◌, ℕ, nat_le, List, Some, Result, Ok, Err}
use Rattle.views.specs.Numbers.{Byte}
use Rattle.sys_abi.specs.declared.identity.VirtAddr.{VirtAddr}
use Rattle.sys_abi.specs.declared.reply.Errno.{Errno}
use Rattle.sys_abi.specs.declared.errors.TheConstants.{EINVAL, EAFNOSUPPORT, EADDRNOTAVAIL}
use Rattle.fd_book.specs.Books.{Books}
use Rattle.fd_tables.specs.declared.description.Object.TheVariants as real
use Rattle.fd_tables.specs.declared.real_slot.RealSlot.{RealSlot}
use Rattle.plain_tables.specs.declared.description.Object.{Object}
use Rattle.plain_tables.specs.declared.description.Object.TheVariants.{Socket}
use Rattle.plain_process.specs.Attempts.{Try, Fails, Gives, need, found, ◌>>=◌, ◌>>◌}
use Rattle.plain_machine.specs.declared.kernel.PlainKernel.{PlainKernel}
use Rattle.plain_machine.specs.Attempts.{Served, replied}
use Rattle.plain_machine.specs.Kernel.{with_object}
use Rattle.plain_machine.specs.Addresses.{AF_INET, ADDRESS_SIZE, endpoint_of, named_host, address_at}
use Rattle.plain_machine.specs.Rows.Sockets.{is_own_host, port_for}
use Rattle.plain_machine.specs.SocketWords.{unbound_host}
use Rattle.host_streams.specs.HandedOn.{held_in, seen_held}
use Rattle.host_streams.specs.OfHostTables.declared.kernel.Kernel.{Kernel}
use Rattle.host_streams.specs.OfHostTables.Stands.{Given}
use Rattle.wrap_names.specs.declared.binding.Bound.{Bound}

abbrev pub host_for : Object → ℕ → Try ℕ
host_for object length = do
  need (nat_le ADDRESS_SIZE length) EINVAL
  found (unbound_host object) EINVAL

abbrev pub address_for : PlainKernel → ℕ → List Byte → Try VirtAddr
address_for k own given = do
  need ((endpoint_of given).family == AF_INET) EAFNOSUPPORT
  need (is_own_host own (named_host own (endpoint_of given))) EADDRNOTAVAIL
  port ← port_for k own (endpoint_of given).port
  Gives (address_at own port)

abbrev pub bound_told : Given → Kernel → PlainKernel → Result Bound Errno → Try Served
bound_told g real k (Ok bound) =
    replied (with_object k (seen_held g real bound.held) (Socket bound.address)) 0
bound_told g real k (Err e) = Fails e.0

pub record IsUnbound (b : Books) (at : RealSlot) (bound : Bound) : Type 0 where
  pub held : held_in b at ≡ Some bound.held
  pub socket : bound.held.description.object ≡ real.Socket
