-- What a listen finds, and what it leaves of a system.
--     FindsSocket s who fd result         the tests of the plain row, by every kernel part for which s stands
--     listening_at s u at backlog         the socket listens at the port, which is paired with its address
--     Listens s s' node u backlog reply   by cases on the answer
use Rattle.std.specs.Prelude.{◌≡◌, ℕ, Some, Result, Ok, Err}
use Rattle.std.specs.FinMap as map
use Rattle.sys_abi.specs.declared.identity.VPid.{VPid}
use Rattle.sys_abi.specs.declared.identity.RealPid.{RealPid}
use Rattle.sys_abi.specs.declared.identity.RealAddr.{RealAddr}
use Rattle.sys_abi.specs.declared.errors.TheConstants.{EADDRINUSE}
use Rattle.sys_abi.specs.declared.reply.Errno.{Errno}
use Rattle.fd_tables.specs.declared.description.Object.TheVariants.{Socket}
use Rattle.fd_tables.specs.Slots as slots
use Rattle.plain_process.specs.Attempts.{Fails, Gives}
use Rattle.plain_machine.specs.declared.kernel.PlainKernel.{PlainKernel}
use Rattle.plain_machine.specs.SocketWords.{bound_or}
use Rattle.wire_channels.specs.Listeners.{AllPortsUsed, IsNextPort}
use Rattle.host_descriptors.specs.Held.{held_in, seen_held}
use Rattle.host_sockets.specs.Changes.{with_listener}
use Rattle.host_tables.specs.declared.reply.KernelReply.{KernelReply}
use Rattle.host_tables.specs.declared.reply.KernelReply.TheVariants.{Done, Error, Memory}
use Rattle.host_tables.specs.declared.reply.KernelReply.TheVariants as reply
use Rattle.host_tables.specs.declared.system.System.{System}
use Rattle.host_tables.specs.Descriptions.{address_of}
use Rattle.host_tables.specs.Serves.{listened_at}
use Rattle.host_tables.specs.Systems.{given_of}
use Rattle.wrap_names.specs.Wrapping.{IsWrapped}
use Rattle.wrap_sockets.specs.declared.listening.Unbound.{Unbound}

pub record IsFound (s : System) (k : PlainKernel) (p : VPid) (who : RealPid) (fd : ℕ)
    (u : Unbound) : Type 0 where
  pub found : listened_at k p fd ≡ Gives (seen_held (given_of s) s.kernel u.held, u.address)
  pub at : held_in s.kernel.book (slots.slot who fd) ≡ Some u.held
  pub socket : u.held.description.object ≡ Socket
  pub bound : bound_or k (address_of s.conns.names u.held.desc) EADDRINUSE ≡ Gives u.address

abbrev pub FindsBy : System → PlainKernel → VPid → RealPid → ℕ → Result Unbound Errno → Type 0
FindsBy s k p who fd (Ok u) = IsFound s k p who fd u
FindsBy s k p who fd (Err e) = listened_at k p fd ≡ Fails e.0

abbrev pub FindsSocket : System → RealPid → ℕ → Result Unbound Errno → Type 0
FindsSocket s who fd result =
    (k : PlainKernel) (next_id : ℕ) (p : VPid) → IsWrapped s next_id k → map.get s.ids.pids p.0 ≡ Some who
    → FindsBy s k p who fd result

abbrev pub listening_at : System → Unbound → RealAddr → ℕ → System
listening_at s u at backlog = record s {
  kernel = with_listener s.kernel u.held at backlog;
  ids = record s.ids {
    addresses = map.insert s.ids.addresses u.address at;
    ports = map.insert s.ids.ports at u.address;
  };
  conns = record s.conns { names = map.insert s.conns.names u.held.desc u.address };
}

pub record ListensAt (s s' : System) (node : ℕ) (u : Unbound) (backlog n : ℕ) : Type 0 where
  pub value : n ≡ 0
  pub at : RealAddr
  pub next : IsNextPort s.kernel.net.listeners node s.kernel.net.port_base at
  pub after : s' ≡ listening_at s u at backlog

pub record RanOut (s s' : System) (node : ℕ) (e : Errno) : Type 0 where
  pub error : e ≡ record { 0 = EADDRINUSE }
  pub same : s' ≡ s
  pub all : AllPortsUsed s.kernel.net.listeners node s.kernel.net.port_base

abbrev pub Listens : System → System → ℕ → Unbound → ℕ → KernelReply → Type 0
Listens s s' node u backlog (Done n) = ListensAt s s' node u backlog n
Listens s s' node u backlog (Error e) = RanOut s s' node e
Listens s s' node u backlog reply.NotReady = ⊥
Listens s s' node u backlog Memory = s' ≡ s
