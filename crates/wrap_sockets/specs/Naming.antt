-- What a connect names over real numbers, and what is listed for it.
--     own_socket names found            the socket that isn't connected, with its address
--     virtual_target, real_target       the address that the bytes name, and the port at which it is listened
--     entry_of channel own target desc  the new channel, where all that it needs is there
--     NamesConnect s p who ..           by every kernel part for which the system stands
use Rattle.std.specs.Prelude.{◌≡◌, ◌==◌, ℕ, nat_le, not, true, List, [], ◌∷◌, Option, Some, None, option_map, option_and_then, Result, Ok, Err, if◌then◌else◌}
use Rattle.std.specs.FinMap as map
use Rattle.views.specs.Numbers.{Byte}
use Rattle.sys_abi.specs.declared.identity.VPid.{VPid}
use Rattle.sys_abi.specs.declared.identity.DescId.{DescId}
use Rattle.sys_abi.specs.declared.identity.ConnId.{ConnId}
use Rattle.sys_abi.specs.declared.identity.RealPid.{RealPid}
use Rattle.sys_abi.specs.declared.identity.RealAddr.{RealAddr}
use Rattle.sys_abi.specs.declared.identity.VirtAddr.{VirtAddr}
use Rattle.sys_abi.specs.declared.reply.Errno.{Errno}
use Rattle.sys_abi.specs.declared.errors.TheConstants.{EINVAL, EAFNOSUPPORT}
use Rattle.fd_tables.specs.declared.description.Object.{Object}
use Rattle.fd_tables.specs.declared.description.Object.TheVariants.{Socket}
use Rattle.plain_tables.specs.Tables.{Makers}
use Rattle.plain_process.specs.Attempts.{Gives}
use Rattle.plain_machine.specs.declared.kernel.PlainKernel.{PlainKernel}
use Rattle.plain_machine.specs.Addresses.{AF_INET, ADDRESS_SIZE, endpoint_of, named_host, address_at}
use Rattle.plain_machine.specs.Kernel.{held}
use Rattle.plain_machine.specs.Making.{conn_id}
use Rattle.plain_machine.specs.Rows.Connections.{Connecting, connecting_of}
use Rattle.plain_machine.specs.SocketWords.{next_channel}
use Rattle.host_descriptors.specs.declared.held.Held.{Held}
use Rattle.host_tables.specs.declared.system.System.{System}
use Rattle.host_tables.specs.Descriptions.{Addresses, Names, address_of}
use Rattle.host_tables.specs.Requests.{next_conn, leads_to_pipe, IfHeld, ConnectNames}
use Rattle.host_tables.specs.Serves.{INTERNET}
use Rattle.host_tables.specs.Stands.{Given, open_conn}
use Rattle.host_tables.specs.Systems.{given_of}
use Rattle.wrap_names.specs.Naming.{desc_in}
use Rattle.wrap_names.specs.Wrapping.{IsWrapped}
use Rattle.wrap_sockets.specs.declared.targets.Listed.{Listed}
use Rattle.wrap_sockets.specs.declared.targets.Named.{Named}
use Rattle.wrap_sockets.specs.declared.targets.OwnSocket.{OwnSocket}

abbrev pub conn_in : Makers → VPid → Option ConnId
conn_in makers p = option_map (λ (id : DescId). conn_id id.pid id.num) (desc_in makers p)

abbrev pub socket_of : Names → DescId → Object → Option OwnSocket
socket_of names id Socket = Some (record { desc = id; address = address_of names id })
socket_of names id _ = None

abbrev pub own_socket : Names → Option Held → Option OwnSocket
own_socket names found = option_and_then (λ h. socket_of names h.desc h.description.object) found

abbrev pub virtual_target : VirtAddr → ℕ → List Byte → Result (Option VirtAddr) Errno
virtual_target own length given =
    if not (nat_le ADDRESS_SIZE length) then Err (record { 0 = EINVAL }) else
    if not ((endpoint_of given).family == AF_INET) then Err (record { 0 = EAFNOSUPPORT }) else
    Ok (option_map (λ host. address_at host (endpoint_of given).port)
    (named_host own.host (endpoint_of given)))

abbrev pub place_at : Addresses → VirtAddr → Option RealAddr
place_at addresses address = map.get addresses address

abbrev pub real_target : Addresses → Result (Option VirtAddr) Errno → Result (Option RealAddr) Errno
real_target addresses (Err e) = Err e
real_target addresses (Ok o) = Ok (option_and_then (map.get addresses) o)

abbrev pub entry_of : Option ConnId → Result VirtAddr Errno → Result (Option VirtAddr) Errno → DescId
    → Option Listed
entry_of (Some id) (Ok own) (Ok (Some to)) desc =
    Some (record { conn = open_conn id INTERNET (Some own) (Some to); desc = desc })
entry_of _ _ _ _ = None

-- the new channel has the number that was named, and both its ends are open
abbrev pub IsEntryOf : Option ConnId → Option Listed → Type 0
IsEntryOf channel None = Unit {0}
IsEntryOf channel (Some l) = (channel ≡ Some l.conn.id) × (l.conn.open_ends ≡ true ∷ true ∷ [])

pub record IsNamedConnect (g : Given) (k : PlainKernel) (p : VPid) (fd length : ℕ) (given : List Byte)
    (n : Named) : Type 0 where
  pub of_pipe : n.of_pipe ≡ leads_to_pipe k p fd
  pub channel : n.channel ≡ next_conn k p
  pub names : IfHeld (held k p fd) (ConnectNames g k length given n.to n.port_free)
  pub entry : IsEntryOf n.channel n.listed
  pub listed_is : (c : Connecting) → connecting_of k p fd length (endpoint_of given) ≡ Gives c
      → n.listed ≡ Some (record {
        conn = open_conn (next_channel k p) INTERNET (Some c.own) (Some c.to);
        desc = c.held.desc;
      })

abbrev pub NamesConnect : System → VPid → RealPid → ℕ → ℕ → List Byte → Named → Type 0
NamesConnect s p who fd length given n =
    (k : PlainKernel) (next_id : ℕ) → IsWrapped s next_id k → map.get s.ids.pids p.0 ≡ Some who
    → IsNamedConnect (given_of s) k p fd length given n
