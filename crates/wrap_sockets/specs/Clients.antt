-- What an accept tells of the client.
--     TellsClient s who fd address before now      by every kernel part for which the system stands, in which
--                                                  the descriptor leads to the taken end of a connection
use Rattle.std.specs.Prelude.{◌≡◌, ℕ, List, Some}
use Rattle.std.specs.FinMap as map
use Rattle.views.specs.Numbers.{Byte}
use Rattle.sys_abi.specs.declared.identity.VPid.{VPid}
use Rattle.sys_abi.specs.declared.identity.ConnId.{ConnId}
use Rattle.sys_abi.specs.declared.identity.RealPid.{RealPid}
use Rattle.plain_tables.specs.declared.description.Object.TheVariants.{Stream}
use Rattle.plain_process.specs.Attempts.{Gives}
use Rattle.plain_machine.specs.declared.kernel.PlainKernel.{PlainKernel}
use Rattle.plain_machine.specs.Kernel.{Held, held}
use Rattle.plain_machine.specs.Rows.Connections.{client_name}
use Rattle.host_tables.specs.declared.system.System.{System}
use Rattle.host_tables.specs.Serves.{bytes_or}
use Rattle.wrap_names.specs.Wrapping.{IsWrapped}

abbrev pub TellsClient : System → RealPid → ℕ → ℕ → List Byte → List Byte → Type 0
TellsClient s who fd address before now =
    (k : PlainKernel) (next_id : ℕ) (p : VPid) (h : Held) (conn : ConnId) → IsWrapped s next_id k
    → map.get s.ids.pids p.0 ≡ Some who → held k p fd ≡ Gives h → h.description.object ≡ Stream conn 1
    → now ≡ bytes_or before (client_name k address before conn)
