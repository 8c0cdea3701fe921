-- What a connect names, by the table of channels.
--     conn_in makers p      the number of the next channel that the process makes
use Rattle.std.specs.Prelude.{◌-◌, ◌^◌, nat_lt, Option, Some, None, if◌then◌else◌}
use Rattle.sys_abi.specs.declared.identity.VPid.{VPid}
use Rattle.sys_abi.specs.declared.identity.ConnId.{ConnId}
use Rattle.plain_tables.specs.Tables.{Makers}
use Rattle.plain_machine.specs.Making.{conn_id}
use Rattle.wrap_passing.specs.OfWrapNames.Naming.{made_in}

abbrev pub conn_in : Makers → VPid → Option ConnId
conn_in makers p =
    if nat_lt (made_in makers p) (2 ^ 32 - 4) then Some (conn_id p (made_in makers p)) else None
