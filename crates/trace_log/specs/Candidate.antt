-- The one record that fields can be those of, if any
use Rattle.std.specs.Prelude.{ℕ, ◌+◌, ◌*◌, ◌^◌, Option, Some, None, ◌==◌, ◌&&◌, nat_le, if◌then◌else◌}
use Rattle.sys_abi.specs.declared.record.Record.{Record}
use Rattle.sys_abi.specs.declared.record.Record.TheVariants.{User, Call, Deliver, Arrive, Cut, Drained, Refilled, Complete, Refused, Lapsed}
use Rattle.sys_abi.specs.declared.record.Cause.TheVariants.{Unsupported, DiskFault, Memory}
use Rattle.sys_abi.specs.declared.record.Kind.TheVariants.{Datagram, Counter}
use Rattle.sys_abi.specs.declared.identity.Dir.{Dir}
use Rattle.trace_log.specs.declared.fields.Fields.{Fields}

abbrev pub dir_in : Fields → Dir
dir_in f = record { conn = record { pid = record { 0 = f.a }; num = f.b }; side = f.x }

abbrev pub generation_in : Fields → ℕ
generation_in f = f.b + 2 ^ 32 * f.n

unfoldable pub refusal_in : Fields → Option Record
refusal_in f =
    if f.x == 1 then
    (if f.b == 5 then Some (Refused (Unsupported (record { 0 = f.a }) (record { 0 = f.fd }) Datagram))
    else if f.b == 6 then Some (Refused (Unsupported (record { 0 = f.a }) (record { 0 = f.fd }) Counter))
    else None)
    else if f.x == 2 then Some (Refused DiskFault)
    else if f.x == 3 then Some (Refused Memory)
    else None

unfoldable pub candidate : Fields → Option Record
candidate f =
    if f.kind == 1 then Some (User (record { 0 = f.a }) (record { 0 = f.b }) f.n)
    else if f.kind == 2 then Some (Call (record { 0 = f.a }) (record { 0 = f.b }))
    else if f.kind == 3 then (if nat_le 1 f.x && nat_le f.x 31 then Some (Deliver (record { 0 = f.a }) (record { 0 = f.b }) (record { 0 = f.x })) else None)
    else if f.kind == 4 then Some (Arrive (dir_in f) f.n)
    else if f.kind == 5 then Some (Cut (generation_in f))
    else if f.kind == 6 then Some (Drained (dir_in f) f.n)
    else if f.kind == 7 then Some (Refilled (dir_in f) f.n)
    else if f.kind == 8 then Some (Complete (generation_in f))
    else if f.kind == 9 then refusal_in f
    else if f.kind == 10 then Some Lapsed
    else None
