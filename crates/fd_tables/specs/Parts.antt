-- What an open description is asked for, and what is changed of it.
-- Source: `man 2 open` (open descriptions), `man 2 fcntl` (F_SETOWN).
--     with_object, with_flags, with_owner      a description with another part
--     is_of_file number d         the description is of the file of that number
--     disowned p d                the description, of which the process is not the owner any more
--     is_after above id           a description that comes after this one; each does after none
--     bound_above above           the start of the range of these names
use Rattle.std.specs.Prelude.{◌==◌, ℕ, Bool, true, false, cond, Option, Some, None}
use Rattle.std.specs.Ordering.{eq_by_cmp, is_lt}
use Rattle.std.specs.declared.ops.Bound.{Bound}
use Rattle.std.specs.declared.ops.Bound.TheVariants.{Excluded, Unbounded}
use Rattle.sys_abi.specs.declared.identity.DescId.{DescId}
use Rattle.sys_abi.specs.declared.identity.RealPid.{RealPid}
use Rattle.sys_abi.specs.Orders.{desc_cmp, real_pid_cmp}
use Rattle.fd_tables.specs.declared.description.Object.{Object}
use Rattle.fd_tables.specs.declared.description.Object.TheVariants.{Console, File, Stream, Socket, Listener, Datagram, Counter}
use Rattle.fd_tables.specs.declared.description.Desc.{Desc}

abbrev pub with_object : Object → Desc → Desc
with_object object d = record { object = object; flags = d.flags; owner = d.owner }

abbrev pub with_flags : ℕ → Desc → Desc
with_flags flags d = record { object = d.object; flags = flags; owner = d.owner }

abbrev pub with_owner : Option RealPid → Desc → Desc
with_owner owner d = record { object = d.object; flags = d.flags; owner = owner }

abbrev pub is_file : ℕ → Object → Bool
is_file number Console = false
is_file number (File own offset) = own == number
is_file number (Stream conn side) = false
is_file number Socket = false
is_file number (Listener at) = false
is_file number (Datagram queue side) = false
is_file number (Counter value) = false

abbrev pub is_of_file : ℕ → Desc → Bool
is_of_file number d = is_file number d.object

abbrev pub without_owner : RealPid → Option RealPid → Option RealPid
without_owner p None = None
without_owner p (Some owner) = cond (eq_by_cmp real_pid_cmp p owner) None (Some owner)

abbrev pub disowned : RealPid → Desc → Desc
disowned p d = with_owner (without_owner p d.owner) d

abbrev pub is_after : Option DescId → DescId → Bool
is_after None id = true
is_after (Some above) id = is_lt (desc_cmp above id)

-- the start of the range of these names
abbrev pub bound_above : Option DescId → Bound DescId
bound_above None = Unbounded
bound_above (Some above) = Excluded above
