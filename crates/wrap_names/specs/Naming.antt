-- What a call of a guest names, by the tables of its system.
--     caller_in pids p t           the real process and thread that call
--     neighbour_in, desc_in, ..    what is named: a process of the caller's host, the next numbers
--     of_pipe_in s who fd          the descriptor leads to an end of a pipe
use Rattle.std.specs.Prelude.{ℕ, ◌-◌, ◌^◌, nat_lt, Bool, Option, Some, None, if◌then◌else◌}
use Rattle.std.specs.Option.{option_map_or}
use Rattle.std.specs.FinMap as map
use Rattle.views.specs.Numbers.{ThreadNumber}
use Rattle.sys_abi.specs.declared.identity.VPid.{VPid}
use Rattle.sys_abi.specs.declared.identity.DescId.{DescId}
use Rattle.sys_abi.specs.declared.identity.RealPid.{RealPid}
use Rattle.fd_tables.specs.Slots as slots
use Rattle.plain_tables.specs.Tables.{Makers, pid, same_host}
use Rattle.plain_machine.specs.Making.{desc_id}
use Rattle.host_streams.specs.OfHostTables.declared.system.System.{System}
use Rattle.host_streams.specs.OfHostTables.Numbers.{Pids, to_real_thread}
use Rattle.host_streams.specs.HandedOn.{held_in}
use Rattle.host_streams.specs.PipeEnds.{is_pipe_of}
use Rattle.wrap_names.specs.declared.numbers.Caller.{Caller}

abbrev pub caller_on : RealPid → Option ThreadNumber → Option Caller
caller_on who None = None
caller_on who (Some thread) = Some (record { who = who; thread = thread })

abbrev pub caller_by : Pids → ThreadNumber → Option RealPid → Option Caller
caller_by pids t None = None
caller_by pids t (Some who) = caller_on who (to_real_thread pids who.node t)

abbrev pub caller_in : Pids → VPid → ThreadNumber → Option Caller
caller_in pids p t = caller_by pids t (map.get pids p.0)

abbrev pub neighbour_in : Pids → Makers → VPid → ℕ → Option RealPid
neighbour_in pids makers p number =
    if same_host (map.get makers p) (map.get makers (pid number)) then map.get pids number else None

abbrev pub made_in : Makers → VPid → ℕ
made_in makers p = option_map_or (λ maker. maker.made) (map.get makers p) 0

abbrev pub desc_in : Makers → VPid → Option DescId
desc_in makers p =
    if nat_lt (made_in makers p) (2 ^ 32 - 4) then Some (desc_id p (made_in makers p)) else None

abbrev pub named_in : System → VPid → ℕ → Option RealPid
named_in s p number = neighbour_in s.ids.pids s.conns.makers p number

abbrev pub of_pipe_in : System → RealPid → ℕ → Bool
of_pipe_in s who fd = is_pipe_of s.conns.conns (held_in s.kernel.book (slots.slot who fd))
