-- clone behind a guest's numbers: the new number's pair and its maker are there before the kernel is asked.
--     is_clone, flags_in q         the call, and its flags
--     number_places form flags n   the new number, for each place that the flags name
--     maker_in makers p form       the maker of a child; a thread has none
--     with_pair, with_maker        the tables with one number more
--     without_pair, without_maker  and with one less
--     told_as n r                  the kernel's answer with the guest's number
--     next_after n reply           the next number after the call
use Rattle.std.specs.Prelude.{ℕ, ◌+◌, Bool, true, false, List, ◌++◌, Option, Some, None, Result, Ok, Err}
use Rattle.std.specs.Option.{option_map_or}
use Rattle.std.specs.FinMap as map
use Rattle.views.specs.Numbers.{Byte, Flags}
use Rattle.sys_abi.specs.declared.cloning.CloneForm.{CloneForm}
use Rattle.sys_abi.specs.declared.cloning.CloneForm.TheVariants.{Fork, Thread}
use Rattle.sys_abi.specs.declared.flags.TheConstants.{CLONE_PARENT_SETTID, CLONE_CHILD_SETTID}
use Rattle.sys_abi.specs.declared.identity.VPid.{VPid}
use Rattle.sys_abi.specs.declared.identity.RealPid.{RealPid}
use Rattle.sys_abi.specs.declared.maker.Maker.{Maker}
use Rattle.sys_abi.specs.Flags.{has_flag}
use Rattle.call_table.specs.declared.request.Request.{Request}
use Rattle.call_table.specs.declared.request.Request.TheVariants.{Clone}
use Rattle.conn_table.specs.declared.table.ConnTable.{ConnTable}
use Rattle.virt_ids.specs.Pairs.{Pairs, without_back}
use Rattle.plain_tables.specs.Tables.{Makers, pid}
use Rattle.plain_machine.specs.Rows.Clone.{number_if}
use Rattle.host_tables.specs.declared.attempt.Attempt.{Attempt}
use Rattle.host_tables.specs.declared.attempt.Attempt.TheVariants as answer
use Rattle.host_tables.specs.declared.reply.KernelReply.{KernelReply}
use Rattle.host_tables.specs.declared.reply.KernelReply.TheVariants.{Done, Error, NotReady, Memory}

unfoldable pub is_clone : Request → Bool
is_clone (Clone flags stack parent_tid tls child_tid) = true
is_clone _ = false

unfoldable pub flags_in : Request → Flags
flags_in (Clone flags stack parent_tid tls child_tid) = flags
flags_in _ = 0

-- a child's own place is in its own memory
abbrev pub is_told_twice : CloneForm → Flags → Bool
is_told_twice Fork flags = false
is_told_twice Thread flags = has_flag flags CLONE_CHILD_SETTID

abbrev pub number_places : CloneForm → Flags → ℕ → List Byte
number_places form flags number =
    number_if (has_flag flags CLONE_PARENT_SETTID) number ++ number_if (is_told_twice form flags) number

abbrev pub host_in : Makers → VPid → ℕ
host_in makers p = option_map_or (λ maker. maker.host) (map.get makers p) 0

abbrev pub maker_in : Makers → VPid → CloneForm → Option Maker
maker_in makers p Fork = Some (record { host = host_in makers p; made = 1 })
maker_in makers p Thread = None

abbrev pub with_pair : Pairs → ℕ → RealPid → Pairs
with_pair ids number real =
    record ids { pids = map.insert ids.pids number real; virts = map.insert ids.virts real number }

abbrev pub without_pair : Pairs → ℕ → Pairs
without_pair ids number = record ids {
  pids = map.remove ids.pids number;
  virts = without_back ids.virts (map.get ids.pids number);
}

abbrev pub makers_with : Makers → ℕ → Option Maker → Makers
makers_with makers number None = makers
makers_with makers number (Some maker) = map.insert makers (pid number) maker

abbrev pub with_maker : ConnTable → ℕ → Option Maker → ConnTable
with_maker conns number maker = record conns { makers = makers_with conns.makers number maker }

abbrev pub without_maker : ConnTable → ℕ → ConnTable
without_maker conns number = record conns { makers = map.remove conns.makers (pid number) }

abbrev pub told_as : {E : Type 0} → ℕ → Result Attempt E → KernelReply
told_as number (Ok (answer.Gives n)) = Done number
told_as number (Ok (answer.Fails e)) = Error e
told_as number (Ok answer.NotReady) = NotReady
told_as number (Err e) = Memory

abbrev pub next_after : ℕ → KernelReply → ℕ
next_after number (Done n) = number + 1
next_after number reply = number
