-- What changes a kernel part.
--     missing_in direction      how many of its bytes are on the way
--     after_arrival k dir n     so many bytes of the direction have arrived, at most those on the way
--     changed k change          the kernel part then
use Rattle.std.specs.Prelude.{ℕ, ◌-◌, min, length, Option, Some, None}
use Rattle.sys_abi.specs.declared.identity.Dir.{Dir}
use Rattle.plain_tables.specs.declared.channel.Direction.{Direction}
use Rattle.plain_machine.specs.declared.kernel.PlainKernel.{PlainKernel}
use Rattle.plain_machine.specs.Channels.{direction_at, with_direction, arrived_more}
use Rattle.plain_machine.specs.Kernel.{after_take}
use Rattle.plain_machine.specs.Ends.{after_end}
use Rattle.plain_machine.specs.Serve.{row}
use Rattle.wrap_names.specs.declared.stood.Change.{Change}
use Rattle.wrap_names.specs.declared.stood.Change.TheVariants.{Call, Take, End, Arrive}
use Rattle.wrap_names.specs.Wrapping.{kernel_left}

abbrev pub missing_in : Option Direction → ℕ
missing_in None = 0
missing_in (Some direction) = length direction.left - direction.arrived

abbrev pub arrived_in : PlainKernel → Dir → ℕ → Option Direction → PlainKernel
arrived_in k dir n None = k
arrived_in k dir n (Some direction) =
    with_direction k dir (arrived_more (min n (missing_in (Some direction))) direction)

unfoldable pub after_arrival : PlainKernel → Dir → ℕ → PlainKernel
after_arrival k dir n = arrived_in k dir n (direction_at k dir)

unfoldable pub changed : PlainKernel → Change → PlainKernel
changed k (Call p t q given) = kernel_left k (row k p t.0 q.now given.now)
changed k (Take p t s) = after_take k p t.0 s.0
changed k (End p status) = after_end k p status
changed k (Arrive dir n) = after_arrival k dir n
