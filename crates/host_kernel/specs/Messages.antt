-- Messages over real numbers: the end of a pair at which a description receives.
-- Source: `man 2 socketpair`, `man 2 recv`.
--     end_at descriptions id         the end that the description stands for
--     waiting_at real id             how many messages wait there
--     TakesFirst g k id ..           the oldest message goes from it, on both sides
use Rattle.std.specs.Prelude.{◌≡◌, ℕ, List, [], ◌∷◌, length, Option, Some, None, option_map, option_and_then}
use Rattle.std.specs.FinMap as map
use Rattle.views.specs.Numbers.{Byte}
use Rattle.sys_abi.specs.declared.identity.DescId.{DescId}
use Rattle.fd_tables.specs.declared.description.Object.{Object}
use Rattle.fd_tables.specs.declared.description.Object.TheVariants.{Datagram}
use Rattle.conn_table.specs.Pairs.{Pairs, end_of}
use Rattle.plain_machine.specs.declared.kernel.PlainKernel.{PlainKernel}
use Rattle.plain_machine.specs.Making.{with_inbox}
use Rattle.host_tables.specs.declared.kernel.Kernel.{Kernel}
use Rattle.host_tables.specs.Datagrams.{RealDescriptions}
use Rattle.host_tables.specs.Stands.{Given, Stands}
use Rattle.host_kernel.specs.declared.messages.MessageEnd.{MessageEnd}

abbrev pub end_of_object : Object → Option MessageEnd
end_of_object (Datagram queue side) = Some (record { queue = queue; side = side })
end_of_object _ = None

abbrev pub end_at : RealDescriptions → DescId → Option MessageEnd
end_at descriptions id = option_and_then (λ d. end_of_object d.object) (map.get descriptions id)

abbrev pub count_at : Pairs → MessageEnd → Option ℕ
count_at pairs end = option_map (λ pair. length (end_of end.side pair).inbox) (map.get pairs end.queue)

abbrev pub waiting_at : Kernel → DescId → Option ℕ
waiting_at real id = option_and_then (count_at real.datagrams) (end_at real.book.descriptions id)

abbrev pub TakesFirst : Given → PlainKernel → DescId → Kernel → Kernel → Option (List Byte) → List (List Byte)
    → Type 0
TakesFirst g k id old new message [] = (message ≡ None) × (new ≡ old)
TakesFirst g k id old new message (first ∷ rest) = (message ≡ Some first) × Stands g None new
    (with_inbox k id rest)
