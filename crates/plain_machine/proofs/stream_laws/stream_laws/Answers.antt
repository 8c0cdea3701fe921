use Rattle.std.proofs.Common.{ℕ, ◌≤◌, arith}
use Rattle.plain_machine.proofs.ConsoleWrites.{console_write, console_is_ready}
use Rattle.plain_machine.proofs.Flows.{reads_flow, writes_flow}
use Rattle.plain_machine.proofs.WholeDatagrams.{whole_datagrams, whole_inbox}
use Rattle.plain_machine.proofs.WholeStreams.{whole_received, whole_sent}
use Rattle.plain_machine.proofs.stream_laws.stream_laws.Goals as goal

free_above : (fd : ℕ) → 0 ≤ fd
free_above fd = omega arith

pub returns-clause-datagrams : goal.returns-clause-datagrams
returns-clause-datagrams c = λ k p cloexec flags fd other is alive has free sound.
    whole_datagrams k p cloexec flags fd other is alive has (record { above = free_above fd; low = free.low; free = free.free }) (record { above = free.rising; low = free.low_other; free = free.free_other }) sound

pub returns-clause-inbox : goal.returns-clause-inbox
returns-clause-inbox c = whole_inbox

pub returns-clause-received : goal.returns-clause-received
returns-clause-received c = λ k at direction n is there few. whole_received k at direction is there n few

pub returns-clause-sent : goal.returns-clause-sent
returns-clause-sent c = λ k at direction bytes is there goes_on are no_reader. whole_sent k at direction is there bytes goes_on are no_reader

pub returns-clause-reads : goal.returns-clause-reads
returns-clause-reads c = reads_flow

pub returns-clause-writes : goal.returns-clause-writes
returns-clause-writes c = writes_flow

pub returns-clause-console : goal.returns-clause-console
returns-clause-console c = λ k p t fd count given served is goes. (console_write k p fd count is t given).each served goes

pub returns-clause-console_ready : goal.returns-clause-console_ready
returns-clause-console_ready c = λ k p fd count front is. console_is_ready k p fd count is front
