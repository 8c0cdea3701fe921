-- What the tests of a call find, in the words of the rows.
--     NamedTold, peer_named             a name that is written
--     bound_told, listening_told        what bind and listen then do
--     accepting_told, connecting_told   what the tests of accept and connect find
use Rattle.std.specs.Prelude.{◌≡◌, List, ℕ, Result, Ok, Err}
use Rattle.sys_abi.specs.declared.reply.Errno.{Errno}
use Rattle.plain_process.specs.Attempts.{Try, Fails, Gives, and_then}
use Rattle.plain_machine.specs.declared.kernel.PlainKernel.{PlainKernel}
use Rattle.plain_tables.specs.declared.description.Object.{Object}
use Rattle.plain_tables.specs.declared.description.Object.TheVariants.{Socket}
use Rattle.plain_tables.specs.declared.answer.Attempt.{Attempt}
use Rattle.plain_machine.specs.Answers.{attempt_told}
use Rattle.plain_machine.specs.Attempts.{Served, replied}
use Rattle.plain_machine.specs.Kernel as words
use Rattle.plain_machine.specs.Rows.Sockets.{listening, named, peer_name}
use Rattle.plain_machine.specs.Rows.Connections as connections
use Rattle.plain_ports.specs.Told.{held_told}
use Rattle.plain_sockets.specs.declared.sockets.Bound.{Bound}
use Rattle.plain_sockets.specs.declared.connections.Accepting.{Accepting}
use Rattle.plain_sockets.specs.declared.connections.Connecting.{Connecting}

-- a name that is written, and a row's test that finds one

abbrev pub NamedTold : List ℕ → List ℕ → Attempt → Type 0
NamedTold given name attempt = (k : PlainKernel) → attempt_told k given attempt ≡ Gives (named k given name)

abbrev pub peer_named : PlainKernel → Object → List ℕ → Try Served
peer_named k object given = and_then (peer_name k object) (λ name. Gives (named k given name))

-- what bind and listen then do

abbrev pub bound_told : PlainKernel → Result Bound Errno → Try Served
bound_told k (Ok bound) = replied (words.with_object k (held_told bound.held) (Socket bound.address)) 0
bound_told k (Err e) = Fails e.0

abbrev pub listening_told : PlainKernel → ℕ → Result Bound Errno → Try Served
listening_told k backlog (Ok bound) = replied (listening k (held_told bound.held) bound.address backlog) 0
listening_told k backlog (Err e) = Fails e.0

abbrev pub accepting_told : Accepting → connections.Accepting
accepting_told a = record { fd = a.fd; address = a.address; conn = a.conn }

abbrev pub connecting_told : Connecting → connections.Connecting
connecting_told c = record { held = held_told c.held; own = c.own; to = c.to }
