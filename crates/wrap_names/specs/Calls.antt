-- The calls on addresses in which the kernel over real numbers has no part.
-- Source: `man 2 bind`, `man 2 getsockname`, `man 2 getpeername`.
--     is_address_call q               one of the three
--     peer_named k given object       the row of a getpeername, by what the socket is of
use Rattle.std.specs.Prelude.{Bool, true, false, List}
use Rattle.views.specs.Numbers.{Byte}
use Rattle.call_table.specs.declared.request.Request.{Request}
use Rattle.call_table.specs.declared.request.Request.TheVariants.{Bind, Getsockname, Getpeername}
use Rattle.plain_tables.specs.declared.description.Object.{Object}
use Rattle.plain_process.specs.Attempts.{Try, Gives, ◌>>=◌}
use Rattle.plain_machine.specs.declared.kernel.PlainKernel.{PlainKernel}
use Rattle.plain_machine.specs.Attempts.{Served}
use Rattle.plain_machine.specs.Rows.Sockets.{peer_name, named}

unfoldable pub is_address_call : Request → Bool
is_address_call (Bind fd address length) = true
is_address_call (Getsockname fd address length) = true
is_address_call (Getpeername fd address length) = true
is_address_call _ = false

abbrev pub peer_named : PlainKernel → List Byte → Object → Try Served
peer_named k given object = peer_name k object >>= (λ name. Gives (named k given name))
