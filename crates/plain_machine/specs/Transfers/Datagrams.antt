-- Messages of a datagram pair: each waits at the end that receives it, which is open as long as it has an
-- inbox.
-- Source: `man 2 socketpair`, `man 2 recv`, `man 2 send`; that a read gives nothing once the other end has
-- closed and no message is left, and the limits, are this project's own.
--     has_message, takes_message      whether a read or a write has an answer yet
--     read_message k d count          the first message, cut, or nothing where there is none
--     write_message k peer count given
use Rattle.std.specs.Prelude.{◌||◌, ℕ, not, nat_lt, nat_le, Bool, List, [], ◌∷◌, ◌++◌, take, length, is_some, unwrap_or}
use Rattle.std.specs.FinMap as map
use Rattle.plain_tables.specs.OfViews.Numbers.{Byte}
use Rattle.plain_tables.specs.OfViews.Limits.{INBOX_LIMIT, MESSAGE_LIMIT}
use Rattle.plain_tables.specs.OfSysAbi.declared.identity.DescId.{DescId}
use Rattle.plain_tables.specs.OfSysAbi.declared.errors.TheConstants.{EMSGSIZE, ECONNREFUSED}
use Rattle.plain_machine.specs.declared.kernel.PlainKernel.{PlainKernel}
use Rattle.plain_tables.specs.OfPlainProcess.Attempts.{Try, need, found, ◌>>=◌, ◌>>◌}
use Rattle.plain_machine.specs.Attempts.{Served, replied}
use Rattle.plain_machine.specs.Making.{with_inbox}
use Rattle.plain_machine.specs.Transfers.Answers.{gave}

abbrev pub is_open_end : PlainKernel → DescId → Bool
is_open_end k d = is_some (map.get k.inboxes d)

abbrev pub messages_at : PlainKernel → DescId → List (List Byte)
messages_at k d = unwrap_or (map.get k.inboxes d) []

-- a message waits, or none will come
abbrev pub has_message : PlainKernel → DescId → DescId → Bool
has_message k d peer = nat_lt 0 (length (messages_at k d)) || not (is_open_end k peer)

-- there is room for a message, or it is refused
abbrev pub takes_message : PlainKernel → DescId → ℕ → Bool
takes_message k peer count =
    nat_lt MESSAGE_LIMIT count || not (is_open_end k peer) || nat_lt (length (messages_at k peer)) INBOX_LIMIT

abbrev pub read_first : PlainKernel → DescId → ℕ → List (List Byte) → Try Served
read_first k d count [] = gave k []
read_first k d count (message ∷ rest) = gave (with_inbox k d rest) (take count message)

unfoldable pub read_message : PlainKernel → DescId → ℕ → Try Served
read_message k d count = read_first k d count (messages_at k d)

unfoldable pub write_message : PlainKernel → DescId → ℕ → List Byte → Try Served
write_message k peer count given = do
  need (nat_le count MESSAGE_LIMIT) EMSGSIZE
  messages ← found (map.get k.inboxes peer) ECONNREFUSED
  replied (with_inbox k peer (messages ++ take count given ∷ [])) (length (take count given))
