-- The buffers of a call: which bytes it reads from its process's memory, and which its answer may write
-- there.
-- Source: `man 2` of each call; a length is cut to 65,536, and a path ends with its first zero byte, within
-- 256 bytes.
--     reads_of q      what the call reads      writes_of q size      what its answer may write, where size is the length of the address that it writes
--     fills_of q size      what of that its answer fills in its own process
--     lent memory q   the bytes that it reads, none where some buffer isn't readable or writable as needed (EFAULT)
use Rattle.std.specs.Prelude.{◌==◌, ◌||◌, ℕ, zero, suc, ◌+◌, ◌≤◌, min, Bool, List, [], ◌∷◌, ◌++◌, Option, Some, None, is_some, unwrap_or, option_and_then, if◌then◌else◌}
use Rattle.std.specs.Option.{option_map}
use Rattle.std.specs.List.{list_all}
use Rattle.elf32.specs.OfViews.Numbers.{Address, Flags, Byte}
use Rattle.call_table.specs.declared.request.Request.{Request}
use Rattle.call_table.specs.declared.request.Request.TheVariants.{Unlinkat, Openat, Pipe2, Read, Write, Futex, RtSigaction, RtSigprocmask, Socketpair, Bind, Accept, Connect, Getsockname, Getpeername, Clone, Wait4}
use Rattle.call_table.specs.OfSysAbi.declared.flags.TheConstants.{CLONE_PARENT_SETTID, CLONE_CHILD_SETTID}
use Rattle.call_table.specs.OfSysAbi.declared.transfer.TheConstants.{TRANSFER_LIMIT}
use Rattle.call_table.specs.OfSysAbi.declared.cloning.CloneForm.{CloneForm}
use Rattle.call_table.specs.OfSysAbi.declared.cloning.CloneForm.TheVariants.{Fork}
use Rattle.call_table.specs.OfSysAbi.Clones.{clone_form}
use Rattle.plain_process.specs.declared.memory.Right.TheVariants.{Read as ToRead, Write as ToWrite}
use Rattle.plain_process.specs.declared.buffers.Span.{Span}
use Rattle.plain_process.specs.declared.buffers.Source.{Source}
use Rattle.plain_process.specs.declared.buffers.Source.TheVariants.{Nothing, Bytes, Text}
use Rattle.plain_process.specs.declared.buffers.Spans.{Spans}
use Rattle.plain_process.specs.Memory.{Memory, byte_at, bytes_at, load}
use Rattle.call_table.specs.OfSysAbi.Flags.{has_flag}

abbrev pub span : Address → ℕ → Span
span address length = record { address = address; length = min length TRANSFER_LIMIT }

-- no more bytes than a call moves
abbrev pub IsShort : Source → Type 0
IsShort Nothing = Unit {0}
IsShort (Bytes at) = at.length ≤ TRANSFER_LIMIT
IsShort (Text address) = Unit {0}

abbrev pub unless_zero : Address → Source → Source
unless_zero address source = if address == 0 then Nothing else source

-- the futex operation without its private flag is WAIT (`man 2 futex`)
abbrev pub is_wait : ℕ → Bool
is_wait operation = (operation == 0) || (operation == 128)

unfoldable pub reads_of : Request → Source
reads_of (Futex address operation value timeout) =
    if is_wait operation then Bytes (span address 4) else Nothing
reads_of (RtSigaction signal action old_action size) = unless_zero action (Bytes (span action 16))
reads_of (RtSigprocmask how set old_set size) = unless_zero set (Bytes (span set 8))
reads_of (Unlinkat directory path flags) = Text path
reads_of (Openat directory path flags mode) = Text path
reads_of (Write fd buffer count) = Bytes (span buffer count)
reads_of (Bind fd address length) = Bytes (span address length)
reads_of (Connect fd address length) = Bytes (span address length)
reads_of (Accept fd address length) = unless_zero address (Bytes (span length 4))
reads_of (Getsockname fd address length) = Bytes (span length 4)
reads_of (Getpeername fd address length) = Bytes (span length 4)
reads_of _ = Nothing

-- the bytes of a text: those up to its first zero byte and that byte, at most so many
abbrev pub text_from : Option (List Byte) → Option Byte → Option (List Byte)
text_from rest None = None
text_from rest (Some byte) = if byte == 0 then Some (0 ∷ []) else option_map (λ bytes. byte ∷ bytes) rest

unfoldable pub text_at : Memory → Address → ℕ → Option (List Byte)
text_at memory address zero = Some []
text_at memory address (suc most) =
    text_from (text_at memory (address + 1) most) (byte_at memory ToRead address)

-- how many bytes a path has at most, its zero byte included
abbrev pub PATH_LIMIT : ℕ
PATH_LIMIT = 256

abbrev pub bytes_of : Memory → Source → Option (List Byte)
bytes_of memory Nothing = Some []
bytes_of memory (Bytes at) = bytes_at memory ToRead at.address at.length
bytes_of memory (Text address) = text_at memory address PATH_LIMIT

unfoldable pub given_of : Memory → Request → Option (List Byte)
given_of memory q = bytes_of memory (reads_of q)

-- where a call finds the length of the address that it writes
unfoldable pub length_place : Request → Option Address
length_place (Accept fd address length) = Some length
length_place (Getsockname fd address length) = Some length
length_place (Getpeername fd address length) = Some length
length_place _ = None

abbrev pub length_at : Memory → Option ℕ → ℕ
length_at memory None = 0
length_at memory (Some place) = unwrap_or (load memory place 4) 0

-- that length, 0 where the call writes no address
unfoldable pub size_of : Memory → Request → ℕ
size_of memory q = length_at memory (length_place q)

abbrev pub span_unless_zero : Address → ℕ → List Span
span_unless_zero address length = if address == 0 then [] else span address length ∷ []

-- an address and its true length, which answers of accept and getsockname write
abbrev pub address_spans : Address → ℕ → ℕ → List Span
address_spans address length size = span address size ∷ span length 4 ∷ []

abbrev pub span_if : Bool → Address → List Span
span_if wanted address = if wanted then span address 4 ∷ [] else []

-- where clone writes the new number
abbrev pub thread_spans : Flags → Address → Address → List Span
thread_spans flags parent_tid child_tid =
    span_if (has_flag flags CLONE_PARENT_SETTID) parent_tid
    ++ span_if (has_flag flags CLONE_CHILD_SETTID) child_tid

unfoldable pub writes_of : Request → ℕ → List Span
writes_of (RtSigaction signal action old_action size) length = span_unless_zero old_action 16
writes_of (RtSigprocmask how set old_set size) length = span_unless_zero old_set 8
writes_of (Pipe2 fds flags) length = span fds 8 ∷ []
writes_of (Socketpair domain socket_type protocol fds) length = span fds 8 ∷ []
writes_of (Read fd buffer count) length = span buffer count ∷ []
writes_of (Accept fd address place) length = if address == 0 then [] else address_spans address place length
writes_of (Getsockname fd address place) length = address_spans address place length
writes_of (Getpeername fd address place) length = address_spans address place length
writes_of (Clone flags stack parent_tid tls child_tid) length = thread_spans flags parent_tid child_tid
writes_of (Wait4 pid status options usage) length = span_unless_zero status 4
writes_of _ length = []

-- a fork's answer fills the parent's place alone: the child's number stands in the child's memory
abbrev pub clone_fills : Flags → Address → Address → Option CloneForm → List Span
clone_fills flags parent_tid child_tid (Some Fork) = span_if (has_flag flags CLONE_PARENT_SETTID) parent_tid
clone_fills flags parent_tid child_tid _ = thread_spans flags parent_tid child_tid

unfoldable pub fills_of : Request → ℕ → List Span
fills_of (Clone flags stack parent_tid tls child_tid) length =
    clone_fills flags parent_tid child_tid (clone_form flags)
fills_of q length = writes_of q length

-- the spans of a pair of optional ones
abbrev pub optional : Option Span → List Span
optional None = []
optional (Some at) = at ∷ []

abbrev pub listed : Spans → List Span
listed spans = optional spans.first ++ optional spans.second

abbrev pub can_write : Memory → Span → Bool
can_write memory at = is_some (bytes_at memory ToWrite at.address at.length)

-- the spans that the answer may write
abbrev pub written_spans : Memory → Request → List Span
written_spans memory q = writes_of q (size_of memory q)

-- the spans that the answer fills
abbrev pub filled_spans : Memory → Request → List Span
filled_spans memory q = fills_of q (size_of memory q)

abbrev pub if_writable : Memory → Request → List Byte → Option (List Byte)
if_writable memory q given = if list_all (can_write memory) (written_spans memory q) then Some given else None

unfoldable pub lent : Memory → Request → Option (List Byte)
lent memory q = option_and_then (if_writable memory q) (given_of memory q)
