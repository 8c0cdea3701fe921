-- What a call reads is at most 65,536 bytes, and what its answer fills may be written.
--     lent_length      how long what is lent is      lent_room      an answer that is no longer than what it fills can be put
use Rattle.std.proofs.Common.{◌≡◌, ℕ, zero, suc, ◌+◌, ◌≤◌, Bool, true, false, ◌&&◌, cond, List, [], ◌∷◌, ◌++◌, length, refl, sym, subst, arith}
use Rattle.std.specs.Prelude.{◌==◌, Option, Some, None}
use Rattle.std.specs.Option.{option_map}
use Rattle.std.specs.List.{list_all}
use Rattle.std.proofs.Math.Nat.{min-le_right}
use Rattle.plain_tables.specs.OfCallTable.declared.request.Request.{Request}
use Rattle.plain_tables.specs.OfCallTable.declared.request.Request.TheVariants.{Unlinkat, Openat, Write, Clone, Futex, RtSigaction, RtSigprocmask, Bind, Accept, Connect, Getsockname, Getpeername}
use Rattle.plain_tables.specs.OfSysAbi.declared.transfer.TheConstants.{TRANSFER_LIMIT}
use Rattle.plain_tables.specs.OfSysAbi.declared.flags.TheConstants.{CLONE_PARENT_SETTID, CLONE_CHILD_SETTID}
use Rattle.plain_tables.specs.OfSysAbi.declared.cloning.CloneForm.{CloneForm}
use Rattle.plain_tables.specs.OfSysAbi.declared.cloning.CloneForm.TheVariants.{Fork, Thread}
use Rattle.plain_tables.specs.OfSysAbi.Clones.{clone_form}
use Rattle.plain_tables.specs.OfSysAbi.Flags.{has_flag}
use Rattle.plain_tables.specs.OfPlainProcess.declared.buffers.Span.{Span}
use Rattle.plain_tables.specs.OfPlainProcess.declared.buffers.Source.{Source}
use Rattle.plain_tables.specs.OfPlainProcess.declared.buffers.Source.TheVariants.{Nothing, Bytes, Text}
use Rattle.plain_tables.specs.OfPlainProcess.Memory.{Memory, byte_at}
use Rattle.plain_tables.specs.OfPlainProcess.declared.memory.Right.TheVariants.{Read as ToRead}
use Rattle.plain_tables.specs.OfPlainProcess.Buffers.{reads_of, bytes_of, given_of, text_from, text_at, PATH_LIMIT, if_writable, can_write, size_of, span_if, clone_fills, fills_of, filled_spans, writes_of, written_spans, lent, span, is_wait}
use Rattle.plain_tables.specs.OfPlainProcess.Put.{CanTake}
use Rattle.plain_tables.specs.OfPlainProcess.Valid.{IsFrame, Each}
use Rattle.plain_tables.proofs.OfPlainProcess.Giving.{Giving, gives, nothing, where_, either, then_, mapped}
use Rattle.plain_tables.proofs.OfPlainProcess.MemoryBounds.{bytes_read}
use Rattle.plain_machine.proofs.MemoryPages.{FitsSpans, fits_taken}

-- what a call reads
record IsShort (source : Source) : Type 0 where
  each : (at : Span) → source ≡ Bytes at → at.length ≤ TRANSFER_LIMIT

short_span : (address length : ℕ) → IsShort (Bytes (span address length))
short_span address length = record { each = λ at is. let same : span address length ≡ at = cc in subst (λ (s : Span). s.length ≤ TRANSFER_LIMIT) same (min-le_right length TRANSFER_LIMIT) }

short_nothing : IsShort Nothing
short_nothing = record { each = λ at is. cc }

short_text : (address : ℕ) → IsShort (Text address)
short_text address = record { each = λ at is. cc }

short_either : (b : Bool) (first second : Source) → IsShort first → IsShort second → IsShort (cond b first second)
short_either true first second holds other = holds
short_either false first second other holds = holds

reads_short : (q : Request) → IsShort (reads_of q)
unfolding reads_of
reads_short (Futex address operation value timeout) = short_either (is_wait operation) _ _ (short_span address 4) short_nothing
reads_short (RtSigaction signal action old_action size) = short_either (action == 0) _ _ short_nothing (short_span action 16)
reads_short (RtSigprocmask how set old_set size) = short_either (set == 0) _ _ short_nothing (short_span set 8)
reads_short (Unlinkat directory path flags) = short_text path
reads_short (Openat directory path flags mode) = short_text path
reads_short (Write fd buffer count) = short_span buffer count
reads_short (Bind fd address length) = short_span address length
reads_short (Connect fd address length) = short_span address length
reads_short (Accept fd address length) = short_either (address == 0) _ _ short_nothing (short_span length 4)
reads_short (Getsockname fd address length) = short_span length 4
reads_short (Getpeername fd address length) = short_span length 4
reads_short _ = short_nothing

text_from_short : (most : ℕ) (rest : Option (List ℕ)) (byte : Option ℕ) → Giving rest (λ bytes. length bytes ≤ most) → Giving (text_from rest byte) (λ bytes. length bytes ≤ suc most)
text_from_short most rest None later = nothing
text_from_short most rest (Some byte) later =
    either (byte == 0) {found = Some (0 ∷ [])} {other = option_map (λ bytes. byte ∷ bytes) rest} (λ last. gives (0 ∷ []) (omega arith))
    (λ goes_on. mapped {P = λ bytes. length bytes ≤ suc most} (λ bytes. byte ∷ bytes) (record { each = λ bytes is. let less : length bytes ≤ most = later.each bytes is in omega arith }))

text_short : (memory : Memory) (address most : ℕ) → Giving (text_at memory address most) (λ bytes. length bytes ≤ most)
unfolding text_at
text_short memory address zero = gives [] (omega arith)
text_short memory address (suc most) = text_from_short most (text_at memory (address + 1) most) (byte_at memory ToRead address) (text_short memory (address + 1) most)

source_short : (memory : Memory) (source : Source) → Each memory IsFrame → IsShort source → Giving (bytes_of memory source) (λ bytes. length bytes ≤ TRANSFER_LIMIT)
source_short memory Nothing are is = gives [] (omega arith)
source_short memory (Bytes at) are is = record { each = λ bytes goes. let read = (bytes_read memory ToRead at.address at.length are).each bytes goes in subst (λ n. n ≤ TRANSFER_LIMIT) (sym read.count) (is.each at refl) }
source_short memory (Text address) are is = record { each = λ bytes goes. let less : length bytes ≤ 256 = (text_short memory address PATH_LIMIT).each bytes goes in omega arith }

given_short : (memory : Memory) (q : Request) → Each memory IsFrame → Giving (given_of memory q) (λ bytes. length bytes ≤ TRANSFER_LIMIT)
unfolding given_of
given_short memory q are = source_short memory (reads_of q) are (reads_short q)

pub lent_length : (memory : Memory) (q : Request) → Each memory IsFrame → Giving (lent memory q) (λ bytes. length bytes ≤ TRANSFER_LIMIT)
unfolding lent
lent_length memory q are = then_ (given_of memory q) {f = if_writable memory q} (λ given is.
    where_ (list_all (can_write memory) (written_spans memory q)) (λ can. gives given ((given_short memory q are).each given is)))

-- each buffer that the answer may write can be written
pub lent_writable : (memory : Memory) (q : Request) → Giving (lent memory q) (λ given. list_all (can_write memory) (written_spans memory q) ≡ true)
unfolding lent
lent_writable memory q = then_ (given_of memory q) {f = if_writable memory q} (λ given is. where_ (list_all (can_write memory) (written_spans memory q)) (λ can. gives given can))

-- so can what it fills
first_of_two : (can : Span → Bool) (first second : Bool) (parent child : ℕ) → list_all can (span_if first parent ++ span_if second child) ≡ true → list_all can (span_if first parent) ≡ true
first_of_two can true second parent child all = both (can (span parent 4)) (list_all can (span_if second child)) all
  where
    both : (a b : Bool) → (a && b) ≡ true → (a && true) ≡ true
    both true b all = refl
    both false b all = all
first_of_two can false second parent child all = refl

form_filled : (can : Span → Bool) (flags parent child : ℕ) (form : Option CloneForm) → list_all can (span_if (has_flag flags CLONE_PARENT_SETTID) parent ++ span_if (has_flag flags CLONE_CHILD_SETTID) child) ≡ true
    → list_all can (clone_fills flags parent child form) ≡ true
form_filled can flags parent child None all = all
form_filled can flags parent child (Some Thread) all = all
form_filled can flags parent child (Some Fork) all = first_of_two can (has_flag flags CLONE_PARENT_SETTID) (has_flag flags CLONE_CHILD_SETTID) parent child all

filled_writable : (can : Span → Bool) (q : Request) (size : ℕ) → list_all can (writes_of q size) ≡ true → list_all can (fills_of q size) ≡ true
unfolding fills_of writes_of
filled_writable can (Clone flags stack parent_tid tls child_tid) size all = form_filled can flags parent_tid child_tid (clone_form flags) all
filled_writable can _ size all = all

pub lent_room : (memory : Memory) (q : Request) (given bytes : List ℕ) → lent memory q ≡ Some given → FitsSpans (filled_spans memory q) (length bytes) → CanTake memory (filled_spans memory q) bytes
lent_room memory q given bytes is_lent fits =
    fits_taken memory (filled_spans memory q) bytes (filled_writable (can_write memory) q (size_of memory q) ((lent_writable memory q).each given is_lent)) fits
