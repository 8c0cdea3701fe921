-- What a call reads from valid memory are bytes, and each buffer that its answer may write can be written.
--     Lent memory q given      is_lent
use Rattle.std.proofs.Common.{◌≡◌, ℕ, zero, suc, ◌+◌, true, List, [], ◌∷◌, refl, arith}
use Rattle.std.specs.Prelude.{◌==◌, Option, Some, None, All}
use Rattle.std.specs.Option.{option_map}
use Rattle.std.specs.List.{list_all}
use Rattle.std.proofs.lemmas.List.Elements.{All-nil, All-cons}
use Rattle.plain_tables.specs.OfCallTable.declared.request.Request.{Request}
use Rattle.plain_tables.specs.OfPlainProcess.declared.memory.Right.TheVariants.{Read as ToRead}
use Rattle.plain_tables.specs.OfPlainProcess.declared.buffers.Source.{Source}
use Rattle.plain_tables.specs.OfPlainProcess.declared.buffers.Source.TheVariants.{Nothing, Bytes, Text}
use Rattle.plain_tables.specs.OfPlainProcess.Memory.{Memory, byte_at}
use Rattle.plain_tables.specs.OfPlainProcess.Buffers.{reads_of, bytes_of, given_of, text_from, text_at, PATH_LIMIT, if_writable, can_write, written_spans, lent}
use Rattle.plain_tables.specs.OfPlainProcess.Valid.{IsByte, IsFrame, Each}
use Rattle.plain_tables.proofs.OfPlainProcess.Giving.{Giving, gives, nothing, where_, either, then_, mapped}
use Rattle.plain_tables.proofs.OfPlainProcess.MemoryBounds.{byte_read, bytes_read}

pub record Lent (memory : Memory) (q : Request) (given : List ℕ) : Type 0 where
  pub bytes : All IsByte given
  pub writable : list_all (can_write memory) (written_spans memory q) ≡ true

text_from_bytes : (rest : Option (List ℕ)) (byte : Option ℕ) → Giving rest (All IsByte) → Giving byte IsByte → Giving (text_from rest byte) (All IsByte)
text_from_bytes rest None later first = nothing
text_from_bytes rest (Some byte) later first =
    either (byte == 0) {found = Some (0 ∷ [])} {other = option_map (λ bytes. byte ∷ bytes) rest} (λ last. gives (0 ∷ []) (All-cons IsByte 0 [] (omega arith) (All-nil IsByte)))
    (λ goes_on. mapped {P = All IsByte} (λ bytes. byte ∷ bytes) (record { each = λ bytes is. All-cons IsByte byte bytes (first.each byte refl) (later.each bytes is) }))

text_bytes : (memory : Memory) (address most : ℕ) → Each memory IsFrame → Giving (text_at memory address most) (All IsByte)
unfolding text_at
text_bytes memory address zero are = gives [] (All-nil IsByte)
text_bytes memory address (suc most) are = text_from_bytes (text_at memory (address + 1) most) (byte_at memory ToRead address) (text_bytes memory (address + 1) most are) (byte_read memory ToRead address are)

source_bytes : (memory : Memory) (source : Source) → Each memory IsFrame → Giving (bytes_of memory source) (All IsByte)
source_bytes memory Nothing are = gives [] (All-nil IsByte)
source_bytes memory (Bytes at) are = record { each = λ bytes goes. ((bytes_read memory ToRead at.address at.length are).each bytes goes).bytes }
source_bytes memory (Text address) are = text_bytes memory address PATH_LIMIT are

given_bytes : (memory : Memory) (q : Request) → Each memory IsFrame → Giving (given_of memory q) (All IsByte)
unfolding given_of
given_bytes memory q are = source_bytes memory (reads_of q) are

pub is_lent : (memory : Memory) (q : Request) → Each memory IsFrame → Giving (lent memory q) (Lent memory q)
unfolding lent
is_lent memory q are = then_ (given_of memory q) {f = if_writable memory q} (λ given goes.
    where_ (list_all (can_write memory) (written_spans memory q)) (λ can. gives given (record { bytes = (given_bytes memory q are).each given goes; writable = can })))
