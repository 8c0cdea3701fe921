-- A call reads no more bytes than it moves.
use Rattle.std.proofs.Common.{◌≡◌, ℕ, zero, suc, ◌+◌, ◌≤◌, List, [], ◌∷◌, ◌++◌, length, refl, sym, ap, subst, ◌∙◌, arith}
use Rattle.std.specs.Prelude.{◌==◌, Option, Some, None, IfSome}
use Rattle.std.specs.Option.{option_map}
use Rattle.std.proofs.Math.ListN.{length-append}
use Rattle.sys_abi.specs.declared.transfer.TheConstants.{TRANSFER_LIMIT}
use Rattle.plain_process.specs.declared.memory.Right.{Right}
use Rattle.plain_process.specs.declared.memory.Right.TheVariants.{Read as ToRead}
use Rattle.plain_process.specs.declared.buffers.Source.{Source}
use Rattle.plain_process.specs.declared.buffers.Source.TheVariants.{Nothing, Bytes, Text}
use Rattle.plain_process.specs.Memory.{Memory, byte_at, followed_by, bytes_at}
use Rattle.plain_process.specs.Buffers.{IsShort, text_from, text_at, PATH_LIMIT, bytes_of}
use Rattle.plain_process.proofs.Giving.{Giving, gives, nothing, either, mapped}

followed_count : (n : ℕ) (front : Option (List ℕ)) (byte : Option ℕ) → Giving front (λ read. length read ≡ n) → Giving (followed_by front byte) (λ read. length read ≡ suc n)
followed_count n None byte first = nothing
followed_count n (Some front) None first = nothing
followed_count n (Some front) (Some byte) first =
    gives (front ++ byte ∷ []) (length-append front (byte ∷ []) ∙ ap (λ k. k + 1) (first.each front refl) ∙ omega arith)

bytes_count : (memory : Memory) (right : Right) (address n : ℕ) → Giving (bytes_at memory right address n) (λ read. length read ≡ n)
unfolding bytes_at
bytes_count memory right address zero = gives [] refl
bytes_count memory right address (suc n) = followed_count n _ _ (bytes_count memory right address n)

text_from_count : (most : ℕ) (rest : Option (List ℕ)) (byte : Option ℕ) → Giving rest (λ read. length read ≤ most) → Giving (text_from rest byte) (λ read. length read ≤ suc most)
text_from_count most rest None later = nothing
text_from_count most rest (Some byte) later =
    either (byte == 0) {found = Some (0 ∷ [])} {other = option_map (λ bytes. byte ∷ bytes) rest} (λ last. gives (0 ∷ []) (omega arith))
    (λ goes_on. mapped {P = λ read. length read ≤ suc most} (λ bytes. byte ∷ bytes) (record { each = λ bytes is. let few : length bytes ≤ most = later.each bytes is in omega arith }))

text_count : (memory : Memory) (address most : ℕ) → Giving (text_at memory address most) (λ read. length read ≤ most)
unfolding text_at
text_count memory address zero = gives [] (omega arith)
text_count memory address (suc most) = text_from_count most (text_at memory (address + 1) most) (byte_at memory ToRead address) (text_count memory (address + 1) most)

short_bytes : (memory : Memory) (source : Source) → IsShort source → Giving (bytes_of memory source) (λ read. length read ≤ TRANSFER_LIMIT)
short_bytes memory Nothing short = gives [] (omega arith)
short_bytes memory (Bytes at) short = record {
  each = λ read is. let count : length read ≡ at.length = (bytes_count memory ToRead at.address at.length).each read is in subst (λ k. k ≤ TRANSFER_LIMIT) (sym count) short;
}
short_bytes memory (Text address) short = record { each = λ read is. let few : length read ≤ 256 = (text_count memory address PATH_LIMIT).each read is in omega arith }

some_short : (read : Option (List ℕ)) → Giving read (λ r. length r ≤ TRANSFER_LIMIT) → IfSome read (λ r. length r ≤ TRANSFER_LIMIT)
some_short None gives = tt
some_short (Some r) gives = gives.each r refl

pub is_short : (memory : Memory) (source : Source) (read : Option (List ℕ)) → IsShort source → read ≡ bytes_of memory source → IfSome read (λ r. length r ≤ TRANSFER_LIMIT)
is_short memory source read short is = some_short read (subst (λ found. Giving found (λ r. length r ≤ TRANSFER_LIMIT)) (sym is) (short_bytes memory source short))
