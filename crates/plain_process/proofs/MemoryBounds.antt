-- What is read from valid memory are bytes, and what writes bytes leaves it valid: as many pages, in the same places, with the same rights.
--     IsMemory memory      the facts of a user part's memory
--     bytes_read           what stands at addresses      word_read      the number that is loaded      kept_by_bytes, kept_by_store      writes
use Rattle.std.proofs.Common.{◌≡◌, ℕ, zero, suc, ◌+◌, ◌/◌, ◌%◌, ◌^◌, ◌<◌, ◌≤◌, cond, List, [], ◌∷◌, ◌++◌, length, refl, sym, ap, subst, ◌∙◌, arith, length-append, ⊎_elim}
use Rattle.std.specs.Prelude.{Option, Some, None, is_some, slice_index, slice_set, All}
use Rattle.std.specs.Cmp.{nat_cmp_total}
use Rattle.std.specs.FinMap as map
use Rattle.std.proofs.lemmas.List.Elements.{All-set, All-append, All-cons, All-nil}
use Rattle.std.proofs.lemmas.List.{length-set, get_or_past}
use Rattle.std.proofs.lemmas.Bool.{cases_lt}
use Rattle.std.proofs.Math.Nat.{pow-suc}
use Rattle.elf32.proofs.OfViews.MapLaws.{get_insert_same, get_insert_other, same_or_other}
use Rattle.plain_process.specs.declared.memory.Right.{Right}
use Rattle.plain_process.specs.declared.memory.Right.TheVariants.{Read, Write}
use Rattle.plain_process.specs.declared.memory.Frame.{Frame}
use Rattle.plain_process.specs.Memory.{Memory, allows, byte_in, byte_at, followed_by, bytes_at, with_byte_in, with_byte, with_bytes, little_endian, low_bytes, load, store}
use Rattle.plain_process.specs.Valid.{IsByte, IsFrame, Each}
use Rattle.plain_process.proofs.Giving.{Giving, gives, nothing, where_, mapped}

pub record IsMemory (memory : Memory) : Type 0 where
  pub pages : map.len memory ≤ 2048
  pub frames : Each memory IsFrame

-- the byte at any place of a list of bytes, 0 past its end
pub byte_of : (bytes : List ℕ) (i : ℕ) → All IsByte bytes → IsByte (slice_index bytes i)
byte_of bytes i are = ⊎_elim (λ inside. are i 0 inside) (λ past. subst IsByte (sym (get_or_past bytes i 0 past)) (omega arith)) (cases_lt i (length bytes))

-- reads
byte_read_in : (right : Right) (page offset : ℕ) (found : Option Frame) → ((frame : Frame) → found ≡ Some frame → IsFrame page frame) → Giving (byte_in right offset found) IsByte
byte_read_in right page offset None are = nothing
byte_read_in right page offset (Some frame) are = where_ (allows right frame.rights) (λ allowed. gives (slice_index frame.page offset) (byte_of frame.page offset (are frame refl).bytes))

pub byte_read : (memory : Memory) (right : Right) (address : ℕ) → Each memory IsFrame → Giving (byte_at memory right address) IsByte
unfolding byte_at
byte_read memory right address are = byte_read_in right (address / 4096) (address % 4096) (map.get memory (address / 4096)) (λ frame is. are (address / 4096) frame is)

pub record AreBytes (n : ℕ) (read : List ℕ) : Type 0 where
  pub count : length read ≡ n
  pub bytes : All IsByte read

followed_read : (n : ℕ) (front : Option (List ℕ)) (byte : Option ℕ) → Giving front (AreBytes n) → Giving byte IsByte → Giving (followed_by front byte) (AreBytes (suc n))
followed_read n None byte first second = nothing
followed_read n (Some front) None first second = nothing
followed_read n (Some front) (Some byte) first second =
    let before = first.each front refl in
    gives (front ++ byte ∷ []) (record {
      count = length-append front (byte ∷ []) ∙ ap (λ k. k + 1) before.count ∙ omega arith;
      bytes = All-append IsByte front (byte ∷ []) before.bytes (All-cons IsByte byte [] (second.each byte refl) (All-nil IsByte));
    })

pub bytes_read : (memory : Memory) (right : Right) (address n : ℕ) → Each memory IsFrame → Giving (bytes_at memory right address n) (AreBytes n)
unfolding bytes_at
bytes_read memory right address zero are = gives [] (record { count = refl; bytes = All-nil IsByte })
bytes_read memory right address (suc n) are = followed_read n _ _ (bytes_read memory right address n are) (byte_read memory right (address + n) are)

little_endian_below : (bytes : List ℕ) → All IsByte bytes → little_endian bytes < 256 ^ length bytes
little_endian_below [] are = omega arith
little_endian_below (byte ∷ rest) are =
    let first : byte < 256 = are 0 0 (omega arith) in
    let later : little_endian rest < 256 ^ length rest = little_endian_below rest (λ k d inside. are (suc k) d (omega arith)) in
    rw pow-suc (omega arith)

pub word_read : (memory : Memory) (address n : ℕ) → Each memory IsFrame → Giving (load memory address n) (λ value. value < 256 ^ n)
word_read memory address n are = mapped little_endian (record {
  each = λ bytes is.
      let read = (bytes_read memory Read address n are).each bytes is in subst (λ k. little_endian bytes < 256 ^ k) read.count (little_endian_below bytes read.bytes);
})

-- writes
pub low_bytes_are : (n value : ℕ) → All IsByte (low_bytes n value)
low_bytes_are zero value = All-nil IsByte
low_bytes_are (suc n) value = All-cons IsByte (value % 256) (low_bytes n (value / 256)) (omega arith) (low_bytes_are n (value / 256))

frame_with_byte : (page : ℕ) (frame : Frame) (offset byte : ℕ) → IsByte byte → IsFrame page frame → IsFrame page (record { rights = frame.rights; page = slice_set frame.page offset byte })
frame_with_byte page frame offset byte is old = record {
  number = old.number;
  rights = old.rights;
  size = length-set frame.page offset byte ∙ old.size;
  bytes = All-set IsByte frame.page offset byte is old.bytes;
}

-- a page in the place of one that is there
pub with_frame : (memory : Memory) (page : ℕ) (old new : Frame) → map.get memory page ≡ Some old → IsFrame page new → IsMemory memory → IsMemory (map.insert memory page new)
with_frame memory page old new is fits before = record {
  pages = let same = map.len-insert nat_cmp_total memory page new ∙ ap (λ found. cond (is_some found) (map.len memory) (map.len memory + 1)) is in subst (λ n. n ≤ 2048) (sym same) before.pages;
  frames = λ place frame found. ⊎_elim
      (λ here. let there : map.get (map.insert memory page new) page ≡ Some frame = subst (λ q. map.get (map.insert memory page new) q ≡ Some frame) here found in
      let same : new ≡ frame = let put = get_insert_same nat_cmp_total map.nat_cmp-IsAntisymmetric memory page new in cc in
      subst (λ q. IsFrame q frame) (sym here) (subst (IsFrame page) same fits))
      (λ other. before.frames place frame (sym (get_insert_other nat_cmp_total map.nat_cmp-IsAntisymmetric memory page new place other) ∙ found))
      (same_or_other nat_cmp_total map.nat_cmp-IsAntisymmetric place page);
}

kept_by_byte_in : (memory : Memory) (page offset byte : ℕ) (found : Option Frame) → map.get memory page ≡ found → IsByte byte → IsMemory memory → IsMemory (with_byte_in memory page offset byte found)
kept_by_byte_in memory page offset byte None is small before = before
kept_by_byte_in memory page offset byte (Some frame) is small before =
    with_frame memory page frame _ is (frame_with_byte page frame offset byte small (before.frames page frame is)) before

pub kept_by_byte : (memory : Memory) (address byte : ℕ) → IsByte byte → IsMemory memory → IsMemory (with_byte memory address byte)
unfolding with_byte
kept_by_byte memory address byte small before = kept_by_byte_in memory (address / 4096) (address % 4096) byte (map.get memory (address / 4096)) refl small before

pub kept_by_bytes : (memory : Memory) (address : ℕ) (bytes : List ℕ) → All IsByte bytes → IsMemory memory → IsMemory (with_bytes memory address bytes)
unfolding with_bytes
kept_by_bytes memory address [] are before = before
kept_by_bytes memory address (byte ∷ rest) are before =
    kept_by_bytes (with_byte memory address byte) (address + 1) rest (λ k d inside. are (suc k) d (omega arith)) (kept_by_byte memory address byte (are 0 0 (omega arith)) before)

pub kept_by_store : (memory : Memory) (address size value : ℕ) → IsMemory memory → Giving (store memory address size value) IsMemory
kept_by_store memory address size value before =
    where_ (is_some (bytes_at memory Write address (length (low_bytes size value)))) (λ allowed. gives _ (kept_by_bytes memory address (low_bytes size value) (low_bytes_are size value) before))
