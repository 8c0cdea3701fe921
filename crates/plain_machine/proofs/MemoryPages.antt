-- A write keeps the pages of a memory and their rights, and the bytes of each page that may not be written.
--     KeepsPages before after        that is so between two memories
--     bytes_keep, store_keeps        of bytes that may be written, and of a store
--     spans_keep_pages               of the bytes of an answer, where each of them may be written
--     fits_taken                     an answer that is no longer than its spans can be written there
use Rattle.std.proofs.Common.{◌≡◌, ℕ, zero, suc, ◌+◌, ◌-◌, ◌/◌, ◌%◌, ◌<◌, ◌≤◌, Bool, true, false, cond, List, [], ◌∷◌, length, take, drop, refl, sym, ap, subst, ◌∙◌, arith, ⊎_elim, length-drop}
use Rattle.std.specs.Prelude.{Option, Some, None, is_some, option_map, slice_set}
use Rattle.std.specs.List.{list_all}
use Rattle.std.specs.Cmp.{nat_cmp_total}
use Rattle.std.specs.FinMap as map
use Rattle.std.proofs.lemmas.Bool.{cases_lt}
use Rattle.std.proofs.lemmas.List.{length-take-le}
use Rattle.plain_tables.proofs.OfViews.MapLaws.{get_insert_same, get_insert_other, same_or_other, true_false}
use Rattle.plain_tables.specs.OfPlainProcess.declared.memory.Right.{Right}
use Rattle.plain_tables.specs.OfPlainProcess.declared.memory.Right.TheVariants.{Write}
use Rattle.plain_tables.specs.OfPlainProcess.declared.memory.Frame.{Frame}
use Rattle.plain_tables.specs.OfPlainProcess.declared.buffers.Span.{Span}
use Rattle.plain_tables.specs.OfPlainProcess.Memory.{Memory, allows, byte_in, byte_at, followed_by, bytes_at, with_byte_in, with_byte, with_bytes, low_bytes, store}
use Rattle.plain_tables.specs.OfPlainProcess.Buffers.{can_write}
use Rattle.plain_tables.specs.OfPlainProcess.Put.{CanHold, CanTake, with_spans}
use Rattle.plain_tables.proofs.OfPlainProcess.Giving.{Giving, gives, where_}

abbrev rights_in : Option Frame → Option ℕ
rights_in found = option_map (λ frame. frame.rights) found

pub record KeepsPages (before after : Memory) : Type 0 where
  pub rights : (place : ℕ) → rights_in (map.get after place) ≡ rights_in (map.get before place)
  pub closed : (place : ℕ) (frame : Frame) → map.get before place ≡ Some frame → allows Write frame.rights ≡ false → map.get after place ≡ Some frame

pub kept_pages : (memory : Memory) → KeepsPages memory memory
kept_pages memory = record { rights = λ place. refl; closed = λ place frame there closed. there }

pub both_keep : (first second third : Memory) → KeepsPages first second → KeepsPages second third → KeepsPages first third
both_keep first second third one two = record {
  rights = λ place. two.rights place ∙ one.rights place;
  closed = λ place frame there closed. two.closed place frame (one.closed place frame there closed) closed;
}

there_by_rights : (found : Option Frame) → is_some (rights_in found) ≡ is_some found
there_by_rights None = refl
there_by_rights (Some frame) = refl

pub same_pages : (before after : Memory) → KeepsPages before after → (place : ℕ) → is_some (map.get after place) ≡ is_some (map.get before place)
same_pages before after keeps place = sym (there_by_rights (map.get after place)) ∙ ap is_some (keeps.rights place) ∙ there_by_rights (map.get before place)

-- whether a byte may be written hangs on its page's rights alone
writable_by : Option ℕ → Bool
writable_by None = false
writable_by (Some rights) = allows Write rights

some_if : (b : Bool) (byte : ℕ) → is_some (cond b (Some byte) None) ≡ b
some_if true byte = refl
some_if false byte = refl

writable_in : (offset : ℕ) (found : Option Frame) → is_some (byte_in Write offset found) ≡ writable_by (rights_in found)
unfolding writable_by
writable_in offset None = refl
writable_in offset (Some frame) = some_if (allows Write frame.rights) _

same_writable : (before after : Memory) → KeepsPages before after → (address : ℕ) → is_some (byte_at after Write address) ≡ is_some (byte_at before Write address)
unfolding byte_at
same_writable before after keeps address =
    writable_in (address % 4096) (map.get after (address / 4096)) ∙ ap writable_by (keeps.rights (address / 4096)) ∙ sym (writable_in (address % 4096) (map.get before (address / 4096)))

-- each byte from an address on, so many, may be had
pub record AreAllowed (memory : Memory) (right : Right) (address n : ℕ) : Type 0 where
  pub each : (at : ℕ) → address ≤ at → at < address + n → is_some (byte_at memory right at) ≡ true

followed_some : (front : Option (List ℕ)) (byte : Option ℕ) → is_some (followed_by front byte) ≡ true → (is_some front ≡ true) × (is_some byte ≡ true)
followed_some None None is = cc
followed_some None (Some byte) is = cc
followed_some (Some front) None is = cc
followed_some (Some front) (Some byte) is = (refl, refl)

pub allowed_each : (memory : Memory) (right : Right) (address n : ℕ) → is_some (bytes_at memory right address n) ≡ true → AreAllowed memory right address n
unfolding bytes_at
allowed_each memory right address zero is = record { each = λ at from below. absurd (omega arith) }
allowed_each memory right address (suc n) is =
    let both = followed_some (bytes_at memory right address n) (byte_at memory right (address + n)) is in
    let before = allowed_each memory right address n both.0 in
    record {
      each = λ at from below. ⊎_elim (λ (inside : at < address + n). before.each at from inside)
          (λ (past : address + n ≤ at). let last : address + n ≡ at = omega arith in subst (λ k. is_some (byte_at memory right k) ≡ true) last both.1)
          (cases_lt at (address + n));
    }

some_followed : (front : Option (List ℕ)) (byte : Option ℕ) → is_some front ≡ true → is_some byte ≡ true → is_some (followed_by front byte) ≡ true
some_followed None byte first second = cc
some_followed (Some front) None first second = cc
some_followed (Some front) (Some byte) first second = refl

allowed_all : (memory : Memory) (right : Right) (address n : ℕ) → AreAllowed memory right address n → is_some (bytes_at memory right address n) ≡ true
unfolding bytes_at
allowed_all memory right address zero are = refl
allowed_all memory right address (suc n) are =
    some_followed (bytes_at memory right address n) (byte_at memory right (address + n))
    (allowed_all memory right address n (record { each = λ at from below. are.each at from (omega arith) }))
    (are.each (address + n) (omega arith) (omega arith))

-- one byte
module _ (memory : Memory) (page : ℕ) (old new : Frame) (there : map.get memory page ≡ Some old) (same : new.rights ≡ old.rights) (writable : allows Write old.rights ≡ true) where
  replaced : KeepsPages memory (map.insert memory page new)
  replaced = record {
    rights = λ place. ⊎_elim
        (λ here. subst (λ k. rights_in (map.get (map.insert memory page new) k) ≡ rights_in (map.get memory k)) (sym here)
        (ap rights_in (get_insert_same nat_cmp_total map.nat_cmp-IsAntisymmetric memory page new) ∙ ap Some same ∙ sym (ap rights_in there)))
        (λ other. ap rights_in (get_insert_other nat_cmp_total map.nat_cmp-IsAntisymmetric memory page new place other))
        (same_or_other nat_cmp_total map.nat_cmp-IsAntisymmetric place page);
    closed = λ place frame found closed. ⊎_elim
        (λ here.
        let at_page : map.get memory page ≡ Some frame = subst (λ k. map.get memory k ≡ Some frame) here found in
        let one : old ≡ frame = cc in
        true_false (sym writable ∙ ap (λ (f : Frame). allows Write f.rights) one ∙ closed))
        (λ other. get_insert_other nat_cmp_total map.nat_cmp-IsAntisymmetric memory page new place other ∙ found)
        (same_or_other nat_cmp_total map.nat_cmp-IsAntisymmetric place page);
  }

byte_keeps_in : (memory : Memory) (page offset byte : ℕ) (found : Option Frame) → map.get memory page ≡ found → is_some (byte_in Write offset found) ≡ true → KeepsPages memory (with_byte_in memory page offset byte found)
byte_keeps_in memory page offset byte None there writable = kept_pages memory
byte_keeps_in memory page offset byte (Some frame) there writable =
    replaced memory page frame (record { rights = frame.rights; page = slice_set frame.page offset byte }) there refl (sym (some_if (allows Write frame.rights) _) ∙ writable)

byte_keeps : (memory : Memory) (address byte : ℕ) → is_some (byte_at memory Write address) ≡ true → KeepsPages memory (with_byte memory address byte)
unfolding byte_at with_byte
byte_keeps memory address byte writable = byte_keeps_in memory (address / 4096) (address % 4096) byte (map.get memory (address / 4096)) refl writable

-- bytes in a row
pub bytes_keep : (memory : Memory) (address : ℕ) (bytes : List ℕ) → AreAllowed memory Write address (length bytes) → KeepsPages memory (with_bytes memory address bytes)
unfolding with_bytes
bytes_keep memory address [] are = kept_pages memory
bytes_keep memory address (byte ∷ rest) are =
    let first : KeepsPages memory (with_byte memory address byte) = byte_keeps memory address byte (are.each address (omega arith) (omega arith)) in
    both_keep memory (with_byte memory address byte) _ first
    (bytes_keep (with_byte memory address byte) (address + 1) rest (record {
      each = λ at from below. same_writable memory (with_byte memory address byte) first at ∙ are.each at (omega arith) (omega arith);
    }))

pub store_keeps : (memory : Memory) (address size value : ℕ) → Giving (store memory address size value) (KeepsPages memory)
store_keeps memory address size value =
    where_ (is_some (bytes_at memory Write address (length (low_bytes size value)))) (λ allowed. gives _ (bytes_keep memory address (low_bytes size value) (allowed_each memory Write address _ allowed)))

-- the bytes of an answer
held_keeps : (memory : Memory) (address : ℕ) (bytes : List ℕ) → CanHold memory address bytes → KeepsPages memory (with_bytes memory address bytes)
held_keeps memory address bytes can = bytes_keep memory address bytes (allowed_each memory Write address (length bytes) can)

pub spans_keep_pages : (memory : Memory) (spans : List Span) (bytes : List ℕ) → CanTake memory spans bytes → KeepsPages memory (with_spans memory spans bytes)
spans_keep_pages memory [] bytes can = kept_pages memory
spans_keep_pages memory (at ∷ []) bytes can = held_keeps memory at.address bytes can
spans_keep_pages memory (at ∷ next ∷ rest) bytes can =
    both_keep memory _ _ (held_keeps memory at.address (take (length bytes - next.length) bytes) can.0)
    (held_keeps _ next.address (drop (length bytes - next.length) bytes) can.1)

pub no_bytes_taken : (memory : Memory) (spans : List Span) → CanTake memory spans []
unfolding bytes_at
no_bytes_taken memory [] = tt
no_bytes_taken memory (at ∷ []) = refl
no_bytes_taken memory (at ∷ next ∷ rest) =
    let none : 0 - next.length ≡ 0 = omega arith in
    subst (λ front. CanHold memory at.address (take front []) × CanHold (with_bytes memory at.address (take front [])) next.address (drop front [])) (sym none) (refl, refl)

-- so many bytes fill the spans at most
abbrev pub FitsSpans : List Span → ℕ → Type 0
FitsSpans [] n = Unit {0}
FitsSpans (at ∷ []) n = n ≤ at.length
FitsSpans (at ∷ next ∷ rest) n = n ≤ at.length + next.length

pub no_bytes_fit : (spans : List Span) → FitsSpans spans 0
no_bytes_fit [] = tt
no_bytes_fit (at ∷ []) = omega arith
no_bytes_fit (at ∷ next ∷ rest) = omega arith

held_within : (memory : Memory) (at : Span) (bytes : List ℕ) → can_write memory at ≡ true → length bytes ≤ at.length → CanHold memory at.address bytes
held_within memory at bytes can few =
    let all = allowed_each memory Write at.address at.length can in
    allowed_all memory Write at.address (length bytes) (record { each = λ k from below. all.each k from (omega arith) })

still_writable : (before after : Memory) (at : Span) → KeepsPages before after → can_write before at ≡ true → can_write after at ≡ true
still_writable before after at keeps can =
    let all = allowed_each before Write at.address at.length can in
    allowed_all after Write at.address at.length (record { each = λ k from below. same_writable before after keeps k ∙ all.each k from below })

first_holds : {X : Type 0} (test : X → Bool) (x : X) (xs : List X) → list_all test (x ∷ xs) ≡ true → test x ≡ true
first_holds test x xs are = grind arith

later_hold : {X : Type 0} (test : X → Bool) (x : X) (xs : List X) → list_all test (x ∷ xs) ≡ true → list_all test xs ≡ true
later_hold test x xs are = grind arith

pub fits_taken : (memory : Memory) (spans : List Span) (bytes : List ℕ) → list_all (can_write memory) spans ≡ true → FitsSpans spans (length bytes) → CanTake memory spans bytes
fits_taken memory [] bytes can fits = tt
fits_taken memory (at ∷ []) bytes can fits = held_within memory at bytes (first_holds (can_write memory) at [] can) fits
fits_taken memory (at ∷ next ∷ rest) bytes can fits =
    let front = length bytes - next.length in
    let short : length (take front bytes) ≡ front = length-take-le front bytes (omega arith) in
    let first : CanHold memory at.address (take front bytes) = held_within memory at (take front bytes) (first_holds (can_write memory) at (next ∷ rest) can) (omega arith) in
    let left : length (drop front bytes) ≤ next.length = let same = length-drop front bytes in omega arith in
    let second = first_holds (can_write memory) next rest (later_hold (can_write memory) at (next ∷ rest) can) in
    (first, held_within _ next (drop front bytes) (still_writable memory _ next (held_keeps memory at.address (take front bytes) first) second) left)
