-- Accesses of a memory of one short page, at address 0, that may be read and written.
--     load-front      what its first 1, 2 or 4 bytes spell      store-front      a store there
--     load_past, store_past      no other page is there
use Rattle.std.proofs.Common.{◌≡◌, ◌≢◌, ℕ, zero, suc, ◌+◌, ◌*◌, ◌/◌, ◌%◌, ◌<◌, ◌≤◌, List, [], ◌∷◌, length, refl, ap, ◌∙◌, arith, lit<}
use Rattle.std.specs.Prelude.{Some, None, Option, is_some, slice_index, slice_set, if◌then◌else◌}
use Rattle.std.specs.Option.{option_map}
use Rattle.std.specs.Ordering.{nat_cmp}
use Rattle.std.specs.FinMap as map
use Rattle.std.proofs.lemmas.Cmp.{nat_cmp_total}
use Rattle.views.proofs.MapLaws.{get_insert_same, get_insert_other, insert_insert}
use Rattle.plain_process.specs.declared.memory.Right.{Right}
use Rattle.plain_process.specs.declared.memory.Right.TheVariants.{Read, Write}
use Rattle.plain_process.specs.declared.memory.Frame.{Frame}
use Rattle.plain_process.specs.Memory.{Memory, load, store, bytes_at, byte_at, byte_in, followed_by, with_bytes, with_byte, with_byte_in, little_endian, low_bytes}

abbrev pub frame_of : List ℕ → Frame
frame_of page = record { rights = 6; page = page }

abbrev pub memory_of : List ℕ → Memory
memory_of page = map.insert map.empty 0 (frame_of page)

there : (page : List ℕ) → map.get (memory_of page) 0 ≡ Some (frame_of page)
there page = get_insert_same nat_cmp_total map.nat_cmp-IsAntisymmetric map.empty 0 (frame_of page)

pub load-byte : (page : List ℕ) → load (memory_of page) 0 1 ≡ Some (little_endian (slice_index page 0 ∷ []))
unfolding bytes_at byte_at
load-byte page = rw (there page) refl

pub load-half : (page : List ℕ) → load (memory_of page) 0 2 ≡ Some (little_endian (slice_index page 0 ∷ slice_index page 1 ∷ []))
unfolding bytes_at byte_at
load-half page = rw (there page) refl

pub load-word : (page : List ℕ) → load (memory_of page) 0 4 ≡ Some (little_endian (slice_index page 0 ∷ slice_index page 1 ∷ slice_index page 2 ∷ slice_index page 3 ∷ []))
unfolding bytes_at byte_at
load-word page = rw (there page) refl

with-there : (page : List ℕ) (place byte : ℕ) → place < 4096 → with_byte (memory_of page) place byte ≡ memory_of (slice_set page place byte)
unfolding with_byte
with-there page place byte within =
    (λ i. with_byte_in (memory_of page) (number i) (offset i) byte (map.get (memory_of page) (number i)))
    ∙ ap (with_byte_in (memory_of page) 0 place byte) (there page)
    ∙ insert_insert nat_cmp_total map.nat_cmp-IsAntisymmetric map.empty 0 (frame_of page) (frame_of (slice_set page place byte))
  where
    number : place / 4096 ≡ 0
    number = omega arith

    offset : place % 4096 ≡ place
    offset = omega arith

with-next : (page : List ℕ) (place byte : ℕ) (rest : List ℕ) → place < 4096
    → with_bytes (memory_of page) place (byte ∷ rest) ≡ with_bytes (memory_of (slice_set page place byte)) (place + 1) rest
unfolding with_bytes
with-next page place byte rest within = ap (λ m. with_bytes m (place + 1) rest) (with-there page place byte within)

with-none : (page : List ℕ) (place : ℕ) → with_bytes (memory_of page) place [] ≡ memory_of page
unfolding with_bytes
with-none page place = refl

pub store-byte : (page : List ℕ) (value : ℕ) → store (memory_of page) 0 1 value ≡ Some (memory_of (slice_set page 0 (value % 256)))
unfolding bytes_at byte_at
store-byte page value = rw (there page) (ap (λ (m : Memory). Some m) (with-next page 0 _ [] (lit< tt) ∙ with-none _ 1))

pub store-half : (page : List ℕ) (value : ℕ) → store (memory_of page) 0 2 value ≡ Some (memory_of (slice_set (slice_set page 0 (value % 256)) 1 (value / 256 % 256)))
unfolding bytes_at byte_at
store-half page value =
    rw (there page)
    (ap (λ (m : Memory). Some m) (with-next page 0 (value % 256) _ (lit< tt) ∙ with-next (slice_set page 0 (value % 256)) 1 (value / 256 % 256) [] (lit< tt) ∙ with-none _ 2))

pub store-word : (page : List ℕ) (value : ℕ)
    → store (memory_of page) 0 4 value
    ≡ Some (memory_of (slice_set (slice_set (slice_set (slice_set page 0 (value % 256)) 1 (value / 256 % 256)) 2 (value / 256 / 256 % 256)) 3 (value / 256 / 256 / 256 % 256)))
unfolding bytes_at byte_at
store-word page value =
    let a : List ℕ = slice_set page 0 (value % 256) in
    let b : List ℕ = slice_set a 1 (value / 256 % 256) in
    let c : List ℕ = slice_set b 2 (value / 256 / 256 % 256) in
    rw (there page)
    (ap (λ (m : Memory). Some m)
    (with-next page 0 (value % 256) _ (lit< tt) ∙ with-next a 1 (value / 256 % 256) _ (lit< tt) ∙ with-next b 2 (value / 256 / 256 % 256) _ (lit< tt)
    ∙ with-next c 3 (value / 256 / 256 / 256 % 256) [] (lit< tt) ∙ with-none _ 4))

no_byte : (page : List ℕ) (right : Right) (address : ℕ) → 4096 ≤ address → byte_at (memory_of page) right address ≡ None
unfolding byte_at
no_byte page right address past =
    ap (byte_in right (address % 4096))
    (get_insert_other nat_cmp_total map.nat_cmp-IsAntisymmetric map.empty 0 (frame_of page) (address / 4096) differ ∙ map.get-empty nat_cmp (address / 4096))
  where
    differ : address / 4096 ≢ 0
    differ is = omega arith

no_bytes : (page : List ℕ) (right : Right) (address n : ℕ) → 4096 ≤ address → bytes_at (memory_of page) right address (suc n) ≡ None
unfolding bytes_at
no_bytes page right address zero past = ap (followed_by (Some [])) (no_byte page right (address + 0) (omega arith))
no_bytes page right address (suc n) past = ap (λ front. followed_by front (byte_at (memory_of page) right (address + suc n))) (no_bytes page right address n past)

pub load_past : (page : List ℕ) (address size : ℕ) → 4096 ≤ address → 0 < size → load (memory_of page) address size ≡ None
load_past page address zero past some = absurd (omega arith)
load_past page address (suc n) past some = ap (option_map little_endian) (no_bytes page Read address n past)

pub store_past : (page : List ℕ) (address size value : ℕ) → 4096 ≤ address → 0 < size → store (memory_of page) address size value ≡ None
store_past page address zero value past some = absurd (omega arith)
store_past page address (suc n) value past some =
    ap (λ (found : Option (List ℕ)). if is_some found then Some (with_bytes (memory_of page) address (low_bytes (suc n) value)) else None)
    (no_bytes page Write address (length (low_bytes n (value / 256))) past)

-- the same at an address and a size that are these
pub load-byte_at : (page : List ℕ) (address size : ℕ) → address ≡ 0 → size ≡ 1 → load (memory_of page) address size ≡ Some (slice_index page 0)
load-byte_at page address size a s = (λ i. load (memory_of page) (a i) (s i)) ∙ load-byte page ∙ ap (λ (n : ℕ). Some n) (omega arith)

pub load-half_at : (page : List ℕ) (address size : ℕ) → address ≡ 0 → size ≡ 2 → load (memory_of page) address size ≡ Some (slice_index page 0 + 256 * slice_index page 1)
load-half_at page address size a s = (λ i. load (memory_of page) (a i) (s i)) ∙ load-half page ∙ ap (λ (n : ℕ). Some n) (omega arith)

pub load-word_at : (page : List ℕ) (address size : ℕ) → address ≡ 0 → size ≡ 4
    → load (memory_of page) address size ≡ Some (slice_index page 0 + 256 * (slice_index page 1 + 256 * (slice_index page 2 + 256 * slice_index page 3)))
load-word_at page address size a s = (λ i. load (memory_of page) (a i) (s i)) ∙ load-word page ∙ ap (λ (n : ℕ). Some n) (omega arith)
