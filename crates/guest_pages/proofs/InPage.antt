-- Accesses that lie in one page.
--     byte_at-in_page, bytes_at-in_page, is_mapped-in_page, refusal-in_page       what a look-up of the page says of an access in it
--     number_of-1, number_of-2, number_of-4                                       the numbers that bytes of a page spell
--     bytes_from-take                                                             bytes of a page, as a part of its list
--     with_bytes-in_page                                                          a write to one page
use Rattle.std.proofs.Common.{◌≡◌, ℕ, zero, suc, ◌+◌, ◌*◌, ◌^◌, ◌/◌, ◌%◌, ◌≤◌, ◌<◌, Bool, true, false, cond, ◌&&◌, List, [], ◌∷◌, ◌++◌, length, take, drop, refl, sym, ap, ◌∙◌, arith, add-zero, length-drop, get_or-drop}
use Rattle.std.specs.Prelude.{Option, Some, None, Result, Ok, Err, is_some, option_map, slice_index, slice_set}
use Rattle.std.specs.Result.{result_ok, result_err}
use Rattle.std.specs.Cmp.{nat_cmp_total}
use Rattle.std.specs.FinMap as map
use Rattle.std.proofs.Math.Seq.{sets, take-suc}
use Rattle.std.proofs.lemmas.List.Edits.{sets-eq}
use Rattle.views.proofs.MapLaws.{get_insert_same, insert_insert, insert_same}
use Rattle.plain_process.specs.declared.memory.Right.{Right}
use Rattle.plain_process.specs.declared.memory.Frame.{Frame}
use Rattle.plain_process.specs.Memory.{Memory, allows, byte_in, byte_at, followed_by, bytes_at, with_byte_in, with_byte, with_bytes, little_endian, low_bytes}
use Rattle.guest_pages.specs.declared.mem_fault.MemFault.{MemFault}
use Rattle.guest_pages.specs.declared.mem_fault.MemFault.TheVariants.{Unmapped, Rights}
use Rattle.guest_pages.specs.Refusals.{granted, is_mapped, refusal}
use Rattle.guest_pages.specs.Bytes.{bytes_from, with_piece}

same_page : (a k : ℕ) → a % 4096 + k < 4096 → (a + k) / 4096 ≡ a / 4096
same_page a k inside = omega arith

same_offset : (a k : ℕ) → a % 4096 + k < 4096 → (a + k) % 4096 ≡ a % 4096 + k
same_offset a k inside = omega arith

-- the byte of a frame that was granted
abbrev pub byte_of : ℕ → Result Frame MemFault → Option ℕ
byte_of offset found = option_map (λ frame. slice_index frame.page offset) (result_ok found)

abbrev pub bytes_of : ℕ → ℕ → Result Frame MemFault → Option (List ℕ)
bytes_of offset n found = option_map (λ frame. bytes_from frame.page offset n) (result_ok found)

byte_in-granted : (right : Right) (offset : ℕ) (found : Option Frame) → byte_in right offset found ≡ byte_of offset (granted right found)
byte_in-granted right offset None = refl
byte_in-granted right offset (Some frame) =
    elim (allows right frame.rights) as (λ b. cond b (Some (slice_index frame.page offset)) None ≡ byte_of offset (cond b (Ok frame) (Err Rights))) [ true ↦ refl | false ↦ refl ]

pub byte_at-in_page : (m : Memory) (right : Right) (a k : ℕ) → a % 4096 + k < 4096
    → byte_at m right (a + k) ≡ byte_of (a % 4096 + k) (granted right (map.get m (a / 4096)))
unfolding byte_at
byte_at-in_page m right a k inside =
    (λ i. byte_in right (same_offset a k inside i) (map.get m (same_page a k inside i))) ∙ byte_in-granted right (a % 4096 + k) (map.get m (a / 4096))

pub byte_at-granted : (m : Memory) (right : Right) (a : ℕ) → byte_at m right a ≡ byte_of (a % 4096) (granted right (map.get m (a / 4096)))
unfolding byte_at
byte_at-granted m right a = byte_in-granted right (a % 4096) (map.get m (a / 4096))

first_byte : (page : List ℕ) (offset : ℕ) (found : Result Frame MemFault) → followed_by (Some []) (byte_of (offset + 0) found) ≡ bytes_of offset 1 found
unfolding bytes_from
first_byte page offset (Ok frame) = refl
first_byte page offset (Err fault) = refl

next_byte : (offset n : ℕ) (found : Result Frame MemFault) → followed_by (bytes_of offset n found) (byte_of (offset + n) found) ≡ bytes_of offset (suc n) found
unfolding bytes_from
next_byte offset n (Ok frame) = refl
next_byte offset n (Err fault) = refl

bytes_in : (m : Memory) (right : Right) (a n : ℕ) → a % 4096 + suc n ≤ 4096
    → bytes_at m right a (suc n) ≡ bytes_of (a % 4096) (suc n) (granted right (map.get m (a / 4096)))
unfolding bytes_at
bytes_in m right a zero inside =
    ap (followed_by (Some [])) (byte_at-in_page m right a 0 (omega arith)) ∙ first_byte [] (a % 4096) (granted right (map.get m (a / 4096)))
bytes_in m right a (suc n) inside =
    (λ i. followed_by (bytes_in m right a n (omega arith) i) (byte_at-in_page m right a (suc n) (omega arith) i))
    ∙ next_byte (a % 4096) (suc n) (granted right (map.get m (a / 4096)))

pub bytes_at-in_page : (m : Memory) (right : Right) (a n : ℕ) → 0 < n → a % 4096 + n ≤ 4096
    → bytes_at m right a n ≡ bytes_of (a % 4096) n (granted right (map.get m (a / 4096)))
bytes_at-in_page m right a zero some inside = absurd (omega arith)
bytes_at-in_page m right a (suc n) some inside = bytes_in m right a n inside

both_same : (b : Bool) → b && b ≡ b
both_same true = refl
both_same false = refl

mapped_in : (m : Memory) (a n : ℕ) → a % 4096 + suc n ≤ 4096 → is_mapped m a (suc n) ≡ is_some (map.get m (a / 4096))
unfolding is_mapped
mapped_in m a zero inside = ap (λ page. is_some (map.get m page)) (same_page a 0 (omega arith))
mapped_in m a (suc n) inside =
    (λ i. mapped_in m a n (omega arith) i && is_some (map.get m (same_page a (suc n) (omega arith) i))) ∙ both_same (is_some (map.get m (a / 4096)))

pub is_mapped-in_page : (m : Memory) (a n : ℕ) → 0 < n → a % 4096 + n ≤ 4096 → is_mapped m a n ≡ is_some (map.get m (a / 4096))
is_mapped-in_page m a zero some inside = absurd (omega arith)
is_mapped-in_page m a (suc n) some inside = mapped_in m a n inside

refused : (right : Right) (offset n : ℕ) (found : Option Frame)
    → cond (is_some found) (cond (is_some (bytes_of offset n (granted right found))) None (Some Rights)) (Some Unmapped) ≡ result_err (granted right found)
refused right offset n None = refl
refused right offset n (Some frame) =
    elim (allows right frame.rights) as (λ b. cond (is_some (bytes_of offset n (cond b (Ok frame) (Err Rights)))) None (Some Rights) ≡ result_err (cond b (Ok frame) (Err Rights))) [ true ↦ refl | false ↦ refl ]

pub refusal-in_page : (m : Memory) (right : Right) (a n : ℕ) → 0 < n → a % 4096 + n ≤ 4096 → refusal m right a n ≡ result_err (granted right (map.get m (a / 4096)))
unfolding refusal
refusal-in_page m right a n some inside =
    (λ i. cond (is_mapped-in_page m a n some inside i) (cond (is_some (bytes_at-in_page m right a n some inside i)) None (Some Rights)) (Some Unmapped))
    ∙ refused right (a % 4096) n (map.get m (a / 4096))

taken : (xs : List ℕ) (k n : ℕ) → k + n < length xs → take (suc n) (drop k xs) ≡ take n (drop k xs) ++ slice_index xs (k + n) ∷ []
taken xs k n inside = take-suc (drop k xs) n 0 (omega (arith, length-drop k xs)) ∙ ap (λ byte. take n (drop k xs) ++ byte ∷ []) (get_or-drop k xs n 0)

pub bytes_from-take : (page : List ℕ) (offset n : ℕ) → offset + n ≤ length page → bytes_from page offset n ≡ take n (drop offset page)
unfolding bytes_from
bytes_from-take page offset zero inside = refl
bytes_from-take page offset (suc n) inside =
    ap (λ front. front ++ slice_index page (offset + n) ∷ []) (bytes_from-take page offset n (omega arith))
    ∙ sym (taken page offset n (omega arith))

-- the numbers that the bytes of a page spell
pub number_of-1 : (page : List ℕ) (offset : ℕ) → little_endian (bytes_from page offset 1) ≡ slice_index page offset
unfolding bytes_from
number_of-1 page offset = add-zero (slice_index page (offset + 0)) ∙ ap (slice_index page) (add-zero offset)

pub number_of-2 : (page : List ℕ) (offset : ℕ) → little_endian (bytes_from page offset 2) ≡ slice_index page offset + slice_index page (offset + 1) * 2 ^ 8
unfolding bytes_from
number_of-2 page offset = rw add-zero (omega arith)

pub number_of-4 : (page : List ℕ) (offset : ℕ) → little_endian (bytes_from page offset 4)
    ≡ slice_index page offset + slice_index page (offset + 1) * 2 ^ 8 + slice_index page (offset + 2) * 2 ^ 16 + slice_index page (offset + 3) * 2 ^ 24
unfolding bytes_from
number_of-4 page offset = rw add-zero (omega arith)

pub length-low_bytes : (n value : ℕ) → length (low_bytes n value) ≡ n
length-low_bytes zero value = refl
length-low_bytes (suc n) value = ap suc (length-low_bytes n (value / 256))

-- a write to a page that is there
written : (m : Memory) (a : ℕ) (frame : Frame) (piece : List ℕ) → map.get m (a / 4096) ≡ Some frame → a % 4096 + length piece ≤ 4096
    → with_bytes m a piece ≡ map.insert m (a / 4096) (record { rights = frame.rights; page = sets frame.page (a % 4096) piece })
unfolding with_bytes with_byte
written m a frame [] there inside = sym (insert_same nat_cmp_total map.nat_cmp-IsAntisymmetric m (a / 4096) frame there)
written m a frame (b ∷ []) there inside = ap (with_byte_in m (a / 4096) (a % 4096) b) there
written m a frame (b ∷ c ∷ piece) there inside =
    let changed : Frame = record { rights = frame.rights; page = slice_set frame.page (a % 4096) b } in
    let page : (a + 1) / 4096 ≡ a / 4096 = omega arith in
    let offset : (a + 1) % 4096 ≡ suc (a % 4096) = omega arith in
    let now : map.get (map.insert m (a / 4096) changed) ((a + 1) / 4096) ≡ Some changed =
    ap (map.get (map.insert m (a / 4096) changed)) page ∙ get_insert_same nat_cmp_total map.nat_cmp-IsAntisymmetric m (a / 4096) changed in
    ap (λ (n : Memory). with_bytes n (a + 1) (c ∷ piece)) (ap (with_byte_in m (a / 4096) (a % 4096) b) there)
    ∙ written (map.insert m (a / 4096) changed) (a + 1) changed (c ∷ piece) now (omega arith)
    ∙ (λ i. map.insert (map.insert m (a / 4096) changed) (page i) (record { rights = frame.rights; page = sets changed.page (offset i) (c ∷ piece) }))
    ∙ insert_insert nat_cmp_total map.nat_cmp-IsAntisymmetric m (a / 4096) changed _

pub with_bytes-in_page : (m : Memory) (a : ℕ) (frame : Frame) (piece : List ℕ) → map.get m (a / 4096) ≡ Some frame → a % 4096 + length piece ≤ 4096 → length frame.page ≡ 4096
    → with_bytes m a piece ≡ map.insert m (a / 4096) (with_piece frame (a % 4096) piece)
with_bytes-in_page m a frame piece there inside size =
    written m a frame piece there inside
    ∙ ap (λ page. map.insert m (a / 4096) (record { rights = frame.rights; page = page })) (sets-eq piece frame.page (a % 4096) (omega arith))

-- a write to a page that is missing
pub with_bytes-missing : (m : Memory) (a : ℕ) (piece : List ℕ) → map.get m (a / 4096) ≡ None → a % 4096 + length piece ≤ 4096 → with_bytes m a piece ≡ m
unfolding with_bytes with_byte
with_bytes-missing m a [] missing inside = refl
with_bytes-missing m a (b ∷ []) missing inside = ap (with_byte_in m (a / 4096) (a % 4096) b) missing
with_bytes-missing m a (b ∷ c ∷ piece) missing inside =
    let page : (a + 1) / 4096 ≡ a / 4096 = omega arith in
    ap (λ (n : Memory). with_bytes n (a + 1) (c ∷ piece)) (ap (with_byte_in m (a / 4096) (a % 4096) b) missing)
    ∙ with_bytes-missing m (a + 1) (c ∷ piece) (ap (map.get m) page ∙ missing) (omega arith)
