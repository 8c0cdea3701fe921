-- What the walk over the pages of a range knows.
--     checked_more                         one page more
--     refusal-missing, refusal-past        a page is missing; the range ends past the addresses of 32 bits
--     refusal-mapped                       each page is there
--     refusal-none, refusal-some           the bytes may be had, or not
--     is_ok-checked                        a test that passes just where the bytes may be had
--     store_told                           a store that is made just where it may be
--     readable-byte, readable-part         a byte and a part of a range that may be had
use Rattle.std.proofs.Common.{◌≡◌, ℕ, zero, suc, ◌+◌, ◌-◌, ◌/◌, ◌%◌, ◌^◌, ◌≤◌, ◌<◌, Bool, true, false, cond, ◌&&◌, List, length, refl, sym, ap, subst, ◌∙◌, arith, ⊎_elim}
use Rattle.std.proofs.lemmas.Bool.{cases_eq}
use Rattle.std.specs.Prelude.{Option, Some, None, Result, Ok, Err, IsSome, OnOk, is_some}
use Rattle.std.specs.Result.{is_ok, result_err}
use Rattle.std.specs.FinMap as map
use Rattle.plain_process.specs.declared.memory.Right.{Right}
use Rattle.plain_process.specs.declared.memory.Right.TheVariants.{Write}
use Rattle.plain_process.specs.declared.memory.Frame.{Frame}
use Rattle.plain_process.specs.Memory.{Memory, allows, byte_at, followed_by, bytes_at, with_bytes, store_bytes}
use Rattle.guest_pages.specs.declared.mem_fault.MemFault.{MemFault}
use Rattle.guest_pages.specs.declared.mem_fault.MemFault.TheVariants.{Unmapped, Rights}
use Rattle.guest_pages.specs.Refusals.{granted, is_mapped, refusal, stored}
use Rattle.guest_pages.specs.Pages.{IsSpace}
use Rattle.guest_pages.proofs.InPage.{bytes_of, is_mapped-in_page, bytes_at-in_page}
use Rattle.guest_pages.proofs.Ranges.{joined, bytes_at-split, is_mapped-split, is_mapped-readable, false_true}
use Rattle.plain_process.proofs.PageByPage.{and_false}

both_some : (front back : Option (List ℕ)) → is_some (joined front back) ≡ is_some front && is_some back
both_some None back = refl
both_some (Some front) None = refl
both_some (Some front) (Some back) = refl

frame_had : (right : Right) (offset n : ℕ) (frame : Frame) → is_some (bytes_of offset n (granted right (Some frame))) ≡ allows right frame.rights
frame_had right offset n frame =
    elim (allows right frame.rights) as (λ b. is_some (bytes_of offset n (cond b (Ok frame) (Err Rights))) ≡ b) [ true ↦ refl | false ↦ refl ]

pub checked_more : (m : Memory) (right : Right) (a i j : ℕ) (frame : Frame) (has : Bool)
    → is_mapped m a i ≡ true → has ≡ is_some (bytes_at m right a i) → Some frame ≡ map.get m ((a + i) / 4096) → 0 < j → (a + i) % 4096 + j ≤ 4096
    → (is_mapped m a (i + j) ≡ true) × (has && allows right frame.rights ≡ is_some (bytes_at m right a (i + j)))
checked_more m right a i j frame has mapped had there some inside = (
  is_mapped-split m a i j ∙ (λ k. mapped k && (is_mapped-in_page m (a + i) j some inside ∙ ap is_some (sym there)) k),
  sym (
      ap is_some (bytes_at-split m right a i j) ∙ both_some (bytes_at m right a i) (bytes_at m right (a + i) j)
      ∙ (λ k. sym had k
      && (ap is_some (bytes_at-in_page m right (a + i) j some inside)
      ∙ ap (λ found. is_some (bytes_of ((a + i) % 4096) j (granted right found))) (sym there)
      ∙ frame_had right ((a + i) % 4096) j frame) k)
      ),
)

hole : (m : Memory) (a n i : ℕ) → i < n → map.get m ((a + i) / 4096) ≡ None → is_mapped m a n ≡ false
unfolding is_mapped
hole m a zero i within missing = absurd (omega arith)
hole m a (suc n) i within missing =
    ⊎_elim
    (λ (last : i ≡ n). ap (λ found. is_mapped m a n && is_some found) (subst (λ k. map.get m ((a + k) / 4096) ≡ None) last missing) ∙ and_false (is_mapped m a n))
    (λ (before : i ≡ n → ⊥). ap (λ b. b && is_some (map.get m ((a + n) / 4096))) (hole m a n i (omega arith) missing))
    (cases_eq i n)

pub refusal-missing : (m : Memory) (right : Right) (a n i : ℕ) → i < n → map.get m ((a + i) / 4096) ≡ None → refusal m right a n ≡ Some Unmapped
unfolding refusal
refusal-missing m right a n i within missing = ap (λ b. cond b (cond (is_some (bytes_at m right a n)) None (Some Rights)) (Some Unmapped)) (hole m a n i within missing)

pub refusal-past : (m : Memory) (right : Right) (a n : ℕ) → IsSpace m → a < 2 ^ 32 → 2 ^ 32 - a < n → refusal m right a n ≡ Some Unmapped
refusal-past m right a n space small past = refusal-missing m right a n (2 ^ 32 - a) past (space.bounded ((a + (2 ^ 32 - a)) / 4096) (omega arith))

pub refusal-mapped : (m : Memory) (right : Right) (a n i : ℕ) (has : Bool) → i ≡ n → is_mapped m a i ≡ true → has ≡ is_some (bytes_at m right a i)
    → refusal m right a n ≡ cond has None (Some Rights)
unfolding refusal
refusal-mapped m right a n i has same mapped had =
    ap (refusal m right a) (sym same) ∙ (λ k. cond (mapped k) (cond (sym had k) None (Some Rights)) (Some Unmapped))

pub refusal-none : (m : Memory) (right : Right) (a n : ℕ) → None ≡ refusal m right a n → IsSome (bytes_at m right a n)
unfolding refusal
refusal-none m right a n =
    elim (is_mapped m a n) as (λ b. None ≡ cond b (cond (is_some (bytes_at m right a n)) None (Some Rights)) (Some Unmapped) → is_some (bytes_at m right a n) ≡ true) [
      | true ↦ elim (is_some (bytes_at m right a n)) as (λ b. None ≡ cond b None (Some Rights) → b ≡ true) [ true ↦ λ e. refl | false ↦ λ e. cc ]
      | false ↦ λ e. cc
    ]

both_ways : (m : Memory) (right : Right) (a n : ℕ) (fault : MemFault) → Some fault ≡ refusal m right a n → IsSome (bytes_at m right a n) → ⊥
unfolding refusal
both_ways m right a n fault is had =
    let granted : refusal m right a n ≡ None = λ k. cond (is_mapped-readable m right a n had k) (cond (had k) None (Some Rights)) (Some Unmapped) in
    let same : Some fault ≡ None = is ∙ granted in cc

pub refusal-some : (m : Memory) (right : Right) (a n : ℕ) (fault : MemFault) → Some fault ≡ refusal m right a n → bytes_at m right a n ≡ None
refusal-some m right a n fault is =
    elim (bytes_at m right a n) as (λ found. bytes_at m right a n ≡ found → found ≡ None) [
      | None ↦ λ e. refl
      | Some bytes ↦ λ e. absurd (both_ways m right a n fault is (ap is_some e))
    ] refl

had_front : (front : Option (List ℕ)) (byte : Option ℕ) → IsSome (followed_by front byte) → IsSome front × IsSome byte
had_front None byte had = false_true had
had_front (Some front) None had = false_true had
had_front (Some front) (Some byte) had = (refl, refl)

pub readable-byte : (m : Memory) (right : Right) (a n k : ℕ) → k < n → IsSome (bytes_at m right a n) → IsSome (byte_at m right (a + k))
unfolding bytes_at
readable-byte m right a zero k within had = absurd (omega arith)
readable-byte m right a (suc n) k within had =
    let parts = had_front (bytes_at m right a n) (byte_at m right (a + n)) had in
    ⊎_elim (λ (last : k ≡ n). subst (λ j. IsSome (byte_at m right (a + j))) (sym last) parts.1)
    (λ (before : k ≡ n → ⊥). readable-byte m right a n k (omega arith) parts.0) (cases_eq k n)

both_had : (front back : Option (List ℕ)) → IsSome (joined front back) → IsSome front × IsSome back
both_had None back had = false_true had
both_had (Some front) None had = false_true had
both_had (Some front) (Some back) had = (refl, refl)

pub readable-part : (m : Memory) (right : Right) (a n i j : ℕ) → i + j ≤ n → IsSome (bytes_at m right a n) → IsSome (bytes_at m right (a + i) j)
readable-part m right a n i j within had =
    let rest : n ≡ i + j + (n - (i + j)) = omega arith in
    let front = both_had (bytes_at m right a (i + j)) (bytes_at m right (a + (i + j)) (n - (i + j))) (subst IsSome (ap (bytes_at m right a) rest ∙ bytes_at-split m right a (i + j) (n - (i + j))) had) in
    (both_had (bytes_at m right a i) (bytes_at m right (a + i) j) (subst IsSome (bytes_at-split m right a i j) front.0)).1

pub is_ok-checked : {A : Type 0} (r : Result A MemFault) (m : Memory) (right : Right) (a n : ℕ) → result_err r ≡ refusal m right a n → is_ok r ≡ is_some (bytes_at m right a n)
is_ok-checked (Ok done) m right a n is = sym (refusal-none m right a n is)
is_ok-checked (Err fault) m right a n is = ap is_some (sym (refusal-some m right a n fault is))

pub store_told : {A : Type 0} (r : Result A MemFault) (m after : Memory) (a : ℕ) (bytes : List ℕ)
    → OnOk r (after ≡ with_bytes m a bytes) → result_err r ≡ refusal m Write a (length bytes) → store_bytes m a bytes ≡ stored r after
store_told (Ok done) m after a bytes made is =
    ap (λ b. cond b (Some (with_bytes m a bytes)) None) (refusal-none m Write a (length bytes) is) ∙ ap (λ (n : Memory). Some n) (sym made)
store_told (Err fault) m after a bytes made is =
    ap (λ found. cond (is_some found) (Some (with_bytes m a bytes)) None) (refusal-some m Write a (length bytes) fault is)
