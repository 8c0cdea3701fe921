-- A comparison of bytes, one after the other.
use Rattle.std.proofs.Common.{◌≡◌, ℕ, ◌+◌, ◌<◌, List, [], ◌∷◌, length, drop, get_or, Some, None, refl, ◌∙◌, sym, add-one, add-suc, drop-cons}
use Rattle.std.proofs.Math.ListN.{drop_of_length-le}
use Rattle.std.specs.Prelude.{◌==◌, ◌≤◌}
use Rattle.elf32.specs.declared.fault.ElfFault.{ElfFault}
use Rattle.elf32.specs.declared.fault.ElfReason.{ElfReason}
use Rattle.elf32.specs.Faults.{needs, first_some}
use Rattle.elf32.specs.Rules.{bytes_are}
use Rattle.elf32.proofs.FirstSome.{first_some-none, first_some-some, first_some-one}

-- the rule at the byte of index i, and then the rest
pub bytes_are-at : (file : List ℕ) (place : ℕ) (bytes : List ℕ) (reason : ElfReason) (i : ℕ) → i < length bytes →
    bytes_are file (place + i) (drop i bytes) reason
    ≡ first_some (needs (get_or file (place + i) 0 == get_or bytes i 0) reason (place + i) ∷ bytes_are file (place + (i + 1)) (drop (i + 1) bytes) reason ∷ [])
unfolding bytes_are
bytes_are-at file place bytes reason i h = rw (drop-cons bytes i 0, add-one i, add-suc place i, add-one (place + i)) refl

pub bytes_are-more : (file : List ℕ) (place : ℕ) (bytes : List ℕ) (reason : ElfReason) (i : ℕ) → i < length bytes →
    needs (get_or file (place + i) 0 == get_or bytes i 0) reason (place + i) ≡ None →
    bytes_are file (place + (i + 1)) (drop (i + 1) bytes) reason ≡ bytes_are file (place + i) (drop i bytes) reason
bytes_are-more file place bytes reason i h holds =
    sym (bytes_are-at file place bytes reason i h ∙ first_some-none _ _ holds ∙ first_some-one _)

pub bytes_are-found : (file : List ℕ) (place : ℕ) (bytes : List ℕ) (reason : ElfReason) (i : ℕ) (fault : ElfFault) → i < length bytes →
    needs (get_or file (place + i) 0 == get_or bytes i 0) reason (place + i) ≡ Some fault →
    bytes_are file (place + i) (drop i bytes) reason ≡ Some fault
bytes_are-found file place bytes reason i fault h found =
    bytes_are-at file place bytes reason i h ∙ first_some-some _ _ fault found

pub bytes_are-end : (file : List ℕ) (place : ℕ) (bytes : List ℕ) (reason : ElfReason) (i : ℕ) → length bytes ≤ i →
    bytes_are file place (drop i bytes) reason ≡ None
unfolding bytes_are
bytes_are-end file place bytes reason i h = rw (drop_of_length-le bytes h) refl
