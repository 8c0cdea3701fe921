-- What is true of the program of a file that keeps the rules.
use Rattle.std.proofs.Common.{◌≡◌, ℕ, ◌+◌, ◌-◌, ◌^◌, ◌<◌, ◌≤◌, zero, suc, Bool, true, false, List, [], ◌∷◌, ◌++◌, length, get_or, drop, None, refl, sym, subst, arith, append-nil}
use Rattle.std.proofs.lemmas.Bool.Decides.{nat_tests}
use Rattle.std.proofs.lemmas.List.{length-take}
use Rattle.std.proofs.lemmas.List.Elements.{All-push}
use Rattle.std.proofs.lemmas.List.Quantifiers.{all_pairs_push}
use Rattle.std.specs.Int.Bits.{mask_lt}
use Rattle.std.specs.List.{All, AllPairs, list_any}
use Rattle.std.specs.Prelude.{if◌then◌else◌}
use Rattle.elf32.specs.declared.fault.ElfReason.{ElfReason}
use Rattle.elf32.specs.declared.program.Segment.{Segment}
use Rattle.elf32.specs.declared.program_header.ProgramHeader.{ProgramHeader}
use Rattle.elf32.specs.Faults.{first_some, needs}
use Rattle.elf32.specs.FileHeader.{e_phnum}
use Rattle.elf32.specs.Pages.{range_of, page_count}
use Rattle.elf32.specs.ProgramHeaders.{program_header, place_of, describes_memory, memory_of, segment_of, segments_of, segments_before}
use Rattle.elf32.specs.Programs.{IsWellPlaced, IsApart}
use Rattle.elf32.specs.Ranges.{meets}
use Rattle.elf32.specs.Rules.{is_well_placed, memory_rules, rules_at, file_header_rules, program_header_rules, first_fault}
use Rattle.elf32.proofs.FirstSome.{first_some-head, first_some-tail, first_some-front, first_some-back}
use Rattle.elf32.proofs.PageCounts.{pages_below-empty}

needs-holds : (holds : Bool) (reason : ElfReason) (place : ℕ) → needs holds reason place ≡ None → holds ≡ true
unfolding needs
needs-holds true reason place h = refl
needs-holds false reason place h = cc

none_of : {X : Type 0} (p : X → Bool) (xs : List X) → list_any p xs ≡ false → (k : ℕ) (d : X) → k < length xs → p (get_or xs k d) ≡ false
none_of p [] h k d below = absurd (omega arith)
none_of p (x ∷ xs) h zero d below = grind arith
none_of p (x ∷ xs) h (suc k) d below = none_of p xs (grind arith) k d (omega arith)

-- the segments keep the rules
pub record AreAccepted (segments : List Segment) : Type 0 where
  pub placed : All IsWellPlaced segments
  pub apart : AllPairs IsApart segments
  pub pages : page_count segments ≤ 1536

none-accepted : AreAccepted []
none-accepted = record {
  placed = λ k d below. absurd (omega arith);
  apart = λ i j d order below. absurd (omega arith);
  pages = rw (pages_below-empty (2 ^ 20)) (omega arith);
}

placed : (file : List ℕ) (h : ProgramHeader) → describes_memory h ≡ true → is_well_placed file h ≡ true → IsWellPlaced (segment_of file h)
placed file h memory good =
    let loaded : 0 < h.memsz = grind (arith, nat_tests) in
    let low : 0x1000 ≤ h.vaddr = grind (arith, nat_tests) in
    let high : h.vaddr + h.memsz ≤ 0x4000_0000 = grind (arith, nat_tests) in
    let fits : h.filesz ≤ h.memsz = grind (arith, nat_tests) in
    record {
      first = low;
      last = high;
      some = loaded;
      bytes = omega (arith, length-take (h.offset + h.filesz - h.offset) (drop h.offset file));
      rights = mask_lt h.flags 3;
    }

push-accepted : (file : List ℕ) (before : List Segment) (place : ℕ) (h : ProgramHeader) → AreAccepted before → describes_memory h ≡ true →
    first_some (memory_rules file before place h) ≡ None → AreAccepted (before ++ segment_of file h ∷ [])
unfolding memory_rules
push-accepted file before place h good memory rules =
    let well = needs-holds _ _ _ (first_some-head _ _ rules) in
    let rest = first_some-tail _ _ rules in
    let alone = needs-holds _ _ _ (first_some-head _ _ rest) in
    let few = needs-holds _ _ _ (first_some-head _ _ (first_some-tail _ _ rest)) in
    let apart : list_any (λ s. meets (range_of s) (memory_of h)) before ≡ false = grind arith in
    record {
      placed = All-push IsWellPlaced before (segment_of file h) good.placed (placed file h memory well);
      apart = all_pairs_push IsApart before (segment_of file h) good.apart (none_of _ before apart);
      pages = grind (arith, nat_tests);
    }

step-accepted : (file : List ℕ) (before : List Segment) (place : ℕ) (h : ProgramHeader) → AreAccepted before →
    first_some (rules_at file before place h) ≡ None → AreAccepted (before ++ segments_of file h)
unfolding rules_at
step-accepted file before place h good rules =
    elim (describes_memory h) as
    (λ b. describes_memory h ≡ b → first_some (if b then memory_rules file before place h else []) ≡ None → AreAccepted (before ++ (if b then segment_of file h ∷ [] else []))) [
      | true ↦ λ is rest. push-accepted file before place h good is rest
      | false ↦ λ _ _. subst AreAccepted (sym (append-nil before)) good
    ]
    refl (first_some-tail _ _ rules)

headers-accepted : (file : List ℕ) (n : ℕ) → first_some (program_header_rules file n) ≡ None → AreAccepted (segments_before file n)
unfolding program_header_rules segments_before
headers-accepted file zero rules = none-accepted
headers-accepted file (suc n) rules =
    step-accepted file (segments_before file n) (place_of file n) (program_header file n)
    (headers-accepted file n (first_some-front (program_header_rules file n) _ rules))
    (first_some-back (program_header_rules file n) _ rules)

-- the segments of a file that keeps the rules
pub segments-accepted : (file : List ℕ) (segments : List Segment) → segments ≡ segments_before file (e_phnum file) → first_fault file ≡ None → AreAccepted segments
unfolding first_fault
segments-accepted file segments is rules =
    rw is (headers-accepted file (e_phnum file)
    (first_some-back (file_header_rules file) _ (first_some-front (file_header_rules file ++ program_header_rules file (e_phnum file)) _ rules)))
