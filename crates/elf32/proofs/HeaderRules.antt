-- The rules of the program headers, one header after the other.
use Rattle.std.proofs.Common.{◌≡◌, ◌⊎◌, ℕ, ◌+◌, ◌-◌, ◌*◌, ◌<◌, zero, suc, List, ◌++◌, Option, Some, None, refl, ◌∙◌, subst, inl, inr, arith, add-one}
use Rattle.elf32.specs.declared.fault.ElfFault.{ElfFault}
use Rattle.elf32.specs.declared.program.Segment.{Segment}
use Rattle.elf32.specs.Faults.{first_some, no_memory}
use Rattle.elf32.specs.FileHeader.{e_phoff}
use Rattle.elf32.specs.ProgramHeaders.{place_of, header_at, program_header, segments_of, segments_before}
use Rattle.elf32.specs.Rules.{rules_at, program_header_rules}
use Rattle.elf32.proofs.FirstSome.{first_some-none_append, first_some-some_append}

-- the rules of the header of this index
abbrev pub rules_of : List ℕ → ℕ → List (Option ElfFault)
rules_of file i = rules_at file (segments_before file i) (place_of file i) (program_header file i)

more : (file : List ℕ) (i : ℕ) → first_some (program_header_rules file i) ≡ None → first_some (rules_of file i) ≡ None → first_some (program_header_rules file (suc i)) ≡ None
unfolding program_header_rules
more file i before here = first_some-none_append (program_header_rules file i) (rules_of file i) before ∙ here

found : (file : List ℕ) (i : ℕ) (fault : ElfFault) → first_some (program_header_rules file i) ≡ None → first_some (rules_of file i) ≡ Some fault → first_some (program_header_rules file (suc i)) ≡ Some fault
unfolding program_header_rules
found file i fault before here = first_some-none_append (program_header_rules file i) (rules_of file i) before ∙ here

later : (file : List ℕ) (i j : ℕ) (fault : ElfFault) → first_some (program_header_rules file i) ≡ Some fault → first_some (program_header_rules file (i + j)) ≡ Some fault
unfolding program_header_rules
later file i zero fault here = let same : i ≡ i + zero = omega arith in subst (λ (n : ℕ). first_some (program_header_rules file n) ≡ Some fault) same here
later file i (suc j) fault here =
    let same : suc (i + j) ≡ i + suc j = omega arith in
    subst (λ (n : ℕ). first_some (program_header_rules file n) ≡ Some fault) same
    (first_some-some_append (program_header_rules file (i + j)) (rules_of file (i + j)) fault (later file i j fault here))

-- a loop's step over the headers
pub rules-step : (file : List ℕ) (segments : List Segment) (phoff i : ℕ) → phoff ≡ e_phoff file → segments ≡ segments_before file i →
    first_some (program_header_rules file i) ≡ None → first_some (rules_at file segments (phoff + 32 * i) (header_at file (phoff + 32 * i))) ≡ None →
    first_some (program_header_rules file (i + 1)) ≡ None
rules-step file segments phoff i at_phoff so_far before here =
    let at : first_some (rules_of file i) ≡ None = rw (← at_phoff, ← so_far) here in
    rw (add-one i) (more file i before at)

pub segments-step : (file : List ℕ) (segments : List Segment) (phoff i : ℕ) → phoff ≡ e_phoff file → segments ≡ segments_before file i →
    segments ++ segments_of file (header_at file (phoff + 32 * i)) ≡ segments_before file (i + 1)
unfolding segments_before
segments-step file segments phoff i at_phoff so_far = rw (add-one i, at_phoff, so_far) refl

-- its exit at a broken rule
pub rules-exit : (file : List ℕ) (segments : List Segment) (phoff i n : ℕ) (fault : ElfFault) → phoff ≡ e_phoff file → segments ≡ segments_before file i → i < n →
    first_some (program_header_rules file i) ≡ None →
    (fault ≡ no_memory) ⊎ (first_some (rules_at file segments (phoff + 32 * i) (header_at file (phoff + 32 * i))) ≡ Some fault) →
    (fault ≡ no_memory) ⊎ (first_some (program_header_rules file n) ≡ Some fault)
rules-exit file segments phoff i n fault at_phoff so_far below before (inl none) = inl none
rules-exit file segments phoff i n fault at_phoff so_far below before (inr here) =
    let at : first_some (rules_of file i) ≡ Some fault = rw (← at_phoff, ← so_far) here in
    let same : suc i + (n - suc i) ≡ n = omega arith in
    inr (subst (λ (m : ℕ). first_some (program_header_rules file m) ≡ Some fault) same (later file (suc i) (n - suc i) fault (found file i fault before at)))
