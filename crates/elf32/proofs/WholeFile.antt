-- The rules of a whole file, part by part.
use Rattle.std.proofs.Common.{◌≡◌, ◌⊎◌, ℕ, Bool, List, [], ◌∷◌, ◌++◌, Some, None, refl, ◌∙◌, sym, subst, inl, inr}
use Rattle.elf32.specs.declared.fault.ElfFault.{ElfFault}
use Rattle.elf32.specs.declared.fault.ElfReason.TheVariants.{Segment as SegmentReason}
use Rattle.elf32.specs.declared.file_header.FileHeader.{FileHeader}
use Rattle.elf32.specs.declared.program.Segment.{Segment}
use Rattle.elf32.specs.Faults.{first_some, needs, no_memory}
use Rattle.elf32.specs.ProgramHeaders.{segments_before}
use Rattle.elf32.specs.FileHeader.{e_phnum, header_of}
use Rattle.elf32.specs.Rules.{file_header_rules, program_header_rules, entry_rule, is_entry, first_fault}
use Rattle.elf32.proofs.FirstSome.{first_some-none_append, first_some-some_append, first_some-one}

pub first_fault-header : (file : List ℕ) (fault : ElfFault) → first_some (file_header_rules file) ≡ Some fault → first_fault file ≡ Some fault
unfolding first_fault
first_fault-header file fault h =
    first_some-some_append (file_header_rules file ++ program_header_rules file (e_phnum file)) (entry_rule file ∷ []) fault
    (first_some-some_append (file_header_rules file) (program_header_rules file (e_phnum file)) fault h)

pub first_fault-table : (file : List ℕ) (fault : ElfFault) → first_some (file_header_rules file) ≡ None →
    first_some (program_header_rules file (e_phnum file)) ≡ Some fault → first_fault file ≡ Some fault
unfolding first_fault
first_fault-table file fault before h =
    first_some-some_append (file_header_rules file ++ program_header_rules file (e_phnum file)) (entry_rule file ∷ []) fault
    (first_some-none_append (file_header_rules file) (program_header_rules file (e_phnum file)) before ∙ h)

pub first_fault-entry : (file : List ℕ) → first_some (file_header_rules file) ≡ None →
    first_some (program_header_rules file (e_phnum file)) ≡ None → first_fault file ≡ entry_rule file
unfolding first_fault
first_fault-entry file before table =
    first_some-none_append (file_header_rules file ++ program_header_rules file (e_phnum file)) (entry_rule file ∷ [])
    (first_some-none_append (file_header_rules file) (program_header_rules file (e_phnum file)) before ∙ table)
    ∙ first_some-one (entry_rule file)

-- what is known where the entry is tested
pub first_fault-starts : (file : List ℕ) (header : FileHeader) (segments : List Segment) (starts : Bool) → header ≡ header_of file →
    segments ≡ segments_before file header.phnum → starts ≡ is_entry header.entry segments →
    None ≡ first_some (file_header_rules file) → first_some (program_header_rules file header.phnum) ≡ None →
    first_fault file ≡ needs starts SegmentReason 24
first_fault-starts file header segments starts fields so_far is before table =
    let entry : first_some (program_header_rules file (e_phnum file)) ≡ None =
    subst (λ (h : FileHeader). first_some (program_header_rules file h.phnum) ≡ None) fields table in
    first_fault-entry file (sym before) entry ∙ sym (rw (is, so_far, fields) refl)

pub first_fault-segments : (file : List ℕ) (header : FileHeader) (fault : ElfFault) → header ≡ header_of file →
    None ≡ first_some (file_header_rules file) → (fault ≡ no_memory) ⊎ (first_some (program_header_rules file header.phnum) ≡ Some fault) →
    (fault ≡ no_memory) ⊎ (first_fault file ≡ Some fault)
first_fault-segments file header fault fields before (inl none) = inl none
first_fault-segments file header fault fields before (inr table) =
    inr (first_fault-table file fault (sym before) (subst (λ (h : FileHeader). first_some (program_header_rules file h.phnum) ≡ Some fault) fields table))
