-- A file with these headers keeps the rules of an ELF file.
use Rattle.std.proofs.Common.{◌≡◌, ℕ, ◌+◌, ◌*◌, ◌/◌, ◌%◌, ◌^◌, ◌<◌, ◌≤◌, zero, suc, Bool, true, false, cond, ◌&&◌, ◌||◌, ◌==◌, List, [], ◌∷◌, ◌++◌, length, bit_and, Option, None, nat_le, nat_lt, refl, sym, ap, subst, ◌∙◌, arith, eq-eqb}
use Rattle.std.specs.Prelude.{if◌then◌else◌, codes}
use Rattle.std.proofs.lemmas.Bool.{and_from, false≢true}
use Rattle.std.proofs.lemmas.Bool.Decides.{nat_tests}
use Rattle.std.proofs.lemmas.Nat.{from_le_bytes-to_le_bytes_4}
use Rattle.elf32.specs.declared.fault.ElfFault.{ElfFault}
use Rattle.elf32.specs.declared.fault.ElfReason.{ElfReason}
use Rattle.elf32.specs.declared.fault.ElfReason.TheVariants.{Magic, Class, Machine, FileType, Flags, Segment as NoSegment}
use Rattle.elf32.specs.declared.program.Segment.{Segment}
use Rattle.elf32.specs.declared.program_header.ProgramHeader.{ProgramHeader}
use Rattle.elf32.specs.declared.program_header.SegmentType.TheVariants.{Load}
use Rattle.elf32.specs.Faults.{needs, first_some}
use Rattle.elf32.specs.Fields.{half_at, word_at}
use Rattle.elf32.specs.FileHeader.{e_type, e_machine, e_entry, e_phoff, e_flags, e_phentsize, e_phnum}
use Rattle.elf32.specs.Pages.{touches, is_touched, pages_below, page_count, page_rights}
use Rattle.elf32.specs.ProgramHeaders.{type_of, place_of, program_header, header_at, describes_memory, segment_of, segments_of, segments_before}
use Rattle.elf32.specs.Rules.{bytes_are, file_header_rules, program_header_rules, rules_at, memory_rules, is_well_placed, entry_rule, is_entry, first_fault}
use Rattle.elf32.proofs.FirstSome.{first_some-none, first_some-one, first_some-none_append}
use Rattle.elf32.proofs.PageCounts.{pages_below-suc}
use Rattle.rv_asm.specs.Files.{headers}

needs-true : (b : Bool) (reason : ElfReason) (place : ℕ) → b ≡ true → needs b reason place ≡ None
unfolding needs
needs-true true reason place h = refl
needs-true false reason place h = absurd (false≢true h)

at_most : (a b : ℕ) → a ≤ b → nat_le a b ≡ true
at_most a b h = grind (arith, nat_tests)

below : (a b : ℕ) → a < b → nat_lt a b ≡ true
below a b h = grind (arith, nat_tests)

-- ---- the fields of the file's headers

entry_field : (entry size : ℕ) (body : List ℕ) → entry < 2 ^ 32 → e_entry (headers entry size ++ body) ≡ entry
unfolding headers word_at
entry_field entry size body h = from_le_bytes-to_le_bytes_4 entry h

filesz_field : (entry size : ℕ) (body : List ℕ) → size < 2 ^ 32 → word_at (headers entry size ++ body) 68 ≡ size
unfolding headers word_at
filesz_field entry size body h = from_le_bytes-to_le_bytes_4 size h

memsz_field : (entry size : ℕ) (body : List ℕ) → size < 2 ^ 32 → word_at (headers entry size ++ body) 72 ≡ size
unfolding headers word_at
memsz_field entry size body h = from_le_bytes-to_le_bytes_4 size h

-- the one program header
abbrev loads : ℕ → ProgramHeader
loads size = record { kind = Load; offset = 0; vaddr = 65536; filesz = size; memsz = size; flags = 7 }

offset_field : (entry size : ℕ) (body : List ℕ) → word_at (headers entry size ++ body) 56 ≡ 0
unfolding headers word_at
offset_field entry size body = refl

vaddr_field : (entry size : ℕ) (body : List ℕ) → word_at (headers entry size ++ body) 60 ≡ 65536
unfolding headers word_at
vaddr_field entry size body = refl

flags_field : (entry size : ℕ) (body : List ℕ) → word_at (headers entry size ++ body) 76 ≡ 7
unfolding headers word_at
flags_field entry size body = refl

kind_field : (entry size : ℕ) (body : List ℕ) → word_at (headers entry size ++ body) 52 ≡ 1
unfolding headers word_at
kind_field entry size body = refl

phoff_field : (entry size : ℕ) (body : List ℕ) → e_phoff (headers entry size ++ body) ≡ 52
unfolding headers word_at
phoff_field entry size body = refl

phnum_field : (entry size : ℕ) (body : List ℕ) → e_phnum (headers entry size ++ body) ≡ 1
unfolding headers half_at
phnum_field entry size body = refl

header_is : (entry size : ℕ) (body : List ℕ) → size < 2 ^ 32 → header_at (headers entry size ++ body) 52 ≡ loads size
unfolding header_at
header_is entry size body h = λ i. record {
  kind = type_of (kind_field entry size body i);
  offset = offset_field entry size body i;
  vaddr = vaddr_field entry size body i;
  filesz = filesz_field entry size body h i;
  memsz = memsz_field entry size body h i;
  flags = flags_field entry size body i;
}

-- ---- the rules of the ELF header

AllNone : List (Option ElfFault) → Type 0
AllNone [] = Unit {0}
AllNone (x ∷ xs) = (x ≡ None) × AllNone xs

all_none : (xs : List (Option ElfFault)) → AllNone xs → first_some xs ≡ None
unfolding AllNone first_some
all_none [] h = refl
all_none (x ∷ xs) h = first_some-none x xs h.0 ∙ all_none xs h.1

magic_ok : (entry size : ℕ) (body : List ℕ) → bytes_are (headers entry size ++ body) 0 (0x7F ∷ codes "ELF") Magic ≡ None
unfolding headers bytes_are needs first_some
magic_ok entry size body = refl

class_ok : (entry size : ℕ) (body : List ℕ) → bytes_are (headers entry size ++ body) 4 (1 ∷ 1 ∷ 1 ∷ []) Class ≡ None
unfolding headers bytes_are needs first_some
class_ok entry size body = refl

machine_ok : (entry size : ℕ) (body : List ℕ) → needs (e_machine (headers entry size ++ body) == 243) Machine 18 ≡ None
unfolding headers half_at needs
machine_ok entry size body = refl

type_ok : (entry size : ℕ) (body : List ℕ) → needs (e_type (headers entry size ++ body) == 2) FileType 16 ≡ None
unfolding headers half_at needs
type_ok entry size body = refl

flags_ok : (entry size : ℕ) (body : List ℕ) → needs (bit_and (e_flags (headers entry size ++ body)) 0x0F == 0) Flags 36 ≡ None
unfolding headers word_at needs
flags_ok entry size body = refl

phentsize_ok : (entry size : ℕ) (body : List ℕ) → needs (e_phentsize (headers entry size ++ body) == 32) NoSegment 42 ≡ None
unfolding headers half_at needs
phentsize_ok entry size body = refl

phnum_ok : (entry size : ℕ) (body : List ℕ) → needs (nat_lt 0 (e_phnum (headers entry size ++ body)) && nat_le (e_phnum (headers entry size ++ body)) 64) NoSegment 44 ≡ None
unfolding headers half_at needs
phnum_ok entry size body = refl

table_fits : (off num len : ℕ) → off ≡ 52 → num ≡ 1 → 84 ≤ len → off + 32 * num ≤ len
table_fits off num len h k l = omega (arith, h, k, l)

header_ok : (entry size : ℕ) (body : List ℕ) → 84 ≤ length (headers entry size ++ body) → first_some (file_header_rules (headers entry size ++ body)) ≡ None
unfolding AllNone
header_ok entry size body h =
    all_none (file_header_rules (headers entry size ++ body)) (
      needs-true _ _ _ (at_most 52 _ (omega arith)),
      (
        magic_ok entry size body,
        (
          class_ok entry size body,
          (
            machine_ok entry size body,
            (
              type_ok entry size body,
              (
                flags_ok entry size body,
                (
                  phentsize_ok entry size body,
                  (
                    phnum_ok entry size body,
                    (needs-true _ _ _ (at_most _ _ (table_fits _ _ _ (phoff_field entry size body) (phnum_field entry size body) h)), tt),
                  ),
                ),
              ),
            ),
          ),
        ),
      ),
    )

-- ---- its one segment

abbrev one_segment : List ℕ → ℕ → Segment
one_segment file size = segment_of file (loads size)

untouched_past : (segment : Segment) (n : ℕ) → segment.vaddr ≡ 65536 → segment.memsz ≤ 4194304 → 1040 ≤ n → touches segment n ≡ false
untouched_past segment n at small past =
    let ends : segment.vaddr + segment.memsz ≤ 4096 * n = omega (arith, at, small, past) in
    grind (arith, nat_tests)

one_page : (segment : Segment) (n k : ℕ) (t : Bool) → (t || false) ≡ is_touched (segment ∷ []) n → pages_below n (segment ∷ []) ≡ k → pages_below (suc n) (segment ∷ []) ≤ k + 1
one_page segment n k true is h = let e = pages_below-suc n (segment ∷ []) in let c : cond (is_touched (segment ∷ []) n) 1 0 ≡ 1 = ap {B = ℕ} (λ (b : Bool). cond b 1 0) (sym is) in omega (arith, e, c, h)
one_page segment n k false is h = let e = pages_below-suc n (segment ∷ []) in let c : cond (is_touched (segment ∷ []) n) 1 0 ≡ 0 = ap {B = ℕ} (λ (b : Bool). cond b 1 0) (sym is) in omega (arith, e, c, h)

same_pages : (segment : Segment) (n : ℕ) → touches segment n ≡ false → pages_below (suc n) (segment ∷ []) ≡ pages_below n (segment ∷ [])
same_pages segment n h =
    let e = pages_below-suc n (segment ∷ []) in
    let c : cond (is_touched (segment ∷ []) n) 1 0 ≡ 0 = ap {B = ℕ} (λ (b : Bool). cond (b || false) 1 0) h in
    omega (arith, e, c)

pages_few : (segment : Segment) (n : ℕ) → n ≤ 1040 → pages_below n (segment ∷ []) ≤ n
unfolding pages_below
pages_few segment zero h = omega arith
pages_few segment (suc n) h =
    let before = pages_few segment n (omega arith) in
    let more = one_page segment n (pages_below n (segment ∷ [])) (touches segment n) refl refl in
    omega (arith, before, more)

pages_past : (segment : Segment) (d : ℕ) → segment.vaddr ≡ 65536 → segment.memsz ≤ 4194304 → pages_below (d + 1040) (segment ∷ []) ≤ 1040
pages_past segment zero at small = pages_few segment 1040 (omega arith)
pages_past segment (suc d) at small =
    let before = pages_past segment d at small in
    let same = same_pages segment (d + 1040) (untouched_past segment (d + 1040) at small (omega arith)) in
    subst (λ n. pages_below n (segment ∷ []) ≤ 1040) (suc_add d) (omega (arith, before, same))
  where
    suc_add : (d : ℕ) → suc (d + 1040) ≡ suc d + 1040
    suc_add d = omega arith

pages_ok : (segment : Segment) → segment.vaddr ≡ 65536 → segment.memsz ≤ 4194304 → page_count (segment ∷ []) ≤ 1536
pages_ok segment at small = let few = pages_past segment 1047536 at small in omega (arith, few)

placed_ok : (file : List ℕ) (size : ℕ) → length file ≡ size → size ≤ 4194304 → is_well_placed file (loads size) ≡ true
placed_ok file size len small =
    and_from _ _ (and_from _ _ (and_from _ _ (at_most (0 + size) (length file) (omega arith)) (at_most size size (omega arith))) refl) (at_most (65536 + size) 0x4000_0000 (omega arith))

memory_ok : (file : List ℕ) (size : ℕ) → length file ≡ size → size ≤ 4194304 → first_some (memory_rules file [] 52 (loads size)) ≡ None
unfolding memory_rules AllNone
memory_ok file size len small =
    all_none (memory_rules file [] 52 (loads size)) (
      needs-true _ _ _ (placed_ok file size len small),
      (
        needs-true _ _ _ refl,
        (needs-true _ _ _ (at_most _ _ (pages_ok (one_segment file size) refl small)), tt),
      ),
    )

describes : (size : ℕ) → 84 ≤ size → describes_memory (loads size) ≡ true
describes size h = below 0 size (omega arith)

rules_by : (file : List ℕ) (size : ℕ) (t : Bool) → describes_memory (loads size) ≡ t → 84 ≤ size → first_some (memory_rules file [] 52 (loads size)) ≡ None
    → first_some (if t then memory_rules file [] 52 (loads size) else []) ≡ None
rules_by file size true is h rules = rules
rules_by file size false is h rules = absurd (false≢true (sym is ∙ describes size h))

rules_ok : (file : List ℕ) (size : ℕ) → length file ≡ size → 84 ≤ size → size ≤ 4194304 → first_some (rules_at file [] 52 (loads size)) ≡ None
unfolding rules_at
rules_ok file size len least small =
    first_some-none _ _ (needs-true _ _ _ refl)
    ∙ rules_by file size (describes_memory (loads size)) refl least (memory_ok file size len small)

-- ---- the entry

segments_by : (file : List ℕ) (size : ℕ) (t : Bool) → describes_memory (loads size) ≡ t → 84 ≤ size → (if t then one_segment file size ∷ [] else []) ≡ one_segment file size ∷ []
segments_by file size true is h = refl
segments_by file size false is h = absurd (false≢true (sym is ∙ describes size h))

-- an instruction may begin at this address
pub record MayBegin (entry size : ℕ) : Type 0 where
  pub aligned : entry % 4 ≡ 0
  pub first : 65536 ≤ entry
  pub within : 4096 * (entry / 4096) < 65536 + size

touched : (file : List ℕ) (entry size : ℕ) → MayBegin entry size → touches (one_segment file size) (entry / 4096) ≡ true
touched file entry size may =
    let starts : 65536 < 4096 * (entry / 4096) + 4096 = let f = may.first in omega arith in
    let ends : 4096 * (entry / 4096) < 65536 + size = may.within in
    and_from _ _ (below 65536 (4096 * (entry / 4096) + 4096) starts) (below (4096 * (entry / 4096)) (65536 + size) ends)

rights_by : (file : List ℕ) (size p : ℕ) (t : Bool) → touches (one_segment file size) p ≡ t → t ≡ true → page_rights (one_segment file size ∷ []) p ≡ 7
rights_by file size p t is h = rw (is, h) refl

entry_ok : (file : List ℕ) (entry size : ℕ) → MayBegin entry size → is_entry entry (one_segment file size ∷ []) ≡ true
entry_ok file entry size may =
    let rights : page_rights (one_segment file size ∷ []) (entry / 4096) ≡ 7 = rights_by file size (entry / 4096) true (touched file entry size may) refl in
    and_from _ _ (eq-eqb _ _ may.aligned) (ap (λ r. bit_and r 1 == 1) rights)

-- ---- all rules

abbrev file_of : ℕ → ℕ → List ℕ → List ℕ
file_of entry size body = headers entry size ++ body

place_first : (entry size : ℕ) (body : List ℕ) → place_of (file_of entry size body) 0 ≡ 52
place_first entry size body = ap (λ p. p + 32 * 0) (phoff_field entry size body)

header_first : (entry size : ℕ) (body : List ℕ) → size < 2 ^ 32 → program_header (file_of entry size body) 0 ≡ loads size
header_first entry size body small = ap (header_at (file_of entry size body)) (place_first entry size body) ∙ header_is entry size body small

rules_at-by : (file : List ℕ) (size place : ℕ) (h : ProgramHeader) → place ≡ 52 → h ≡ loads size → first_some (rules_at file [] 52 (loads size)) ≡ None → first_some (rules_at file [] place h) ≡ None
rules_at-by file size place h p is rules = ap (λ n. first_some (rules_at file [] n h)) p ∙ ap (λ (x : ProgramHeader). first_some (rules_at file [] 52 x)) is ∙ rules

one_table : (entry size : ℕ) (body : List ℕ) → size < 2 ^ 32 → first_some (rules_at (file_of entry size body) [] 52 (loads size)) ≡ None
    → first_some (program_header_rules (file_of entry size body) 1) ≡ None
unfolding program_header_rules segments_before
one_table entry size body small rules =
    rules_at-by (file_of entry size body) size (place_of (file_of entry size body) 0) (program_header (file_of entry size body) 0)
    (place_first entry size body) (header_first entry size body small) rules

segments_of-by : (file : List ℕ) (size : ℕ) (h : ProgramHeader) → h ≡ loads size → 84 ≤ size → segments_of file h ≡ one_segment file size ∷ []
segments_of-by file size h is least =
    ap (λ (x : ProgramHeader). segments_of file x) is ∙ segments_by file size (describes_memory (loads size)) refl least

one_list : (entry size : ℕ) (body : List ℕ) → size < 2 ^ 32 → 84 ≤ size → segments_before (file_of entry size body) 1 ≡ one_segment (file_of entry size body) size ∷ []
unfolding segments_before
one_list entry size body small least =
    segments_of-by (file_of entry size body) size (program_header (file_of entry size body) 0) (header_first entry size body small) least

entry_none : (file : List ℕ) (entry size e n : ℕ) (segments : List Segment) → e ≡ entry → segments ≡ one_segment file size ∷ [] → MayBegin entry size → needs (is_entry e segments) NoSegment 24 ≡ None
entry_none file entry size e n segments h is may =
    needs-true _ _ _ (ap (λ k. is_entry k segments) h ∙ ap (λ (x : List Segment). is_entry entry x) is ∙ entry_ok file entry size may)

pub headed : (entry size : ℕ) (body : List ℕ) → entry < 2 ^ 32 → 84 ≤ size → size ≤ 4194304 → length (headers entry size ++ body) ≡ size → MayBegin entry size
    → first_fault (headers entry size ++ body) ≡ None
unfolding first_fault
headed entry size body fits least most len may =
    let file = file_of entry size body in
    let small : size < 2 ^ 32 = omega (arith, most) in
    let phnum = phnum_field entry size body in
    let table : first_some (program_header_rules file (e_phnum file)) ≡ None =
    ap (λ n. first_some (program_header_rules file n)) phnum ∙ one_table entry size body small (rules_ok file size len least most) in
    let segments : segments_before file (e_phnum file) ≡ one_segment file size ∷ [] = ap (segments_before file) phnum ∙ one_list entry size body small least in
    let head = header_ok entry size body (omega (arith, len, least)) in
    first_some-none_append (file_header_rules file ++ program_header_rules file (e_phnum file)) (entry_rule file ∷ [])
    (first_some-none_append (file_header_rules file) (program_header_rules file (e_phnum file)) head ∙ table)
    ∙ first_some-one (entry_rule file)
    ∙ entry_none file entry size (e_entry file) 0 (segments_before file (e_phnum file)) (entry_field entry size body fits) segments may
