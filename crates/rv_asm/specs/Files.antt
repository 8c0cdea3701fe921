-- The file of a program's text (System V ABI, chapters 4 and 5): an ELF header, one program header, and the
-- bytes of its lines. The one segment is the whole file, at 0x10000, to be read, written and executed.
--     body_before lines n       the bytes of the first n lines
--     file_of lines             the file
--     IsFile lines file         each line keeps the rules, and this is the file
--     IsFirstBroken lines n     the n-th line, counted from 0, is the first that breaks a rule
use Rattle.std.specs.Prelude.{◌≡◌, ℕ, ◌+◌, ◌<◌, true, false, List, [], ◌∷◌, ◌++◌, length, codes, Option, Some, None, is_some, unwrap_or, zero, suc}
use Rattle.std.specs.Int.{w16, w32, to_le_bytes}
use Rattle.rv_asm.specs.Layout.{Lines, Label, BASE, HEADERS, labels_of, label_in}
use Rattle.rv_asm.specs.Pieces.{START, piece_of}

-- an Elf32_Half, and an Elf32_Word, Elf32_Addr or Elf32_Off
abbrev pub half : ℕ → List ℕ
half n = to_le_bytes w16 n

abbrev pub whole : ℕ → List ℕ
whole n = to_le_bytes w32 n

-- e_ident (ELFCLASS32, ELFDATA2LSB, EV_CURRENT, then zeros), e_type ET_EXEC, e_machine EM_RISCV, e_version
abbrev pub before_entry : List ℕ
before_entry =
    0x7F ∷ codes "ELF" ++ (1 ∷ 1 ∷ 1 ∷ 0 ∷ 0 ∷ 0 ∷ 0 ∷ 0 ∷ 0 ∷ 0 ∷ 0 ∷ 0 ∷ [])
    ++ half 2 ++ half 243 ++ whole 1

-- e_phoff, e_shoff, e_flags, e_ehsize, e_phentsize, e_phnum, e_shentsize, e_shnum, e_shstrndx; then p_type
-- PT_LOAD, p_offset, p_vaddr and p_paddr
abbrev pub before_sizes : List ℕ
before_sizes =
    whole 52 ++ whole 0 ++ whole 0 ++ half 52 ++ half 32 ++ half 1 ++ half 0 ++ half 0 ++ half 0
    ++ whole 1 ++ whole 0 ++ whole BASE ++ whole BASE

-- p_flags and p_align
abbrev pub after_sizes : List ℕ
after_sizes = whole 7 ++ whole 4096

-- the headers of a file with this entry and of this size
unfoldable pub headers : ℕ → ℕ → List ℕ
headers entry size = before_entry ++ whole entry ++ before_sizes ++ whole size ++ whole size ++ after_sizes

abbrev pub entry_by : Option Label → ℕ
entry_by None = HEADERS
entry_by (Some l) = l.place

-- where the label `_start` is, or behind the headers
abbrev pub entry_of : Lines → ℕ
entry_of lines = BASE + entry_by (label_in (labels_of lines) START)

unfoldable pub body_before : Lines → ℕ → List ℕ
body_before lines zero = []
body_before lines (suc n) = body_before lines n ++ unwrap_or (piece_of lines n) []

abbrev pub body_of : Lines → List ℕ
body_of lines = body_before lines (length lines)

unfoldable pub file_of : Lines → List ℕ
file_of lines = headers (entry_of lines) (HEADERS + length (body_of lines)) ++ body_of lines

abbrev pub AreGood : Lines → ℕ → Type 0
AreGood lines n = (k : ℕ) → k < n → is_some (piece_of lines k) ≡ true

pub record IsFile (lines : Lines) (file : List ℕ) : Type 0 where
  pub good : AreGood lines (length lines)
  pub bytes : file ≡ file_of lines

pub record IsFirstBroken (lines : Lines) (n : ℕ) : Type 0 where
  pub inside : n < length lines
  pub before : AreGood lines n
  pub broken : is_some (piece_of lines n) ≡ false
