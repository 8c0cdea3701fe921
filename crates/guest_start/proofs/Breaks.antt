-- Where a program's break starts, and what stands on the page to which handlers return.
use Rattle.std.proofs.Common.{◌≡◌, ℕ, suc, ◌+◌, ◌-◌, ◌≤◌, List, [], ◌∷◌, ◌++◌, length, take, drop, replicate, max, sym, ap, ◌∙◌, arith}
use Rattle.std.specs.Prelude.{All, fold}
use Rattle.std.proofs.Math.Seq.{take-append-add}
use Rattle.std.proofs.lemmas.List.{take-replicate, drop-replicate}
use Rattle.elf32.specs.declared.program.Segment.{Segment}
use Rattle.elf32.specs.Programs.{IsWellPlaced}
use Rattle.plain_process.specs.Start.{highest_end, page_of}

bounded : (a b : ℕ) → a ≤ 0x4000_0000 → b ≤ 0x4000_0000 → max a b ≤ 0x4000_0000
bounded a b first second = grind arith

low : (segments : List Segment) (highest : ℕ) → All IsWellPlaced segments → highest ≤ 0x4000_0000 → fold (λ h segment. max h (segment.vaddr + segment.memsz)) highest segments ≤ 0x4000_0000
low [] highest placed below = below
low (segment ∷ rest) highest placed below =
    let last : segment.vaddr + segment.memsz ≤ 0x4000_0000 = (placed 0 segment (omega arith)).last in
    low rest (max highest (segment.vaddr + segment.memsz)) (λ k d less. placed (suc k) d (omega arith)) (bounded highest (segment.vaddr + segment.memsz) below last)

pub highest_end_low : (segments : List Segment) → All IsWellPlaced segments → highest_end segments ≤ 0x4000_0000
highest_end_low segments placed = low segments 0 placed (omega arith)

-- a page that begins with these bytes
pub code_page : (code zeros : List ℕ) → zeros ≡ replicate 4096 0 → length code ≤ 4096 → code ++ drop (length code) zeros ≡ page_of code
code_page code zeros blank short =
    let whole : length code + (4096 - length code) ≡ 4096 = omega arith in
    let inside : 4096 - length code ≤ 4096 = omega arith in
    ap (λ z. code ++ drop (length code) z) blank ∙ ap (λ z. code ++ z) (drop-replicate (length code) 4096 0)
    ∙ sym (ap (λ z. code ++ z) (take-replicate (4096 - length code) 4096 0 inside))
    ∙ sym (take-append-add code (replicate 4096 0) (4096 - length code))
    ∙ ap (λ n. take n (code ++ replicate 4096 0)) whole
