-- The file of a text whose lines all keep the rules.
use Rattle.std.proofs.Common.{◌≡◌, ℕ, ◌+◌, ◌*◌, ◌/◌, ◌%◌, ◌^◌, ◌<◌, ◌≤◌, zero, suc, Bool, true, false, not, ◌||◌, ◌==◌, List, ◌++◌, length, Option, Some, None, nat_lt, refl, sym, ap, subst, ◌∙◌, arith, eqb-true, length-append}
use Rattle.std.proofs.lemmas.Bool.{false≢true, and_parts}
use Rattle.std.proofs.lemmas.Bool.Decides.{nat_tests}
use Rattle.elf32.specs.Rules.{first_fault}
use Rattle.rv_asm.specs.Layout.{Lines, Label, HEADERS, BASE, FAR, end_of, labels_of, label_in}
use Rattle.rv_asm.specs.Pieces.{START, is_entry, is_aligned}
use Rattle.rv_asm.specs.Files.{headers, entry_by, entry_of, file_of, AreGood, IsFile}
use Rattle.rv_asm.specs.Labels.{IsBody}
use Rattle.rv_asm.proofs.Sizes.{sized}
use Rattle.rv_asm.proofs.Entries.{started}
use Rattle.rv_asm.proofs.ElfRules.{MayBegin, headed}

pub made : (lines : Lines) (body file : List ℕ) (entry size : ℕ) → IsBody lines body → entry ≡ BASE + entry_by (label_in (labels_of lines) START)
    → size ≡ HEADERS + length body → file ≡ headers entry size ++ body → IsFile lines file
unfolding file_of
made lines body file entry size is e s f = record {
  good = is.good;
  bytes = f ∙ ap (λ n. headers n size ++ body) e ∙ ap (λ n. headers (entry_of lines) n ++ body) s
      ∙ ap (λ bs. headers (entry_of lines) (HEADERS + length bs) ++ bs) is.bytes;
}

-- ---- the entry

end_is : (lines : Lines) (body : List ℕ) → IsBody lines body → end_of lines ≡ HEADERS + length body
end_is lines body is = let s = sized lines (length lines) is.good in s.size ∙ ap (λ bs. HEADERS + length bs) (sym is.bytes)

some_rest : (n : ℕ) → not (n == 0) ≡ true → 0 < n
some_rest zero h = absurd (false≢true h)
some_rest (suc n) h = omega arith

either_by : (place end : ℕ) (t : Bool) → nat_lt place end ≡ t → (t || not (place % 4096 == 0)) ≡ true → place ≤ end → 4096 * ((65536 + place) / 4096) < 65536 + end
either_by place end true is h le = let below : place < end = grind (arith, nat_tests) in omega arith
either_by place end false is h le = let some = some_rest (place % 4096) h in omega (arith, some)

begins_at : (end place : ℕ) → is_entry end place ≡ true → place ≤ end → MayBegin (65536 + place) end
begins_at end place h le =
    let both = and_parts (is_aligned place) (nat_lt place end || not (place % 4096 == 0)) h in
    let four : place % 4 ≡ 0 = eqb-true _ _ both.0 in
    record { aligned = omega arith; first = omega arith; within = either_by place end (nat_lt place end) refl both.1 le }

begins_by : (lines : Lines) (o : Option Label) → label_in (labels_of lines) START ≡ o → AreGood lines (length lines) → 84 ≤ end_of lines
    → MayBegin (65536 + entry_by o) (end_of lines) × (entry_by o ≤ end_of lines)
begins_by lines None is good least = (record { aligned = refl; first = omega arith; within = omega arith }, omega arith)
begins_by lines (Some l) is good least =
    let s = started lines l good is in
    (begins_at (end_of lines) l.place s.entry s.before_end, s.before_end)

pub record Begins (lines : Lines) (body : List ℕ) : Type 0 where
  pub may : MayBegin (65536 + entry_by (label_in (labels_of lines) START)) (84 + length body)
  pub near : entry_by (label_in (labels_of lines) START) ≤ 84 + length body

pub begins : (lines : Lines) (body : List ℕ) → IsBody lines body → Begins lines body
begins lines body is =
    let end = end_is lines body is in
    let both = begins_by lines (label_in (labels_of lines) START) refl is.good (omega (arith, end)) in
    record {
      may = subst (λ n. MayBegin (65536 + entry_by (label_in (labels_of lines) START)) n) end both.0;
      near = subst (λ n. entry_by (label_in (labels_of lines) START) ≤ n) end both.1;
    }

-- ---- the whole file

pub header_bytes : (entry size : ℕ) (body : List ℕ) → length (headers entry size ++ body) ≡ 84 + length body
unfolding headers
header_bytes entry size body = length-append (headers entry size) body

pub accepted : (lines : Lines) (body file : List ℕ) (entry size : ℕ) → IsBody lines body → entry ≡ BASE + entry_by (label_in (labels_of lines) START)
    → size ≡ HEADERS + length body → file ≡ headers entry size ++ body → first_fault file ≡ None
accepted lines body file entry size is e s f =
    let b = begins lines body is in
    let small = is.size in
    let near = b.near in
    let fits : entry < 2 ^ 32 = omega (arith, e, near, small) in
    let least : 84 ≤ size = omega (arith, s) in
    let most : size ≤ 4194304 = omega (arith, s, small) in
    let len : length (headers entry size ++ body) ≡ size = header_bytes entry size body ∙ sym s in
    let may : MayBegin entry size = subst (λ n. MayBegin n size) (sym e) (subst (λ n. MayBegin (65536 + entry_by (label_in (labels_of lines) START)) n) (sym s) b.may) in
    ap first_fault f ∙ headed entry size body fits least most len may

pub near_entry : (lines : Lines) (body : List ℕ) (labels : List Label) → IsBody lines body → labels ≡ labels_of lines → entry_by (label_in labels START) ≤ FAR
near_entry lines body labels is same =
    let b = begins lines body is in
    let near = b.near in
    let small = is.size in
    omega (arith, near, small, ap (λ (ls : List Label). entry_by (label_in ls START)) same)
