-- The files of a valid kernel part fit the fields of the shared image.
--     file_fits      each of them, after those before it
--     file_count_fits      and their number
use Rattle.std.proofs.Common.{◌≡◌, ℕ, ◌+◌, ◌-◌, ◌<◌, ◌≤◌, ◌^◌, ◌==◌, ◌&&◌, Less, true, false, List, [], ◌∷◌, length, map as each, inl, inr, refl, sym, ap, subst, ◌∙◌, arith, lit<}
use Rattle.std.specs.Prelude.{not, nat_le, sum_by, Option, Some, None, option_map, unwrap_or, All}
use Rattle.std.specs.List.{list_any, list_all}
use Rattle.std.specs.Ordering.{nat_cmp}
use Rattle.std.specs.Cmp.{nat_cmp_total}
use Rattle.std.specs.FinMap as map
use Rattle.std.specs.FinMap.{nat_cmp-IsAntisymmetric}
use Rattle.std.proofs.lemmas.List.{length-map}
use Rattle.std.proofs.lemmas.List.Elements.{All-head, All-tail}
use Rattle.std.proofs.lemmas.List.Sums.{sum_by-cons, sum_by-append}
use Rattle.std.proofs.lemmas.Slice.Eq.{bytes_eq-Decides}
use Rattle.views.specs.NumberMap.{is_above}
use Rattle.plain_process.specs.Valid.{IsByte}
use Rattle.plain_machine.specs.declared.kernel.PlainKernel.{PlainKernel}
use Rattle.plain_machine.specs.Kernels.{IsKernel}
use Rattle.shared_items.specs.declared.shared.FileImage.{FileImage}
use Rattle.shared_items.specs.SharedTests as field
use Rattle.shared_items.specs.SharedFits.{FitsNumber, FileFits}
use Rattle.image_format.specs.Format.{n16}
use Rattle.image_format.specs.Texts.{FitsField}
use Rattle.image_format.specs.Fields.{last_item, is_bytes, is_within}
use Rattle.image_codec.specs.KernelImages.{file_image, names_by_number}
use Rattle.image_codec.proofs.FilesBack.{name_leads}
use Rattle.image_codec.proofs.Listings.{IsSplit, IsBefore, IsLast, last_before, none_before}
use Rattle.image_codec.proofs.TestFacts.{both_true, or_later, not_true, is_below, is_at_most, below_number}

-- the bytes of a file, and of a name
pub bytes_fit : (bytes : List ℕ) → All IsByte bytes → field.are_bytes bytes ≡ true
bytes_fit [] are = refl
bytes_fit (byte ∷ bytes) are =
    let here = is_below byte (2 ^ 8) (All-head IsByte byte bytes are) in
    let rest = bytes_fit bytes (All-tail IsByte byte bytes are) in
    λ i. here i && rest i

abbrev IsNameByte : ℕ → Type 0
IsNameByte byte = (1 ≤ byte) × (byte < 2 ^ 8)

name_bytes_fit : (name : List ℕ) → All IsNameByte name → list_all (is_within 1 255) name ≡ true
name_bytes_fit [] are = refl
name_bytes_fit (byte ∷ name) are =
    let (least, most) = All-head IsNameByte byte name are in
    let here : is_within 1 255 byte ≡ true = both_true (nat_le 1 byte) _ (is_at_most 1 byte least) (is_at_most byte 255 (omega (arith, most))) in
    let rest = name_bytes_fit name (All-tail IsNameByte byte name are) in
    λ i. here i && rest i

-- sums
sum_mapped : {A B : Type 0} (f : A → B) (n : B → ℕ) (xs : List A) → sum_by n (each f xs) ≡ sum_by (λ x. n (f x)) xs
sum_mapped f n [] = refl
sum_mapped f n (x ∷ xs) = sum_by-cons n (f x) (each f xs) ∙ (λ i. n (f x) + sum_mapped f n xs i) ∙ sym (sum_by-cons (λ y. n (f y)) x xs)

module _ (k : PlainKernel) (is : IsKernel k) where
  abbrev image : ℕ × List ℕ → FileImage
  image = file_image (names_by_number k.names)

  pub file_count_fits : FitsNumber field.is_file_count (length (each image (map.entries k.files)))
  file_count_fits =
      let same : length (each image (map.entries k.files)) ≡ map.len k.files = length-map (map.entries k.files) image ∙ sym (map.len-entries k.files) in
      let few : map.len k.files ≤ 1024 = is.files.count in
      let fits : length (each image (map.entries k.files)) ≤ 1024 = omega (arith, same, few) in
      (omega (arith, fits), is_at_most (length (each image (map.entries k.files))) 1024 fits)

  module _ (number : ℕ) (bytes : List ℕ) (xs : List (ℕ × List ℕ)) (split : IsSplit nat_cmp_total nat_cmp-IsAntisymmetric k.files xs (number, bytes)) where
    abbrev front : List FileImage
    front = each image xs

    above_last : is_above (field.last_file front) number ≡ true
    above_last = by_last (last_item front) (last_before nat_cmp_total nat_cmp-IsAntisymmetric image (IsBefore nat_cmp_total nat_cmp-IsAntisymmetric k.files number) xs split.before)
      where
        by_last : (last : Option FileImage) → IsLast nat_cmp_total nat_cmp-IsAntisymmetric image (IsBefore nat_cmp_total nat_cmp-IsAntisymmetric k.files number) last → is_above (option_map (λ (f : FileImage). f.number) last) number ≡ true
        by_last last (inl none) = ap (λ (l : Option FileImage). is_above (option_map (λ (f : FileImage). f.number) l) number) none
        by_last last (inr (q, v, some, before)) = ap (λ (l : Option FileImage). is_above (option_map (λ (f : FileImage). f.number) l) number) some ∙ is_below q number (below_number q number before.1)

    number_fits : FitsNumber (field.is_file_number k.next_file front) number
    number_fits =
        let (least, most) = is.files.numbers number bytes split.found in
        let last = is.numbers.last_file in
        let within : is_within 1 (k.next_file - 1) number ≡ true = both_true (nat_le 1 number) _ (is_at_most 1 number least) (is_at_most number (k.next_file - 1) (omega (arith, least, most))) in
        (omega (arith, most, last), both_true (is_above (field.last_file front) number) _ above_last within)

    -- the name, which no file in front has
    abbrev NameFits : List ℕ → Type 0
    NameFits name = FitsField n16 (is_within 0 255) (length name) × (field.is_file_name front name ≡ true)

    other_name : (name : List ℕ) → map.get k.names name ≡ Some number → (q : ℕ) → nat_cmp q number ≡ Less → (found : Option (List ℕ)) → map.get (names_by_number k.names) q ≡ found
        → is_bytes name (unwrap_or found []) ≡ true → ⊥
    other_name name leads q less None known same =
        let none : [] ≡ name = (bytes_eq-Decides [] name).0 same in
        let size = ap length none in
        let some = (is.files.named name number leads).0.some in
        omega (arith, size, some)
    other_name name leads q less (Some other) known same =
        let one : other ≡ name = (bytes_eq-Decides other name).0 same in
        let also : map.get k.names name ≡ Some q = subst (λ n. map.get k.names n ≡ Some q) one (name_leads k.names q other known) in
        let equal : q ≡ number = cc in
        let below = below_number q number less in
        omega (arith, below, equal)

    new_name : (name : List ℕ) → map.get k.names name ≡ Some number → list_any (field.file_has_name name) front ≡ false
    new_name name leads =
        none_before nat_cmp_total nat_cmp-IsAntisymmetric image (field.file_has_name name) (IsBefore nat_cmp_total nat_cmp-IsAntisymmetric k.files number) xs split.before (λ q v before.
        not_true (field.file_has_name name (image (q, v))) (λ same. other_name name leads q before.1 (map.get (names_by_number k.names) q) refl same))

    name_fits : NameFits (image (number, bytes)).name
    name_fits = by_found (map.get (names_by_number k.names) number) refl
      where
        by_found : (found : Option (List ℕ)) → map.get (names_by_number k.names) number ≡ found → NameFits (unwrap_or found [])
        by_found None known = ((lit< tt, refl), refl)
        by_found (Some name) known =
            let leads = name_leads k.names number name known in
            let named = (is.files.named name number leads).0 in
            let few = named.few in
            let fresh = new_name name leads in (
              (omega (arith, few), both_true (nat_le 0 (length name)) _ (is_at_most 0 (length name) (omega arith)) (is_at_most (length name) 255 few)),
              both_true (list_all (is_within 1 255) name) _ (name_bytes_fit name named.bytes) (or_later (length name == 0) _ (λ i. not (fresh i))),
            )

    -- all bytes so far
    size_fits : FitsNumber (field.is_file_size front) (length bytes)
    size_fits =
        let total : sum_by (λ (e : ℕ × List ℕ). length e.1) (map.entries k.files) ≤ 67108864 = subst (λ n. n ≤ 67108864) (sum_mapped (λ (e : ℕ × List ℕ). e.1) length (map.entries k.files)) is.files.total in
        let parts = ap (sum_by (λ (e : ℕ × List ℕ). length e.1)) split.whole ∙ sum_by-append (λ (e : ℕ × List ℕ). length e.1) xs ((number, bytes) ∷ split.rest) in
        let own = sum_by-cons (λ (e : ℕ × List ℕ). length e.1) (number, bytes) split.rest in
        let so_far : sum_by (λ (f : FileImage). length f.bytes) front ≡ sum_by (λ (e : ℕ × List ℕ). length e.1) xs = sum_mapped image (λ (f : FileImage). length f.bytes) xs in
        let room : sum_by (λ (f : FileImage). length f.bytes) front + length bytes ≤ 67108864 = omega (arith, total, parts, own, so_far) in
        (omega (arith, room), is_at_most (sum_by (λ (f : FileImage). length f.bytes) front + length bytes) 67108864 room)

    pub file_fits : FileFits k.next_file front (image (number, bytes))
    file_fits =
        let (name_size, name) = name_fits in
        record {
          number = number_fits;
          name_size = name_size;
          name = name;
          size = size_fits;
          bytes = bytes_fit bytes (is.files.bytes number bytes split.found);
        }
