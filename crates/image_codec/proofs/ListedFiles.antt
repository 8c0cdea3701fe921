-- The files of an image that can be spelled, with their names, are those of a kernel part that a run may reach, and each has a name or is open.
--     files_are, open_files_are      a topic each
use Rattle.std.proofs.Common.{◌≡◌, ℕ, ◌+◌, ◌-◌, ◌^◌, ◌<◌, ◌≤◌, ◌==◌, ◌||◌, true, List, [], ◌∷◌, ◌++◌, length, map as each, inl, inr, refl, sym, ap, subst, ◌∙◌, ⊎_elim, append_assoc, append-nil, arith}
use Rattle.std.specs.Prelude.{◌⊎◌, not, nat_le, sum_by, Some, is_some, All}
use Rattle.std.specs.List.{list_all}
use Rattle.std.specs.Cmp.{nat_cmp_total}
use Rattle.std.specs.FinMap as map
use Rattle.std.specs.FinMap.{nat_cmp-IsAntisymmetric}
use Rattle.std.proofs.lemmas.List.{length-map}
use Rattle.std.proofs.lemmas.List.Sums.{sum_by-append, sum_by-cons}
use Rattle.views.proofs.MapLaws.{true_false}
use Rattle.views.proofs.MapValues.{some_among-values}
use Rattle.sys_abi.specs.declared.identity.DescId.{DescId}
use Rattle.sys_abi.proofs.OrderLaws.{desc_total, desc_exact, name_total, name_exact}
use Rattle.plain_process.specs.Valid.{IsByte}
use Rattle.plain_machine.specs.declared.kernel.PlainKernel.{PlainKernel}
use Rattle.plain_tables.specs.declared.description.Description.{Description}
use Rattle.plain_tables.specs.Objects.{is_file, is_kept, has_name, has_open}
use Rattle.plain_tables.specs.Valid.Files.{AreFiles, AreOpenFiles, IsName, IsOpenFile}
use Rattle.shared_items.specs.declared.shared.FileImage.{FileImage}
use Rattle.shared_items.specs.declared.shared.ObjectImage.{ObjectImage}
use Rattle.shared_items.specs.declared.shared.ObjectImage.TheVariants.{Console, File, Stream, Socket, Listener}
use Rattle.shared_items.specs.declared.shared.DescriptionImage.{DescriptionImage}
use Rattle.shared_items.specs.declared.shared.Shared.{Shared}
use Rattle.shared_items.specs.SharedTests as field
use Rattle.shared_items.specs.WholeShared as whole
use Rattle.shared_items.specs.SharedFits.{IsShared, FileFits, ObjectFits}
use Rattle.image_format.specs.Texts.{EachFrom}
use Rattle.image_format.specs.Fields.{is_within}
use Rattle.views.specs.NumberMap.{is_above}
use Rattle.image_codec.specs.KernelParts.{kernel_of, file_entry, name_entry, named_entry, object_of, description_entry}
use Rattle.image_codec.proofs.ImageSides.{bytes_of}
use Rattle.image_codec.proofs.ItemFacts.{all_items}
use Rattle.image_codec.proofs.Items.{IsItem, item_fits, item_passes, which_item}
use Rattle.image_codec.proofs.KernelItems.{IsInOrder, file_item, name_item, description_item, item_file, item_name, item_description}
use Rattle.image_codec.proofs.ListsBack.{name_of}
use Rattle.image_codec.proofs.Listings.{len_made}
use Rattle.image_codec.proofs.ListedProcesses.{ends_of}
use Rattle.image_codec.proofs.OrderedItems.{in_order, numbers_rise, IsListed}
use Rattle.image_format.proofs.Rising.{entries_made}
use Rattle.image_codec.proofs.TestFacts.{and_true, or_either, or_later, refused, same_number, equal_numbers, at_most}

-- names
name_bytes : (name : List ℕ) → list_all (is_within 1 255) name ≡ true → All (λ byte. (1 ≤ byte) × (byte < 2 ^ 8)) name
name_bytes name are = all_items (λ byte. (1 ≤ byte) × (byte < 2 ^ 8)) name (λ byte at.
    let (least, most) = and_true (nat_le 1 byte) (nat_le byte 255) (item_passes (is_within 1 255) name byte are at) in
    let high = at_most byte 255 most in
    (at_most 1 byte least, omega (arith, high)))

some_name : (given : List ℕ) (m : ℕ) (e : List ℕ × ℕ) → named_entry given m ≡ Some e → 1 ≤ length given
some_name [] m e is = cc
some_name (byte ∷ rest) m e is = omega arith

-- all their bytes together
abbrev total : List FileImage → ℕ
total files = sum_by (λ (f : FileImage). length f.bytes) files

few_bytes : (next_file : ℕ) (front files : List FileImage) → EachFrom (FileFits next_file) front files → total front ≤ 67108864 → total (front ++ files) ≤ 67108864
unfolding EachFrom
few_bytes next_file front [] fits few = subst (λ fs. total fs ≤ 67108864) (sym (append-nil front)) few
few_bytes next_file front (f ∷ files) fits few =
    let size = at_most (total front + length f.bytes) 67108864 fits.0.size.1 in
    let joined : total (front ++ f ∷ []) ≡ total front + (0 + length f.bytes) = sum_by-append (λ (g : FileImage). length g.bytes) front (f ∷ []) in
    subst (λ fs. total fs ≤ 67108864) (append_assoc front (f ∷ []) files) (few_bytes next_file (front ++ f ∷ []) files fits.1 (omega (arith, size, joined)))

values_made : (files : List FileImage) → sum_by length (each (λ (e : ℕ × List ℕ). e.1) (each file_entry files)) ≡ total files
values_made [] = refl
values_made (f ∷ files) =
    sum_by-cons length f.bytes (each (λ (e : ℕ × List ℕ). e.1) (each file_entry files)) ∙ ap (λ n. length f.bytes + n) (values_made files) ∙ sym (sum_by-cons (λ (g : FileImage). length g.bytes) f files)

-- an object of an image, by its tests
opened_file : (number : ℕ) (o : ObjectImage) → whole.opens number o ≡ true → is_file number (object_of o) ≡ true
opened_file number Console is = true_false (sym is)
opened_file number (File n offset) is = is
opened_file number (Stream conn side) is = true_false (sym is)
opened_file number (Socket address) is = true_false (sym is)
opened_file number (Listener address backlog pending) is = true_false (sym is)

module _ (s : Shared) (is : IsShared s) where
  abbrev k : PlainKernel
  k = kernel_of s

  order : IsInOrder s
  order = in_order s is.fields

  fits : (f : FileImage) (at : IsItem s.files f) → FileFits s.next_file at.front f
  fits f at = item_fits (FileFits s.next_file) s.files f is.fields.files at

  count : map.len k.files ≤ 1024
  unfolding kernel_of
  count =
      let made = len_made nat_cmp_total nat_cmp-IsAntisymmetric (each file_entry s.files) in
      let same = length-map s.files file_entry in
      let few = at_most (length s.files) 1024 is.fields.file_count.1 in
      omega (arith, made, same, few)

  sizes : sum_by length (map.values k.files) ≤ 67108864
  unfolding kernel_of
  sizes =
      let entries = ap (λ es. sum_by length (each (λ (e : ℕ × List ℕ). e.1) es)) (entries_made nat_cmp_total file_entry s.files (numbers_rise s.next_file s.files is.fields.files)) in
      let values = values_made s.files in
      let few = few_bytes s.next_file [] s.files is.fields.files (omega arith) in
      omega (arith, entries, values, few)

  number_is : (f : FileImage) → IsItem s.files f → (1 ≤ f.number) × (f.number < s.next_file)
  number_is f at =
      let (above, within) = and_true (is_above (field.last_file at.front) f.number) (is_within 1 (s.next_file - 1) f.number) (fits f at).number.1 in
      let (least, most) = and_true (nat_le 1 f.number) (nat_le f.number (s.next_file - 1)) within in
      let low = at_most 1 f.number least in
      let high = at_most f.number (s.next_file - 1) most in
      (low, omega (arith, low, high))

  name_is : (f : FileImage) → IsItem s.files f → (name : List ℕ) (number : ℕ) → name_entry f ≡ Some (name, number) → IsName name
  name_is f at name number entry =
      let (named, numbered) = name_of f name number entry in
      let (short, long) = and_true (nat_le 0 (length f.name)) (nat_le (length f.name) 255) (fits f at).name_size.1 in
      subst IsName named (record {
        some = some_name f.name f.number (name, number) entry;
        few = at_most (length f.name) 255 long;
        bytes = name_bytes f.name (and_true (list_all (is_within 1 255) f.name) (field.is_new_name at.front f.name) (fits f at).name).0;
      })

  pub files_are : AreFiles s.next_file k.names k.files
  files_are = record {
    count = count;
    total = sizes;
    numbers = λ number bytes found.
        let (f, at, same, content) = file_item s number bytes found in
        subst (λ n. (1 ≤ n) × (n < s.next_file)) same (number_is f at);
    bytes = λ number bytes found.
        let (f, at, same, content) = file_item s number bytes found in
        subst (All IsByte) content (bytes_of f.bytes (fits f at).bytes);
    named = λ name number found.
        let (f, at, entry) = name_item s name number found in
        let (named, numbered) = name_of f name number entry in
        (name_is f at name number entry, ap (λ n. is_some (map.get k.files n)) (sym numbered) ∙ ap is_some (item_file s order f at));
    one_name = λ a b number found too.
        let (f, at, entry) = name_item s a number found in
        let (g, by, other) = name_item s b number too in
        let (named, numbered) = name_of f a number entry in
        let (named_too, numbered_too) = name_of g b number other in
        let same = order.files f g at by (numbered ∙ sym numbered_too) in
        sym named ∙ ap (λ (h : FileImage). h.name) same ∙ named_too;
  }

  -- open files
  there_by : (o : ObjectImage) (front : List DescriptionImage) (flags : ℕ) → ObjectFits s.files s.channels front flags o → IsOpenFile k.files (object_of o)
  there_by Console front flags fits = tt
  there_by (File number offset) front flags fits =
      let (f, at, same) = which_item (λ (g : FileImage). g.number == number) s.files fits.0.1 in
      let known = item_file s order f at in
      let word = fits.1.0 in
      (ap (λ n. is_some (map.get k.files n)) (sym (equal_numbers f.number number same)) ∙ ap is_some known, omega (arith, word))
  there_by (Stream conn side) front flags fits = tt
  there_by (Socket address) front flags fits = tt
  there_by (Listener address backlog pending) front flags fits = tt

  is_there : (d : DescId) (x : Description) → map.get k.descriptions d ≡ Some x → IsOpenFile k.files x.object
  is_there d x found =
      let (it, at, entry) = description_item s d x found in
      subst (IsOpenFile k.files) (ap (λ (e : DescId × Description). e.1.object) entry)
      (there_by it.object at.front it.flags (item_fits (IsListed s) s.descriptions it is.fields.descriptions at).what)

  named_there : (f : FileImage) → IsItem s.files f → (name : List ℕ) → f.name ≡ name → ((length name == 0) ≡ true) ⊎ (has_name k.names f.number ≡ true)
  named_there f at [] same = inl refl
  named_there f at (byte ∷ rest) same =
      inr (some_among-values name_total name_exact (λ n. n == f.number) k.names (byte ∷ rest) f.number (item_name s order f (byte ∷ rest) f.number at (ap (λ name. named_entry name f.number) same)) (same_number f.number))

  kept_item : (f : FileImage) → IsItem s.files f → is_kept k.names k.descriptions f.number ≡ true
  kept_item f at = ⊎_elim
      (λ named. ⊎_elim
      (λ empty. absurd (refused (length f.name == 0) named empty))
      (λ has. ap (λ b. b || has_open k.descriptions f.number) has)
      (named_there f at f.name refl))
      (λ open_somewhere.
      let (it, by, opens) = which_item (λ (d : DescriptionImage). whole.opens f.number d.object) s.descriptions open_somewhere in
      or_later (has_name k.names f.number) _
      (some_among-values desc_total desc_exact (λ (x : Description). is_file f.number x.object) k.descriptions it.id (description_entry it).1 (item_description s order it by) (opened_file f.number it.object opens)))
      (or_either (not (length f.name == 0)) (whole.is_opened s.descriptions f.number) (item_passes (whole.is_kept_file s.descriptions) s.files f (ends_of s is).kept at))

  pub open_files_are : AreOpenFiles k.names k.files k.descriptions
  open_files_are = record {
    there = is_there;
    kept = λ number bytes found.
        let (f, at, same, content) = file_item s number bytes found in
        subst (λ n. is_kept k.names k.descriptions n ≡ true) same (kept_item f at);
  }
