-- What reads give after the steps of a `put_set`.
--     insert_over, written_file      a file cut to nothing and written
--     written_body                   the manifest behind its gate
--     images_keep, images_there      the images of a slot
use Rattle.std.proofs.Common.{◌≡◌, ◌≢◌, ◌⊎◌, ℕ, suc, ◌+◌, ◌<◌, ◌≤◌, inl, inr, List, [], ◌∷◌, ◌++◌, length, take, drop, refl, sym, ap, ◌∙◌, arith, length-take, length-append, length-drop, append-nil, add-one, get_or}
use Rattle.std.specs.Prelude.{Option, Some, None, unwrap_or, option_map, map}
use Rattle.std.specs.FinMap as files_by_name
use Rattle.std.proofs.lemmas.List.{take_at, drop_all, drop_more}
use Rattle.views.proofs.MapLaws.{get_insert_same, get_insert_other, insert_insert, same_or_other}
use Rattle.disk_folder.specs.Files.{FolderFiles, contents, overwritten, with_write, with_cut}
use Rattle.disk_folder.specs.declared.file_name.FileName.{FileName}
use Rattle.disk_folder.proofs.NameOrder.{name_total, name_exact}
use Rattle.disk_folder.proofs.FilesAfter.{same_files, contents-cut, contents-write, get-cut_other, cut_there, get-write_same}
use Rattle.image_store.specs.Slots.{manifest_name, manifest_of}
use Rattle.image_store.specs.FoundSets.{file_at, files_from}
use Rattle.image_store.specs.SlotWrites.{with_images, with_manifest}

-- an insert over a cut
pub insert_over : (files : FolderFiles) (name : FileName) (len : ℕ) (bytes : List ℕ) → files_by_name.insert (with_cut files name len) name bytes ≡ files_by_name.insert files name bytes
insert_over files name len bytes = same_files _ _ (λ q. at_name q (same_or_other name_total name_exact q name))
  where
    at_name : (q : FileName) → (q ≡ name) ⊎ (q ≢ name) → files_by_name.get (files_by_name.insert (with_cut files name len) name bytes) q ≡ files_by_name.get (files_by_name.insert files name bytes) q
    at_name q (inl same) = ap (files_by_name.get (files_by_name.insert (with_cut files name len) name bytes)) same ∙ get_insert_same name_total name_exact (with_cut files name len) name bytes
        ∙ sym (ap (files_by_name.get (files_by_name.insert files name bytes)) same ∙ get_insert_same name_total name_exact files name bytes)
    at_name q (inr other) = get_insert_other name_total name_exact (with_cut files name len) name bytes q other ∙ get-cut_other files name len q other
        ∙ sym (get_insert_other name_total name_exact files name bytes q other)

overwritten_none : (bytes : List ℕ) → overwritten 0 bytes [] ≡ bytes
overwritten_none bytes = ap (λ rest. bytes ++ rest) (drop_all (0 + length bytes) [] (omega arith)) ∙ append-nil bytes

pub written_file : (files : FolderFiles) (name : FileName) (bytes : List ℕ) → with_write (with_cut files name 0) name 0 bytes ≡ files_by_name.insert files name bytes
written_file files name bytes =
    let none : contents (with_cut files name 0) name ≡ [] = contents-cut files name 0 in
    ap (λ old. files_by_name.insert (with_cut files name 0) name (overwritten 0 bytes old)) none
    ∙ ap (files_by_name.insert (with_cut files name 0) name) (overwritten_none bytes)
    ∙ insert_over files name 0 bytes

body_bytes : (bytes old : List ℕ) → 0 < length old → 0 < length bytes → take (length bytes) (overwritten 1 (drop 1 bytes) old) ≡ take 1 old ++ drop 1 bytes
body_bytes bytes old gate some = take_at (take 1 old ++ drop 1 bytes) _ (length bytes) (omega (arith, length-append (take 1 old) (drop 1 bytes), length-take 1 old, length-drop 1 bytes))

pub written_body : (slot : ℕ) (files : FolderFiles) (bytes : List ℕ) → 0 < length (manifest_of files slot) → 0 < length bytes → with_cut (with_write files (manifest_name slot) 1 (drop 1 bytes)) (manifest_name slot) (length bytes) ≡ with_manifest slot bytes files
unfolding with_manifest
written_body slot files bytes gate some =
    let name = manifest_name slot in
    let old = manifest_of files slot in
    cut_there (with_write files name 1 (drop 1 bytes)) name (length bytes) (overwritten 1 (drop 1 bytes) old) (get-write_same files name 1 (drop 1 bytes))
    ∙ insert_insert name_total name_exact files name (overwritten 1 (drop 1 bytes) old) (take (length bytes) (overwritten 1 (drop 1 bytes) old))
    ∙ ap (files_by_name.insert files name) (body_bytes bytes old gate some)

-- the files in front of the images, and those of other slots
pub images_keep : (slot index : ℕ) (images : List (List ℕ)) (files : FolderFiles) (q : FileName) → (q.slot ≢ slot) ⊎ (q.index < index) → files_by_name.get (with_images slot index images files) q ≡ files_by_name.get files q
images_keep slot index [] files q before = refl
images_keep slot index (image ∷ images) files q before =
    images_keep slot (suc index) images (files_by_name.insert files (record { slot = slot; index = index }) image) q (further before)
    ∙ get_insert_other name_total name_exact files (record { slot = slot; index = index }) image q (differs before)
  where
    further : (q.slot ≢ slot) ⊎ (q.index < index) → (q.slot ≢ slot) ⊎ (q.index < suc index)
    further (inl other) = inl other
    further (inr lt) = inr (omega arith)

    differs : (q.slot ≢ slot) ⊎ (q.index < index) → q ≢ record { slot = slot; index = index }
    differs (inl other) same = other (ap (λ n. n.slot) same)
    differs (inr lt) same = let i : q.index ≡ index = ap (λ n. n.index) same in absurd (omega arith)

pub images_there : (slot index : ℕ) (images : List (List ℕ)) (files : FolderFiles) → files_from (file_at (with_images slot index images files) slot) index (length images) ≡ map Some images
images_there slot index [] files = refl
images_there slot index (image ∷ images) files =
    let name : FileName = record { slot = slot; index = index } in
    let next = files_by_name.insert files name image in
    let here : file_at (with_images slot (suc index) images next) slot index ≡ Some image = images_keep slot (suc index) images next name (inr (omega arith)) ∙ get_insert_same name_total name_exact files name image in
    (λ i. here i ∷ images_there slot (suc index) images next i)

-- the manifest behind its gate, before what lies beyond is cut
pub body_length : (slot : ℕ) (files : FolderFiles) (bytes : List ℕ) → 0 < length (manifest_of files slot) → 0 < length bytes → length bytes ≤ length (manifest_of (with_write files (manifest_name slot) 1 (drop 1 bytes)) slot)
body_length slot files bytes gate some =
    let old = manifest_of files slot in
    let is : manifest_of (with_write files (manifest_name slot) 1 (drop 1 bytes)) slot ≡ overwritten 1 (drop 1 bytes) old = contents-write files (manifest_name slot) 1 (drop 1 bytes) in
    omega (arith, ap length is, length-append (take 1 old ++ drop 1 bytes) (drop (1 + length (drop 1 bytes)) old), length-append (take 1 old) (drop 1 bytes), length-take 1 old, length-drop 1 bytes)

-- one more image is written
pub images_more : (slot i : ℕ) (images : List (List ℕ)) (image : List ℕ) (a b : Option FolderFiles) → i < length images → image ≡ get_or images i image → b ≡ option_map (λ files. files_by_name.insert files (record { slot = slot; index = i + 1 }) image) a → option_map (with_images slot (i + 1 + 1) (drop (i + 1) images)) b ≡ option_map (with_images slot (i + 1) (drop i images)) a
images_more slot i images image a b lt is written =
    ap (option_map (with_images slot (i + 1 + 1) (drop (i + 1) images))) written ∙ at_files a
  where
    split : drop i images ≡ image ∷ drop (i + 1) images
    split = drop_more images i image lt ∙ ap (λ x. x ∷ drop (i + 1) images) (sym is)

    at_files : (a : Option FolderFiles) → option_map (with_images slot (i + 1 + 1) (drop (i + 1) images)) (option_map (λ files. files_by_name.insert files (record { slot = slot; index = i + 1 }) image) a) ≡ option_map (with_images slot (i + 1) (drop i images)) a
    at_files None = refl
    at_files (Some files) = ap Some (ap (λ n. with_images slot n (drop (i + 1) images) (files_by_name.insert files (record { slot = slot; index = i + 1 }) image)) (add-one (i + 1)) ∙ sym (ap (λ xs. with_images slot (i + 1) xs files) split))

-- the manifest stays while the images are written
pub images_gate : (slot : ℕ) (images : List (List ℕ)) (files : FolderFiles) → 0 < length (manifest_of files slot) → 0 < length (manifest_of (with_images slot 1 images files) slot)
images_gate slot images files some =
    let kept : manifest_of (with_images slot 1 images files) slot ≡ manifest_of files slot = ap (λ found. unwrap_or found []) (images_keep slot 1 images files (manifest_name slot) (inr (omega arith))) in
    omega (arith, ap length kept)
