-- What a folder holds after a write or a cut: the file itself, and the others.
--     contents-write, get-write_other        after a write
--     contents-cut, get-cut_other            after a cut
--     same_files                             two folders that answer alike are equal
use Rattle.std.proofs.Common.{◌≡◌, ◌≢◌, ℕ, zero, suc, List, [], take, refl, sym, ap, subst, ◌∙◌}
use Rattle.std.specs.Prelude.{Option, Some, None, unwrap_or, OnSome, Result, Ok, Err, OnOk, OnErr}
use Rattle.std.specs.Option.{option_map_or}
use Rattle.std.specs.FinMap as map
use Rattle.views.proofs.MapLaws.{get_insert_same, get_insert_other, insert_same}
use Rattle.disk_folder.specs.Files.{FolderFiles, contents, overwritten, with_write, with_cut}
use Rattle.disk_folder.specs.declared.file_name.FileName.{FileName}
use Rattle.disk_folder.proofs.NameOrder.{name_total, name_exact}

pub same_files : (m n : FolderFiles) → ((q : FileName) → map.get m q ≡ map.get n q) → m ≡ n
same_files m n alike = map.same_map name_total name_exact m n alike

pub contents-write : (files : FolderFiles) (name : FileName) (at : ℕ) (bytes : List ℕ) → contents (with_write files name at bytes) name ≡ overwritten at bytes (contents files name)
contents-write files name at bytes = ap (λ found. unwrap_or found []) (get_insert_same name_total name_exact files name _)

pub get-write_same : (files : FolderFiles) (name : FileName) (at : ℕ) (bytes : List ℕ) → map.get (with_write files name at bytes) name ≡ Some (overwritten at bytes (contents files name))
get-write_same files name at bytes = get_insert_same name_total name_exact files name _

pub get-write_other : (files : FolderFiles) (name : FileName) (at : ℕ) (bytes : List ℕ) (q : FileName) → q ≢ name → map.get (with_write files name at bytes) q ≡ map.get files q
get-write_other files name at bytes q differ = get_insert_other name_total name_exact files name _ q differ

pub take-none : (n : ℕ) → ◌≡◌ {A = List ℕ} (take n []) []
take-none zero = refl
take-none (suc n) = refl

cut_by : FolderFiles → FileName → ℕ → Option (List ℕ) → FolderFiles
cut_by files name len found = option_map_or (λ bytes. map.insert files name (take len bytes)) found files

contents-cut_by : (files : FolderFiles) (name : FileName) (len : ℕ) (found : Option (List ℕ)) → map.get files name ≡ found → contents (cut_by files name len found) name ≡ take len (unwrap_or found [])
unfolding cut_by
contents-cut_by files name len None is = ap (λ f. unwrap_or f []) is ∙ sym (take-none len)
contents-cut_by files name len (Some bytes) is = ap (λ f. unwrap_or f []) (get_insert_same name_total name_exact files name _)

pub contents-cut : (files : FolderFiles) (name : FileName) (len : ℕ) → contents (with_cut files name len) name ≡ take len (contents files name)
unfolding cut_by
contents-cut files name len = contents-cut_by files name len (map.get files name) refl

get-cut_by : (files : FolderFiles) (name : FileName) (len : ℕ) (found : Option (List ℕ)) (q : FileName) → q ≢ name → map.get (cut_by files name len found) q ≡ map.get files q
unfolding cut_by
get-cut_by files name len None q differ = refl
get-cut_by files name len (Some bytes) q differ = get_insert_other name_total name_exact files name _ q differ

pub get-cut_other : (files : FolderFiles) (name : FileName) (len : ℕ) (q : FileName) → q ≢ name → map.get (with_cut files name len) q ≡ map.get files q
unfolding cut_by
get-cut_other files name len q differ = get-cut_by files name len (map.get files name) q differ

-- where the file is there
pub cut_there : (files : FolderFiles) (name : FileName) (len : ℕ) (bytes : List ℕ) → map.get files name ≡ Some bytes → with_cut files name len ≡ map.insert files name (take len bytes)
cut_there files name len bytes is = ap (λ found. option_map_or (λ bs. map.insert files name (take len bs)) found files) is

pub write_there : (files : FolderFiles) (name : FileName) (at : ℕ) (piece bytes : List ℕ) → map.get files name ≡ Some bytes → with_write files name at piece ≡ map.insert files name (overwritten at piece bytes)
write_there files name at piece bytes is = ap (λ found. map.insert files name (overwritten at piece (unwrap_or found []))) is

-- the bytes that are there already
pub same_there : (files : FolderFiles) (name : FileName) (bytes : List ℕ) → map.get files name ≡ Some bytes → map.insert files name bytes ≡ files
same_there files name bytes is = insert_same name_total name_exact files name bytes is

pub on_some : {A : Type 0} {r : Option A} {x : A} {P : Type 0} → r ≡ Some x → OnSome r P → P
on_some {P = P} is holds = subst (λ o. OnSome o P) is holds

pub on_ok_then : {A E P Q : Type 0} (r : Result A E) → OnOk r P → (P → Q) → OnOk r Q
on_ok_then (Ok v) p then = then p
on_ok_then (Err e) p then = tt

pub on_err_then : {A E P Q : Type 0} (r : Result A E) → OnErr r P → (P → Q) → OnErr r Q
on_err_then (Ok v) p then = tt
on_err_then (Err e) p then = then p
