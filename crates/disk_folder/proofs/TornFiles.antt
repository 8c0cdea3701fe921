-- What stays in a torn write, and which files are among its outcomes.
--     front_stays, rest_stays        the bytes in front of the range and behind it
--     same_torn, write_torn, cut_torn      nothing was done, and all of it
use Rattle.std.proofs.Common.{◌≡◌, ◌⊎◌, ℕ, ◌+◌, ◌-◌, ◌≤◌, ◌<◌, min, List, ◌++◌, length, take, drop, inl, inr, refl, sym, ap, subst, ◌∙◌, arith, length-append, length-drop}
use Rattle.std.specs.Prelude.{IsSome}
use Rattle.std.proofs.lemmas.List.{take-take, take-append-le, length-take, take_min}
use Rattle.std.proofs.lemmas.Bool.{cases_lt}
use Rattle.std.proofs.Math.Seq.{drop-append_seam, take-length}
use Rattle.std.proofs.Math.ListN.{drop_of_length-le}
use Rattle.disk_folder.specs.Files.{FolderFiles, contents, overwritten, with_write}
use Rattle.disk_folder.specs.Crash.{Torn, TornBytes}
use Rattle.disk_folder.specs.declared.file_name.FileName.{FileName}
use Rattle.disk_folder.proofs.FilesAfter.{contents-write, get-write_other, get-write_same}

-- bytes in front of the range, where the file has them
pub front_stays : (at n : ℕ) (old new : List ℕ) (i : ℕ) → TornBytes at n old new → i ≤ at → i ≤ length old → take i new ≡ take i old
front_stays at n old new i torn le le' = sym (take-take i (min at (length old)) new (omega arith)) ∙ ap (take i) torn.front ∙ take-take i at old le

take_front : (at : ℕ) (old rest : List ℕ) → take (min at (length old)) (take at old ++ rest) ≡ take at old
take_front at old rest =
    let size = length-take at old in
    take-append-le (min at (length old)) (take at old) rest (omega (arith, size)) ∙ ap (λ n. take n (take at old)) (sym size) ∙ take-length (take at old)

overwritten_front : (at : ℕ) (bytes old rest : List ℕ) → take (min at (length old)) (take at old ++ bytes ++ rest) ≡ take at old
overwritten_front at bytes old rest =
    let size = length-take at old in
    take-append-le (min at (length old)) (take at old ++ bytes) rest (omega (arith, size, length-append (take at old) bytes)) ∙ take_front at old bytes

behind_within : (at : ℕ) (bytes old : List ℕ) → at ≤ length old → drop (at + length bytes) (overwritten at bytes old) ≡ drop (at + length bytes) old
behind_within at bytes old within =
    let front = take at old ++ bytes in
    let size : length front ≡ at + length bytes = omega (arith, length-take at old, length-append (take at old) bytes) in
    ap (λ n. drop n (front ++ drop (at + length bytes) old)) (sym size) ∙ drop-append_seam front _

behind_past : (at : ℕ) (bytes old : List ℕ) → length old ≤ at → drop (at + length bytes) (overwritten at bytes old) ≡ drop (at + length bytes) old
behind_past at bytes old past =
    let rest = drop_of_length-le old {i = at + length bytes} (omega arith) in
    let size = ap length rest in
    drop_of_length-le (overwritten at bytes old) {i = at + length bytes} (omega (arith, length-take at old, length-append (take at old) bytes, length-append (take at old ++ bytes) (drop (at + length bytes) old), size)) ∙ sym rest

behind_overwritten : (at : ℕ) (bytes old : List ℕ) → (at < length old) ⊎ (length old ≤ at) → drop (at + length bytes) (overwritten at bytes old) ≡ drop (at + length bytes) old
behind_overwritten at bytes old (inl within) = behind_within at bytes old (omega arith)
behind_overwritten at bytes old (inr past) = behind_past at bytes old past

pub overwritten_torn : (at : ℕ) (bytes old : List ℕ) → TornBytes at (length bytes) old (overwritten at bytes old)
overwritten_torn at bytes old =
    let size : length (overwritten at bytes old) ≡ min at (length old) + length bytes + (length old - (at + length bytes)) =
    omega (arith, length-take at old, length-append (take at old) bytes, length-append (take at old ++ bytes) (drop (at + length bytes) old), length-drop (at + length bytes) old) in
    record {
      front = overwritten_front at bytes old _;
      behind = behind_overwritten at bytes old (cases_lt at (length old));
      no_shorter = omega (arith, size);
      no_longer = omega (arith, size);
    }

pub same_bytes_torn : (at n : ℕ) (old : List ℕ) → TornBytes at n old old
same_bytes_torn at n old = record {
  front = take_min at old;
  behind = refl;
  no_shorter = omega arith;
  no_longer = omega arith;
}

pub same_torn : (name : FileName) (at n : ℕ) (files : FolderFiles) → Torn name at n files files
same_torn name at n files = record { others = λ q differ. refl; there = λ h. h; bytes = same_bytes_torn at n (contents files name) }

pub write_torn : (name : FileName) (at n : ℕ) (bytes : List ℕ) (files : FolderFiles) → length bytes ≡ n → Torn name at n files (with_write files name at bytes)
write_torn name at n bytes files size = record {
  others = get-write_other files name at bytes;
  there = λ _. subst IsSome (sym (get-write_same files name at bytes)) refl;
  bytes = subst (λ xs. TornBytes at n (contents files name) xs) (sym (contents-write files name at bytes)) (subst (λ m. TornBytes at m (contents files name) (overwritten at bytes (contents files name))) size (overwritten_torn at bytes (contents files name)));
}
