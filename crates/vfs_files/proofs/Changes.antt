-- What a change of one file does to the bytes of all.
use Rattle.std.proofs.Common.{◌≡◌, ℕ, ◌+◌, ◌-◌, ◌≤◌, List, [], ◌∷◌, length, refl, sym, ap, ◌∙◌, arith}
use Rattle.std.specs.Prelude.{◌||◌, nat_lt, Option, Some, unwrap_or, Result, Ok, Err, IfOk}
use Rattle.std.specs.Option.{option_map_or}
use Rattle.std.specs.FinMap as map
use Rattle.vfs_files.specs.declared.limits.TheConstants.{TOTAL_LIMIT, LAST_END}
use Rattle.vfs_files.specs.Bytes.{written}
use Rattle.vfs_files.specs.Room.{is_past}
use Rattle.vfs_files.specs.FileTable.{Contents, bytes_of, contents, with_write, truncated, is_too_big}
use Rattle.vfs_files.proofs.Sums.{bytes_of-insert, bytes_among, bytes_of-remove}

pub if_ok_then : {A E : Type 0} {P Q : A → Type 0} (r : Result A E) → IfOk r P → ((a : A) → P a → Q a) → IfOk r Q
if_ok_then (Ok a) h f = f a h
if_ok_then (Err e) h f = tt

pub contents-found : (files : Contents) (file : ℕ) (bytes : List ℕ) → Some bytes ≡ map.get files file → contents files file ≡ bytes
contents-found files file bytes is = ap (λ found. unwrap_or found []) (sym is)

-- the file is among all
pub found_among : (files : Contents) (file total : ℕ) (bytes : List ℕ) → Some bytes ≡ map.get files file → total ≡ bytes_of files → length bytes ≤ total
found_among files file total bytes is sum =
    let among = bytes_among files file in
    let same = ap length (contents-found files file bytes is) in
    omega (arith, among, same, sum)

pub sum-write : (files : Contents) (file at total : ℕ) (piece bytes : List ℕ) → Some bytes ≡ map.get files file → total ≡ bytes_of files
    → bytes_of (with_write files file at piece) + length bytes ≡ total + length (written at piece bytes)
sum-write files file at total piece bytes is sum =
    let same = contents-found files file bytes is in
    ap (λ n. bytes_of (with_write files file at piece) + n) (ap length (sym same))
    ∙ bytes_of-insert files file (written at piece (contents files file))
    ∙ ap (λ n. n + length (written at piece (contents files file))) (sym sum)
    ∙ ap (λ b. total + length (written at piece b)) same

less_then_more : (all part total size : ℕ) → all + part ≡ total + size → part ≤ total → all ≡ total - part + size
less_then_more all part total size is among = omega arith

pub too_big-is_past : (files : Contents) (file at total : ℕ) (piece bytes : List ℕ) → Some bytes ≡ map.get files file → total ≡ bytes_of files → is_too_big files file at piece ≡ is_past total at piece bytes
too_big-is_past files file at total [] bytes is sum = refl
too_big-is_past files file at total (byte ∷ piece) bytes is sum =
    ap (λ n. nat_lt TOTAL_LIMIT n || nat_lt LAST_END (at + length (byte ∷ piece)))
    (less_then_more _ (length bytes) total (length (written at (byte ∷ piece) bytes)) (sum-write files file at total (byte ∷ piece) bytes is sum) (found_among files file total bytes is sum))

pub sum-equal : (all other part total size : ℕ) → all + part ≡ total + size → other + part ≡ total + size → other ≡ all
sum-equal all other part total size a b = omega arith

pub truncated-found : (files : Contents) (file : ℕ) (bytes : List ℕ) → Some bytes ≡ map.get files file → map.insert files file [] ≡ truncated files file
truncated-found files file bytes is = ap (λ found. option_map_or (λ bytes. map.insert files file []) found files) is

pub sum-truncated : (files : Contents) (file : ℕ) (bytes : List ℕ) → Some bytes ≡ map.get files file → length bytes + bytes_of (map.insert files file []) ≡ bytes_of files
sum-truncated files file bytes is =
    let all = bytes_of-insert files file [] in
    let same = ap length (contents-found files file bytes is) in
    omega (arith, all, same)

pub sum-removed : (files left : Contents) (file count : ℕ) (found : Option (List ℕ)) → found ≡ map.get files file → left ≡ map.remove files file → count ≡ length (unwrap_or found []) → count + bytes_of left ≡ bytes_of files
sum-removed files left file count found is left_is count_is =
    let all = bytes_of-remove files file in
    let same = ap (λ x. length (unwrap_or x [])) is in
    let rest = ap bytes_of left_is in
    omega (arith, all, same, rest, count_is)
