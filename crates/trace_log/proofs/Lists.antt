-- Lists of records and their bytes
use Rattle.std.proofs.Common.{◌≡◌, ℕ, ◌<◌, ◌≤◌, List, [], ◌∷◌, ◌++◌, take, drop, length, refl, sym, ap, ◌∙◌, arith, append_assoc, length-append, length-drop, append-nil, subst, ◌+◌, ◌-◌, get_or, Bool, true, false, IsTrue}
use Rattle.std.specs.List.{list_all}
use Rattle.std.proofs.lemmas.List.{take-append-drop, take_more}
use Rattle.std.proofs.Math.Seq.{take-length}
use Rattle.std.proofs.lemmas.List.Folds.{list_all_at}
use Rattle.sys_abi.specs.declared.record.Record.{Record}
use Rattle.trace_log.specs.declared.fields.Fields.{Fields}
use Rattle.trace_log.specs.Spelling.{HasSpelling, AllSpelled, Spell, IsBadAt, BeginsWithNone, spelling, spellings, fields_of, bytes_of, is_spellable, IsInRange}
use Rattle.trace_log.proofs.Bytes.{spelling-injective, take-bytes_of, drop-bytes_of}

-- an element of a list of which each passes
list_all-at : {A : Type 0} (p : A → Bool) (xs : List A) (i : ℕ) (d : A) → IsTrue (list_all p xs) → i < length xs → IsTrue (p (get_or xs i d))
list_all-at p xs i d all below =
    elim (p (get_or xs i d)) as (λ b. p (get_or xs i d) ≡ b → IsTrue (p (get_or xs i d))) [ true ↦ λ is. is | false ↦ λ is. let none = list_all_at p xs i d below is in cc ] refl

AllSpelled-push : (rs : List Record) (r : Record) → AllSpelled rs → HasSpelling r → AllSpelled (rs ++ r ∷ [])
AllSpelled-push [] r all has = (has, tt)
AllSpelled-push (q ∷ rs) r all has = (all.0, AllSpelled-push rs r all.1 has)

spellings-push : (rs : List Record) (r : Record) → spellings (rs ++ r ∷ []) ≡ spellings rs ++ spelling r
spellings-push [] r = refl
spellings-push (q ∷ rs) r = ap (λ bytes. spelling q ++ bytes) (spellings-push rs r) ∙ sym (append_assoc (spelling q) (spellings rs) (spelling r))

-- the records so far, and one more
pub Spell-push : (rs : List Record) (r : Record) (bytes : List ℕ) → Spell rs bytes → HasSpelling r → Spell (rs ++ r ∷ []) (bytes ++ spelling r)
Spell-push rs r bytes so_far has = record {
  each = AllSpelled-push rs r so_far.each has;
  whole = spellings-push rs r ∙ ap (λ front. front ++ spelling r) so_far.whole;
}

-- the same, where the next record is that of a list at an index
pub Spell-more : (records : List Record) (i : ℕ) (d : Record) (bytes longer : List ℕ) (fields : Fields) → i < length records → Spell (take i records) bytes → IsTrue (list_all is_spellable records) → IsInRange (get_or records i d) → fields ≡ fields_of (get_or records i d) → longer ≡ bytes ++ bytes_of fields → Spell (take (i + 1) records) longer
Spell-more records i d bytes longer fields below so_far all range is put =
    subst (λ rs. Spell rs longer) (sym (take_more records i d below))
    (subst (λ w. Spell (take i records ++ get_or records i d ∷ []) w) (sym (put ∙ ap (λ f. bytes ++ bytes_of f) is))
    (Spell-push (take i records) (get_or records i d) bytes so_far (record { in_range = range; spellable = list_all-at is_spellable records i d all below })))

-- each of them can be spelled
pub AllSpelled-list_all : (rs : List Record) → AllSpelled rs → IsTrue (list_all is_spellable rs)
AllSpelled-list_all [] all = refl
AllSpelled-list_all (r ∷ rs) all = rw all.0.spellable (AllSpelled-list_all rs all.1)

-- what was read so far, and what is left
pub record ReadTo (bytes : List ℕ) (records : List Record) (rest : List ℕ) : Type 0 where
  pub front : AllSpelled records
  pub whole : spellings records ++ rest ≡ bytes

ReadTo-next : (bytes : List ℕ) (records : List Record) (rest : List ℕ) (r : Record) → ReadTo bytes records rest → HasSpelling r → spelling r ≡ take 16 rest → ReadTo bytes (records ++ r ∷ []) (drop 16 rest)
ReadTo-next bytes records rest r so_far has here = record {
  front = AllSpelled-push records r so_far.front has;
  whole =
      ap (λ front. front ++ drop 16 rest) (spellings-push records r)
      ∙ append_assoc (spellings records) (spelling r) (drop 16 rest)
      ∙ ap (λ front. spellings records ++ (front ++ drop 16 rest)) here
      ∙ ap (λ back. spellings records ++ back) (take-append-drop 16 rest)
      ∙ so_far.whole;
}

-- the same, where the records and the rest are as the code has them
pub ReadTo-push : (bytes : List ℕ) (records longer : List Record) (rest : List ℕ) (r : Record) → ReadTo bytes records rest → HasSpelling r × (16 ≤ length rest) × (spelling r ≡ take 16 rest) → longer ≡ records ++ r ∷ [] → ReadTo bytes longer (take (length rest - 16) (drop 16 rest))
ReadTo-push bytes records longer rest r so_far here put =
    subst (λ rs. ReadTo bytes rs (take (length rest - 16) (drop 16 rest))) (sym put)
    (subst (λ left. ReadTo bytes (records ++ r ∷ []) left) (sym (ap (λ n. take n (drop 16 rest)) (sym (length-drop 16 rest)) ∙ take-length (drop 16 rest)))
    (ReadTo-next bytes records rest r so_far here.0 here.2))

-- the bytes of records are those of no others
same_records : (rs qs : List Record) → AllSpelled rs → AllSpelled qs → spellings rs ≡ spellings qs → rs ≡ qs
same_records [] [] all others e = refl
same_records [] (q ∷ qs) all others e = cc
same_records (r ∷ rs) [] all others e = cc
same_records (r ∷ rs) (q ∷ qs) all others e =
    let first = spelling-injective r q all.0 others.0 (sym (take-bytes_of (fields_of r) (spellings rs)) ∙ ap (take 16) e ∙ take-bytes_of (fields_of q) (spellings qs)) in
    let more = same_records rs qs all.1 others.1 (sym (drop-bytes_of (fields_of r) (spellings rs)) ∙ ap (drop 16) e ∙ drop-bytes_of (fields_of q) (spellings qs)) in
    cc

pub Spell-unique : (rs qs : List Record) (bytes : List ℕ) → Spell rs bytes → Spell qs bytes → rs ≡ qs
Spell-unique rs qs bytes one other = same_records rs qs one.each other.each (one.whole ∙ sym other.whole)

-- where records are followed by something that begins with none, the bytes are those of no records
no_others : (before rs : List Record) (rest : List ℕ) → AllSpelled rs → 0 < length rest → BeginsWithNone rest → spellings before ++ rest ≡ spellings rs → ⊥
no_others [] [] rest all more none e = let l = ap length e in omega arith
no_others [] (r ∷ rs) rest all more none e = none r (spellings rs) all.0 (sym e)
no_others (b ∷ before) [] rest all more none e = cc
no_others (b ∷ before) (r ∷ rs) rest all more none e =
    no_others before rs rest all.1 more none
    (sym (drop-bytes_of (fields_of b) (spellings before ++ rest)) ∙ ap (drop 16) (sym (append_assoc (spelling b) (spellings before) rest) ∙ e) ∙ drop-bytes_of (fields_of r) (spellings rs))

pub Spell-not_bad : (rs : List Record) (bytes : List ℕ) (place : ℕ) → Spell rs bytes → IsBadAt bytes place → ⊥
Spell-not_bad rs bytes place spelled bad = no_others bad.before rs bad.rest spelled.each bad.more bad.none (bad.whole ∙ sym spelled.whole)

-- where the next bytes begin with no record, this is the place
pub ReadTo-bad : (bytes : List ℕ) (records : List Record) (rest : List ℕ) (place : ℕ) → ReadTo bytes records rest → place ≡ length bytes - length rest → 0 < length rest → BeginsWithNone rest → IsBadAt bytes place
ReadTo-bad bytes records rest place so_far at more none = record {
  before = records;
  rest = rest;
  front = so_far.front;
  whole = so_far.whole;
  at_place = let total : length (spellings records) + length rest ≡ length bytes = sym (length-append (spellings records) rest) ∙ ap length so_far.whole in omega arith;
  more = more;
  none = none;
}

-- at the end of the bytes all are read
pub ReadTo-end : (bytes : List ℕ) (records : List Record) (rest : List ℕ) → ReadTo bytes records rest → length rest ≡ 0 → Spell records bytes
ReadTo-end bytes records [] so_far none = record { each = so_far.front; whole = sym (append-nil (spellings records)) ∙ so_far.whole }
ReadTo-end bytes records (x ∷ rest) so_far none = absurd (omega arith)
