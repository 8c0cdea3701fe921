-- The files of a table and their names, taken in the order of the files' numbers.
--     files_begun, files_on, files_fewer, files_done
--     adds_nothing, adds_this      what a file adds that has no name, and one that has
--     AreNamed t seen above        the names of the files up to this number are there
--     names_begun, names_on, names_done
use Rattle.std.proofs.Common.{◌≡◌, ◌⊎◌, ◌<◌, ℕ, Less, Equal, Greater, true, false, cond, List, [], inl, inr, refl, sym, ap, subst, ◌∙◌, arith}
use Rattle.std.specs.Prelude.{Option, Some, None, is_some, find, nat_lt, ◌==◌}
use Rattle.std.specs.Ordering.{nat_cmp, is_lt}
use Rattle.std.specs.Option.{option_map_or}
use Rattle.std.specs.Cmp.{nat_cmp_total}
use Rattle.std.specs.FinMap as map
use Rattle.std.specs.FinMap.{nat_cmp-IsAntisymmetric}
use Rattle.views.proofs.MapLaws.{true_false}
use Rattle.views.specs.NumberMap.{is_above}
use Rattle.sys_abi.proofs.OrderLaws.{name_total, name_exact}
use Rattle.vfs_files.specs.FileTable.{FileTable, Contents}
use Rattle.vfs_files.specs.Keeping.{IsWhole}
use Rattle.vfs_files.specs.Names.{Names, IsNameOf}
use Rattle.seen_kernel.specs.Parts.{IsPart}
use Rattle.seen_kernel.specs.Files.{with_file, AddsName}
use Rattle.leader_vote.proofs.KeptOwners.{value_of}
use Rattle.leader_vote.proofs.Walks.{count_of, next_is, walked, none_left}
use Rattle.seen_kernel.proofs.Parts.{nothing_yet, part_more, has_this, has_more, all_of_it}
use Rattle.seen_kernel.proofs.Fronts.{IsFront, front_on, front_fewer, front_done}

-- the test of a look-up above a number is the order's
above_by_order : (a k : ℕ) → is_above (Some a) k ≡ is_lt (nat_cmp a k)
above_by_order a k =
    elim (nat_lt a k) as (λ b. b ≡ is_lt (cond b Less (cond (a == k) Equal Greater))) [
      | true ↦ refl
      | false ↦ elim (a == k) as (λ b. false ≡ is_lt (cond b Equal Greater)) [ true ↦ refl | false ↦ refl ]
    ]

least : (k : ℕ) → is_above (Some 0) k ≡ false → k ≡ 0
least k behind = grind arith

abbrev pub FilesFront : Contents → Contents → ℕ → Type 0
FilesFront files seen above = IsFront files files seen (is_above (Some above))

pub files_begun : (files : Contents) → FilesFront files (with_file files map.empty 0) 0
files_begun files = by (map.get files 0) refl
  where
    by : (found : Option (List ℕ)) → map.get files 0 ≡ found
        → FilesFront files (option_map_or (λ bytes. map.insert map.empty 0 bytes) found map.empty) 0
    by None is = record {
      part = nothing_yet files;
      passed = λ k has behind.
          true_false (sym has ∙ ap is_some (ap (map.get files) (least k behind) ∙ is));
    }
    by (Some bytes) is = record {
      part = part_more nat_cmp_total nat_cmp-IsAntisymmetric files map.empty 0 bytes (nothing_yet files) is;
      passed = λ k has behind.
          has_this nat_cmp_total nat_cmp-IsAntisymmetric map.empty 0 bytes k (least k behind);
    }

module _ (files : Contents) (above file : ℕ)
    (next : find (is_above (Some above)) (map.keys files) ≡ Some file) where
  pub files_on : (seen : Contents) → FilesFront files seen above
      → FilesFront files (with_file files seen file) file
  files_on seen front =
      let there = (next_is nat_cmp_total nat_cmp-IsAntisymmetric files is_above (λ k. refl) above_by_order
      (Some above) file next).0 in
      let x = value_of (map.get files file) there in
      subst (λ found. FilesFront files
      (option_map_or (λ bytes. map.insert seen file bytes) found seen) file)
      (sym x.1)
      (front_on nat_cmp_total nat_cmp-IsAntisymmetric files is_above (λ k. refl) above_by_order files seen
      (Some above) file x.0 next x.1 front)

  pub files_fewer : count_of (is_above (Some file)) (map.keys files)
      < count_of (is_above (Some above)) (map.keys files)
  files_fewer =
      front_fewer nat_cmp_total nat_cmp-IsAntisymmetric files is_above (λ k. refl)
      above_by_order (Some above) file next

pub files_done : (files seen : Contents) (above : ℕ)
    → find (is_above (Some above)) (map.keys files) ≡ None → FilesFront files seen above → seen ≡ files
files_done files seen above none front =
    front_done nat_cmp_total nat_cmp-IsAntisymmetric files is_above (λ k. refl) above_by_order files seen
    (Some above) (λ k. refl) none front

-- names

pub adds_nothing : (t : FileTable) (file : ℕ) (seen : Names)
    → ((name : List ℕ) → map.get t.names name ≡ Some file → name ≡ []) → AddsName t file seen seen
adds_nothing t file seen unnamed = record {
  part = λ part. part;
  kept = λ name has. has;
  own = λ name is. inl (unnamed name is);
}

pub adds_this : (t : FileTable) (file : ℕ) (seen : Names) (name : List ℕ) → IsNameOf t.names file name
    → (name ≡ [] → ⊥) → AddsName t file seen (map.insert seen name file)
adds_this t file seen name is some = record {
  part = λ part.
      part_more name_total name_exact t.names seen name file part
      (elim is.own [ inl own ↦ own | inr none ↦ absurd (some none) ]);
  kept = λ other has. has_more name_total name_exact seen name file other has;
  own = λ other named. inr (has_this name_total name_exact seen name file other (is.only other named));
}

pub record AreNamed (t : FileTable) (seen : Names) (above : ℕ) : Type 0 where
  pub part : IsPart t.names seen
  pub passed : (name : List ℕ) (file : ℕ) → map.get t.names name ≡ Some file
      → is_above (Some above) file ≡ false → (name ≡ []) ⊎ (is_some (map.get seen name) ≡ true)

pub names_begun : (t : FileTable) (seen : Names) → AddsName t 0 map.empty seen → AreNamed t seen 0
names_begun t seen adds = record {
  part = adds.part (nothing_yet t.names);
  passed = λ name file is behind. adds.own name (is ∙ ap Some (least file behind));
}

pub names_on : (t : FileTable) (old new : Names) (above file : ℕ) → IsWhole t
    → find (is_above (Some above)) (map.keys t.files) ≡ Some file → AreNamed t old above
    → AddsName t file old new → AreNamed t new file
names_on t old new above file whole next named adds = record {
  part = adds.part named.part;
  passed = λ name other is behind.
      let x = value_of (map.get t.files other) (whole.named name other is) in
      elim (walked nat_cmp_total nat_cmp-IsAntisymmetric t.files is_above (λ k. refl) above_by_order
      (Some above) file other x.0 next x.1 behind) [
        | inl same ↦ adds.own name (is ∙ ap Some same)
        | inr before ↦ elim (named.passed name other is before) [
          | inl empty ↦ inl empty
          | inr has ↦ inr (adds.kept name has)
        ]
      ];
}

pub names_done : (t : FileTable) (seen : Names) (above : ℕ) → IsWhole t → map.get t.names [] ≡ None
    → find (is_above (Some above)) (map.keys t.files) ≡ None → AreNamed t seen above → seen ≡ t.names
names_done t seen above whole unnamed none named =
    all_of_it name_total name_exact t.names seen named.part (λ name has.
    let file = value_of (map.get t.names name) has in
    let x = value_of (map.get t.files file.0) (whole.named name file.0 file.1) in
    elim (named.passed name file.0 file.1
    (none_left nat_cmp_total nat_cmp-IsAntisymmetric t.files is_above (λ k. refl) above_by_order
    (Some above) file.0 x.0 none x.1)) [
      | inl empty ↦
          true_false (sym has ∙ ap is_some (ap (map.get t.names) empty ∙ unnamed))
      | inr there ↦ there
    ])
