-- Files put back in rising order of their numbers.
--     kept done number             the number, if its file was put back
--     IsRestored ..                of the files all but the rest were put back, with their names
--     IsRestored-none, -one, -all  none was yet, one more was, and all were
--     above, number_below, few, small, unused      what the next one asks for
use Rattle.std.proofs.Common.{◌≡◌, ◌≢◌, ◌⊎◌, ℕ, suc, ◌+◌, ◌<◌, ◌≤◌, Less, true, false, cond, T, List, [], ◌∷◌, ◌++◌, length, append_assoc, append-nil, map as mapped, inl, inr, refl, sym, ap, subst, ◌∙◌, arith}
use Rattle.std.specs.Prelude.{Option, Some, None, is_some, option_and_then, sum_by}
use Rattle.std.specs.Ordering.{eq_by_cmp, nat_cmp, ordering_reverse}
use Rattle.std.specs.Cmp.{nat_cmp_total}
use Rattle.std.specs.Cmp.Lexicographic.{nat_list_cmp_total}
use Rattle.std.specs.FinMap as map
use Rattle.std.specs.FinMap.{is_sorted, nat_cmp-IsAntisymmetric}
use Rattle.std.specs.FinMap.Entries.{put, by_order, below_all}
use Rattle.std.proofs.lemmas.List.Sums.{sum_by-cons}
use Rattle.std.proofs.lemmas.Bool.Decides.{nat_tests}
use Rattle.views.proofs.MapLaws.{true_false, key_tied, other_key, same_or_other, get_insert_same, get_insert_other, entries-empty}
use Rattle.views.proofs.Passes.{first, second}
use Rattle.sys_abi.specs.Names.{name_cmp}
use Rattle.vfs_files.specs.Names.{Names, IsNameOf}
use Rattle.vfs_files.specs.FileTable.{FileTable, Contents, bytes_of, with_name, after_restore, AllBelow}
use Rattle.rebuild_tables.proofs.Copies.{below_next, earlier, not_yet, find_behind}
use Rattle.rebuild_tables.proofs.FileNames.{name_exact}

abbrev pub kept : List (ℕ × List ℕ) → Option ℕ → Option ℕ
kept done number = option_and_then (λ n. cond (is_some (map.find nat_cmp n done)) (Some n) None) number

-- how many bytes these files have
abbrev total : List (ℕ × List ℕ) → ℕ
total es = sum_by length (mapped (λ e. e.1) es)

total-append : (es fs : List (ℕ × List ℕ)) → total (es ++ fs) ≡ total es + total fs
total-append [] fs = omega arith
total-append (e ∷ es) fs =
    let rest = total-append es fs in
    let one = sum_by-cons length e.1 (mapped (λ x. x.1) (es ++ fs)) in
    let two = sum_by-cons length e.1 (mapped (λ x. x.1) es) in
    one ∙ omega (arith, rest) ∙ ap (λ n. n + total fs) (sym two)

length-append : (es fs : List (ℕ × List ℕ)) → length (es ++ fs) ≡ length es + length fs
length-append [] fs = omega arith
length-append (e ∷ es) fs = let rest = length-append es fs in omega (arith, rest)

-- an entry above all others is put in at the end
put_last : (done rest : List (ℕ × List ℕ)) (e : ℕ × List ℕ) → T (is_sorted nat_cmp (done ++ e ∷ rest))
    → put nat_cmp e.0 e.1 done ≡ done ++ e ∷ []
put_last [] rest e sorted = refl
put_last (d ∷ done) rest e sorted =
    ap (λ r. by_order r ((e.0, e.1) ∷ d ∷ done) ((d.0, e.1) ∷ done) (d ∷ put nat_cmp e.0 e.1 done))
    (nat_cmp_total.antisymm e.0 d.0
    ∙ ap ordering_reverse
    (below_next nat_cmp_total nat_cmp-IsAntisymmetric d.0 done rest e (first _ _ sorted)))
    ∙ ap (λ (l : List (ℕ × List ℕ)). d ∷ l) (put_last done rest e (second _ _ sorted))

pub record IsRestored (names : Names) (files : Contents) (next : ℕ) (rest : List (ℕ × List ℕ))
    (t : FileTable) : Type 0 where
  pub done : List (ℕ × List ℕ)
  pub split : done ++ rest ≡ map.entries files
  pub files_are : map.entries t.files ≡ done
  pub names_are : (q : List ℕ) → map.get t.names q ≡ kept done (map.get names q)
  pub next_is : t.next_file ≡ next

none_kept : (number : Option ℕ) → kept [] number ≡ None
none_kept None = refl
none_kept (Some n) = refl

pub IsRestored-none : (names : Names) (files : Contents) (next : ℕ) (all : List (ℕ × List ℕ)) (t : FileTable)
    → all ≡ map.entries files → t ≡ record { names = map.empty; files = map.empty; next_file = next }
    → IsRestored names files next all t
IsRestored-none names files next all t is none = record {
  done = [];
  split = is;
  files_are = ap (λ (u : FileTable). map.entries u.files) none ∙ no_entries;
  names_are = λ q.
      ap (λ (u : FileTable). map.get u.names q) none ∙ map.get-empty name_cmp q
      ∙ sym (none_kept (map.get names q));
  next_is = ap (λ (u : FileTable). u.next_file) none;
}
  where
    no_entries : map.entries (map.empty {X = List ℕ} {R = nat_cmp}) ≡ []
    no_entries = entries-empty nat_cmp_total nat_cmp-IsAntisymmetric

module _ (names : Names) (files : Contents) (next : ℕ) (e : ℕ × List ℕ) (rest : List (ℕ × List ℕ))
    (t : FileTable) (r : IsRestored names files next (e ∷ rest) t) where
  in_order : T (is_sorted nat_cmp (r.done ++ e ∷ rest))
  in_order = subst (λ es. T (is_sorted nat_cmp es)) (sym r.split) (map.entries_sorted files)

  new_number : map.find nat_cmp e.0 r.done ≡ None
  new_number = not_yet nat_cmp_total nat_cmp-IsAntisymmetric r.done rest e in_order

  pub there : map.get files e.0 ≡ Some e.1
  there =
      map.get-entries files e.0 ∙ ap (map.find nat_cmp e.0) (sym r.split)
      ∙ find_behind nat_cmp e.0 r.done (e ∷ rest) new_number
      ∙ ap (λ b. cond b (Some e.1) (map.find nat_cmp e.0 rest))
      (key_tied nat_cmp_total nat_cmp-IsAntisymmetric e.0)

  pub number_below : ((number : ℕ) (bytes : List ℕ) → map.get files number ≡ Some bytes → number < next)
      → e.0 < t.next_file
  number_below numbers = subst (λ n. e.0 < n) (sym r.next_is) (numbers e.0 e.1 there)

  found_in : (q : ℕ) → map.get t.files q ≡ map.find nat_cmp q r.done
  found_in q = map.get-entries t.files q ∙ ap (map.find nat_cmp q) r.files_are

  less_number : (n m : ℕ) → nat_cmp n m ≡ Less → n < m
  less_number n m is = grind (arith, nat_tests)

  pub above : AllBelow t.files e.0
  above q is = by_found (map.find nat_cmp q r.done) refl (ap is_some (sym (found_in q)) ∙ is)
    where
      by_found : (found : Option (List ℕ)) → map.find nat_cmp q r.done ≡ found → is_some found ≡ true
          → q < e.0
      by_found None at some = true_false (sym some)
      by_found (Some v) at some =
          less_number q e.0
          (earlier nat_cmp_total nat_cmp-IsAntisymmetric r.done rest e q v in_order at)

  pub few : (most : ℕ) → map.len files ≤ most → map.len t.files < most
  few most limit =
      let all : map.len files ≡ length (r.done ++ e ∷ rest) =
      map.len-entries files ∙ ap length (sym r.split) in
      let now : map.len t.files ≡ length r.done = map.len-entries t.files ∙ ap length r.files_are in
      fewer (map.len t.files) (length r.done) (length rest) (map.len files) most now
      (all ∙ length-append r.done (e ∷ rest)) limit
    where
      fewer : (now done left all most : ℕ) → now ≡ done → all ≡ done + suc left → all ≤ most
          → now < most
      fewer now done left all most is sum limit = omega (arith, is, sum, limit)

  pub small : (most : ℕ) → sum_by length (map.values files) ≤ most → bytes_of t.files + length e.1 ≤ most
  unfolding bytes_of
  small most limit =
      let now : total (map.entries t.files) ≡ total r.done = ap total r.files_are in
      let all : total (map.entries files) ≡ total r.done + total (e ∷ rest) =
      ap total (sym r.split) ∙ total-append r.done (e ∷ rest) in
      let next_one : total (e ∷ rest) ≡ length e.1 + total rest =
      sum_by-cons length e.1 (mapped (λ x. x.1) rest) in
      less_bytes (total (map.entries t.files)) (total r.done) (length e.1) (total rest) (total (e ∷ rest))
      (total (map.entries files)) most now all next_one limit
    where
      less_bytes : (now done one left more all most : ℕ) → now ≡ done → all ≡ done + more
          → more ≡ one + left → all ≤ most → now + one ≤ most
      less_bytes now done one left more all most is sum rest limit = omega (arith, is, sum, rest, limit)

  module _ (name : List ℕ) (of : IsNameOf names e.0 name)
      (named : (q : List ℕ) (number : ℕ) → map.get names q ≡ Some number → 1 ≤ length q) where
    pub unused : (name ≡ []) ⊎ (map.get t.names name ≡ None)
    unused = elim of.own [
      | inl own ↦ inr (r.names_are name ∙ ap (kept r.done) own
          ∙ ap (λ (f : Option (List ℕ)). cond (is_some f) (Some e.0) None) new_number)
      | inr none ↦ inl none
    ]

    -- of a name of another file, or of no file, nothing changes
    kept_other : (number : Option ℕ) → number ≢ Some e.0
        → kept r.done number ≡ kept (r.done ++ e ∷ []) number
    kept_other None differ = refl
    kept_other (Some n) differ =
        ap (λ (f : Option (List ℕ)). cond (is_some f) (Some n) None) (sym (
        map.Entries.find-append nat_cmp nat_cmp_total r.done e.0 e.1 n new_number
        ∙ ap (λ b. cond b (Some e.1) (map.find nat_cmp n r.done))
        (other_number n (λ same. differ (ap Some same)))))
      where
        other_number : (n : ℕ) → n ≢ e.0 → eq_by_cmp nat_cmp n e.0 ≡ false
        other_number n differ = other_key nat_cmp_total nat_cmp-IsAntisymmetric n e.0 differ

    kept_own : kept (r.done ++ e ∷ []) (Some e.0) ≡ Some e.0
    kept_own =
        ap (λ (f : Option (List ℕ)). cond (is_some f) (Some e.0) None) (
        map.Entries.find-append nat_cmp nat_cmp_total r.done e.0 e.1 e.0 new_number
        ∙ ap (λ b. cond b (Some e.1) (map.find nat_cmp e.0 r.done))
        (key_tied nat_cmp_total nat_cmp-IsAntisymmetric e.0))

    own_name : (b : ℕ) (bs : List ℕ) → name ≡ b ∷ bs → map.get names (b ∷ bs) ≡ Some e.0
    own_name b bs is = elim of.own [
      | inl own ↦ ap (map.get names) (sym is) ∙ own
      | inr none ↦ absurd (nonempty b bs (sym is ∙ none))
    ]
      where
        nonempty : (b : ℕ) (bs : List ℕ) → b ∷ bs ≢ []
        nonempty b bs is = let long : suc (length bs) ≡ 0 = ap length is in absurd (omega (arith, long))

    -- the empty name is no file's
    nobody : name ≡ [] → (q : List ℕ) → map.get names q ≢ Some e.0
    nobody none q is =
        let empty : q ≡ [] = of.only q is ∙ none in
        let some : 1 ≤ length q = named q e.0 is in
        let zero_long : length q ≡ 0 = ap length empty in
        absurd (omega (arith, some, zero_long))

    with_names : (n : List ℕ) → name ≡ n → (q : List ℕ)
        → map.get (with_name t.names n e.0) q ≡ kept (r.done ++ e ∷ []) (map.get names q)
    with_names [] is q = r.names_are q ∙ kept_other (map.get names q) (nobody is q)
    with_names (b ∷ bs) is q = elim (same_or_other nat_list_cmp_total name_exact q (b ∷ bs)) [
      | inl same ↦
          ap (map.get (map.insert t.names (b ∷ bs) e.0)) same
          ∙ get_insert_same nat_list_cmp_total name_exact t.names (b ∷ bs) e.0 ∙ sym kept_own
          ∙ ap (kept (r.done ++ e ∷ [])) (sym (ap (map.get names) same ∙ own_name b bs is))
      | inr differ ↦
          get_insert_other nat_list_cmp_total name_exact t.names (b ∷ bs) e.0 q differ ∙ r.names_are q
          ∙ kept_other (map.get names q) (λ own. differ (of.only q own ∙ is))
    ]

    pub IsRestored-one : (n : FileTable) → n ≡ after_restore t e.0 name e.1
        → IsRestored names files next rest n
    IsRestored-one n is = record {
      done = r.done ++ e ∷ [];
      split = append_assoc r.done (e ∷ []) rest ∙ r.split;
      files_are =
          ap (λ (u : FileTable). map.entries u.files) is ∙ map.entries-insert nat_cmp_total t.files e.0 e.1
          ∙ ap (put nat_cmp e.0 e.1) r.files_are ∙ put_last r.done rest e in_order;
      names_are = λ q. ap (λ (u : FileTable). map.get u.names q) is ∙ with_names name refl q;
      next_is = ap (λ (u : FileTable). u.next_file) is ∙ r.next_is;
    }

module _ (names : Names) (files : Contents) (next : ℕ) (t : FileTable) (r : IsRestored names files next [] t)
    (named : (q : List ℕ) (number : ℕ) → map.get names q ≡ Some number
    → is_some (map.get files number) ≡ true) where
  all_done : r.done ≡ map.entries files
  all_done = sym (append-nil r.done) ∙ r.split

  pub files_back : t.files ≡ files
  files_back = map.same_entries_map t.files files (r.files_are ∙ all_done)

  kept_all : (q : List ℕ) (found : Option ℕ) → map.get names q ≡ found → kept r.done found ≡ found
  kept_all q None is = refl
  kept_all q (Some n) is =
      ap (λ b. cond b (Some n) None)
      (ap (λ es. is_some (map.find nat_cmp n es)) all_done ∙ ap is_some (sym (map.get-entries files n))
      ∙ named q n is)

  pub names_back : t.names ≡ names
  names_back =
      map.same_map nat_list_cmp_total name_exact t.names names
      (λ q. r.names_are q ∙ kept_all q (map.get names q) refl)

  pub IsRestored-all : t ≡ record { names = names; files = files; next_file = next }
  IsRestored-all i = record { names = names_back i; files = files_back i; next_file = r.next_is i }
