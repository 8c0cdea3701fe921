-- Look-ups and insertions in an ordered map of texts, seen as a map from names to bytes
use Rattle.std.proofs.Common.{◌≡◌, ℕ, List, [], ◌∷◌, map, Bool, true, false, cond, Option, Some, option_map, Vec, vec_items, string_bytes, refl, sym, ap, ◌∙◌}
use Rattle.std.specs.Ordering.{nat_cmp, eq_by_cmp, is_eq}
use Rattle.std.specs.Cmp.{eq_by_cmp_equiv}
use Rattle.std.specs.Cmp.Lexicographic.{slice_cmp, nat_list_cmp_total}
use Rattle.std.specs.FinMap as fin
use Rattle.std.specs.Map.{lookup}
use Rattle.std.specs.BTreeMap as tree
use Rattle.std.specs.BTreeMap.{BTreeMap}
use Rattle.std.specs.String.{string_cmp}
use Rattle.std.specs.Str.{bytes_eq}
use Rattle.std.specs.declared.string.String.{String}
use Rattle.std.proofs.lemmas.Map.Text.{btree_map_updates_text, is_eq-slice_cmp}
use Rattle.edge_io.specs.Inputs.{NamedFiles}
use Rattle.edge_io.specs.NamedBytes.{files_of}

-- a choice of what stands there, seen as bytes
option_map-cond : {B : Type 0} (b : Bool) (v : Vec ℕ B) (o : Option (Vec ℕ B)) → option_map vec_items (cond b (Some v) o) ≡ cond b (Some (vec_items v)) (option_map vec_items o)
option_map-cond true v o = refl
option_map-cond false v o = refl

module _ {A B : Type 0} where
  -- the first entry that ties with a name, in the list and in what it is seen as
  find-map : (q : List ℕ) (es : List (String A × Vec ℕ B)) → fin.find (slice_cmp nat_cmp) q (map (λ e. (string_bytes e.0, vec_items e.1)) es) ≡ option_map vec_items (lookup (λ k. is_eq (slice_cmp nat_cmp q (string_bytes k))) es)
  find-map q [] = refl
  find-map q (e ∷ es) =
      ap (cond (is_eq (slice_cmp nat_cmp q (string_bytes e.0))) (Some (vec_items e.1))) (find-map q es)
      ∙ sym (option_map-cond (is_eq (slice_cmp nat_cmp q (string_bytes e.0))) e.1 _)

  -- a look-up by a name's bytes
  pub get-files_of : (m : BTreeMap (String A) (Vec ℕ B)) (q : List ℕ) → fin.get (files_of m.entries) q ≡ option_map vec_items (tree.get_by_text m q)
  get-files_of m q = fin.get-from_entries nat_list_cmp_total _ q ∙ find-map q m.entries

  -- what an insertion into the ordered map does to what it is seen as
  files_of-insert : (m n : BTreeMap (String A) (Vec ℕ B)) (k : String A) (v : Vec ℕ B) → tree.Updates string_cmp m n k (Some v) → files_of n.entries ≡ fin.insert (files_of m.entries) (string_bytes k) (vec_items v)
  files_of-insert m n k v updates =
      fin.same_map nat_list_cmp_total (fin.slice_cmp-IsAntisymmetric fin.nat_cmp-IsAntisymmetric) _ _ (λ q.
      get-files_of n q
      ∙ ap (option_map vec_items) (btree_map_updates_text (string_bytes k) m n (Some v) updates q)
      ∙ option_map-cond (bytes_eq (string_bytes k) q) v _
      ∙ ap (λ b. cond b (Some (vec_items v)) (option_map vec_items (tree.get_by_text m q))) (sym (is_eq-slice_cmp (string_bytes k) q) ∙ (eq_by_cmp_equiv nat_list_cmp_total).symm (string_bytes k) q)
      ∙ ap (cond (eq_by_cmp (slice_cmp nat_cmp) q (string_bytes k)) (Some (vec_items v))) (sym (get-files_of m q))
      ∙ sym (fin.get-insert nat_list_cmp_total (files_of m.entries) (string_bytes k) (vec_items v) q))

  -- the same, where the map, the name and the bytes are seen as these
  pub files_of-insert_at : (m n : BTreeMap (String A) (Vec ℕ B)) (k : String A) (v : Vec ℕ B) (files : NamedFiles) (name bytes : List ℕ) → tree.Updates string_cmp m n k (Some v) → files_of m.entries ≡ files → string_bytes k ≡ name → vec_items v ≡ bytes → files_of n.entries ≡ fin.insert files name bytes
  files_of-insert_at m n k v files name bytes updates before named held =
      files_of-insert m n k v updates ∙ (λ i. fin.insert (before i) (named i) (held i))
