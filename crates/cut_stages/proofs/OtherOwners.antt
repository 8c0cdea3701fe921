-- Books that differ in the owners of descriptions alone.
--     owners_cleared, owners_voted     so it is after the owners are cleared, and after a vote
--     none_owned                       and then no description has an owner
--     owners_back                      with the owners that were kept the book is what it was
use Rattle.std.proofs.Common.{◌≡◌, [], ◌∷◌, Option, Some, None, refl, sym, ap, ◌∙◌}
use Rattle.std.specs.Prelude.{option_map, option_and_then}
use Rattle.std.specs.FinMap as map
use Rattle.std.proofs.lemmas.Option.{same_Some, none-some}
use Rattle.sys_abi.specs.declared.identity.DescId.{DescId}
use Rattle.sys_abi.specs.declared.identity.RealPid.{RealPid}
use Rattle.fd_tables.specs.declared.description.Desc.{Desc}
use Rattle.fd_tables.specs.Parts.{with_owner}
use Rattle.fd_book.specs.Books.{Books}
use Rattle.leader_vote.specs.Elections.{after_vote, NoneOwned}
use Rattle.leader_vote.proofs.Elections.{owners_alone}
use Rattle.leader_vote.specs.Owners.{Owners, kept_owner, owned_as_kept, KeepsOwners, with_owners}
use Rattle.leader_vote.proofs.KeptOwners.{get-with_owners, with_owners-descriptors, same_books}
use Rattle.cut_stages.specs.Cuts.{DiffersInOwners}

abbrev no_owners : Owners
no_owners = map.empty

kept_none : (id : DescId) → kept_owner no_owners id ≡ None
kept_none id = ap (option_and_then (λ (o : Option RealPid). o)) (map.get-empty _ id)

ownerless : (owners : Owners) (id : DescId) (found : Option Desc)
    → option_map (with_owner None) (option_map (owned_as_kept owners id) found) ≡ option_map (with_owner
    None) found
ownerless owners id None = refl
ownerless owners id (Some d) = refl

pub owners_cleared : (b : Books) → DiffersInOwners b (with_owners no_owners b)
owners_cleared b = record {
  descriptors = with_owners-descriptors no_owners b;
  descriptions = λ id.
      ap (option_map (with_owner None)) (get-with_owners no_owners b id)
      ∙ ownerless no_owners id (map.get b.descriptions id);
}

pub none_owned : (b : Books) → NoneOwned (with_owners no_owners b)
none_owned b id =
    ap (option_and_then (λ (d : Desc). d.owner)) (get-with_owners no_owners b id)
    ∙ by_found (map.get b.descriptions id)
  where
    by_found : (found : Option Desc)
        → option_and_then (λ (d : Desc). d.owner) (option_map (owned_as_kept no_owners id) found) ≡ None
    by_found None = refl
    by_found (Some d) = kept_none id

pub owners_voted : (a b : Books) (r : RealPid) → DiffersInOwners a b → DiffersInOwners a (after_vote b r)
owners_voted a b r differ =
    let alone = owners_alone b (r ∷ []) in record {
      descriptors = alone.0 ∙ differ.descriptors;
      descriptions = λ id. alone.1 id ∙ differ.descriptions id;
    }

module _ (a b : Books) (owners : Owners) (differ : DiffersInOwners a b) (kept : KeepsOwners a owners) where
  back_by : (id : DescId) (was now : Option Desc) → map.get a.descriptions id ≡ was
      → option_map (with_owner None) now ≡ option_map (with_owner None) was
      → option_map (owned_as_kept owners id) now ≡ was
  back_by id None None at same = refl
  back_by id None (Some d) at same = absurd (none-some (with_owner None d) (sym same))
  back_by id (Some d) None at same = absurd (none-some (with_owner None d) same)
  back_by id (Some d) (Some e) at same =
      let owner : kept_owner owners id ≡ d.owner =
      ap (option_and_then (λ (o : Option RealPid). o)) (kept id ∙ ap (option_map (λ (x : Desc). x.owner))
      at) in
      ap (λ (x : Desc). Some (with_owner (kept_owner owners id) x)) (same_Some (with_owner None e)
      (with_owner None d) same)
      ∙ ap (λ o. Some (with_owner o d)) owner

  pub owners_back : with_owners owners b ≡ a
  owners_back =
      same_books (with_owners owners b) a (with_owners-descriptors owners b ∙ differ.descriptors)
      (λ id. get-with_owners owners b id
      ∙ back_by id (map.get a.descriptions id) (map.get b.descriptions id) refl (differ.descriptions id))
