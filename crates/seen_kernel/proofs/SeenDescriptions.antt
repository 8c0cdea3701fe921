-- Open descriptions, seen one after the other.
--     DescriptionsTo p names b owners seen above      all up to this one are seen
--     descriptions_begun, descriptions_on, descriptions_fewer, descriptions_done
use Rattle.std.proofs.Common.{◌≡◌, ◌<◌, false, Option, Some, None, refl, sym, ap, subst, ◌∙◌}
use Rattle.std.specs.Prelude.{find, option_map, option_and_then}
use Rattle.std.specs.Option.{option_map_or}
use Rattle.std.specs.FinMap as map
use Rattle.std.proofs.lemmas.Option.{none-some}
use Rattle.views.proofs.MapLaws.{true_false}
use Rattle.sys_abi.specs.declared.identity.DescId.{DescId}
use Rattle.sys_abi.proofs.OrderLaws.{desc_total, desc_exact}
use Rattle.virt_ids.specs.Pairs as ids
use Rattle.fd_tables.specs.declared.description.Desc.{Desc}
use Rattle.fd_tables.specs.declared.description.Object.{Object}
use Rattle.fd_tables.specs.declared.description.Object.TheVariants as real_object
use Rattle.fd_tables.specs.Parts.{is_after}
use Rattle.fd_book.specs.Books.{Books}
use Rattle.conn_table.specs.Pairs.{Pairs}
use Rattle.plain_tables.specs.declared.description.Description.{Description}
use Rattle.plain_tables.specs.Objects.{is_datagram}
use Rattle.plain_tables.specs.Tables.{Descriptions}
use Rattle.host_tables.specs.Numbers.{number_of}
use Rattle.host_tables.specs.Descriptions.{Names, seen_object, seen_desc}
use Rattle.host_tables.proofs.LookUps.{some_value}
use Rattle.leader_vote.proofs.Walks.{count_of, next_is, walked, none_left, fewer_left}
use Rattle.seen_kernel.specs.Filling.{IsFilled}
use Rattle.seen_kernel.specs.Descriptions.{Owners, StandForDescriptions, kept_owner, object_of, description_of}
use Rattle.seen_kernel.proofs.Filling.{IsPassed, filled_none, filled_on, filled_whole}

-- an object that is no end of a datagram pair is told whatever the pairs are
same_object : (names : Names) (pairs : Pairs) (id : DescId) (o : Object)
    → is_datagram (seen_object names pairs id o) ≡ false
    → object_of names id o ≡ Some (seen_object names pairs id o)
same_object names pairs id real_object.Console is = refl
same_object names pairs id (real_object.File number offset) is = refl
same_object names pairs id (real_object.Stream conn side) is = refl
same_object names pairs id real_object.Socket is = refl
same_object names pairs id (real_object.Listener at) is = refl
same_object names pairs id (real_object.Datagram queue side) is = true_false is
same_object names pairs id (real_object.Counter value) is = refl

abbrev pub DescriptionsTo : ids.Pairs → Names → Books → Owners → Descriptions → Option DescId → Type 0
DescriptionsTo p names b owners seen above =
    (ks : Descriptions) → StandForDescriptions p names b owners ks
    → IsFilled (λ id. Some id) b.descriptions (is_after above) ks seen

module _ (p : ids.Pairs) (names : Names) (b : Books) (owners : Owners) where
  pub descriptions_begun : DescriptionsTo p names b owners map.empty None
  descriptions_begun ks stand =
      filled_none desc_total desc_exact (λ id. Some id) b.descriptions ks (is_after None) (λ l. refl)

  told : (ks : Descriptions) → StandForDescriptions p names b owners ks → (id : DescId) (d : Desc)
      → map.get b.descriptions id ≡ Some d → description_of p.virts names owners id d ≡ map.get ks id
  told ks stand id d is =
      let there = stand.same.each id
      ∙ ap (option_map (seen_desc p.virts names stand.pairs stand.held id)) is in
      let object = same_object names stand.pairs id d.object
      (stand.no_datagram id (seen_desc p.virts names stand.pairs stand.held id d) there) in
      ap (option_map (λ o. record {
        object = o;
        flags = d.flags;
        owner = number_of p.virts 0 (kept_owner owners id);
      })) object
      ∙ ap (λ owner. Some (record {
        object = seen_object names stand.pairs id d.object;
        flags = d.flags;
        owner = number_of p.virts 0 owner;
      })) (sym (stand.kept id d is))
      ∙ sym there

  module _ (seen : Descriptions) (above : Option DescId) where
    pub descriptions_on : (id : DescId) → find (is_after above) (map.keys b.descriptions) ≡ Some id
        → DescriptionsTo p names b owners seen above
        → DescriptionsTo p names b owners
        (option_map_or (map.insert seen id)
        (option_and_then (description_of p.virts names owners id) (map.get b.descriptions id)) seen)
        (Some id)
    descriptions_on id next so_far ks stand =
        let its = next_is desc_total desc_exact b.descriptions is_after (λ k. refl) (λ a k. refl) above id
        next in
        let d = some_value (map.get b.descriptions id) its.0 in
        let there = stand.same.each id
        ∙ ap (option_map (seen_desc p.virts names stand.pairs stand.held id)) d.1 in
        subst (IsFilled (λ id. Some id) b.descriptions (is_after (Some id)) ks)
        (sym (ap (λ o. option_map_or (map.insert seen id) o seen)
        (ap (option_and_then (description_of p.virts names owners id)) d.1 ∙ told ks stand id d.0 d.1
        ∙ there)))
        (filled_on desc_total desc_exact (λ id. Some id) b.descriptions ks (is_after above)
        (is_after (Some id)) seen id id
        (seen_desc p.virts names stand.pairs stand.held id d.0) refl there
        (λ l e is behind. walked desc_total desc_exact b.descriptions is_after (λ k. refl) (λ a k. refl) above
        id l e next is behind)
        (so_far ks stand))

    pub descriptions_fewer : (id : DescId) → find (is_after above) (map.keys b.descriptions) ≡ Some id
        → count_of (is_after (Some id)) (map.keys b.descriptions)
        < count_of (is_after above) (map.keys b.descriptions)
    descriptions_fewer id next =
        let its = next_is desc_total desc_exact b.descriptions is_after (λ k. refl) (λ a k. refl) above id
        next in
        fewer_left desc_total desc_exact b.descriptions is_after (λ k. refl) (λ a k. refl) above id its.0
        its.1

    pub descriptions_done : find (is_after above) (map.keys b.descriptions) ≡ None
        → DescriptionsTo p names b owners seen above
        → (ks : Descriptions) → StandForDescriptions p names b owners ks → seen ≡ ks
    descriptions_done none so_far ks stand =
        filled_whole desc_total desc_exact (λ id. Some id) b.descriptions ks (is_after above) seen
        (λ k x is. by k x (map.get b.descriptions k) refl (sym (stand.same.each k) ∙ is)) (so_far ks stand)
      where
        by : (k : DescId) (x : Description) (found : Option Desc) → map.get b.descriptions k ≡ found
            → option_map (seen_desc p.virts names stand.pairs stand.held k) found ≡ Some x
            → IsPassed (λ id. Some id) b.descriptions (is_after above) k
        by k x None is none_is = absurd (none-some x none_is)
        by k x (Some d) is x_is = record {
          key = k;
          value = d;
          there = is;
          leads = refl;
          behind =
              none_left desc_total desc_exact b.descriptions is_after (λ k. refl) (λ a k. refl) above k d none
              is;
        }
