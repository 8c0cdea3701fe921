-- The directions of lists, taken one after the other.
--     lists_on, lists_none      one list more
--     lists_done                what is made of all lists is what the tables stand for, with all bytes
--                               arrived
use Rattle.std.proofs.Common.{◌≡◌, ◌<◌, ◌≤◌, Bool, true, false, cond, List, [], ◌∷◌, length, refl, sym, ap, ◌∙◌, arith}
use Rattle.std.specs.Prelude.{Option, Some, None, is_some, nat_lt, option_map, All, if◌then◌else◌}
use Rattle.std.specs.Ordering.{eq_by_cmp}
use Rattle.std.specs.FinMap as map
use Rattle.std.proofs.lemmas.List.Elements.{All-head, All-tail}
use Rattle.views.specs.Maps.{map_values}
use Rattle.views.specs.Seen.{Agree}
use Rattle.views.proofs.MapLaws.{true_false, same_key}
use Rattle.views.proofs.MapValues.{get-map_values}
use Rattle.sys_abi.specs.declared.identity.Dir.{Dir}
use Rattle.sys_abi.specs.Orders.{dir_cmp}
use Rattle.sys_abi.proofs.OrderLaws.{dir_total, dir_exact}
use Rattle.plain_machine.specs.Tests.{all_arrived}
use Rattle.plain_tables.specs.declared.channel.Direction as plain
use Rattle.plain_tables.specs.Tables.{Directions}
use Rattle.wire_channels.specs.Directions.{Direction}
use Rattle.wire_channels.specs.Channels.{Channels, direction_at}
use Rattle.wire_net.specs.declared.cut_room.DirBytes.{DirBytes}
use Rattle.wire_net.specs.DrainedNets.{list_on}
use Rattle.wire_net.specs.Networks.{Network}
use Rattle.wire_net.specs.Whereabouts.{whereabouts}
use Rattle.host_tables.specs.Descriptions.{Stage, agents_of}
use Rattle.host_tables.specs.Network.{SameDirection, SameDirections}
use Rattle.seen_kernel.specs.Parts.{IsPart}
use Rattle.seen_kernel.specs.Directions.{direction_of, listed_in, with_list, with_lists, HaveBytes}
use Rattle.seen_kernel.proofs.Parts.{nothing_yet, all_of_it, entry_part, entry_kept, entry_there}

agree_some : {X Y : Type 0} (Is : X → Y → Type 0) (x : Option X) (y : Option Y) → Agree Is x y
    → is_some x ≡ true → is_some y ≡ true
agree_some Is None y agree some = true_false (sym some)
agree_some Is (Some x) None agree some = absurd agree
agree_some Is (Some x) (Some y) agree some = refl

module _ (t : Network) (held : Option Stage) (virt : Directions) (same : SameDirections t held virt) where
  abbrev arrived : Directions
  arrived = map_values all_arrived virt

  abbrev HasBytes : DirBytes → Type 0
  HasBytes list = list.bytes ≡ whereabouts t (agents_of held) list.dir

  both_are : (list : DirBytes) (x : Option plain.Direction) (y : Option Direction) → HasBytes list
      → Agree (SameDirection t held list.dir) x y
      → option_map (direction_of list) y ≡ option_map all_arrived x
  both_are list None None bytes agree = refl
  both_are list None (Some y) bytes agree = absurd agree
  both_are list (Some x) None bytes agree = absurd agree
  both_are list (Some x) (Some y) bytes agree =
      let left : list.bytes ≡ x.left = bytes ∙ sym agree.left in
      λ i. Some (record {
        left = left i;
        arrived = length (left i);
        ended = sym agree.ended i;
        unread = sym agree.unread i;
      })

  direction_there : (list : DirBytes) → HasBytes list → listed_in t.channels list ≡ map.get arrived list.dir
  direction_there list bytes =
      by (nat_lt list.dir.side 2) refl ∙ sym (get-map_values all_arrived virt list.dir)
    where
      by : (is_side : Bool) → nat_lt list.dir.side 2 ≡ is_side
          → option_map (direction_of list) (if is_side then direction_at t.channels list.dir else None)
          ≡ option_map all_arrived (map.get virt list.dir)
      by true is =
          let less : list.dir.side < 2 = grind arith in
          both_are list (map.get virt list.dir) (direction_at t.channels list.dir) bytes
          (same.at list.dir less)
      by false is =
          let more : 2 ≤ list.dir.side = grind arith in
          sym (ap (option_map all_arrived) (same.no_other list.dir more))

  lists_part : (seen : Directions) (lists : List DirBytes) → All HasBytes lists → IsPart arrived seen
      → IsPart arrived (with_lists t.channels seen lists)
  unfolding with_lists
  lists_part seen [] all part = part
  lists_part seen (list ∷ lists) all part =
      let bytes : HasBytes list = All-head HasBytes list lists all in
      lists_part (with_list t.channels seen list) lists (All-tail HasBytes list lists all)
      (entry_part dir_total dir_exact arrived seen list.dir (listed_in t.channels list) part
      (λ v is. sym (direction_there list bytes) ∙ is))

  lists_kept : (seen : Directions) (lists : List DirBytes) (d : Dir) → is_some (map.get seen d) ≡ true
      → is_some (map.get (with_lists t.channels seen lists) d) ≡ true
  unfolding with_lists
  lists_kept seen [] d has = has
  lists_kept seen (list ∷ lists) d has =
      lists_kept (with_list t.channels seen list) lists d
      (entry_kept dir_total dir_exact seen list.dir (listed_in t.channels list) d has)

  lists_there : (seen : Directions) (lists : List DirBytes) (d : Dir) → All HasBytes lists
      → is_some (list_on d lists) ≡ true → is_some (map.get arrived d) ≡ true
      → is_some (map.get (with_lists t.channels seen lists) d) ≡ true
  unfolding with_lists
  lists_there seen [] d all listed has = true_false (sym listed)
  lists_there seen (list ∷ lists) d all listed has =
      let bytes : HasBytes list = All-head HasBytes list lists all in
      elim (eq_by_cmp dir_cmp list.dir d) as (λ b. eq_by_cmp dir_cmp list.dir d ≡ b
      → is_some (cond b (Some list) (list_on d lists)) ≡ true
      → is_some (map.get (with_lists t.channels (with_list t.channels seen list) lists) d) ≡ true) [
        | true ↦ λ tied found.
            let here : list.dir ≡ d = same_key dir_total dir_exact list.dir d tied in
            lists_kept (with_list t.channels seen list) lists d
            (entry_there dir_total dir_exact seen list.dir (listed_in t.channels list) d (sym here)
            (ap is_some (direction_there list bytes ∙ ap (map.get arrived) here) ∙ has))
        | false ↦ λ apart found.
            lists_there (with_list t.channels seen list) lists d (All-tail HasBytes list lists all) found has
      ] refl listed

  -- a direction that the plain machine has is one of a channel of the network
  is_listed : (lists : List DirBytes) → HaveBytes t held lists → (d : Dir)
      → is_some (map.get arrived d) ≡ true → is_some (list_on d lists) ≡ true
  is_listed lists have d has = by (nat_lt d.side 2) refl
    where
      kept_some : (o : Option plain.Direction) → is_some (option_map all_arrived o) ≡ true → is_some o ≡ true
      kept_some None some = some
      kept_some (Some x) some = refl

      there : is_some (map.get virt d) ≡ true
      there = kept_some (map.get virt d) (sym (ap is_some (get-map_values all_arrived virt d)) ∙ has)

      by : (is_side : Bool) → nat_lt d.side 2 ≡ is_side → is_some (list_on d lists) ≡ true
      by true is =
          let less : d.side < 2 = grind arith in
          have.whole d less (agree_some (SameDirection t held d) (map.get virt d) (direction_at t.channels d)
          (same.at d less) there)
      by false is =
          let more : 2 ≤ d.side = grind arith in
          true_false (sym there ∙ ap is_some (same.no_other d more))

  pub lists_done : (lists : List DirBytes) → HaveBytes t held lists
      → with_lists t.channels map.empty lists ≡ arrived
  lists_done lists have =
      all_of_it dir_total dir_exact arrived (with_lists t.channels map.empty lists)
      (lists_part map.empty lists have.bytes (nothing_yet arrived))
      (λ d has. lists_there map.empty lists d have.bytes (is_listed lists have d has) has)

-- one list more

pub lists_on : (m : Channels) (seen all : Directions) (list : DirBytes) (lists rest : List DirBytes)
    → lists ≡ list ∷ rest → with_lists m seen lists ≡ all → with_lists m (with_list m seen list) rest ≡ all
unfolding with_lists
lists_on m seen all list lists rest is same = sym (ap (with_lists m seen) is) ∙ same

pub lists_none : (m : Channels) (seen : Directions) → with_lists m seen [] ≡ seen
unfolding with_lists
lists_none m seen = refl
