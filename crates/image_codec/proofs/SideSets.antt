-- A side stands in the set of named sides where a description names it
use Rattle.std.proofs.Common.{◌≡◌, ℕ, ◌==◌, ◌&&◌, ◌||◌, Bool, true, false, cond, List, [], ◌∷◌, ◌++◌, map as each, refl, sym, ap, ◌∙◌, arith}
use Rattle.std.specs.Prelude.{Option, Some, None, is_some}
use Rattle.std.specs.List.{flat_map, list_any}
use Rattle.std.specs.Ordering.{nat_cmp, is_eq, ordering_then, eq_by_cmp}
use Rattle.std.specs.declared.cmp.Ordering.{Ordering}
use Rattle.std.specs.declared.cmp.Ordering.TheVariants.{Less, Equal, Greater}
use Rattle.std.specs.FinMap as map
use Rattle.std.proofs.lemmas.Bool.Decides.{nat_tests}
use Rattle.sys_abi.specs.declared.identity.ConnId.{ConnId}
use Rattle.sys_abi.specs.declared.identity.Dir.{Dir}
use Rattle.sys_abi.specs.Orders.{dir_cmp}
use Rattle.sys_abi.proofs.OrderLaws.{dir_total}
use Rattle.plain_tables.specs.Objects.{dir}
use Rattle.shared_items.specs.declared.shared.ChannelImage.{ChannelImage}
use Rattle.shared_items.specs.declared.shared.ObjectImage.{ObjectImage}
use Rattle.shared_items.specs.declared.shared.ObjectImage.TheVariants.{Console, File, Stream, Socket, Listener}
use Rattle.shared_items.specs.declared.shared.DescriptionImage.{DescriptionImage}
use Rattle.shared_items.specs.Sides.{same_channel, names_side, is_side_named}
use Rattle.image_codec.specs.KernelParts.{channel_entry}
use Rattle.image_codec.specs.NamedSides.{Sides, sides_of, pending_side, named_sides, has_side, channel_by}

-- two sides are one where channel and number are
both_equal : (a b : Ordering) → is_eq (ordering_then a b) ≡ (is_eq a && is_eq b)
both_equal Less b = refl
both_equal Equal b = refl
both_equal Greater b = refl

same_number : (a b : ℕ) → is_eq (nat_cmp a b) ≡ (a == b)
same_number a b = grind (arith, nat_tests)

same_side : (conn other : ConnId) (side at : ℕ) → eq_by_cmp dir_cmp (dir conn side) (dir other at) ≡ (same_channel conn other && (side == at))
same_side conn other side at = both_equal _ (nat_cmp side at) ∙ ap (λ b. same_channel conn other && b) (same_number side at)

is_there : {X : Type 0} (b : Bool) (x : X) (found : Option X) → is_some (cond b (Some x) found) ≡ (b || is_some found)
is_there true x found = refl
is_there false x found = refl

is_joined : (a b c : Bool) → (a || (b || c)) ≡ ((a || b) || c)
is_joined true b c = refl
is_joined false b c = refl

found_joined : (q : Dir) (es fs : List (Dir × Unit {0})) → is_some (map.find dir_cmp q (es ++ fs)) ≡ (is_some (map.find dir_cmp q es) || is_some (map.find dir_cmp q fs))
found_joined q [] fs = refl
found_joined q (e ∷ es) fs =
    is_there (eq_by_cmp dir_cmp q e.0) e.1 (map.find dir_cmp q (es ++ fs))
    ∙ ap (λ b. eq_by_cmp dir_cmp q e.0 || b) (found_joined q es fs)
    ∙ is_joined (eq_by_cmp dir_cmp q e.0) (is_some (map.find dir_cmp q es)) (is_some (map.find dir_cmp q fs))
    ∙ ap (λ b. b || is_some (map.find dir_cmp q fs)) (sym (is_there (eq_by_cmp dir_cmp q e.0) e.1 (map.find dir_cmp q es)))

none_of : (b : Bool) → (b && false) ≡ false
none_of true = refl
none_of false = refl

or_none : (b : Bool) → (b || false) ≡ b
or_none true = refl
or_none false = refl

one_more : (a b c : Bool) → ((a && b) || (b && c)) ≡ (b && (a || c))
one_more true true c = refl
one_more true false c = refl
one_more false true c = refl
one_more false false c = refl

module _ (conn : ConnId) (side : ℕ) where
  pending_there : (pending : List ConnId) → is_some (map.find dir_cmp (dir conn side) (each pending_side pending)) ≡ ((side == 1) && list_any (same_channel conn) pending)
  pending_there [] = sym (none_of (side == 1))
  pending_there (c ∷ pending) =
      is_there (eq_by_cmp dir_cmp (dir conn side) (dir c 1)) tt (map.find dir_cmp (dir conn side) (each pending_side pending))
      ∙ (λ i. same_side conn c side 1 i || pending_there pending i)
      ∙ one_more (same_channel conn c) (side == 1) (list_any (same_channel conn) pending)

  object_there : (object : ObjectImage) → is_some (map.find dir_cmp (dir conn side) (sides_of object)) ≡ names_side conn side object
  object_there Console = refl
  object_there (File number offset) = refl
  object_there (Stream other at) =
      is_there (eq_by_cmp dir_cmp (dir conn side) (dir other at)) tt None ∙ or_none _ ∙ same_side conn other side at
  object_there (Socket address) = refl
  object_there (Listener address backlog pending) = pending_there pending

  found_there : (ds : List DescriptionImage) → is_some (map.find dir_cmp (dir conn side) (flat_map (λ (it : DescriptionImage). sides_of it.object) ds)) ≡ list_any (λ (it : DescriptionImage). names_side conn side it.object) ds
  found_there [] = refl
  found_there (d ∷ ds) =
      found_joined (dir conn side) (sides_of d.object) (flat_map (λ (it : DescriptionImage). sides_of it.object) ds)
      ∙ (λ i. object_there d.object i || found_there ds i)

  pub side_there : (ds : List DescriptionImage) → has_side (named_sides ds) conn side ≡ is_side_named ds conn side
  unfolding is_side_named
  side_there ds = ap is_some (map.get-from_entries dir_total (flat_map (λ (it : DescriptionImage). sides_of it.object) ds) (dir conn side)) ∙ found_there ds

-- a channel told from the set
pub channel_told : (ds : List DescriptionImage) (named : Sides) (image : ChannelImage) → named ≡ named_sides ds → channel_by (has_side named) image ≡ (channel_entry ds image).1
channel_told ds named image is =
    let first : has_side named image.id 0 ≡ is_side_named ds image.id 0 = ap (λ sides. has_side sides image.id 0) is ∙ side_there image.id 0 ds in
    let second : has_side named image.id 1 ≡ is_side_named ds image.id 1 = ap (λ sides. has_side sides image.id 1) is ∙ side_there image.id 1 ds in
    λ i. record {
      kind = image.kind;
      first = record { address = image.first.address; is_open = first i };
      second = record { address = image.second.address; is_open = second i };
    }
