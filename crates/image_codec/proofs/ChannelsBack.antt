-- The channels of a kernel part, whose sides are open as they are named, and their directions come back from what is made of them.
use Rattle.std.proofs.Common.{◌≡◌, ℕ, ◌==◌, ◌&&◌, ◌||◌, Bool, true, false, List, [], ◌∷◌, length, map as each, refl, sym, ap, subst, ◌∙◌, ⊎_elim, arith, lit<}
use Rattle.std.specs.Prelude.{◌⊎◌, Option, Some, None, is_some, nat_lt, unwrap_or}
use Rattle.std.specs.List.{flat_map, list_any}
use Rattle.std.specs.Ordering.{eq_by_cmp}
use Rattle.std.specs.FinMap as map
use Rattle.std.proofs.lemmas.Bool.Decides.{nat_tests}
use Rattle.views.proofs.MapLaws.{true_false}
use Rattle.views.proofs.MapValues.{some_among-values}
use Rattle.sys_abi.specs.declared.identity.DescId.{DescId}
use Rattle.sys_abi.specs.declared.identity.ConnId.{ConnId}
use Rattle.sys_abi.specs.declared.identity.Dir.{Dir}
use Rattle.sys_abi.specs.declared.identity.VirtAddr.{VirtAddr}
use Rattle.sys_abi.specs.Orders.{dir_cmp}
use Rattle.sys_abi.proofs.OrderLaws.{desc_total, desc_exact, conn_total, conn_exact, dir_total, dir_exact, address_total, address_exact}
use Rattle.plain_machine.specs.declared.kernel.PlainKernel.{PlainKernel}
use Rattle.plain_machine.specs.Kernels.{IsKernel}
use Rattle.plain_tables.specs.declared.description.Object.{Object}
use Rattle.plain_tables.specs.declared.description.Object.TheVariants as object
use Rattle.plain_tables.specs.declared.description.Description.{Description}
use Rattle.plain_tables.specs.declared.channel.Channel.{Channel}
use Rattle.plain_tables.specs.declared.channel.Direction.{Direction}
use Rattle.plain_tables.specs.declared.channel.Listening.{Listening}
use Rattle.plain_tables.specs.Objects as tables
use Rattle.plain_tables.specs.Objects.{dir, is_end, is_queued, is_pending, has_stream}
use Rattle.plain_tables.proofs.Entries.{found_at}
use Rattle.shared_items.specs.declared.shared.ObjectImage.{ObjectImage}
use Rattle.shared_items.specs.declared.shared.DescriptionImage.{DescriptionImage}
use Rattle.shared_items.specs.Sides.{names_side, is_side_named}
use Rattle.image_codec.specs.KernelParts.{channel_entry, direction_entries}
use Rattle.image_codec.specs.KernelImages.{channel_image, description_image, object_image, listener_image, silence, HasArrived}
use Rattle.image_codec.proofs.MadeMaps.{each_back, flat_back, later, there_at, which_value}
use Rattle.image_codec.proofs.DescriptionsBack.{has_listener}
use Rattle.image_codec.proofs.TestFacts.{and_true, or_either, or_later, both_ways}

-- tests
none_waits : (b : Bool) → (b && false) ≡ true → ⊥
none_waits true is = true_false (sym is)
none_waits false is = true_false (sym is)

side_of : (n : ℕ) → nat_lt n 2 ≡ true → (n ≡ 0) ⊎ (n ≡ 1)
side_of n below = grind (arith, nat_tests)

module _ (k : PlainKernel) (is : IsKernel k) where
  abbrev images : List DescriptionImage
  images = each (description_image k.listeners) (map.entries k.descriptions)

  abbrev names : ConnId → ℕ → Object → Bool
  names conn side o = names_side conn side (object_image k.listeners o)

  any_image : (test : ObjectImage → Bool) (es : List (DescId × Description)) → list_any (λ (it : DescriptionImage). test it.object) (each (description_image k.listeners) es)
      ≡ list_any (λ (x : Description). test (object_image k.listeners x.object)) (each (λ (e : DescId × Description). e.1) es)
  any_image test [] = refl
  any_image test (e ∷ es) = ap (λ b. test (object_image k.listeners e.1.object) || b) (any_image test es)

  -- an image names a side where its description is an end there, or its queue has the connection
  queue_names : (conn : ConnId) (side : ℕ) (address : VirtAddr) (found : Option Listening) → map.get k.listeners address ≡ found
      → names_side conn side (listener_image address found) ≡ true → ((side == 1) && is_pending k.listeners conn) ≡ true
  queue_names conn side address None known named = absurd (none_waits (side == 1) named)
  queue_names conn side address (Some listening) known named =
      let (at_one, queued) = and_true (side == 1) (is_queued conn listening) named in
      let waits : is_pending k.listeners conn ≡ true = some_among-values address_total address_exact (is_queued conn) k.listeners address listening known queued in
      λ i. at_one i && waits i

  named_there : (conn : ConnId) (side : ℕ) (d : DescId) (x : Description) (o : Object) → map.get k.descriptions d ≡ Some x → x.object ≡ o → names conn side o ≡ true
      → tables.is_named k.descriptions k.listeners conn side ≡ true
  named_there conn side d x object.Console there what named = true_false (sym named)
  named_there conn side d x (object.File number offset) there what named = true_false (sym named)
  named_there conn side d x (object.Stream other at) there what named =
      let has : has_stream k.descriptions conn side ≡ true =
      some_among-values desc_total desc_exact (λ (y : Description). is_end conn side y.object) k.descriptions d x there (ap (is_end conn side) what ∙ named) in
      ap (λ b. b || ((side == 1) && is_pending k.listeners conn)) has
  named_there conn side d x (object.Socket address) there what named = true_false (sym named)
  named_there conn side d x (object.Listener address) there what named =
      or_later (has_stream k.descriptions conn side) _ (queue_names conn side address (map.get k.listeners address) refl named)
  named_there conn side d x (object.Datagram peer) there what named = true_false (sym named)
  named_there conn side d x (object.Counter value) there what named = true_false (sym named)

  end_names : (conn : ConnId) (side : ℕ) (o : Object) → is_end conn side o ≡ true → names conn side o ≡ true
  end_names conn side object.Console at = true_false (sym at)
  end_names conn side (object.File number offset) at = true_false (sym at)
  end_names conn side (object.Stream other end) at = at
  end_names conn side (object.Socket address) at = true_false (sym at)
  end_names conn side (object.Listener address) at = true_false (sym at)
  end_names conn side (object.Datagram peer) at = true_false (sym at)
  end_names conn side (object.Counter value) at = true_false (sym at)

  some_names : (conn : ConnId) (side : ℕ) (d : DescId) (x : Description) → map.get k.descriptions d ≡ Some x → names conn side x.object ≡ true
      → list_any (λ (y : Description). names conn side y.object) (map.values k.descriptions) ≡ true
  some_names conn side d x there named = some_among-values desc_total desc_exact (λ (y : Description). names conn side y.object) k.descriptions d x there named

  waiting_names : (conn : ConnId) (side : ℕ) → ((side == 1) && is_pending k.listeners conn) ≡ true → list_any (λ (y : Description). names conn side y.object) (map.values k.descriptions) ≡ true
  waiting_names conn side waits =
      let (at_one, pending) = and_true (side == 1) (is_pending k.listeners conn) waits in
      let (address, listening, found, queued) = which_value address_total address_exact (is_queued conn) k.listeners pending in
      let (d, x, there, what) = has_listener k is address listening found in
      let here : names conn side x.object ≡ true =
      ap (names conn side) what ∙ ap (λ l. names_side conn side (listener_image address l)) found ∙ (λ i. at_one i && queued i) in
      some_names conn side d x there here

  -- so a side is named in the image as in the kernel part
  pub named_image : (conn : ConnId) (side : ℕ) → is_side_named images conn side ≡ tables.is_named k.descriptions k.listeners conn side
  unfolding is_side_named
  named_image conn side =
      any_image (names_side conn side) (map.entries k.descriptions)
      ∙ both_ways (list_any (λ (y : Description). names conn side y.object) (map.values k.descriptions)) (tables.is_named k.descriptions k.listeners conn side)
      (λ some. let (d, x, there, named) = which_value desc_total desc_exact (λ (y : Description). names conn side y.object) k.descriptions some in named_there conn side d x x.object there refl named)
      (λ named. ⊎_elim
      (λ has. let (d, x, there, at) = which_value desc_total desc_exact (λ (y : Description). is_end conn side y.object) k.descriptions has in some_names conn side d x there (end_names conn side x.object at))
      (λ waits. waiting_names conn side waits)
      (or_either (has_stream k.descriptions conn side) ((side == 1) && is_pending k.listeners conn) named))

  pub channels_back : map.from_entries (each (channel_entry images) (each (channel_image k.directions) (map.entries k.channels))) ≡ k.channels
  channels_back = each_back conn_total conn_exact conn_total conn_exact (channel_image k.directions) k.channels k.channels (channel_entry images)
      (λ conn channel there.
      let first : channel.first.is_open ≡ is_side_named images conn 0 = is.streams.opened conn channel 0 there (lit< tt) ∙ sym (named_image conn 0) in
      let second : channel.second.is_open ≡ is_side_named images conn 1 = is.streams.opened conn channel 1 there (lit< tt) ∙ sym (named_image conn 1) in
      there ∙ (λ i. Some (record channel { first = record channel.first { is_open = first i }; second = record channel.second { is_open = second i } })))
      (λ conn channel there. (conn, channel, there, refl))

  -- all bytes of what is found have arrived
  abbrev shown : Option Direction → Direction
  shown found = let direction = unwrap_or found silence in record direction { arrived = length direction.left }

  direction_is : HasArrived k → (at : Dir) → is_some (map.get k.directions at) ≡ true → map.get k.directions at ≡ Some (shown (map.get k.directions at))
  direction_is arrived at some =
      let (direction, known) = found_at dir_total dir_exact k.directions at some in
      known ∙ (λ i. Some (record direction { arrived = arrived at direction known i })) ∙ (λ i. Some (shown (sym known i)))

  pub has_side : (conn : ConnId) (channel : Channel) (side : ℕ) → map.get k.channels conn ≡ Some channel → nat_lt side 2 ≡ true → is_some (map.get k.directions (dir conn side)) ≡ true
  has_side conn channel side there below = is.channels.sides (dir conn side) ∙ (λ i. below i && is_some (there i))

  there_second : (at : Dir) (first second : Dir × Direction) → is_some (map.find dir_cmp at (second ∷ [])) ≡ true → is_some (map.find dir_cmp at (first ∷ second ∷ [])) ≡ true
  there_second at first second is = later dir_total dir_exact (eq_by_cmp dir_cmp at first.0) first.1 (map.find dir_cmp at (second ∷ [])) is

  at_side : (at : Dir) (first second : Direction) → nat_lt at.side 2 ≡ true → is_some (map.find dir_cmp at ((dir at.conn 0, first) ∷ (dir at.conn 1, second) ∷ [])) ≡ true
  at_side at first second below = ⊎_elim
      (λ (zero : at.side ≡ 0).
      subst (λ d. is_some (map.find dir_cmp d ((dir at.conn 0, first) ∷ (dir at.conn 1, second) ∷ [])) ≡ true) (λ i. dir at.conn (sym zero i))
      (there_at dir_total dir_exact (dir at.conn 0) first ((dir at.conn 1, second) ∷ [])))
      (λ (one : at.side ≡ 1).
      there_second at (dir at.conn 0, first) (dir at.conn 1, second)
      (subst (λ d. is_some (map.find dir_cmp d ((dir at.conn 1, second) ∷ [])) ≡ true) (λ i. dir at.conn (sym one i)) (there_at dir_total dir_exact (dir at.conn 1) second [])))
      (side_of at.side below)

  pub directions_back : HasArrived k → map.from_entries (flat_map direction_entries (each (channel_image k.directions) (map.entries k.channels))) ≡ k.directions
  directions_back arrived = flat_back dir_total dir_exact conn_total conn_exact (channel_image k.directions) k.directions k.channels direction_entries
      (λ conn channel there. (direction_is arrived (dir conn 0) (has_side conn channel 0 there refl), (direction_is arrived (dir conn 1) (has_side conn channel 1 there refl), tt)))
      (λ at direction found.
      let (below, has) = and_true (nat_lt at.side 2) (is_some (map.get k.channels at.conn)) (sym (is.channels.sides at) ∙ ap is_some found) in
      let (channel, known) = found_at conn_total conn_exact k.channels at.conn has in
      (at.conn, channel, known, at_side at (shown (map.get k.directions (dir at.conn 0))) (shown (map.get k.directions (dir at.conn 1))) below))
