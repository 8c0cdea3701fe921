-- The kernel part stays whole where a process makes a channel with both its ends, and where a direction of one changes.
--     whole_ends      whole_direction      whole_received, whole_sent      what a read takes, what a write puts
use Rattle.std.proofs.Common.{◌≡◌, ◌≢◌, ℕ, ◌+◌, ◌-◌, ◌<◌, ◌≤◌, Bool, true, false, cond, List, [], length, take, drop, refl, sym, ap, subst, ◌∙◌, arith}
use Rattle.std.specs.Prelude.{◌==◌, ◌⊎◌, Option, Some, None, is_some, option_map, option_and_then, All}
use Rattle.std.specs.FinMap as map
use Rattle.std.proofs.lemmas.Bool.Decides.{nat_tests}
use Rattle.std.proofs.lemmas.List.{length-take, length-drop, length-append, drop_all}
use Rattle.std.proofs.lemmas.List.Elements.{All-take, All-drop, All-append}
use Rattle.plain_tables.specs.OfViews.Limits.{DIRECTION_LIMIT}
use Rattle.plain_tables.proofs.OfViews.MapLaws.{get_insert_same, true_false}
use Rattle.plain_tables.specs.OfSysAbi.declared.identity.VPid.{VPid}
use Rattle.plain_tables.specs.OfSysAbi.declared.identity.Dir.{Dir}
use Rattle.plain_tables.specs.OfSysAbi.declared.identity.ConnId.{ConnId}
use Rattle.plain_tables.specs.OfSysAbi.declared.identity.VirtAddr.{VirtAddr}
use Rattle.plain_tables.proofs.OfSysAbi.OrderLaws.{conn_total, conn_exact}
use Rattle.plain_machine.specs.declared.kernel.PlainKernel.{PlainKernel}
use Rattle.plain_machine.specs.declared.new_end.NewEnd.{NewEnd}
use Rattle.plain_tables.specs.declared.channel.Channel.{Channel}
use Rattle.plain_tables.specs.declared.channel.ChannelKind.{ChannelKind}
use Rattle.plain_tables.specs.declared.channel.ChannelKind.TheVariants.{Pipe}
use Rattle.plain_tables.specs.declared.channel.Direction.{Direction}
use Rattle.plain_tables.specs.OfSysAbi.declared.maker.Maker.{Maker}
use Rattle.plain_tables.specs.Tables.{Channels}
use Rattle.plain_tables.specs.Objects.{end_of, host_of_end}
use Rattle.plain_tables.specs.Valid.Descriptions.{AreFlags}
use Rattle.plain_tables.specs.Valid.Channels.{HasAddress, MayBeEnd, IsDirection}
use Rattle.plain_tables.specs.OfPlainProcess.Valid.{IsByte}
use Rattle.plain_machine.specs.Kernel.{is_live, made_of, has_numbers, numbered}
use Rattle.plain_machine.specs.Channels.{open_end, open_channel, with_direction}
use Rattle.plain_machine.specs.Kernels.{IsKernel}
use Rattle.plain_machine.specs.Making.{conn_id, has_channel_room, with_ends}
use Rattle.plain_machine.specs.Transfers.Streams.{is_broken, without_front, with_sent, fitting_bytes}
use Rattle.plain_tables.proofs.DirectionChanges.{direction_keeps}
use Rattle.plain_machine.proofs.HeldDescriptors.{IsFreeFrom}
use Rattle.plain_machine.proofs.MadeNumbers.{maker_of, made_is, number_made, whole_making}
use Rattle.plain_machine.proofs.WholeChanges.{whole_directions}
use Rattle.plain_machine.proofs.WholePairs.{whole_pair}
use Rattle.plain_machine.proofs.WholePlaced.{number_of}

-- a channel with both its ends

no_address : (kind : ChannelKind) (side : ℕ) → (end_of (open_channel kind None None) side).address ≡ None
no_address kind side = by_side (side == 0)
  where
    by_side : (first : Bool) → (cond first (open_end None) (open_end None)).address ≡ None
    by_side true = refl
    by_side false = refl

no_host : (channels : Channels) (conn : ConnId) (kind : ChannelKind) (side : ℕ) → host_of_end (map.insert channels conn (open_channel kind None None)) conn side ≡ None
no_host channels conn kind side =
    ap (λ found. option_map (λ (address : VirtAddr). address.host) (option_and_then (λ (c : Channel). (end_of c side).address) found)) (get_insert_same conn_total conn_exact channels conn (open_channel kind None None))
    ∙ ap (option_map (λ (address : VirtAddr). address.host)) (no_address kind side)

module _ (k : PlainKernel) (p : VPid) (is : IsKernel k) (alive : is_live k p ≡ true) where
  new_by : (found : Option Channel) → map.get k.channels (conn_id p (made_of k p)) ≡ found → map.get k.channels (conn_id p (made_of k p)) ≡ None
  unfolding is_live
  new_by None none = none
  new_by (Some channel) there =
      let maker = maker_of k is p alive in
      let made = made_is k is p alive in
      let below = (is.made.joined (conn_id p (made_of k p)) channel there).below maker.0 maker.1 alive in
      absurd (omega arith)

  new_channel : map.get k.channels (conn_id p (made_of k p)) ≡ None
  new_channel = new_by (map.get k.channels (conn_id p (made_of k p))) refl

pub whole_ends : (k : PlainKernel) (p : VPid) (kind : ChannelKind) (cloexec : Bool) (first second : NewEnd) → IsKernel k → is_live k p ≡ true → has_channel_room k p ≡ true → HasAddress kind None
    → IsFreeFrom k.descriptors p 0 first.fd → IsFreeFrom k.descriptors p (first.fd + 1) second.fd → AreFlags first.flags → AreFlags second.flags → MayBeEnd (open_channel kind None None) first.flags first.side
    → MayBeEnd (open_channel kind None None) second.flags second.side → ((s : ℕ) → s < 2 → (s ≡ first.side) ⊎ (s ≡ second.side)) → first.side ≢ second.side → IsKernel (with_ends k p kind cloexec first second)
unfolding is_live
whole_ends k p kind cloexec first second is alive room plain place place_other sound sound_other may may_other both apart =
    let has : has_numbers k p ≡ true = grind (arith, room) in
    let few : map.len k.channels < 256 = grind (arith, nat_tests, room) in
    let after = whole_making k is p alive 3 (omega arith) has in
    let made = made_of k p in
    let own = number_made k is p alive 3 made (omega arith) (omega arith) in
    let one = number_made k is p alive 3 (made + 1) (omega arith) (omega arith) in
    let two = number_made k is p alive 3 (made + 2) (omega arith) (omega arith) in
    let word = after.makers.counts p own.maker own.known in
    let below = own.below in
    let known : (m : Maker) → map.get (numbered k p 3).makers p ≡ Some m → own.maker ≡ m = λ m found. let there = own.known in cc in
    let above = place_other.above in
    whole_pair (numbered k p 3) p (conn_id p made) (open_channel kind None None) first.side second.side first.fd second.fd (made + 1) (made + 2) first.flags second.flags cloexec after alive few (new_channel k p is alive)
    (record { known = number_of k is p alive; word = omega arith; below = λ m found lives. subst (λ (w : Maker). made < w.made) (known m found) own.below })
    plain plain refl refl (λ s host on. let none = no_host k.channels (conn_id p made) kind s in absurd (no_some host (sym none ∙ on)))
    both apart may may_other place.low place_other.low (λ same. omega arith) place.free place_other.free (λ same. omega arith) one two sound sound_other
  where
    no_some : (host : ℕ) → None ≡ Some host → ⊥
    no_some host same = cc

-- a direction changes

module _ (k : PlainKernel) (at : Dir) (old : Direction) (is : IsKernel k) (there : map.get k.directions at ≡ Some old) where
  known : (o : Direction) → map.get k.directions at ≡ Some o → old ≡ o
  known o found = cc

  -- one that goes on being ended and unread
  pub whole_direction : (new : Direction) → IsDirection new → new.ended ≡ old.ended → new.unread ≡ old.unread
      → ((channel : Channel) → map.get k.channels at.conn ≡ Some channel → channel.kind ≡ Pipe → at.side ≡ 1 → new.left ≡ []) → IsKernel (with_direction k at new)
  whole_direction new fits ended unread empty = whole_directions k (map.insert k.directions at new) is
      (direction_keeps k.channels k.directions at new is.channels (ap is_some there) fits empty
      (λ o found holds. ended ∙ ap (λ (d : Direction). d.ended) (known o found) ∙ holds) (λ o found holds. unread ∙ ap (λ (d : Direction). d.unread) (known o found) ∙ holds))

  -- fewer bytes of those that have arrived
  pub whole_received : (n : ℕ) → n ≤ old.arrived → IsKernel (with_direction k at (without_front n old))
  whole_received n few =
      let fits = is.channels.each at old there in
      let arrived = fits.arrived in
      let size = fits.size in
      let left = length-drop n old.left in
      whole_direction (without_front n old)
      (record {
        arrived = omega arith;
        size = omega arith;
        bytes = All-drop IsByte n old.left fits.bytes;
        unread = λ no_more. none_left n old.left (fits.unread no_more);
      })
      refl refl
      (λ channel joined pipe one. none_left n old.left (is.channels.pipes at.conn channel old joined pipe (subst (λ side. map.get k.directions (record { conn = at.conn; side = side }) ≡ Some old) one there)))
    where
      none_left : (n : ℕ) (xs : List ℕ) → xs ≡ [] → drop n xs ≡ []
      none_left n xs none = drop_all n xs (let count : length xs ≡ 0 = ap length none in omega arith)

  -- more bytes
  pub whole_sent : (given : List ℕ) → is_broken old ≡ false → All IsByte given → ((channel : Channel) → map.get k.channels at.conn ≡ Some channel → channel.kind ≡ Pipe → at.side ≡ 1 → ⊥)
      → IsKernel (with_direction k at (with_sent (fitting_bytes given old) old))
  whole_sent given goes_on bytes no_reader =
      let fits = is.channels.each at old there in
      let arrived = fits.arrived in
      let size = fits.size in
      let room = DIRECTION_LIMIT - length old.left in
      let some = length-take room given in
      let all = length-append old.left (take room given) in
      let read : old.unread ≡ false = grind (arith, goes_on) in
      whole_direction (with_sent (fitting_bytes given old) old)
      (record {
        arrived = omega arith;
        size = omega arith;
        bytes = All-append IsByte old.left (take room given) fits.bytes (All-take IsByte room given bytes);
        unread = λ no_more. true_false (sym no_more ∙ read);
      })
      refl refl (λ channel joined pipe one. absurd (no_reader channel joined pipe one))
