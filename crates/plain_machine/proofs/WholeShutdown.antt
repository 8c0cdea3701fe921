-- The kernel part stays whole where a side of a channel is shut down.
--     whole_shut
use Rattle.std.proofs.Common.{◌≡◌, ℕ, ◌-◌, ◌<◌, Bool, true, false, cond, [], refl, sym, ap, subst, ◌∙◌, arith}
use Rattle.std.specs.Prelude.{◌==◌, ◌&&◌, nat_lt, Some, is_some}
use Rattle.std.specs.FinMap as map
use Rattle.std.proofs.lemmas.Bool.Decides.{nat_tests}
use Rattle.std.proofs.lemmas.List.Elements.{All-nil}
use Rattle.plain_tables.specs.OfSysAbi.declared.identity.ConnId.{ConnId}
use Rattle.plain_tables.specs.OfSysAbi.declared.identity.Dir.{Dir}
use Rattle.plain_tables.proofs.OfSysAbi.OrderLaws.{dir_total, dir_exact}
use Rattle.plain_machine.specs.declared.kernel.PlainKernel.{PlainKernel}
use Rattle.plain_tables.specs.declared.channel.Channel.{Channel}
use Rattle.plain_tables.specs.declared.channel.Direction.{Direction}
use Rattle.plain_tables.specs.Tables.{Channels, Directions, changed_by, changed_at}
use Rattle.plain_tables.specs.Objects.{dir}
use Rattle.plain_tables.specs.Closing.{with_end, without_reader, silenced}
use Rattle.plain_tables.specs.Valid.Channels.{AreChannels, IsDirection}
use Rattle.plain_tables.specs.OfPlainProcess.Valid.{IsByte}
use Rattle.plain_machine.specs.Kernels.{IsKernel}
use Rattle.plain_machine.specs.Rows.Sockets.{shut}
use Rattle.plain_tables.proofs.DirectionChanges.{direction_keeps}
use Rattle.plain_tables.proofs.Entries.{found_at}
use Rattle.plain_machine.proofs.WholeChanges.{whole_directions}

-- a change of a direction that ends it, or that empties it for good
pub record Quiets (change : Direction → Direction) : Type 0 where
  pub fits : (direction : Direction) → IsDirection direction → IsDirection (change direction)
  pub left : (direction : Direction) → direction.left ≡ [] → (change direction).left ≡ []
  pub ended : (direction : Direction) → direction.ended ≡ true → (change direction).ended ≡ true
  pub unread : (direction : Direction) → direction.unread ≡ true → (change direction).unread ≡ true

ends : Quiets with_end
ends = record {
  fits = λ direction is. record { arrived = is.arrived; size = is.size; bytes = is.bytes; unread = is.unread };
  left = λ direction is. is;
  ended = λ direction is. refl;
  unread = λ direction is. is;
}

stops : Quiets without_reader
stops = record {
  fits = λ direction is. record { arrived = omega arith; size = omega arith; bytes = All-nil IsByte; unread = λ unread. refl };
  left = λ direction is. refl;
  ended = λ direction is. is;
  unread = λ direction is. refl;
}

module _ (channels : Channels) (directions : Directions) (at : Dir) (change : Direction → Direction) (quiets : Quiets change) (is : AreChannels channels directions) (there : is_some (map.get directions at) ≡ true) where
  quieted : AreChannels channels (changed_at directions at change)
  quieted =
      let old = found_at dir_total dir_exact directions at there in
      let same : (o : Direction) → map.get directions at ≡ Some o → old.0 ≡ o = λ o found. let one = old.1 in cc in
      subst (AreChannels channels) (sym (ap (changed_by directions at change) old.1))
      (direction_keeps channels directions at (change old.0) is there (quiets.fits old.0 (is.each at old.0 old.1))
      (λ channel known pipe one. quiets.left old.0 (is.pipes at.conn channel old.0 known pipe (subst (λ side. map.get directions (dir at.conn side) ≡ Some old.0) one old.1)))
      (λ o found holds. quiets.ended old.0 (ap (λ (d : Direction). d.ended) (same o found) ∙ holds))
      (λ o found holds. quiets.unread old.0 (ap (λ (d : Direction). d.unread) (same o found) ∙ holds)))

module _ (k : PlainKernel) (is : IsKernel k) (conn : ConnId) (channel : Channel) (side : ℕ) (known : map.get k.channels conn ≡ Some channel) (low : side < 2) where
  side_there : (directions : Directions) → AreChannels k.channels directions → (s : ℕ) → s < 2 → is_some (map.get directions (dir conn s)) ≡ true
  side_there directions are s below = are.sides (dir conn s) ∙ ap (λ b. nat_lt s 2 && b) (ap is_some known) ∙ is_low s below
    where
      is_low : (s : ℕ) → s < 2 → (nat_lt s 2 && true) ≡ true
      is_low s below = grind (arith, nat_tests, below)

  sends_no_more : (directions : Directions) → AreChannels k.channels directions → AreChannels k.channels (changed_at directions (dir conn side) with_end)
  sends_no_more directions are = quieted k.channels directions (dir conn side) with_end ends are (side_there directions are side low)

  reads_no_more : (directions : Directions) → AreChannels k.channels directions → AreChannels k.channels (changed_at directions (dir conn (1 - side)) without_reader)
  reads_no_more directions are = quieted k.channels directions (dir conn (1 - side)) without_reader stops are (side_there directions are (1 - side) (omega arith))

  shut_keeps : (how : ℕ) → AreChannels k.channels (shut k.directions conn side how)
  unfolding shut silenced
  shut_keeps how = chosen (how == 0) (how == 1)
    where
      chosen : (a b : Bool) → AreChannels k.channels (cond a (changed_at k.directions (dir conn (1 - side)) without_reader) (cond b (changed_at k.directions (dir conn side) with_end) (silenced k.directions conn side)))
      chosen true b = reads_no_more k.directions is.channels
      chosen false true = sends_no_more k.directions is.channels
      chosen false false = reads_no_more (changed_at k.directions (dir conn side) with_end) (sends_no_more k.directions is.channels)

  pub whole_shut : (how : ℕ) → IsKernel (record k { directions = shut k.directions conn side how })
  whole_shut how = whole_directions k (shut k.directions conn side how) is (shut_keeps how)
