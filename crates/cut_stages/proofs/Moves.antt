-- Bytes of one direction that pass on, whatever the agents' task is.
--     moved_further        the system is further after it
--     moved_passed         nothing was on its way, or less is left to do
use Rattle.std.proofs.Common.{◌≡◌, ◌<◌, ◌⊎◌, ℕ, zero, suc, true, false, length, min, Option, Some, None, inl, inr, refl, sym, ap, subst, ◌∙◌, arith}
use Rattle.std.specs.Prelude.{is_some}
use Rattle.views.proofs.MapLaws.{true_false}
use Rattle.sys_abi.specs.declared.identity.Dir.{Dir}
use Rattle.wire_channels.specs.declared.place.Place.{Place}
use Rattle.wire_channels.specs.declared.place.Place.TheVariants.{Send, Wire}
use Rattle.wire_channels.specs.Answers.{bytes_on}
use Rattle.wire_channels.specs.Channels.{Channels, direction_at, at_direction}
use Rattle.wire_channels.specs.Directions.{Direction, after_move}
use Rattle.wire_channels.specs.Frames.{SameFrames}
use Rattle.wire_channels.proofs.KeptFrames.{none_moved}
use Rattle.wire_net.specs.Networks.{Network}
use Rattle.wire_net.specs.Noted.{Notes, has_notes}
use Rattle.wire_net.proofs.Streams.{whereabouts-move}
use Rattle.cut_stages.specs.Drains.{pumped}
use Rattle.cut_stages.specs.Rounds.{Task, under_way, IsGoing, IsFurther, IsQuiet, Passed}
use Rattle.cut_stages.proofs.Cutting.{on_channels}

module _ (task : Task)
    (fits_moved : (m : Channels) (notes : Notes) (d : Dir) (place : Place) (n : ℕ) → d.side < 2
    → task.fitting m notes → task.fitting (at_direction m d (after_move place n)) notes)
    (lowers : (m : Channels) (notes : Notes) (d : Dir) (place : Place) (n : ℕ) → d.side < 2
    → task.fitting m notes → has_notes d notes ≡ true → 0 < n → 0 < length (bytes_on place (direction_at m d))
    → task.work (at_direction m d (after_move place n)) notes < task.work m notes)
    (t : Network) (notes : Notes) (d : Dir) (n : ℕ) (below : d.side < 2)
    (is : IsGoing task (under_way t notes)) where
  abbrev moved : Channels → Place → Channels
  moved m place = at_direction m d (after_move place n)

  abbrev count_at : Channels → Place → ℕ
  count_at m place = min n (length (bytes_on place (direction_at m d)))

  pub moved_further : SameFrames t.channels (pumped d n t).channels
      → IsFurther task (under_way t notes) (under_way (pumped d n t) notes)
  moved_further frame = record {
    net = refl;
    fits = fits_moved (moved t.channels Send) notes d Wire n below
        (fits_moved t.channels notes d Send n below is.fits);
    agents = refl;
    frame = frame;
    kept = λ e side.
        whereabouts-move (on_channels t (moved t.channels Send)) (task.held notes) d e Wire n
        ∙ whereabouts-move t (task.held notes) d e Send n;
  }

  -- one of the two moves
  one : (m : Channels) (place : Place) → task.fitting m notes → has_notes d notes ≡ true
      → ((moved m place ≡ m) × (count_at m place ≡ 0))
      ⊎ (task.work (moved m place) notes < task.work m notes)
  one m place fits noted = by (count_at m place) refl
    where
      by : (count : ℕ) → count_at m place ≡ count
          → ((moved m place ≡ m) × (count_at m place ≡ 0))
          ⊎ (task.work (moved m place) notes < task.work m notes)
      by zero at = inl (none_moved m d place n at, at)
      by (suc count) at =
          let some : 0 < n = omega (arith, at) in
          let there : 0 < length (bytes_on place (direction_at m d)) = omega (arith, at) in
          inr (lowers m notes d place n below fits noted some there)

  abbrev IsEmpty : Type 0
  IsEmpty = (place : Place) → count_at t.channels place ≡ 0

  abbrev Ended : Channels → Type 0
  Ended m = ((m ≡ t.channels) × IsEmpty) ⊎ (task.work m notes < task.work t.channels notes)

  both_empty : count_at t.channels Send ≡ 0 → count_at t.channels Wire ≡ 0 → IsEmpty
  both_empty sent wire Send = sent
  both_empty sent wire Wire = wire

  then_moved : (m : Channels)
      → ((m ≡ t.channels) × (count_at t.channels Send ≡ 0)) ⊎ (task.work m notes < task.work t.channels notes)
      → ((moved m Wire ≡ m) × (count_at m Wire ≡ 0)) ⊎ (task.work (moved m Wire) notes < task.work m notes)
      → Ended (moved m Wire)
  then_moved m (inl first) (inl then) =
      inl (then.0 ∙ first.0, both_empty first.1 (subst (λ x. count_at x Wire ≡ 0) first.0 then.1))
  then_moved m (inl first) (inr less) =
      inr (subst (λ x. task.work (moved m Wire) notes < task.work x notes) first.0 less)
  then_moved m (inr less) (inl then) =
      inr (subst (λ x. task.work x notes < task.work t.channels notes) (sym then.0) less)
  then_moved m (inr less) (inr more) = inr (omega (arith, less, more))

  two : has_notes d notes ≡ true → Ended (moved (moved t.channels Send) Wire)
  two noted =
      then_moved (moved t.channels Send) (one t.channels Send is.fits noted)
      (one (moved t.channels Send) Wire (fits_moved t.channels notes d Send n below is.fits) noted)

  -- a direction without notes isn't there
  absent : has_notes d notes ≡ false → Ended (moved (moved t.channels Send) Wire)
  absent none = by (direction_at t.channels d) refl
    where
      by : (o : Option Direction) → direction_at t.channels d ≡ o → Ended (moved (moved t.channels Send) Wire)
      by (Some direction) at = true_false (sym (is.noted d below (ap is_some at)) ∙ none)
      by None at =
          let empty : IsEmpty = λ place. ap (λ o. min n (length (bytes_on place o))) at ∙ none_of n in
          let first = none_moved t.channels d Send n (empty Send) in
          inl (ap (λ x. moved x Wire) first ∙ none_moved t.channels d Wire n (empty Wire), empty)
        where
          none_of : (k : ℕ) → min k 0 ≡ 0
          none_of k = omega arith

  ended : Ended (moved (moved t.channels Send) Wire)
  ended =
      elim (has_notes d notes) as (λ b. has_notes d notes ≡ b → Ended (moved (moved t.channels Send) Wire)) [
        | true ↦ λ noted. two noted
        | false ↦ λ none. absent none
      ] refl

  -- no bytes were on their way, or none were to be moved
  pub moved_less : (u : Network) → u ≡ pumped d n t
      → (u ≡ t) ⊎ (task.work u.channels notes < task.work t.channels notes)
  moved_less u is = elim ended [
    | inl same ↦ inl (is ∙ ap (on_channels t) same.0)
    | inr less ↦ inr (subst (λ (x : Network). task.work x.channels notes < task.work t.channels notes) (sym
        is) less)
  ]

  pub moved_passed : 0 < n
      → Passed task (IsQuiet (under_way t notes) d) (under_way t notes) (under_way (pumped d n t) notes)
  moved_passed some = elim ended [
    | inl same ↦ inl (
      ap (λ m. under_way (on_channels t m) notes) same.0,
      (λ side place. let none = same.1 place in omega (arith, none, some)),
    )
    | inr less ↦ inr less
  ]
