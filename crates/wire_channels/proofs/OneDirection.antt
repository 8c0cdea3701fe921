-- A change of one direction of the network.
--     unchanged_direction         a change that leaves the direction as it is leaves all as it is
--     agreeing_changes            two changes that do the same to it
--     changed_twice               two changes of a direction are one
--     direction_changed           the direction after a change of it
--     direction_beside            another direction after it
use Rattle.std.proofs.Common.{◌≡◌, ◌≢◌, ℕ, ◌==◌, ◌<◌, Bool, true, false, refl, sym, ap, ◌∙◌, inl, inr, arith}
use Rattle.std.specs.Prelude.{Option, Some, None, if◌then◌else◌}
use Rattle.std.specs.Option.{option_map, option_map_or}
use Rattle.std.specs.FinMap as map
use Rattle.std.proofs.lemmas.Bool.Decides.{nat_tests}
use Rattle.virt_ids.proofs.OfViews.MapLaws.{same_or_other, get_insert_same, get_insert_other, insert_insert, insert_same}
use Rattle.virt_ids.specs.OfSysAbi.declared.identity.ConnId.{ConnId}
use Rattle.virt_ids.specs.OfSysAbi.declared.identity.Dir.{Dir}
use Rattle.virt_ids.proofs.OfSysAbi.OrderLaws.{conn_total, conn_exact}
use Rattle.wire_channels.specs.declared.channel.Channel.{Channel}
use Rattle.wire_channels.specs.Directions.{Direction}
use Rattle.wire_channels.specs.Channels.{Channels, direction_at, at_direction}

abbrev chosen : Bool → Channel → Direction
chosen b channel = if b then channel.first else channel.second

abbrev changed : Bool → (Direction → Direction) → Channel → Channel
changed b f channel = if b then record channel { first = f channel.first } else record channel { second = f channel.second }

-- the channel that was found at a name, with the change
abbrev put_changed : Channels → ConnId → Bool → (Direction → Direction) → Option Channel → Channels
put_changed m id b f found = option_map_or (λ channel. map.insert m id (changed b f channel)) found m

unchanged_side : (b : Bool) (f : Direction → Direction) (channel : Channel) → f (chosen b channel) ≡ chosen b channel → changed b f channel ≡ channel
unchanged_side true f channel same = ap (λ (direction : Direction). record channel { first = direction }) same
unchanged_side false f channel same = ap (λ (direction : Direction). record channel { second = direction }) same

unchanged_found : (m : Channels) (id : ConnId) (b : Bool) (f : Direction → Direction) (found : Option Channel) → ((direction : Direction) → f direction ≡ direction) → map.get m id ≡ found
    → put_changed m id b f found ≡ m
unchanged_found m id b f None same is = refl
unchanged_found m id b f (Some channel) same is =
    ap (map.insert m id) (unchanged_side b f channel (same (chosen b channel))) ∙ insert_same conn_total conn_exact m id channel is

pub unchanged_direction : (m : Channels) (d : Dir) (f : Direction → Direction) → ((direction : Direction) → f direction ≡ direction) → at_direction m d f ≡ m
unchanged_direction m d f same = unchanged_found m d.conn (d.side == 0) f (map.get m d.conn) same refl

agreeing_side : (b : Bool) (f g : Direction → Direction) (channel : Channel) → f (chosen b channel) ≡ g (chosen b channel) → changed b f channel ≡ changed b g channel
agreeing_side true f g channel same = ap (λ (direction : Direction). record channel { first = direction }) same
agreeing_side false f g channel same = ap (λ (direction : Direction). record channel { second = direction }) same

agreeing_found : (m : Channels) (id : ConnId) (b : Bool) (f g : Direction → Direction) (found : Option Channel) → ((direction : Direction) → option_map (chosen b) found ≡ Some direction → f direction ≡ g direction)
    → put_changed m id b f found ≡ put_changed m id b g found
agreeing_found m id b f g None same = refl
agreeing_found m id b f g (Some channel) same = ap (map.insert m id) (agreeing_side b f g channel (same (chosen b channel) refl))

pub agreeing_changes : (m : Channels) (d : Dir) (f g : Direction → Direction) → ((direction : Direction) → direction_at m d ≡ Some direction → f direction ≡ g direction) → at_direction m d f ≡ at_direction m d g
agreeing_changes m d f g same = agreeing_found m d.conn (d.side == 0) f g (map.get m d.conn) same

twice_side : (b : Bool) (f g : Direction → Direction) (channel : Channel) → changed b g (changed b f channel) ≡ changed b (λ direction. g (f direction)) channel
twice_side true f g channel = refl
twice_side false f g channel = refl

twice_found : (m : Channels) (id : ConnId) (b : Bool) (f g : Direction → Direction) (found : Option Channel) → map.get m id ≡ found
    → put_changed (put_changed m id b f found) id b g (map.get (put_changed m id b f found) id) ≡ put_changed m id b (λ direction. g (f direction)) found
twice_found m id b f g None is = ap (put_changed m id b g) is
twice_found m id b f g (Some channel) is =
    ap (put_changed (map.insert m id (changed b f channel)) id b g) (get_insert_same conn_total conn_exact m id (changed b f channel))
    ∙ insert_insert conn_total conn_exact m id (changed b f channel) (changed b g (changed b f channel))
    ∙ ap (map.insert m id) (twice_side b f g channel)

pub changed_twice : (m : Channels) (d : Dir) (f g : Direction → Direction) → at_direction (at_direction m d f) d g ≡ at_direction m d (λ direction. g (f direction))
changed_twice m d f g = twice_found m d.conn (d.side == 0) f g (map.get m d.conn) refl

chosen_changed : (b : Bool) (f : Direction → Direction) (channel : Channel) → chosen b (changed b f channel) ≡ f (chosen b channel)
chosen_changed true f channel = refl
chosen_changed false f channel = refl

found_changed : (m : Channels) (id : ConnId) (b : Bool) (f : Direction → Direction) (found : Option Channel) → map.get m id ≡ found
    → option_map (chosen b) (map.get (put_changed m id b f found) id) ≡ option_map f (option_map (chosen b) found)
found_changed m id b f None is = ap (option_map (chosen b)) is
found_changed m id b f (Some channel) is =
    ap (option_map (chosen b)) (get_insert_same conn_total conn_exact m id (changed b f channel)) ∙ ap (λ (direction : Direction). Some direction) (chosen_changed b f channel)

pub direction_changed : (m : Channels) (d : Dir) (f : Direction → Direction) → direction_at (at_direction m d f) d ≡ option_map f (direction_at m d)
direction_changed m d f = found_changed m d.conn (d.side == 0) f (map.get m d.conn) refl

other_chosen : (a b : Bool) (f : Direction → Direction) (channel : Channel) → a ≢ b → chosen a (changed b f channel) ≡ chosen a channel
other_chosen true true f channel differ = absurd (differ refl)
other_chosen true false f channel differ = refl
other_chosen false true f channel differ = refl
other_chosen false false f channel differ = absurd (differ refl)

found_beside : (m : Channels) (id other : ConnId) (a b : Bool) (f : Direction → Direction) (found : Option Channel) → (other ≡ id → a ≢ b) → map.get m id ≡ found
    → option_map (chosen a) (map.get (put_changed m id b f found) other) ≡ option_map (chosen a) (map.get m other)
found_beside m id other a b f None differ is = refl
found_beside m id other a b f (Some channel) differ is = elim (same_or_other conn_total conn_exact other id) [
  | inl same ↦
      ap (option_map (chosen a)) (ap (map.get (map.insert m id (changed b f channel))) same ∙ get_insert_same conn_total conn_exact m id (changed b f channel))
      ∙ ap (λ (direction : Direction). Some direction) (other_chosen a b f channel (differ same))
      ∙ ap (option_map (chosen a)) (sym (ap (map.get m) same ∙ is))
  | inr apart ↦ ap (option_map (chosen a)) (get_insert_other conn_total conn_exact m id (changed b f channel) other apart)
]

-- two sides, each 0 or 1
same_sides : (a b : ℕ) → a < 2 → b < 2 → (a == 0) ≡ (b == 0) → a ≡ b
same_sides a b few less same = grind (arith, nat_tests)

pub direction_beside : (m : Channels) (d e : Dir) (f : Direction → Direction) → d.side < 2 → e.side < 2 → e ≢ d → direction_at (at_direction m d f) e ≡ direction_at m e
direction_beside m d e f few less differ =
    found_beside m d.conn e.conn (e.side == 0) (d.side == 0) f (map.get m d.conn)
    (λ same sides. differ (ap (λ (p : ConnId × ℕ). record { conn = p.0; side = p.1 }) (pair same (same_sides e.side d.side less few sides)))) refl
  where
    pair : {a b : ConnId} {x y : ℕ} → a ≡ b → x ≡ y → let here : ConnId × ℕ = (a, x) in here ≡ (b, y)
    pair p q = cc
