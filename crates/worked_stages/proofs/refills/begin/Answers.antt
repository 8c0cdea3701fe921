-- What was drained of the one new channel that the network has.
use Rattle.std.proofs.Common.{◌≡◌, ◌≢◌, ℕ, ◌==◌, ◌<◌, ◌≤◌, Bool, true, false, List, [], ◌∷◌, length, refl, sym, ap, subst, ◌∙◌, arith, inl, inr, ◌++◌}
use Rattle.std.specs.Prelude.{Option, Some, None, IsSome, not, if◌then◌else◌}
use Rattle.std.specs.Option.{option_map, option_map_or}
use Rattle.std.specs.FinMap as map
use Rattle.std.proofs.lemmas.Bool.Decides.{nat_tests}
use Rattle.std.proofs.lemmas.List.Elements.{All-nil, All-cons}
use Rattle.views.proofs.MapLaws.{same_or_other, get_insert_same, get_insert_other, true_false}
use Rattle.sys_abi.specs.declared.identity.ConnId.{ConnId}
use Rattle.sys_abi.specs.declared.identity.Dir.{Dir}
use Rattle.sys_abi.specs.Orders.{conn_cmp}
use Rattle.sys_abi.proofs.OrderLaws.{conn_total, conn_exact}
use Rattle.wire_channels.specs.declared.channel.Channel.{Channel}
use Rattle.wire_net.specs.declared.cut_room.DirBytes.{DirBytes}
use Rattle.wire_channels.specs.declared.limits.TheConstants.{QUEUE_LIMIT}
use Rattle.wire_channels.specs.Directions.{unused}
use Rattle.wire_channels.specs.Channels.{Channels, new_channel, direction_of, is_live, is_live_at}
use Rattle.wire_net.specs.DrainedNets.{IsListOf, IsDrained, HasLists, list_on}
use Rattle.wire_net.specs.Ends.{end_of, agent_of, IsFor}
use Rattle.wire_net.specs.Whereabouts.{stream_on}
use Rattle.worked_stages.specs.Taken.{taken}
use Rattle.worked_stages.specs.declared.channel.TheConstants.{CONN, FIRST, SECOND, ENDS}
use Rattle.worked_stages.proofs.refills.begin.Goals as goal

abbrev one : Channels
one = map.insert map.empty CONN new_channel

found : map.get one CONN ≡ Some new_channel
found = get_insert_same conn_total conn_exact map.empty CONN new_channel

alone : (id : ConnId) → IsSome (map.get one id) → id ≡ CONN
alone id there = elim (same_or_other conn_total conn_exact id CONN) [
  | inl same ↦ same
  | inr differ ↦ true_false (sym (subst IsSome (get_insert_other conn_total conn_exact map.empty CONN new_channel id differ ∙ map.get-empty conn_cmp id) there))
]

two_sides : (P : ℕ → Type 0) (side : ℕ) → side < 2 → P 0 → P 1 → P side
two_sides P side few first second = choice (side == 0) refl
  where
    choice : (b : Bool) → (side == 0) ≡ b → P side
    choice true is = subst P (let e : 0 ≡ side = grind (arith, nat_tests, is) in e) first
    choice false is = subst P (let e : 1 ≡ side = grind (arith, nat_tests, is, few) in e) second

some_none : {X : Type 0} (v : X) → Some v ≢ None
some_none v e = cc

somebody : (id : ConnId) (channel : Channel) (side : ℕ) → side < 2 → map.get one id ≡ Some channel → agent_of ENDS id side ≢ None
somebody id channel side few at none =
    let same = alone id (subst IsSome (sym at) refl) in
    two_sides (λ s. agent_of ENDS CONN s ≢ None) side few (some_none _) (some_none _) (subst (λ (i : ConnId). agent_of ENDS i side ≡ None) same none)

ends_are_for : IsFor one ENDS
ends_are_for = record {
  named = λ id side few there. subst (λ (i : ConnId). IsSome (end_of ENDS i side)) (sym (alone id there)) (two_sides (λ s. IsSome (end_of ENDS CONN s)) side few refl refl);
  silent = λ id channel side few at none. absurd (somebody id channel side few at none);
  deaf = λ id channel side few at none. absurd (somebody id channel side few at none);
}

-- ---- what was drained

abbrev drained : List ℕ → List ℕ → List DirBytes
drained first second = taken SECOND second ∷ taken FIRST first ∷ []

is_list : (d : Dir) (bytes : List ℕ) → d.conn ≡ CONN → d.side < 2 → length bytes ≤ QUEUE_LIMIT → IsListOf one (taken d bytes)
is_list d bytes conn side few = record {
  side = side;
  few = few;
  place = sym (ap (λ (id : ConnId). not (is_live_at one id)) conn ∙ ap (λ (o : Option Channel). not (option_map_or is_live o false)) found);
  stands = ap (λ (id : ConnId). stream_on (option_map (direction_of d.side) (map.get one id))) conn ∙ ap (λ (o : Option Channel). stream_on (option_map (direction_of d.side) o)) found ∙ empty (d.side == 0);
}
  where
    empty : (b : Bool) → stream_on (Some (if b then unused else unused)) ≡ []
    empty true = refl
    empty false = refl

is_drained : (first second : List ℕ) → length first ≤ QUEUE_LIMIT → length second ≤ QUEUE_LIMIT → IsDrained one (drained first second)
is_drained first second few less = record {
  apart = (All-cons (λ (e : Dir). e ≢ SECOND) FIRST [] differ (All-nil (λ (e : Dir). e ≢ SECOND)), (All-nil (λ (e : Dir). e ≢ FIRST), tt));
  lists_of =
      All-cons (IsListOf one) (taken SECOND second) (taken FIRST first ∷ []) (is_list SECOND second refl (omega arith) less)
      (All-cons (IsListOf one) (taken FIRST first) [] (is_list FIRST first refl (omega arith) few) (All-nil (IsListOf one)));
}
  where
    differ : FIRST ≢ SECOND
    differ same = let sides : 0 ≡ 1 = ap (λ (d : Dir). d.side) same in absurd (omega (arith, sides))

has_lists : (first second : List ℕ) → HasLists one (drained first second)
has_lists first second d side there =
    let same = alone d.conn (some_channel (map.get one d.conn) there) in
    subst (λ (id : ConnId). IsSome (list_on (record { conn = id; side = d.side }) (drained first second))) (sym same)
    (two_sides (λ s. IsSome (list_on (record { conn = CONN; side = s }) (drained first second))) d.side side refl refl)
  where
    some_channel : (o : Option Channel) → IsSome (option_map (direction_of d.side) o) → IsSome o
    some_channel None is = is
    some_channel (Some channel) is = refl

pub returns : goal.returns
returns c =
    c.begin.ensures.fits c.args.net.now.channels
    (subst (λ (m : Channels). IsFor m ENDS) (sym c.requires.net) ends_are_for)
    (subst (λ (m : Channels). IsDrained m c.in_ok-drained.drained.lists) (sym c.requires.net) (subst (IsDrained one) (sym c.in_ok-drained.ensures) (is_drained c.args.first.now c.args.second.now c.requires.first c.requires.second)))
    (subst (λ (m : Channels). HasLists m c.in_ok-drained.drained.lists) (sym c.requires.net) (subst (HasLists one) (sym c.in_ok-drained.ensures) (has_lists c.args.first.now c.args.second.now)))
