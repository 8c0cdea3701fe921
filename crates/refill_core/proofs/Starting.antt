-- A refill of which no byte has moved yet fits the network.
--     begins_fit          so it is
--     fresh_pair          such a refill of one new channel
use Rattle.std.proofs.Common.{◌≡◌, ◌≢◌, ℕ, ◌==◌, ◌-◌, ◌⊎◌, Bool, true, false, [], ◌∷◌, take, drop, refl, sym, ap, subst, ◌∙◌, arith, inl, inr}
use Rattle.std.specs.Prelude.{Option, Some, None, IsSome, is_some, All, if◌then◌else◌}
use Rattle.std.specs.Option.{option_map, option_map_or}
use Rattle.std.specs.FinMap as map
use Rattle.std.proofs.lemmas.List.Elements.{All-nil, All-cons}
use Rattle.views.proofs.MapLaws.{key_tied, other_key}
use Rattle.sys_abi.specs.declared.identity.ConnId.{ConnId}
use Rattle.sys_abi.specs.declared.identity.Dir.{Dir}
use Rattle.sys_abi.proofs.OrderLaws.{dir_total, dir_exact}
use Rattle.wire_channels.specs.declared.channel.Channel.{Channel}
use Rattle.wire_net.specs.declared.cut_room.DirNotes.{DirNotes}
use Rattle.wire_channels.specs.Directions.{Direction, unused}
use Rattle.wire_channels.specs.Channels.{Channels, new_channel, direction_of, direction_at, is_live, is_live_at}
use Rattle.wire_net.specs.Whereabouts.{stream, reverse}
use Rattle.refill_core.specs.Tasks.{sent_in_all}
use Rattle.refill_core.specs.Refills.{Notes, notes_at, IsNoted, IsRefilling, IsFlowing, IsAside, IsInStep, Fits}
use Rattle.refill_core.specs.Beginnings.{IsNew, IsReady, IsBeginning}
use Rattle.wire_net.proofs.Items.{for_each, one_of}

noted : (x : DirNotes) → IsNew x → IsNoted x
noted x new = record {
  side = new.side;
  few = new.few;
  whole = new.whole;
  room = new.room;
  read = (let none = new.unread in omega (arith, none));
  back = new.none_back ∙ sym (ap (λ (n : ℕ). take (n - 4) x.drained.items) new.unread);
}

refilling : (x y : DirNotes) (d : Direction) → x.sent ≡ 0 → y.read ≡ 0 → IsFlowing d → stream d ≡ [] → IsRefilling x y d
refilling x y d unsent unread flows empty = record {
  flows = flows;
  queues = empty ∙ sym (ap (λ (n : ℕ). drop y.read (take n (sent_in_all x y))) unsent ∙ ap (λ (n : ℕ). drop n (take 0 (sent_in_all x y))) unread);
  sent = omega (arith, unsent);
  read = omega (arith, unread);
  turn = λ more. absurd (omega (arith, unsent, more));
}

in_step : (m : Channels) (notes : Notes) (x : DirNotes) → IsNew x → IsAside m x ⊎ IsReady m notes x → IsInStep m notes x
in_step m notes x new (inl aside) = inl aside
in_step m notes x new (inr ready) = inr (record {
  sender = ready.sender;
  other = ready.other;
  paired = ready.paired;
  direction = ready.direction;
  found = ready.found;
  refills = refilling x ready.other ready.direction new.unsent ready.other_unread ready.flows ready.empty;
})

pub begins_fit : (m : Channels) (notes : Notes) → IsBeginning m notes → Fits m notes
begins_fit m notes begin = record {
  apart = begin.apart;
  noted = for_each IsNoted notes (λ front back x among. noted x (one_of IsNew front back x (subst (All IsNew) among begin.new)));
  in_step = for_each (IsInStep m notes) notes (λ front back x among.
      in_step m notes x (one_of IsNew front back x (subst (All IsNew) among begin.new))
      (one_of (λ z. IsAside m z ⊎ IsReady m notes z) front back x (subst (All (λ z. IsAside m z ⊎ IsReady m notes z)) among begin.ready)));
  live = begin.live;
}

-- ---- one new channel

some_true : {X : Type 0} (o : Option X) → IsSome o → is_some o ≡ true
some_true None there = absurd (apart there)
  where
    apart : false ≡ true → ⊥
    apart e = cc
some_true (Some v) there = refl

new_at : (m : Channels) (d : Dir) → map.get m d.conn ≡ Some new_channel → direction_at m d ≡ Some unused
new_at m d is = ap (option_map (direction_of d.side)) is ∙ ap (λ (x : Direction). Some x) (choice (d.side == 0))
  where
    choice : (b : Bool) → (if b then unused else unused) ≡ unused
    choice true = refl
    choice false = refl

live_new : (m : Channels) (id : ConnId) → map.get m id ≡ Some new_channel → is_live_at m id ≡ true
live_new m id is = ap (λ (o : Option Channel). option_map_or is_live o false) is

pub fresh_pair : (m : Channels) (id : ConnId) (x y : DirNotes) → map.get m id ≡ Some new_channel → x.dir ≡ record { conn = id; side = 0 } → y.dir ≡ record { conn = id; side = 1 }
    → IsNew x → IsNew y → IsSome x.sender → IsSome y.sender → IsBeginning m (x ∷ y ∷ [])
fresh_pair m id x y is x_dir y_dir x_new y_new x_some y_some =
    let notes : Notes = x ∷ y ∷ [] in
    let first : Dir = record { conn = id; side = 0 } in
    let second : Dir = record { conn = id; side = 1 } in
    let differ : y.dir ≢ x.dir = λ same. (let sides : 1 ≡ 0 = ap (λ (d : Dir). d.side) (sym y_dir ∙ same ∙ x_dir) in absurd (omega (arith, sides))) in
    let at_x : notes_at x.dir notes ≡ Some x = ap (λ (b : Bool). if b then Some x else notes_at x.dir (y ∷ [])) (key_tied dir_total dir_exact x.dir) in
    let at_y : notes_at y.dir notes ≡ Some y =
    ap (λ (b : Bool). if b then Some x else notes_at y.dir (y ∷ [])) (other_key dir_total dir_exact x.dir y.dir (λ same. differ (sym same)))
    ∙ ap (λ (b : Bool). if b then Some y else None) (key_tied dir_total dir_exact y.dir) in
    let x_back : reverse x.dir ≡ y.dir = ap reverse x_dir ∙ sym y_dir in
    let y_back : reverse y.dir ≡ x.dir = ap reverse y_dir ∙ sym x_dir in
    let x_at = new_at m x.dir (ap (λ (d : Dir). map.get m d.conn) x_dir ∙ is) in
    let y_at = new_at m y.dir (ap (λ (d : Dir). map.get m d.conn) y_dir ∙ is) in
    let flows : IsFlowing unused = record { goes_on = refl; is_read = refl } in
    let P = λ (z : DirNotes). is_some z.sender ≡ is_live_at m z.dir.conn in
    let Q = λ (z : DirNotes). IsAside m z ⊎ IsReady m notes z in
    let x_ready : IsReady m notes x = record {
      sender = x_some;
      other = y;
      paired = ap (λ (d : Dir). notes_at d notes) x_back ∙ at_y;
      other_unread = y_new.unread;
      direction = unused;
      found = x_at;
      flows = flows;
      empty = refl;
    } in
    let y_ready : IsReady m notes y = record {
      sender = y_some;
      other = x;
      paired = ap (λ (d : Dir). notes_at d notes) y_back ∙ at_x;
      other_unread = x_new.unread;
      direction = unused;
      found = y_at;
      flows = flows;
      empty = refl;
    } in
    record {
      apart = (All-cons (λ (e : Dir). e ≢ x.dir) y.dir [] differ (All-nil (λ (e : Dir). e ≢ x.dir)), (All-nil (λ (e : Dir). e ≢ y.dir), tt));
      new = All-cons IsNew x (y ∷ []) x_new (All-cons IsNew y [] y_new (All-nil IsNew));
      ready = All-cons Q x (y ∷ []) (inr x_ready) (All-cons Q y [] (inr y_ready) (All-nil Q));
      live =
          All-cons P x (y ∷ []) (some_true x.sender x_some ∙ sym (ap (λ (d : Dir). is_live_at m d.conn) x_dir ∙ live_new m id is))
          (All-cons P y [] (some_true y.sender y_some ∙ sym (ap (λ (d : Dir). is_live_at m d.conn) y_dir ∙ live_new m id is)) (All-nil P));
    }
