-- What a directory has of a channel after publications of others and look-ups.
--     get_looked_up      after a look-up, of any channel
--     get_after          after a list of uses that does not publish the channel
use Rattle.std.proofs.Common.{◌≡◌, Bool, true, false, cond, ◌||◌, List, [], ◌∷◌, ◌++◌, refl, sym, ap, ◌∙◌}
use Rattle.std.specs.Prelude.{Option, Some, None, fold}
use Rattle.std.specs.Option.{option_map, option_map_or}
use Rattle.std.specs.List.{list_any}
use Rattle.std.specs.Ordering.{eq_by_cmp}
use Rattle.std.specs.FinMap as map
use Rattle.std.proofs.lemmas.List.Sums.{fold-append}
use Rattle.views.proofs.MapLaws.{true_false, get_insert_same, same_key}
use Rattle.sys_abi.specs.declared.identity.ConnId.{ConnId}
use Rattle.sys_abi.specs.declared.identity.RealAddr.{RealAddr}
use Rattle.sys_abi.specs.Orders.{conn_cmp}
use Rattle.sys_abi.proofs.OrderLaws.{conn_total, conn_exact}
use Rattle.discovery.specs.declared.publication.Publication.{Publication}
use Rattle.discovery.specs.Directories.{Publications, with_place, with_look_up}
use Rattle.discovery.specs.Uses.{Use, Publishes, Finds, after_use, after_uses, publishes, finds, LastCounts, AskedSince, NothingElse}

-- the publication, which was looked up too where this is true
abbrev or_asked : Bool → Publication → Publication
or_asked b p = record { at = p.at; asked = p.asked || b }

or_false : (b : Bool) → b ≡ (b || false)
or_false true = refl
or_false false = refl

or_true : (b : Bool) → true ≡ (b || true)
or_true true = refl
or_true false = refl

or_assoc : (a b c : Bool) → ((a || b) || c) ≡ (a || (b || c))
or_assoc true b c = refl
or_assoc false b c = refl

first_false : (a b : Bool) → (a || b) ≡ false → a ≡ false
first_false true b is = true_false is
first_false false b is = refl

second_false : (a b : Bool) → (a || b) ≡ false → b ≡ false
second_false true b is = true_false is
second_false false b is = is

not_asked : (found : Option Publication) → found ≡ option_map (or_asked false) found
not_asked None = refl
not_asked (Some p) = ap (λ b. Some (record { at = p.at; asked = b })) (or_false p.asked)

asked_twice : (a b : Bool) (found : Option Publication) → option_map (or_asked b) (option_map (or_asked a) found) ≡ option_map (or_asked (a || b)) found
asked_twice a b None = refl
asked_twice a b (Some p) = ap (λ x. Some (record { at = p.at; asked = x })) (or_assoc p.asked a b)

found_there : (m : Publications) (j id : ConnId) (found : Option Publication) → map.get m j ≡ found → eq_by_cmp conn_cmp id j ≡ true → map.get m id ≡ found
found_there m j id found is tied = ap (map.get m) (same_key conn_total conn_exact id j tied) ∙ is

-- by what is there of the channel that is looked up, and whether it is this one
by_found : (m : Publications) (j id : ConnId) (found : Option Publication) (same : Bool) → map.get m j ≡ found → eq_by_cmp conn_cmp id j ≡ same
    → map.get (option_map_or (λ p. map.insert m j (record { at = p.at; asked = true })) found m) id ≡ option_map (or_asked same) (map.get m id)
by_found m j id None true is tied = found_there m j id None is tied ∙ ap (option_map (or_asked true)) (sym (found_there m j id None is tied))
by_found m j id (Some p) true is tied =
    map.get-insert conn_total m j (record { at = p.at; asked = true }) id
    ∙ ap (λ b. cond b (Some (record { at = p.at; asked = true })) (map.get m id)) tied
    ∙ ap (λ b. Some (record { at = p.at; asked = b })) (or_true p.asked)
    ∙ ap (option_map (or_asked true)) (sym (found_there m j id (Some p) is tied))
by_found m j id None false is apart = not_asked (map.get m id)
by_found m j id (Some p) false is apart =
    map.get-insert conn_total m j (record { at = p.at; asked = true }) id
    ∙ ap (λ b. cond b (Some (record { at = p.at; asked = true })) (map.get m id)) apart
    ∙ not_asked (map.get m id)

pub get_looked_up : (m : Publications) (j id : ConnId) → map.get (with_look_up m j) id ≡ option_map (or_asked (eq_by_cmp conn_cmp id j)) (map.get m id)
get_looked_up m j id = by_found m j id (map.get m j) (eq_by_cmp conn_cmp id j) refl refl

-- another channel is published
get_beside : (m : Publications) (j id : ConnId) (at : RealAddr) → eq_by_cmp conn_cmp id j ≡ false → map.get (with_place m j at) id ≡ map.get m id
get_beside m j id at apart =
    map.get-insert conn_total m j (record { at = at; asked = false }) id ∙ ap (λ b. cond b (Some (record { at = at; asked = false })) (map.get m id)) apart

pub get_after : (m : Publications) (uses : List Use) (id : ConnId) → list_any (publishes id) uses ≡ false
    → map.get (fold after_use m uses) id ≡ option_map (or_asked (list_any (finds id) uses)) (map.get m id)
get_after m [] id none = not_asked (map.get m id)
get_after m (Publishes j at ∷ uses) id none =
    get_after (with_place m j at) uses id (second_false (eq_by_cmp conn_cmp id j) (list_any (publishes id) uses) none)
    ∙ ap (option_map (or_asked (list_any (finds id) uses))) (get_beside m j id at (first_false (eq_by_cmp conn_cmp id j) (list_any (publishes id) uses) none))
get_after m (Finds j ∷ uses) id none =
    get_after (with_look_up m j) uses id none
    ∙ ap (option_map (or_asked (list_any (finds id) uses))) (get_looked_up m j id)
    ∙ asked_twice (eq_by_cmp conn_cmp id j) (list_any (finds id) uses) (map.get m id)

after_publication : (earlier later : List Use) (id : ConnId) (at : RealAddr) → list_any (publishes id) later ≡ false
    → map.get (after_uses (earlier ++ Publishes id at ∷ later)) id ≡ Some (record { at = at; asked = list_any (finds id) later })
after_publication earlier later id at none =
    ap (λ m. map.get m id) (fold-append after_use map.empty earlier (Publishes id at ∷ later))
    ∙ get_after (with_place (after_uses earlier) id at) later id none
    ∙ ap (option_map (or_asked (list_any (finds id) later))) (get_insert_same conn_total conn_exact (after_uses earlier) id (record { at = at; asked = false }))

pub last_counts : LastCounts
last_counts earlier later id at none = ap (option_map (λ (p : Publication). p.at)) (after_publication earlier later id at none)

pub asked_since : AskedSince
asked_since earlier later id at none = ap (λ found. option_map_or (λ (p : Publication). p.asked) found false) (after_publication earlier later id at none)

pub nothing_else : NothingElse
nothing_else uses id none = get_after map.empty uses id none ∙ ap (option_map (or_asked (list_any (finds id) uses))) (map.get-empty conn_cmp id)
