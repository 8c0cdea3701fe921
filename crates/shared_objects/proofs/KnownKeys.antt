-- What a map tells of descriptions, or of connections that wait, goes on to be true as there is one more
use Rattle.std.proofs.Common.{◌≡◌, ◌==◌, ◌&&◌, ◌||◌, ◌+◌, ◌<◌, ℕ, Bool, true, false, List, [], ◌∷◌, ◌++◌, length, take, get_or, refl, sym, ap, subst, ◌∙◌}
use Rattle.std.specs.Prelude.{is_some}
use Rattle.std.specs.List.{list_any}
use Rattle.std.specs.Ordering.{nat_cmp, eq_by_cmp}
use Rattle.std.proofs.lemmas.List.{take_more}
use Rattle.std.proofs.lemmas.Cmp.{nat_cmp_total}
use Rattle.std.specs.FinMap as map
use Rattle.std.specs.FinMap.{get-empty}
use Rattle.sys_abi.specs.declared.identity.ConnId.{ConnId}
use Rattle.sys_abi.specs.declared.identity.Dir.{Dir}
use Rattle.sys_abi.specs.declared.identity.VirtAddr.{VirtAddr}
use Rattle.sys_abi.specs.Orders.{conn_cmp, dir_cmp, address_cmp}
use Rattle.sys_abi.proofs.OrderLaws.{conn_total, dir_total, address_total}
use Rattle.shared_items.specs.declared.shared.ObjectImage.TheVariants.{Stream}
use Rattle.shared_items.specs.declared.shared.DescriptionImage.{DescriptionImage}
use Rattle.shared_items.specs.Sides.{same_channel, names_side, is_side_named}
use Rattle.shared_items.specs.WholeShared.{opens}
use Rattle.shared_items.specs.SharedTests.{has_port}
use Rattle.shared_items.specs.Keys.{HasKeys}
use Rattle.shared_items.proofs.Keys.{both_equal, same_number, turned, inserted, any_pushed, pushed}
use Rattle.shared_objects.specs.Known.{KnowsSides, KnowsPorts, KnowsOpened, KnowsQueue}

pub same_address : (a b : VirtAddr) → eq_by_cmp address_cmp a b ≡ ((b.host == a.host) && (b.port == a.port))
same_address a b =
    both_equal (nat_cmp a.host b.host) (nat_cmp a.port b.port)
    ∙ (λ i. same_number a.host b.host i && same_number a.port b.port i)
    ∙ (λ i. turned a.host b.host i && turned a.port b.port i)

pub same_side : (at end : Dir) → eq_by_cmp dir_cmp at end ≡ (same_channel at.conn end.conn && (at.side == end.side))
same_side at end = both_equal (conn_cmp at.conn end.conn) (nat_cmp at.side end.side) ∙ ap (λ b. same_channel at.conn end.conn && b) (same_number at.side end.side)

-- sides that something names

one_more : (side_is same before waits : Bool) → ((before || (side_is && waits)) || (same && side_is)) ≡ (before || (side_is && (waits || same)))
one_more true true true waits = refl
one_more true true false true = refl
one_more true true false false = refl
one_more true false true waits = refl
one_more true false false true = refl
one_more true false false false = refl
one_more false true true waits = refl
one_more false true false waits = refl
one_more false false true waits = refl
one_more false false false waits = refl

pub queue_more : (start m new : map.FinMap dir_cmp (Unit {0})) (queue : List ConnId) (i : ℕ) (d : ConnId) → i < length queue
    → new ≡ map.insert m (record { conn = get_or queue i d; side = 1 }) tt
    → HasKeys m (λ at. is_some (map.get start at) || ((at.side == 1) && list_any (same_channel at.conn) (take i queue)))
    → HasKeys new (λ at. is_some (map.get start at) || ((at.side == 1) && list_any (same_channel at.conn) (take (i + 1) queue)))
queue_more start m new queue i d inside same before at =
    inserted dir_total m new (record { conn = get_or queue i d; side = 1 }) tt same at
    ∙ (λ j. before at j || same_side at (record { conn = get_or queue i d; side = 1 }) j)
    ∙ one_more (at.side == 1) (same_channel at.conn (get_or queue i d)) (is_some (map.get start at)) (list_any (same_channel at.conn) (take i queue))
    ∙ ap (λ b. is_some (map.get start at) || ((at.side == 1) && b))
    (sym (ap (list_any (same_channel at.conn)) (take_more queue i d inside) ∙ any_pushed (same_channel at.conn) (take i queue) (get_or queue i d)))

pub stream_noted : (m new : map.FinMap dir_cmp (Unit {0})) (conn : ConnId) (side : ℕ) → new ≡ map.insert m (record { conn = conn; side = side }) tt
    → HasKeys new (λ at. is_some (map.get m at) || names_side at.conn at.side (Stream conn side))
stream_noted m new conn side same at =
    inserted dir_total m new (record { conn = conn; side = side }) tt same at ∙ ap (λ b. is_some (map.get m at) || b) (same_side at (record { conn = conn; side = side }))

pub no_side : (m : map.FinMap dir_cmp (Unit {0})) → m ≡ map.empty → KnowsSides m []
unfolding is_side_named
no_side m is at = ap (λ x. is_some (map.get x at)) is ∙ ap is_some (get-empty dir_cmp at)

pub sides_pushed : (m new : map.FinMap dir_cmp (Unit {0})) (front : List DescriptionImage) (it : DescriptionImage)
    → HasKeys new (λ at. is_some (map.get m at) || names_side at.conn at.side it.object) → KnowsSides m front → KnowsSides new (front ++ it ∷ [])
unfolding is_side_named
sides_pushed m new front it step before = pushed (λ at (x : DescriptionImage). names_side at.conn at.side x.object) m new front it step before

pub sides_more : (m new : map.FinMap dir_cmp (Unit {0})) (all : List DescriptionImage) (i : ℕ) (it : DescriptionImage) → i < length all → it ≡ get_or all i it
    → HasKeys new (λ at. is_some (map.get m at) || names_side at.conn at.side it.object) → KnowsSides m (take i all) → KnowsSides new (take (i + 1) all)
sides_more m new all i it inside is step before =
    subst (KnowsSides new) (sym (take_more all i it inside ∙ ap (λ x. take i all ++ x ∷ []) (sym is))) (sides_pushed m new (take i all) it step before)

-- addresses that are in use

pub port_noted : (m new : map.FinMap address_cmp (Unit {0})) (address : VirtAddr) → new ≡ map.insert m address tt
    → HasKeys new (λ q. is_some (map.get m q) || ((address.host == q.host) && (address.port == q.port)))
port_noted m new address same q = inserted address_total m new address tt same q ∙ ap (λ b. is_some (map.get m q) || b) (same_address q address)

pub no_port : (m : map.FinMap address_cmp (Unit {0})) → m ≡ map.empty → KnowsPorts m []
no_port m is q = ap (λ x. is_some (map.get x q)) is ∙ ap is_some (get-empty address_cmp q)

pub ports_pushed : (m new : map.FinMap address_cmp (Unit {0})) (front : List DescriptionImage) (it : DescriptionImage)
    → HasKeys new (λ q. is_some (map.get m q) || has_port q.host q.port it.object) → KnowsPorts m front → KnowsPorts new (front ++ it ∷ [])
ports_pushed m new front it step before = pushed (λ q (x : DescriptionImage). has_port q.host q.port x.object) m new front it step before

-- files that are open

pub file_noted : (m new : map.FinMap nat_cmp (Unit {0})) (number : ℕ) → new ≡ map.insert m number tt
    → HasKeys new (λ n. is_some (map.get m n) || (number == n))
file_noted m new number same n = inserted nat_cmp_total m new number tt same n ∙ ap (λ b. is_some (map.get m n) || b) (same_number n number ∙ turned n number)

pub none_opened : (m : map.FinMap nat_cmp (Unit {0})) → m ≡ map.empty → KnowsOpened m []
none_opened m is n = ap (λ x. is_some (map.get x n)) is ∙ ap is_some (get-empty nat_cmp n)

pub opened_more : (m new : map.FinMap nat_cmp (Unit {0})) (all : List DescriptionImage) (i : ℕ) (it : DescriptionImage) → i < length all → it ≡ get_or all i it
    → HasKeys new (λ n. is_some (map.get m n) || opens n it.object) → KnowsOpened m (take i all) → KnowsOpened new (take (i + 1) all)
opened_more m new all i it inside is step before =
    subst (KnowsOpened new) (sym (take_more all i it inside ∙ ap (λ x. take i all ++ x ∷ []) (sym is)))
    (pushed (λ n (x : DescriptionImage). opens n x.object) m new (take i all) it step before)

-- connections that wait at one listener

pub none_queued : (m : map.FinMap conn_cmp (Unit {0})) → m ≡ map.empty → KnowsQueue m []
none_queued m is name = ap (λ x. is_some (map.get x name)) is ∙ ap is_some (get-empty conn_cmp name)

pub one_queued : (m new : map.FinMap conn_cmp (Unit {0})) (earlier : List ConnId) (conn : ConnId) → new ≡ map.insert m conn tt → KnowsQueue m earlier → KnowsQueue new (earlier ++ conn ∷ [])
one_queued m new earlier conn same before = pushed same_channel m new earlier conn (inserted conn_total m new conn tt same) before
