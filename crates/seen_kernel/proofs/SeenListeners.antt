-- The listeners of descriptions, taken one after the other.
--     listeners_done               what is made of all descriptions is what the tables stand for
--     queue_on, queue_ends         the connections that wait at a port, one after the other
use Rattle.std.proofs.Common.{◌≡◌, ◌≤◌, ◌+◌, ℕ, zero, suc, true, false, ◌||◌, List, [], ◌∷◌, ◌++◌, length, take, refl, sym, ap, ◌∙◌, arith}
use Rattle.std.specs.Prelude.{Option, Some, None, is_some, slice_get, option_map, option_and_then}
use Rattle.std.specs.List.{list_any}
use Rattle.std.specs.FinMap as map
use Rattle.std.proofs.lemmas.Option.{same_Some, none-some}
use Rattle.std.proofs.lemmas.List.{take_all}
use Rattle.views.specs.Seen.{Agree, SeenBy}
use Rattle.views.proofs.MapLaws.{true_false, same_key}
use Rattle.sys_abi.specs.declared.identity.ConnId.{ConnId}
use Rattle.sys_abi.specs.declared.identity.RealAddr.{RealAddr}
use Rattle.sys_abi.specs.declared.identity.VirtAddr.{VirtAddr}
use Rattle.sys_abi.proofs.OrderLaws.{address_total, address_exact}
use Rattle.plain_tables.specs.declared.channel.Listening.{Listening}
use Rattle.plain_tables.specs.declared.description.Description.{Description}
use Rattle.plain_tables.specs.declared.description.Object.{Object}
use Rattle.plain_tables.specs.declared.description.Object.TheVariants as object
use Rattle.plain_tables.specs.Objects.{is_listener_at}
use Rattle.plain_tables.specs.Tables as plain
use Rattle.plain_tables.specs.Valid.Sockets.{AreListeners}
use Rattle.wire_channels.specs.declared.listener.Listener.{Listener}
use Rattle.wire_channels.specs.Listeners.{Listeners}
use Rattle.wire_net.specs.Networks.{waiting_at}
use Rattle.host_tables.specs.Descriptions.{Addresses}
use Rattle.host_tables.specs.Network.{Ports, SameListener, SameListeners}
use Rattle.seen_kernel.specs.Parts.{IsPart}
use Rattle.seen_kernel.specs.Listeners.{listening_of, found_at, listening_at, with_object, with_descriptions}
use Rattle.seen_kernel.proofs.Parts.{nothing_yet, all_of_it, entry_part, entry_kept, entry_there}

-- a queue within its backlog is seen whole
listening_is : (a : VirtAddr) (at : RealAddr) (x : Listening) (y : Listener) → SameListener a at x y
    → length x.queue ≤ x.backlog → listening_of y ≡ x
listening_is a at x y same room = λ i. record {
  backlog = sym same.backlog i;
  queue = (ap (λ n. take n y.queue) (sym same.backlog) ∙ ap (take x.backlog) (sym same.queue)
      ∙ take_all x.backlog x.queue room) i;
}

module _ (listeners : Listeners) (addresses : Addresses) (ports : Ports) (virt : plain.Listeners)
    (each : SeenBy (map.get addresses) (map.get ports) SameListener virt listeners)
    (room : (a : VirtAddr) (x : Listening) → map.get virt a ≡ Some x → length x.queue ≤ x.backlog) where
  found_agrees : (a : VirtAddr) (at : RealAddr) (x : Option Listening) (y : Option Listener)
      → map.get virt a ≡ x → Agree (SameListener a at) x y → option_map listening_of y ≡ x
  found_agrees a at None None is agree = refl
  found_agrees a at None (Some y) is agree = absurd agree
  found_agrees a at (Some x) None is agree = absurd agree
  found_agrees a at (Some x) (Some y) is agree = ap Some (listening_is a at x y agree (room a x is))

  pub listening_there : (a : VirtAddr) → listening_at listeners addresses a ≡ map.get virt a
  listening_there a = by (map.get addresses a) refl
    where
      by : (to : Option RealAddr) → map.get addresses a ≡ to
          → option_and_then (found_at listeners) to ≡ map.get virt a
      by None to_is = sym (each.virt_alone a to_is)
      by (Some at) to_is =
          found_agrees a at (map.get virt a) (map.get listeners at) refl (each.at a at to_is)

  object_part : (seen : plain.Listeners) (x : Object) → IsPart virt seen
      → IsPart virt (with_object listeners addresses seen x)
  object_part seen (object.Listener a) part =
      entry_part address_total address_exact virt seen a (listening_at listeners addresses a) part
      (λ v is. sym (listening_there a) ∙ is)
  object_part seen object.Console part = part
  object_part seen (object.File number offset) part = part
  object_part seen (object.Stream conn side) part = part
  object_part seen (object.Socket a) part = part
  object_part seen (object.Datagram peer) part = part
  object_part seen (object.Counter value) part = part

  object_kept : (seen : plain.Listeners) (x : Object) (q : VirtAddr) → is_some (map.get seen q) ≡ true
      → is_some (map.get (with_object listeners addresses seen x) q) ≡ true
  object_kept seen (object.Listener a) q has =
      entry_kept address_total address_exact seen a (listening_at listeners addresses a) q has
  object_kept seen object.Console q has = has
  object_kept seen (object.File number offset) q has = has
  object_kept seen (object.Stream conn side) q has = has
  object_kept seen (object.Socket a) q has = has
  object_kept seen (object.Datagram peer) q has = has
  object_kept seen (object.Counter value) q has = has

  object_there : (seen : plain.Listeners) (x : Object) (q : VirtAddr) → is_listener_at q x ≡ true
      → is_some (map.get virt q) ≡ true
      → is_some (map.get (with_object listeners addresses seen x) q) ≡ true
  object_there seen (object.Listener a) q at has =
      let same : q ≡ a = same_key address_total address_exact q a at in
      entry_there address_total address_exact seen a (listening_at listeners addresses a) q same
      (ap is_some (listening_there a ∙ ap (map.get virt) (sym same)) ∙ has)
  object_there seen object.Console q at has = true_false (sym at)
  object_there seen (object.File number offset) q at has = true_false (sym at)
  object_there seen (object.Stream conn side) q at has = true_false (sym at)
  object_there seen (object.Socket a) q at has = true_false (sym at)
  object_there seen (object.Datagram peer) q at has = true_false (sym at)
  object_there seen (object.Counter value) q at has = true_false (sym at)

  all_part : (seen : plain.Listeners) (xs : List Description) → IsPart virt seen
      → IsPart virt (with_descriptions listeners addresses seen xs)
  unfolding with_descriptions
  all_part seen [] part = part
  all_part seen (x ∷ xs) part =
      all_part (with_object listeners addresses seen x.object) xs (object_part seen x.object part)

  all_kept : (seen : plain.Listeners) (xs : List Description) (q : VirtAddr)
      → is_some (map.get seen q) ≡ true
      → is_some (map.get (with_descriptions listeners addresses seen xs) q) ≡ true
  unfolding with_descriptions
  all_kept seen [] q has = has
  all_kept seen (x ∷ xs) q has =
      all_kept (with_object listeners addresses seen x.object) xs q (object_kept seen x.object q has)

  all_there : (seen : plain.Listeners) (xs : List Description) (q : VirtAddr)
      → list_any (λ (x : Description). is_listener_at q x.object) xs ≡ true
      → is_some (map.get virt q) ≡ true
      → is_some (map.get (with_descriptions listeners addresses seen xs) q) ≡ true
  unfolding with_descriptions
  all_there seen [] q at has = true_false (sym at)
  all_there seen (x ∷ xs) q at has =
      elim (is_listener_at q x.object) as (λ b. is_listener_at q x.object ≡ b
      → (b || list_any (λ (y : Description). is_listener_at q y.object) xs) ≡ true
      → is_some (map.get (with_descriptions listeners addresses
      (with_object listeners addresses seen x.object) xs) q) ≡ true) [
        | true ↦ λ here any. all_kept (with_object listeners addresses seen x.object) xs q
            (object_there seen x.object q here has)
        | false ↦ λ other any. all_there (with_object listeners addresses seen x.object) xs q any has
      ] refl at

pub listeners_done : (nodes : List ℕ) (addresses : Addresses) (ports : Ports) (virt : plain.Listeners)
    (channels : plain.Channels) (listeners : Listeners) (descriptions : plain.Descriptions)
    → SameListeners nodes addresses ports virt listeners → AreListeners descriptions virt channels
    → with_descriptions listeners addresses map.empty (map.values descriptions) ≡ virt
listeners_done nodes addresses ports virt channels listeners descriptions same valid =
    let room : (a : VirtAddr) (x : Listening) → map.get virt a ≡ Some x → length x.queue ≤ x.backlog =
    λ a x is. (valid.each a x is).room in
    all_of_it address_total address_exact virt
    (with_descriptions listeners addresses map.empty (map.values descriptions))
    (all_part listeners addresses ports virt same.each room map.empty (map.values descriptions)
    (nothing_yet virt))
    (λ a has. all_there listeners addresses ports virt same.each room map.empty (map.values descriptions) a
    (sym (valid.described a) ∙ has) has)

-- one description more
pub descriptions_on : (listeners : Listeners) (addresses : Addresses) (seen all : plain.Listeners)
    (x : Description) (xs rest : List Description) → xs ≡ x ∷ rest
    → with_descriptions listeners addresses seen xs ≡ all
    → with_descriptions listeners addresses (with_object listeners addresses seen x.object) rest ≡ all
unfolding with_descriptions
descriptions_on listeners addresses seen all x xs rest is same =
    sym (ap (with_descriptions listeners addresses seen) is) ∙ same

pub descriptions_none : (listeners : Listeners) (addresses : Addresses) (seen : plain.Listeners)
    → with_descriptions listeners addresses seen [] ≡ seen
unfolding with_descriptions
descriptions_none listeners addresses seen = refl

-- queues

pub same_place : (found : Option Listener) (place : ℕ)
    → option_and_then (λ (x : Listener). slice_get x.queue place) found ≡ slice_get (waiting_at found) place
same_place None place = refl
same_place (Some x) place = refl

one_more : (queue : List ConnId) (place : ℕ) (conn : ConnId) → slice_get queue place ≡ Some conn
    → take place queue ++ conn ∷ [] ≡ take (suc place) queue
one_more [] place conn is = absurd (none-some conn is)
one_more (x ∷ queue) zero conn is = ap (λ c. c ∷ []) (sym (same_Some x conn is))
one_more (x ∷ queue) (suc place) conn is = ap (λ rest. x ∷ rest) (one_more queue place conn is)

pub queue_on : (found : Option Listener) (place : ℕ) (conn : ConnId)
    → option_and_then (λ (x : Listener). slice_get x.queue place) found ≡ Some conn
    → take place (waiting_at found) ++ conn ∷ [] ≡ take (place + 1) (waiting_at found)
queue_on found place conn is =
    let next : suc place ≡ place + 1 = omega arith in
    one_more (waiting_at found) place conn (sym (same_place found place) ∙ is)
    ∙ ap (λ n. take n (waiting_at found)) next

no_longer : (queue : List ConnId) (place : ℕ) → slice_get queue place ≡ None → length queue ≤ place
no_longer [] place none = omega arith
no_longer (x ∷ queue) zero none = absurd (none-some x (sym none))
no_longer (x ∷ queue) (suc place) none =
    let rest : length queue ≤ place = no_longer queue place none in omega (arith, rest)

pub queue_ends : (found : Option Listener) (place most : ℕ)
    → option_and_then (λ (x : Listener). slice_get x.queue place) found ≡ None → place ≤ most
    → take place (waiting_at found) ≡ take most (waiting_at found)
queue_ends found place most none less =
    let short : length (waiting_at found) ≤ place =
    no_longer (waiting_at found) place (sym (same_place found place) ∙ none) in
    take_all place (waiting_at found) short
    ∙ sym (take_all most (waiting_at found) (omega (arith, short, less)))

pub found_is : (found : Option Listener) (backlog : ℕ) (queue : List ConnId)
    → option_map (λ (x : Listener). x.backlog) found ≡ Some backlog
    → queue ≡ take backlog (waiting_at found)
    → Some (record { backlog = backlog; queue = queue }) ≡ option_map listening_of found
found_is None backlog queue is first = absurd (none-some backlog is)
found_is (Some x) backlog queue is first =
    let same : x.backlog ≡ backlog = same_Some x.backlog backlog is in
    λ i. Some (record {
      backlog = sym same i;
      queue = (first ∙ ap (λ n. take n x.queue) (sym same)) i;
    })
