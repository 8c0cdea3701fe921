-- In a valid kernel part each side of a channel is named by one description at most, and each address is had by one.
--     naming      what names a side: a stream, or a listener in whose queue the connection waits
--     named_once, side_free      two that name a side are one, and so none in front of one that does
--     bound_once      two sockets or listeners that have one address are one
use Rattle.std.proofs.Common.{◌≡◌, ℕ, ◌==◌, Less, Bool, true, false, List, map as each, inl, inr, refl, sym, ap, subst, ◌∙◌}
use Rattle.std.specs.Prelude.{◌⊎◌, Option, Some, None}
use Rattle.std.specs.List.{list_any}
use Rattle.std.specs.FinMap as map
use Rattle.views.proofs.MapLaws.{true_false}
use Rattle.views.proofs.MapValues.{some_among-values}
use Rattle.sys_abi.specs.declared.identity.DescId.{DescId}
use Rattle.sys_abi.specs.declared.identity.ConnId.{ConnId}
use Rattle.sys_abi.specs.declared.identity.VirtAddr.{VirtAddr}
use Rattle.sys_abi.specs.Orders.{desc_cmp}
use Rattle.sys_abi.proofs.OrderLaws.{desc_total, desc_exact, address_total, address_exact}
use Rattle.plain_machine.specs.declared.kernel.PlainKernel.{PlainKernel}
use Rattle.plain_machine.specs.Kernels.{IsKernel}
use Rattle.plain_tables.specs.declared.description.Object.{Object}
use Rattle.plain_tables.specs.declared.description.Object.TheVariants as object
use Rattle.plain_tables.specs.declared.description.Description.{Description}
use Rattle.plain_tables.specs.declared.channel.Listening.{Listening}
use Rattle.plain_tables.specs.Objects.{is_end, is_queued, is_pending, has_stream, bound_at}
use Rattle.shared_items.specs.declared.shared.DescriptionImage.{DescriptionImage}
use Rattle.shared_items.specs.Sides.{names_side}
use Rattle.image_codec.specs.KernelImages.{description_image, object_image, listener_image}
use Rattle.image_codec.proofs.Listings.{IsSplit, IsBefore, not_below, none_before}
use Rattle.image_codec.proofs.TestFacts.{and_true, not_true, equal_numbers}

module _ (k : PlainKernel) (is : IsKernel k) where
  abbrev names : ConnId → ℕ → Object → Bool
  names conn side o = names_side conn side (object_image k.listeners o)

  -- the connection waits in the queue of the listener, which names side 1
  pub record Waits (conn : ConnId) (side : ℕ) (o : Object) : Type 0 where
    pub address : VirtAddr
    pub listening : Listening
    pub what : o ≡ object.Listener address
    pub found : map.get k.listeners address ≡ Some listening
    pub second : side ≡ 1
    pub queued : is_queued conn listening ≡ true

  abbrev Names : ConnId → ℕ → Object → Type 0
  Names conn side o = (is_end conn side o ≡ true) ⊎ Waits conn side o

  waiting : (conn : ConnId) (side : ℕ) (address : VirtAddr) (found : Option Listening) → map.get k.listeners address ≡ found → names_side conn side (listener_image address found) ≡ true
      → Waits conn side (object.Listener address)
  waiting conn side address None known named = true_false (sym (and_true (side == 1) false named).1)
  waiting conn side address (Some listening) known named =
      let (second, queued) = and_true (side == 1) (is_queued conn listening) named in
      record { address = address; listening = listening; what = refl; found = known; second = equal_numbers side 1 second; queued = queued }

  pub naming : (conn : ConnId) (side : ℕ) (o : Object) → names conn side o ≡ true → Names conn side o
  naming conn side object.Console named = true_false (sym named)
  naming conn side (object.File number offset) named = true_false (sym named)
  naming conn side (object.Stream other at) named = inl named
  naming conn side (object.Socket address) named = true_false (sym named)
  naming conn side (object.Listener address) named = inr (waiting conn side address (map.get k.listeners address) refl named)
  naming conn side (object.Datagram peer) named = true_false (sym named)
  naming conn side (object.Counter value) named = true_false (sym named)

  -- a stream at a side, and a queue in which it waits
  stream_there : (conn : ConnId) (side : ℕ) (d : DescId) (x : Description) → map.get k.descriptions d ≡ Some x → is_end conn side x.object ≡ true → has_stream k.descriptions conn side ≡ true
  stream_there conn side d x there at = some_among-values desc_total desc_exact (λ (y : Description). is_end conn side y.object) k.descriptions d x there at

  waits_there : (conn : ConnId) (side : ℕ) (o : Object) → Waits conn side o → is_pending k.listeners conn ≡ true
  waits_there conn side o w = some_among-values address_total address_exact (is_queued conn) k.listeners w.address w.listening w.found w.queued

  not_both : (conn : ConnId) (side : ℕ) (d : DescId) (x : Description) (o : Object) → map.get k.descriptions d ≡ Some x → is_end conn side x.object ≡ true → Waits conn side o → ⊥
  not_both conn side d x o there at w =
      let has : has_stream k.descriptions conn 1 ≡ true = subst (λ n. has_stream k.descriptions conn n ≡ true) w.second (stream_there conn side d x there at) in
      true_false (sym (waits_there conn side o w) ∙ is.streams.apart conn has)

  pub bound_once : (d e : DescId) (x y : Description) (address : VirtAddr) → map.get k.descriptions d ≡ Some x → map.get k.descriptions e ≡ Some y
      → bound_at x.object ≡ Some address → bound_at y.object ≡ Some address → d ≡ e
  bound_once d e x y address there too at also = is.addresses.apart d e x y address there too at also

  pub named_once : (conn : ConnId) (side : ℕ) (d e : DescId) (x y : Description) → map.get k.descriptions d ≡ Some x → map.get k.descriptions e ≡ Some y
      → names conn side x.object ≡ true → names conn side y.object ≡ true → d ≡ e
  named_once conn side d e x y there too named also = by_cases (naming conn side x.object named) (naming conn side y.object also)
    where
      by_cases : Names conn side x.object → Names conn side y.object → d ≡ e
      by_cases (inl at) (inl end) = is.streams.once d e x y conn side there too at end
      by_cases (inl at) (inr w) = absurd (not_both conn side d x y.object there at w)
      by_cases (inr w) (inl end) = absurd (not_both conn side e y x.object too end w)
      by_cases (inr v) (inr w) =
          let same : v.address ≡ w.address = is.listeners.apart v.address w.address v.listening w.listening conn v.found w.found v.queued w.queued in
          bound_once d e x y v.address there too (ap bound_at v.what) (ap bound_at w.what ∙ ap (λ a. Some a) (sym same))

  module _ (d : DescId) (x : Description) (xs : List (DescId × Description)) (split : IsSplit desc_total desc_exact k.descriptions xs (d, x)) where
    pub not_itself : (e : DescId) → desc_cmp e d ≡ Less → e ≡ d → ⊥
    not_itself e less same = not_below desc_total d (subst (λ q. desc_cmp q d ≡ Less) same less)

    pub side_free : (conn : ConnId) (side : ℕ) → names conn side x.object ≡ true
        → list_any (λ (it : DescriptionImage). names_side conn side it.object) (each (description_image k.listeners) xs) ≡ false
    side_free conn side named =
        none_before desc_total desc_exact (description_image k.listeners) (λ (it : DescriptionImage). names_side conn side it.object) (IsBefore desc_total desc_exact k.descriptions d) xs split.before (λ e y before.
        not_true (names conn side y.object) (λ also. not_itself e before.1 (named_once conn side e d y x before.0 split.found also named)))
