-- The open descriptions of a valid kernel part fit the fields of the shared image.
--     description_fits      each of them, after those before it
use Rattle.std.proofs.Common.{◌≡◌, ℕ, ◌<◌, ◌^◌, ◌==◌, ◌%◌, true, false, List, map as each, inl, inr, refl, sym, ap, subst, ◌∙◌, ⊎_elim, arith, lit<}
use Rattle.std.specs.Prelude.{not, bit_and, Option, Some, None, option_map}
use Rattle.std.specs.FinMap as map
use Rattle.std.proofs.lemmas.Nat.{and_mask, and_le_r}
use Rattle.sys_abi.specs.declared.identity.DescId.{DescId}
use Rattle.sys_abi.proofs.OrderLaws.{desc_total, desc_exact}
use Rattle.plain_machine.specs.declared.kernel.PlainKernel.{PlainKernel}
use Rattle.plain_machine.specs.Kernels.{IsKernel}
use Rattle.plain_tables.specs.declared.description.Description.{Description}
use Rattle.plain_tables.specs.declared.description.Object.{Object}
use Rattle.plain_tables.specs.declared.description.Object.TheVariants as object
use Rattle.plain_tables.specs.declared.channel.Listening.{Listening}
use Rattle.plain_tables.specs.Tables.{pid}
use Rattle.plain_tables.specs.Valid.Descriptions.{AreFlags}
use Rattle.shared_items.specs.declared.shared.DescriptionImage.{DescriptionImage}
use Rattle.shared_items.specs.SharedTests as field
use Rattle.shared_items.specs.SharedFormat.{VERSION}
use Rattle.shared_items.specs.SharedFits.{FitsNumber, DescriptionFits, kind_of}
use Rattle.image_format.specs.Format.{n8}
use Rattle.image_format.specs.Fields.{last_item}
use Rattle.image_format.specs.Texts.{FitsField}
use Rattle.image_codec.specs.KernelImages.{description_image, object_image, listener_image}
use Rattle.image_codec.proofs.FittingObjects.{files, channels, object_fits}
use Rattle.image_codec.proofs.HeldImages.{holder_of, live_one}
use Rattle.image_codec.proofs.Listings.{IsSplit, IsBefore, IsLast, last_before}
use Rattle.image_codec.proofs.TestFacts.{both_true, same_number, other_number, is_below, pair_after}

module _ (k : PlainKernel) (is : IsKernel k) where
  flags_fit : (flags : ℕ) → AreFlags flags → FitsNumber field.is_status_flags flags
  flags_fit flags are =
      let low : bit_and flags 3 ≡ flags % 4 = and_mask flags 2 in
      let few = and_le_r flags 0xC03 in
      let known : bit_and flags 0xC03 ≡ flags = are.known in
      let mode : (bit_and flags 3 == 3) ≡ false = other_number (bit_and flags 3) 3 (λ three. are.mode (sym low ∙ three)) in
      (omega (arith, few, known), both_true (bit_and flags 0xC03 == flags) _ (ap (λ n. n == flags) known ∙ same_number flags) (λ i. not (mode i)))

  owner_small : (d : DescId) (x : Description) → map.get k.descriptions d ≡ Some x → x.owner < 2 ^ 32
  owner_small d x there =
      let (at, y, found, refers) = holder_of k is d x there in
      ⊎_elim
      (λ (nobody : x.owner ≡ 0). omega (arith, nobody))
      (λ somebody.
      let (other, known, alive) = live_one k.processes (pid x.owner) somebody.0 in
      let (least, most) = (is.processes.each (pid x.owner) other known).number in
      let last : k.next_id < 2 ^ 31 = is.numbers.last_id in
      omega (arith, last, most))
      (is.holders.owner at y x found (ap (map.get k.descriptions) refers ∙ there))

  -- the pair of a description is above the one before
  abbrev pair : DescriptionImage → ℕ × ℕ
  pair d = (d.id.pid.0, d.id.num)

  abbrev IsNext : DescId → Option DescriptionImage → Type 0
  IsNext d last = (field.is_maker_after (option_map pair last) d.pid.0 ≡ true) × (field.is_number_after (option_map pair last) d.pid.0 d.num ≡ true)

  next_by_last : (d : DescId) (last : Option DescriptionImage) → IsLast desc_total desc_exact (description_image k.listeners) (IsBefore desc_total desc_exact k.descriptions d) last → IsNext d last
  next_by_last d last (inl none) = subst (IsNext d) (sym none) (refl, refl)
  next_by_last d last (inr (q, v, some, before)) = subst (IsNext d) (sym some) (pair_after q.pid.0 q.num d.pid.0 d.num before.1)

  kind_fits : (o : Object) → FitsField n8 (field.is_object_kind VERSION) (kind_of (object_image k.listeners o))
  kind_fits object.Console = (lit< tt, refl)
  kind_fits (object.File number offset) = (lit< tt, refl)
  kind_fits (object.Stream conn side) = (lit< tt, refl)
  kind_fits (object.Socket address) = (lit< tt, refl)
  kind_fits (object.Listener address) = by_found (map.get k.listeners address)
    where
      by_found : (found : Option Listening) → FitsField n8 (field.is_object_kind VERSION) (kind_of (listener_image address found))
      by_found None = (lit< tt, refl)
      by_found (Some listening) = (lit< tt, refl)
  kind_fits (object.Datagram peer) = (lit< tt, refl)
  kind_fits (object.Counter value) = (lit< tt, refl)

  pub description_fits : (xs : List (DescId × Description)) (e : DescId × Description) → IsSplit desc_total desc_exact k.descriptions xs e
      → DescriptionFits VERSION k.next_id (files k is) (channels k is) (each (description_image k.listeners) xs) (description_image k.listeners e)
  description_fits xs e split =
      let made = is.made.opened e.0 e.1 split.found in
      let by_known : e.0.pid.0 < k.next_id = made.known in
      let last : k.next_id < 2 ^ 31 = is.numbers.last_id in
      let word = made.word in
      let owner = owner_small e.0 e.1 split.found in
      let (after, above) = next_by_last e.0 (last_item (each (description_image k.listeners) xs)) (last_before desc_total desc_exact (description_image k.listeners) (IsBefore desc_total desc_exact k.descriptions e.0) xs split.before) in
      record {
        maker = (omega (arith, last, by_known), both_true (field.is_maker_after (field.last_description (each (description_image k.listeners) xs)) e.0.pid.0) _ after (is_below e.0.pid.0 k.next_id by_known));
        number = (omega (arith, word), above);
        kind = kind_fits e.1.object;
        flags = flags_fit e.1.flags (is.descriptions.flags e.0 e.1 split.found);
        owner = (omega (arith, owner), refl);
        what = object_fits k is e.0 e.1 xs split;
      }
