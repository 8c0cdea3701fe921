-- A kernel part of which no descriptor is refused.
--     is_supported      no description is of a kind that no image holds
--     no_datagrams      so none is an end of a datagram pair
use Rattle.std.proofs.Common.{◌≡◌, false, List, [], ◌∷◌, Option, Some, None, refl, sym, ap, ◌∙◌}
use Rattle.std.specs.List.{filter_map, cons_option}
use Rattle.std.specs.Option.{option_map}
use Rattle.std.specs.FinMap as map
use Rattle.std.proofs.lemmas.Option.{none-some}
use Rattle.views.proofs.Counting.{found_among}
use Rattle.views.proofs.MapLaws.{same_key}
use Rattle.views.proofs.MapValues.{EachEntry, at_entry}
use Rattle.sys_abi.specs.declared.identity.Slot.{Slot}
use Rattle.sys_abi.specs.declared.record.Kind.{Kind}
use Rattle.sys_abi.specs.declared.record.Kind.TheVariants as kinds
use Rattle.sys_abi.proofs.OrderLaws.{slot_total, slot_exact, desc_total, desc_exact}
use Rattle.plain_process.specs.Valid.{Each}
use Rattle.plain_tables.specs.declared.description.Object.{Object}
use Rattle.plain_tables.specs.declared.description.Object.TheVariants.{Datagram}
use Rattle.plain_tables.specs.Objects.{is_datagram}
use Rattle.plain_tables.specs.Tables.{refers_to, is_held}
use Rattle.plain_machine.specs.declared.plain.Plain.{Plain}
use Rattle.plain_machine.specs.Kernels.{IsKernel}
use Rattle.plain_machine.specs.Tests.{UnsupportedAt, first_of, unsupported, unsupported_entry, unsupported_by, unsupported_kind}

none_of : {K X B : Type 0} (f : K × X → Option B) (es : List (K × X)) → first_of (filter_map f es) ≡ None
    → EachEntry (λ q v. f (q, v) ≡ None) es
none_of f [] none = tt
none_of {B = B} f (e ∷ es) none = by (f e) none (none_of f es)
  where
    by : (o : Option B) → first_of (cons_option o (filter_map f es)) ≡ None
        → (first_of (filter_map f es) ≡ None → EachEntry (λ q v. f (q, v) ≡ None) es)
        → (o ≡ None) × EachEntry (λ q v. f (q, v) ≡ None) es
    by None nothing rest = (refl, rest nothing)
    by (Some b) nothing rest = absurd (none-some b (sym nothing))

abbrev refused : Slot → Kind → UnsupportedAt
refused at kind = record { slot = at; kind = kind }

no_kind : (at : Slot) (o : Option Kind) → option_map (refused at) o ≡ None → o ≡ None
no_kind at None nothing = refl
no_kind at (Some kind) nothing = absurd (none-some (refused at kind) (sym nothing))

no_datagram : (object : Object) → unsupported_kind object ≡ None → is_datagram object ≡ false
no_datagram (Datagram peer) none = absurd (none-some kinds.Datagram (sym none))
no_datagram _ none = refl

module _ (g : Plain) (whole : IsKernel g.kernel) (none : unsupported g ≡ None) where
  entries_none : EachEntry (λ q v. unsupported_entry g.kernel (q, v) ≡ None)
      (map.entries g.kernel.descriptors)
  unfolding unsupported
  entries_none = none_of (unsupported_entry g.kernel) (map.entries g.kernel.descriptors) none

  pub is_supported : Each g.kernel.descriptions (λ id d. unsupported_kind d.object ≡ None)
  unfolding is_held
  is_supported id d there =
      let holder = found_among slot_total slot_exact (refers_to id) g.kernel.descriptors
      (whole.descriptions.held id d there) in
      let own : unsupported_entry g.kernel (holder.0, holder.1.0) ≡ None =
      at_entry slot_total slot_exact (λ q v. unsupported_entry g.kernel (q, v) ≡ None) g.kernel.descriptors
      holder.0 holder.1.0 entries_none holder.1.1.0 in
      let same : id ≡ holder.1.0.desc = same_key desc_total desc_exact id holder.1.0.desc holder.1.1.1 in
      no_kind holder.0 (unsupported_kind d.object)
      (ap (unsupported_by holder.0) (sym there ∙ ap (map.get g.kernel.descriptions) same) ∙ own)

  pub no_datagrams : Each g.kernel.descriptions (λ id d. is_datagram d.object ≡ false)
  no_datagrams id d there = no_datagram d.object (is_supported id d there)
