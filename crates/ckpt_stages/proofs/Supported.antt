-- A kernel part of which nothing is refused has no end of a datagram pair.
--     none_refused      each description is held by a descriptor, and of no descriptor is one refused
use Rattle.std.proofs.Common.{◌≡◌, Bool, true, false, List, [], ◌∷◌, Option, Some, None, refl, sym, ap, ◌∙◌}
use Rattle.std.specs.List.{filter_map, cons_option}
use Rattle.std.specs.Option.{option_map}
use Rattle.std.specs.FinMap as map
use Rattle.std.proofs.lemmas.Option.{none-some}
use Rattle.views.proofs.MapLaws.{true_false, same_key}
use Rattle.views.proofs.MapValues.{EachEntry, at_entry, none_among-values}
use Rattle.sys_abi.specs.declared.descriptor.Descriptor.{Descriptor}
use Rattle.sys_abi.specs.declared.identity.DescId.{DescId}
use Rattle.sys_abi.specs.declared.identity.Slot.{Slot}
use Rattle.sys_abi.specs.declared.record.Kind.{Kind}
use Rattle.sys_abi.specs.declared.record.Kind.TheVariants as kinds
use Rattle.sys_abi.proofs.OrderLaws.{slot_total, slot_exact, desc_total, desc_exact}
use Rattle.plain_tables.specs.declared.description.Description.{Description}
use Rattle.plain_tables.specs.declared.description.Object.{Object}
use Rattle.plain_tables.specs.declared.description.Object.TheVariants.{Datagram}
use Rattle.plain_tables.specs.Objects.{is_datagram}
use Rattle.plain_tables.specs.Tables.{refers_to, is_held}
use Rattle.plain_machine.specs.declared.kernel.PlainKernel.{PlainKernel}
use Rattle.plain_machine.specs.declared.plain.Plain.{Plain}
use Rattle.plain_machine.specs.Kernels.{IsKernel}
use Rattle.plain_machine.specs.Tests.{UnsupportedAt, first_of, unsupported, unsupported_entry, unsupported_by, unsupported_kind}
use Rattle.seen_kernel.specs.Descriptions.{HasNoDatagrams}
use Rattle.ckpt_stages.specs.Faults.{FindsUnsupported}

none_first : {A B : Type 0} (f : A → Option B) (x : A) (xs : List A)
    → first_of (filter_map f (x ∷ xs)) ≡ None → (f x ≡ None) × (first_of (filter_map f xs) ≡ None)
none_first {B = B} f x xs none = by (f x) none
  where
    by : (o : Option B) → first_of (cons_option o (filter_map f xs)) ≡ None
        → (o ≡ None) × (first_of (filter_map f xs) ≡ None)
    by None nothing = (refl, nothing)
    by (Some z) nothing = absurd (none-some z (sym nothing))

none_of : {K X B : Type 0} (f : K × X → Option B) (es : List (K × X)) → first_of (filter_map f es) ≡ None
    → EachEntry (λ q v. f (q, v) ≡ None) es
none_of f [] none = tt
none_of f (e ∷ es) none = let both = none_first f e es none in (both.0, none_of f es both.1)

abbrev refused : Slot → Kind → UnsupportedAt
refused at kind = record { slot = at; kind = kind }

no_kind : (at : Slot) (description : Description) → unsupported_by at (Some description) ≡ None
    → unsupported_kind description.object ≡ None
no_kind at description none = by (unsupported_kind description.object) none
  where
    by : (o : Option Kind) → option_map (refused at) o ≡ None → o ≡ None
    by None nothing = refl
    by (Some kind) nothing = absurd (none-some (refused at kind) (sym nothing))

no_datagram : (object : Object) → unsupported_kind object ≡ None → is_datagram object ≡ false
no_datagram (Datagram peer) none = absurd (none-some kinds.Datagram (sym none))
no_datagram _ none = refl

module _ (k : PlainKernel) (whole : IsKernel k) (none : FindsUnsupported k None) where
  entries_none : EachEntry (λ q v. unsupported_entry k (q, v) ≡ None) (map.entries k.descriptors)
  unfolding unsupported
  entries_none =
      let g : Plain = record { kernel = k; users = map.empty } in
      none_of (unsupported_entry k) (map.entries k.descriptors) (none g refl)

  not_held : (id : DescId) (d : Description) → map.get k.descriptions id ≡ Some d
      → is_datagram d.object ≡ true → (at : Slot) (x : Descriptor) → map.get k.descriptors at ≡ Some x
      → (refers : Bool) → refers_to id x ≡ refers → refers_to id x ≡ false
  not_held id d there is at x found false other = other
  not_held id d there is at x found true refers =
      let same : id ≡ x.desc = same_key desc_total desc_exact id x.desc refers in
      let own : unsupported_entry k (at, x) ≡ None =
      at_entry slot_total slot_exact (λ q v. unsupported_entry k (q, v) ≡ None) k.descriptors at x
      entries_none found in
      true_false (sym is ∙ no_datagram d.object
      (no_kind at d (ap (unsupported_by at) (sym there ∙ ap (map.get k.descriptions) same) ∙ own)))

  pub none_refused : HasNoDatagrams k.descriptions
  unfolding is_held
  none_refused id d there = by (is_datagram d.object) refl
    where
      by : (datagram : Bool) → is_datagram d.object ≡ datagram → is_datagram d.object ≡ false
      by false is = is
      by true is =
          true_false (sym (whole.descriptions.held id d there)
          ∙ none_among-values slot_total slot_exact (refers_to id) k.descriptors
          (λ at x found. not_held id d there is at x found (refers_to id x) refl))
