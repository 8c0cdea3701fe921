-- A state that can be held in a set, in the words of images: each description is supported, and all bytes of each direction have arrived.
use Rattle.std.proofs.Common.{◌≡◌, ◌<◌, true, List, [], ◌∷◌, Option, Some, None, refl, sym, ap, subst, ◌∙◌}
use Rattle.std.specs.Prelude.{nat_lt}
use Rattle.std.specs.List.{filter_map, cons_option}
use Rattle.std.specs.Option.{option_map}
use Rattle.std.specs.FinMap as map
use Rattle.views.proofs.MapValues.{EachEntry, at_entry, each_entry, get-map_values}
use Rattle.sys_abi.specs.declared.identity.Slot.{Slot}
use Rattle.sys_abi.specs.declared.record.Kind.{Kind}
use Rattle.sys_abi.specs.declared.record.Kind.TheVariants.{Datagram as DatagramKind, Counter as CounterKind}
use Rattle.trace_log.specs.Spelling.{kind_number}
use Rattle.plain_tables.specs.declared.description.Object.{Object}
use Rattle.plain_tables.specs.declared.description.Object.TheVariants.{Datagram, Counter}
use Rattle.sys_abi.proofs.OrderLaws.{slot_total, slot_exact, desc_total, desc_exact}
use Rattle.plain_tables.specs.declared.channel.Direction.{Direction}
use Rattle.plain_tables.specs.declared.description.Description.{Description}
use Rattle.plain_tables.specs.Tables.{refers_to, is_held}
use Rattle.plain_machine.specs.declared.plain.Plain.{Plain}
use Rattle.plain_machine.specs.declared.kernel.PlainKernel.{PlainKernel}
use Rattle.plain_machine.specs.Kernels.{IsKernel}
use Rattle.plain_machine.specs.Tests.{UnsupportedAt, all_arrived, full_arrive, first_of, unsupported, unsupported_entry, unsupported_by, unsupported_kind}
use Rattle.image_codec.specs.KernelImages.{HasArrived, IsSupported}
use Rattle.views.proofs.MapLaws.{same_key}
use Rattle.image_codec.proofs.MadeMaps.{which_value}

pub has_arrived : (g : Plain) → full_arrive g ≡ g → HasArrived g.kernel
unfolding full_arrive
has_arrived g is at direction there =
    let same : map.get (full_arrive g).kernel.directions at ≡ Some direction = ap (λ (h : Plain). map.get h.kernel.directions at) is ∙ there in
    let found : Some (all_arrived direction) ≡ Some direction = sym (ap (option_map all_arrived) there) ∙ sym (get-map_values all_arrived g.kernel.directions at) ∙ same in
    one (all_arrived direction) direction found
  where
    one : (a b : Direction) → Some a ≡ Some b → b.arrived ≡ a.arrived
    one a b same = let equal : a ≡ b = cc in ap (λ (d : Direction). d.arrived) (sym equal)

none_first : {A B : Type 0} (f : A → Option B) (xs : List A) → first_of (filter_map f xs) ≡ None → (x : A) (rest : List A) → xs ≡ x ∷ rest → (f x ≡ None) × (first_of (filter_map f rest) ≡ None)
none_first f [] none x rest is = absurd (cc)
none_first {B = B} f (y ∷ ys) none x rest is =
    let same : y ≡ x = cc in
    let more : ys ≡ rest = cc in
    let both = by (f y) none in
    (ap f (sym same) ∙ both.0, ap (λ zs. first_of (filter_map f zs)) (sym more) ∙ both.1)
  where
    by : (o : Option B) → first_of (cons_option o (filter_map f ys)) ≡ None → (o ≡ None) × (first_of (filter_map f ys) ≡ None)
    by None nothing = (refl, nothing)
    by (Some z) nothing = absurd (cc)

none_of : {K X B : Type 0} (f : K × X → Option B) (es : List (K × X)) → first_of (filter_map f es) ≡ None → EachEntry (λ q v. f (q, v) ≡ None) es
none_of f [] none = tt
none_of f (e ∷ es) none = let both = none_first f (e ∷ es) none e es refl in (both.0, none_of f es both.1)

no_kind : (at : Slot) (description : Description) → unsupported_by at (Some description) ≡ None → unsupported_kind description.object ≡ None
no_kind at description none = by (unsupported_kind description.object) none
  where
    by : (o : Option Kind) → option_map (λ kind. let found : UnsupportedAt = record { slot = at; kind = kind } in found) o ≡ None → o ≡ None
    by None nothing = refl
    by (Some kind) nothing = absurd (cc)

pub is_supported : (g : Plain) → IsKernel g.kernel → unsupported g ≡ None → IsSupported g.kernel
unfolding unsupported is_held
is_supported g is none d description there =
    let k = g.kernel in
    let (at, descriptor, found, refers) = which_value slot_total slot_exact (refers_to d) k.descriptors (is.descriptions.held d description there) in
    let own : unsupported_entry k (at, descriptor) ≡ None = at_entry slot_total slot_exact (λ q v. unsupported_entry k (q, v) ≡ None) k.descriptors at descriptor (none_of (unsupported_entry k) (map.entries k.descriptors) none) found in
    let same : descriptor.desc ≡ d = sym (same_key desc_total desc_exact d descriptor.desc refers) in
    no_kind at description (sym (ap (unsupported_by at) (ap (map.get k.descriptions) same ∙ there)) ∙ own)

-- what is found first is of some entry
first_is : {K X B : Type 0} (P : K → X → Type 0) (f : K × X → Option B) (es : List (K × X)) (b : B) → EachEntry P es → first_of (filter_map f es) ≡ Some b → (q : K) × ((v : X) × (P q v × (f (q, v) ≡ Some b)))
first_is P f [] b are is = absurd (cc)
first_is {K = K} {X = X} {B = B} P f (e ∷ es) b are is = by (f e) refl (first_is P f es b are.1) is
  where
    by : (o : Option B) → f e ≡ o → (first_of (filter_map f es) ≡ Some b → (q : K) × ((v : X) × (P q v × (f (q, v) ≡ Some b)))) → first_of (cons_option o (filter_map f es)) ≡ Some b → (q : K) × ((v : X) × (P q v × (f (q, v) ≡ Some b)))
    by None none rest later = rest later
    by (Some c) some rest here = (e.0, (e.1, (are.0, some ∙ here)))

-- so it has a number on the trace
kind_has_number : (object : Object) (kind : Kind) → unsupported_kind object ≡ Some kind → nat_lt 0 (kind_number kind) ≡ true
kind_has_number (Datagram peer) kind is = let same : DatagramKind ≡ kind = cc in ap (λ k. nat_lt 0 (kind_number k)) (sym same)
kind_has_number (Counter value) kind is = let same : CounterKind ≡ kind = cc in ap (λ k. nat_lt 0 (kind_number k)) (sym same)
kind_has_number _ kind is = absurd (cc)

record IsNumbered (at : Slot) (u : UnsupportedAt) : Type 0 where
  slot : u.slot ≡ at
  kind : nat_lt 0 (kind_number u.kind) ≡ true

numbered_by : (at : Slot) (found : Option Description) (u : UnsupportedAt) → unsupported_by at found ≡ Some u → IsNumbered at u
numbered_by at None u is = absurd (cc)
numbered_by at (Some description) u is = by (unsupported_kind description.object) refl is
  where
    by : (o : Option Kind) → unsupported_kind description.object ≡ o → option_map (λ kind. let found : UnsupportedAt = record { slot = at; kind = kind } in found) o ≡ Some u → IsNumbered at u
    by None none same = absurd (cc)
    by (Some kind) some same =
        let own : record { slot = at; kind = kind } ≡ u = cc in
        record {
          slot = ap (λ (x : UnsupportedAt). x.slot) (sym own);
          kind = ap (λ (x : UnsupportedAt). nat_lt 0 (kind_number x.kind)) (sym own) ∙ kind_has_number description.object kind some;
        }

pub has_number : (g : Plain) → IsKernel g.kernel → (u : UnsupportedAt) → unsupported g ≡ Some u → (u.slot.fd < 256) × (nat_lt 0 (kind_number u.kind) ≡ true)
unfolding unsupported
has_number g is u found =
    let k = g.kernel in
    let (at, (descriptor, (there, own))) = first_is (λ q v. map.get k.descriptors q ≡ Some v) (unsupported_entry k) (map.entries k.descriptors) u (each_entry slot_total slot_exact (λ q v. map.get k.descriptors q ≡ Some v) k.descriptors (λ q v same. same)) found in
    let numbers = numbered_by at (map.get k.descriptions descriptor.desc) u own in
    (subst (λ (s : Slot). s.fd < 256) (sym numbers.slot) (is.descriptors.number at descriptor there), numbers.kind)
