-- What a descriptor's object was told by.
--     IsOpen b at o       a descriptor is there, of a description that stands for this
--     open_by, none_by    what a look-up tells
--     told_ok, told_err   what a close told
use Rattle.std.proofs.Common.{◌≡◌, ◌≢◌, ◌⊎◌, ℕ, Option, Some, None, Result, Ok, Err, inl, inr, refl, sym, ap}
use Rattle.std.specs.Prelude.{IsSome, option_map, option_and_then}
use Rattle.std.specs.Option.{ok_or}
use Rattle.std.specs.FinMap as map
use Rattle.std.proofs.lemmas.Option.{same_Some, none-some}
use Rattle.views.proofs.MapLaws.{true_false}
use Rattle.sys_abi.specs.declared.descriptor.Descriptor.{Descriptor}
use Rattle.sys_abi.specs.declared.identity.ConnId.{ConnId}
use Rattle.sys_abi.specs.declared.identity.DescId.{DescId}
use Rattle.sys_abi.specs.declared.identity.RealAddr.{RealAddr}
use Rattle.fd_tables.specs.declared.description.Desc.{Desc}
use Rattle.fd_tables.specs.declared.description.Object.{Object}
use Rattle.fd_tables.specs.declared.description.Object.TheVariants as object
use Rattle.fd_tables.specs.declared.real_slot.RealSlot.{RealSlot}
use Rattle.fd_book.specs.Books.{Books, IsWhole}

pub record IsOpen (b : Books) (at : RealSlot) (o : Object) : Type 0 where
  pub descriptor : Descriptor
  pub desc : Desc
  pub there : map.get b.descriptors at ≡ Some descriptor
  pub described : map.get b.descriptions descriptor.desc ≡ Some desc
  pub stands_for : desc.object ≡ o

abbrev pub object_in : Books → RealSlot → Option Object
object_in b at =
    option_and_then (λ (d : Descriptor). option_map (λ (x : Desc). x.object) (map.get b.descriptions d.desc))
    (map.get b.descriptors at)

described_by : (b : Books) (at : RealSlot) (o : Object) (d : Descriptor) → map.get b.descriptors at ≡ Some d
    → (q : Option Desc) → map.get b.descriptions d.desc ≡ q → option_map (λ (x : Desc). x.object) q ≡ Some o
    → IsOpen b at o
described_by b at o d there None is e = absurd (none-some o e)
described_by b at o d there (Some x) is e =
    record { descriptor = d; desc = x; there = there; described = is; stands_for = same_Some x.object o e }

slot_by : (b : Books) (at : RealSlot) (o : Object) (q : Option Descriptor) → map.get b.descriptors at ≡ q
    → option_and_then (λ (d : Descriptor). option_map (λ (x : Desc). x.object) (map.get b.descriptions d.desc)) q
    ≡ Some o → IsOpen b at o
slot_by b at o None is e = absurd (none-some o e)
slot_by b at o (Some d) is e = described_by b at o d is (map.get b.descriptions d.desc) refl e

pub open_by : (b : Books) (at : RealSlot) (o : Object) → object_in b at ≡ Some o → IsOpen b at o
open_by b at o e = slot_by b at o (map.get b.descriptors at) refl e

no_desc : (b : Books) (d : Descriptor) (q : Option Desc) → map.get b.descriptions d.desc ≡ q → IsSome q
    → option_map (λ (x : Desc). x.object) q ≡ None → ⊥
no_desc b d None is some e = true_false (sym some)
no_desc b d (Some x) is some e = none-some x.object (sym e)

none_slot : (b : Books) (at : RealSlot) → IsWhole b → (q : Option Descriptor) → map.get b.descriptors at ≡ q
    → option_and_then (λ (d : Descriptor). option_map (λ (x : Desc). x.object) (map.get b.descriptions d.desc)) q
    ≡ None → map.get b.descriptors at ≡ None
none_slot b at whole None is e = is
none_slot b at whole (Some d) is e =
    absurd (no_desc b d (map.get b.descriptions d.desc) refl (whole.described at d is) e)

pub none_by : (b : Books) (at : RealSlot) → IsWhole b → object_in b at ≡ None → map.get b.descriptors at ≡ None
none_by b at whole e = none_slot b at whole (map.get b.descriptors at) refl e

-- whether it is an end of a datagram pair
pub datagram_or : (o : Object) → ((queue : ℕ) × ((side : ℕ) × (o ≡ object.Datagram queue side)))
    ⊎ ((queue side : ℕ) → o ≢ object.Datagram queue side)
datagram_or object.Console = inr (λ queue side e. differ e)
  where
    differ : {queue side : ℕ} → object.Console ≡ object.Datagram queue side → ⊥
    differ e = cc
datagram_or (object.File number offset) = inr (λ queue side e. differ e)
  where
    differ : {queue side n m : ℕ} → object.File n m ≡ object.Datagram queue side → ⊥
    differ e = cc
datagram_or (object.Stream conn s) = inr (λ queue side e. differ conn s queue side e)
  where
    differ : (conn : ConnId) (s queue side : ℕ) → object.Stream conn s ≡ object.Datagram queue side → ⊥
    differ conn s queue side e = cc
datagram_or object.Socket = inr (λ queue side e. differ e)
  where
    differ : {queue side : ℕ} → object.Socket ≡ object.Datagram queue side → ⊥
    differ e = cc
datagram_or (object.Listener at) = inr (λ queue side e. differ at queue side e)
  where
    differ : (at : RealAddr) (queue side : ℕ) → object.Listener at ≡ object.Datagram queue side → ⊥
    differ at queue side e = cc
datagram_or (object.Datagram queue side) = inl (queue, (side, refl))
datagram_or (object.Counter value) = inr (λ queue side e. differ e)
  where
    differ : {queue side n : ℕ} → object.Counter n ≡ object.Datagram queue side → ⊥
    differ e = cc

abbrev of_ok : {A E : Type 0} → A → Result A E → A
of_ok other (Ok x) = x
of_ok other (Err f) = other

pub ok_same : {A E : Type 0} (a b : A) → ◌≡◌ {A = Result A E} (Ok a) (Ok b) → a ≡ b
ok_same a b e = ap (of_ok a) e

pub told_ok : {E : Type 0} (m : Option Descriptor) (f lost : Option DescId) (bad : E)
    → Ok f ≡ ok_or (option_map (λ _. lost) m) bad → f ≡ lost
told_ok None f lost bad e = absurd (differ e)
  where
    differ : Ok f ≡ Err bad → ⊥
    differ h = cc
told_ok (Some d) f lost bad e = ok_same f lost e

pub told_err : {E : Type 0} (m : Option Descriptor) (lost : Option DescId) (bad told : E)
    → Err told ≡ ok_or (option_map (λ _. lost) m) bad → m ≡ None
told_err None lost bad told e = refl
told_err (Some d) lost bad told e = absurd (differ e)
  where
    differ : Err told ≡ Ok lost → ⊥
    differ h = cc
