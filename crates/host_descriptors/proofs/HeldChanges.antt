-- The commands of fcntl through the pairs.
--     held_by, there_of          what the look-up of a descriptor told
--     cloexec_kept               a descriptor with another flag
--     status_kept, owner_kept    a description with other flags;  with another owner
--     may_own_is, may_own_nobody whether a process may own
use Rattle.std.proofs.Common.{◌≡◌, ℕ, Bool, true, false, ◌||◌, Option, Some, None, refl, sym, ap, ◌∙◌, subst}
use Rattle.std.specs.Prelude.{◌==◌, IsSome, option_map, option_and_then, unwrap_or}
use Rattle.std.specs.FinMap as map
use Rattle.std.proofs.lemmas.Option.{same_Some, none-some}
use Rattle.std.proofs.lemmas.Bool.{eqb-true, eq-eqb}
use Rattle.views.proofs.MapLaws.{true_false}
use Rattle.sys_abi.specs.declared.descriptor.Descriptor.{Descriptor}
use Rattle.sys_abi.specs.declared.identity.VPid.{VPid}
use Rattle.sys_abi.specs.declared.identity.DescId.{DescId}
use Rattle.sys_abi.specs.declared.identity.RealPid.{RealPid}
use Rattle.fd_tables.specs.declared.description.Desc.{Desc}
use Rattle.fd_tables.specs.declared.real_slot.RealSlot.{RealSlot}
use Rattle.fd_book.specs.Books as books
use Rattle.fd_tables.specs.Parts as parts
use Rattle.fd_tables.specs.Slots as slots
use Rattle.fd_book.specs.Books.{Books, IsWhole}
use Rattle.host_tables.specs.OfPlainMachine.declared.kernel.PlainKernel.{PlainKernel}
use Rattle.host_tables.specs.OfPlainMachine.Kernel.{with_descriptor, with_description, is_neighbour}
use Rattle.host_tables.specs.OfPlainMachine.Rows.Descriptors.{with_flags, with_owner, may_own}
use Rattle.host_tables.specs.declared.kernel.Kernel.{Kernel}
use Rattle.host_tables.specs.Datagrams.{inbox_of}
use Rattle.host_tables.specs.Descriptions.{IsTold, seen_desc}
use Rattle.host_tables.specs.Numbers.{IsKnown, number_of}
use Rattle.host_tables.specs.Stands.{Given, Stands}
use Rattle.host_tables.proofs.DescriptionChanges.{description_changed}
use Rattle.host_tables.proofs.SlotChanges.{put_kept}
use Rattle.host_descriptors.specs.declared.held.Held.{Held}
use Rattle.host_descriptors.specs.Held.{held_in, seen_held}
use Rattle.host_descriptors.proofs.HeldTold.{IsThere}

-- look-ups

pub record IsHeldAt (b : Books) (at : RealSlot) (h : Held) : Type 0 where
  pub slot_is : map.get b.descriptors at ≡ Some (record { desc = h.desc; cloexec = h.cloexec })
  pub described : map.get b.descriptions h.desc ≡ Some h.description

abbrev held_of : Descriptor → Desc → Held
held_of d x = record { desc = d.desc; cloexec = d.cloexec; description = x }

by_desc : (b : Books) (at : RealSlot) (h : Held) (d : Descriptor) → map.get b.descriptors at ≡ Some d
    → (o : Option Desc) → map.get b.descriptions d.desc ≡ o → option_map (held_of d) o ≡ Some h → IsHeldAt b at h
by_desc b at h d there None is e = absurd (none-some h e)
by_desc b at h d there (Some x) is e =
    subst (λ w. IsHeldAt b at w) (same_Some (held_of d x) h e) (record { slot_is = there; described = is })

by_slot : (b : Books) (at : RealSlot) (h : Held) (o : Option Descriptor) → map.get b.descriptors at ≡ o
    → option_and_then (λ d. option_map (held_of d) (map.get b.descriptions d.desc)) o ≡ Some h → IsHeldAt b at h
by_slot b at h None is e = absurd (none-some h e)
by_slot b at h (Some d) is e = by_desc b at h d is (map.get b.descriptions d.desc) refl e

pub held_by : (b : Books) (at : RealSlot) (h : Held) → held_in b at ≡ Some h → IsHeldAt b at h
held_by b at h e = by_slot b at h (map.get b.descriptors at) refl e

abbrev pub there_of : (real : Kernel) (r : RealPid) (fd : ℕ) (h : Held)
    → held_in real.book (slots.slot r fd) ≡ Some h → IsThere real r fd
there_of real r fd h e =
    let held = held_by real.book (slots.slot r fd) h e in
    record {
      descriptor = record { desc = h.desc; cloexec = h.cloexec };
      desc = h.description;
      at = held.slot_is;
      described = held.described;
    }

-- changes

module _ (g : Given) (real : Kernel) (k : PlainKernel) (st : Stands g None real k) where
  pub cloexec_kept : (p : VPid) (r : RealPid) → map.get g.pids p.0 ≡ Some r → (fd : ℕ) (h : Held)
      → held_in real.book (slots.slot r fd) ≡ Some h → (on : Bool) (b : Books)
      → b ≡ books.with_cloexec real.book (slots.slot r fd) on
      → Stands g None (record real { book = b }) (with_descriptor k p fd (record { desc = h.desc; cloexec = on }))
  unfolding books.with_cloexec
  cloexec_kept p r paired fd h held on b is =
      subst (λ (w : Books). Stands g None (record real { book = w })
      (with_descriptor k p fd (record { desc = h.desc; cloexec = on })))
      (sym (is ∙ ap (books.same_with_cloexec real.book (slots.slot r fd) on)
      (held_by real.book (slots.slot r fd) h held).slot_is))
      (put_kept g None real k st p r paired fd (record { desc = h.desc; cloexec = on }))

  module _ (id : DescId) (e d : Desc) (is : map.get real.book.descriptions id ≡ Some e)
      (alike : e.object ≡ d.object) (known : IsKnown g.virts d.owner) where
    changed : Stands g None
        (record real { book = record real.book { descriptions = map.insert real.book.descriptions id d } })
        (with_description k id (seen_desc g.virts g.names real.datagrams None id d))
    changed =
        description_changed g None real k st id d known
        (subst (IsTold g.names g.addresses real.datagrams id) alike (st.descriptions.objects id e is)) e is
        (ap (inbox_of real.datagrams) alike) (λ queue side at. sym alike ∙ at)

  changed_is : (f : Desc → Desc) (id : DescId) (e : Desc) → map.get real.book.descriptions id ≡ Some e
      → books.with_changed f real.book id
      ≡ record real.book { descriptions = map.insert real.book.descriptions id (f e) }
  unfolding books.with_changed
  changed_is f id e is = ap (books.changed_or_same f real.book id) is

  module _ (h : Held) (there : map.get real.book.descriptions h.desc ≡ Some h.description) where
    pub status_kept : (flags : ℕ) (b : Books) → b ≡ books.with_changed (parts.with_flags flags) real.book h.desc
        → Stands g None (record real { book = b }) (with_flags k (seen_held g real h) flags)
    status_kept flags b is =
        subst (λ (w : Books). Stands g None (record real { book = w }) (with_flags k (seen_held g real h) flags))
        (sym (is ∙ changed_is (parts.with_flags flags) h.desc h.description there))
        (changed h.desc h.description (parts.with_flags flags h.description) there refl
        (st.descriptions.owners h.desc h.description there))

    pub owner_kept : (owner : Option RealPid) → IsKnown g.virts owner → (b : Books)
        → b ≡ books.with_changed (parts.with_owner owner) real.book h.desc
        → Stands g None (record real { book = b }) (with_owner k (seen_held g real h) (number_of g.virts 0 owner))
    owner_kept owner known b is =
        subst (λ (w : Books). Stands g None (record real { book = w })
        (with_owner k (seen_held g real h) (number_of g.virts 0 owner)))
        (sym (is ∙ changed_is (parts.with_owner owner) h.desc h.description there))
        (changed h.desc h.description (parts.with_owner owner h.description) there refl known)

  -- who may own

  or_false : (a b : Bool) → a ≡ false → (a || b) ≡ b
  or_false true b e = true_false e
  or_false false b e = refl

  module _ (p : VPid) (argument : ℕ) where
    pub may_own_is : (argument ≡ 0 → ⊥) → (b : Bool) → is_neighbour k p argument ≡ b → may_own k p argument ≡ b
    may_own_is some b is = or_false (argument == 0) (is_neighbour k p argument) (not_zero (argument == 0) refl) ∙ is
      where
        not_zero : (c : Bool) → (argument == 0) ≡ c → (argument == 0) ≡ false
        not_zero true e = absurd (some (eqb-true argument 0 e))
        not_zero false e = e

    pub may_own_nobody : argument ≡ 0 → may_own k p argument ≡ true
    may_own_nobody e = ap (λ b. b || is_neighbour k p argument) (eq-eqb argument 0 e)

  -- a number that a process has
  pub known_pair : (v : ℕ) (s : RealPid) → map.get g.pids v ≡ Some s
      → IsKnown g.virts (Some s) × (number_of g.virts 0 (Some s) ≡ v)
  known_pair v s paired =
      let back = st.paired.inverse.leads_back v s paired in
      (subst (λ (o : Option ℕ). IsSome o) (sym back) refl, ap (λ o. unwrap_or o 0) back)

-- nothing is held where no descriptor is there

no_desc : (b : Books) (d : Descriptor) (o : Option Desc) → map.get b.descriptions d.desc ≡ o → IsSome o
    → option_map (held_of d) o ≡ None → ⊥
no_desc b d None is some e = true_false (sym some)
no_desc b d (Some x) is some e = none-some (held_of d x) (sym e)

none_by_slot : (b : Books) (at : RealSlot) → IsWhole b → (o : Option Descriptor) → map.get b.descriptors at ≡ o
    → option_and_then (λ d. option_map (held_of d) (map.get b.descriptions d.desc)) o ≡ None
    → map.get b.descriptors at ≡ None
none_by_slot b at whole None is e = is
none_by_slot b at whole (Some d) is e =
    absurd (no_desc b d (map.get b.descriptions d.desc) refl (whole.described at d is) e)

pub none_held : (b : Books) (at : RealSlot) → IsWhole b → held_in b at ≡ None → map.get b.descriptors at ≡ None
none_held b at whole e = none_by_slot b at whole (map.get b.descriptors at) refl e
