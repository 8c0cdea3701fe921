-- Whether a number of a descriptor is free, by how many are.
--     zero_used, used_zero      none is free exactly where all are used
--     same_free                 the plain search finds one where the count is not 0
use Rattle.std.proofs.Common.{◌≡◌, ◌≢◌, ℕ, zero, suc, ◌+◌, ◌<◌, ◌≤◌, Bool, true, false, not, cond, Option, Some, None, inl, inr, refl, sym, ap, ◌∙◌, subst, arith}
use Rattle.std.specs.Prelude.{is_some, IsSome, ◌==◌}
use Rattle.std.specs.Cmp.{nat_cmp_total}
use Rattle.std.specs.FinMap as map
use Rattle.std.specs.FinMap.{nat_cmp-IsAntisymmetric}
use Rattle.std.proofs.lemmas.Bool.{eqb-true, eq-eqb}
use Rattle.std.proofs.lemmas.Option.{none-some}
use Rattle.views.specs.Limits.{DESCRIPTOR_LIMIT}
use Rattle.views.proofs.MapLaws.{true_false, same_or_other}
use Rattle.sys_abi.specs.declared.descriptor.Descriptor.{Descriptor}
use Rattle.sys_abi.specs.declared.errors.TheConstants.{EMFILE}
use Rattle.sys_abi.specs.declared.identity.VPid.{VPid}
use Rattle.sys_abi.specs.declared.identity.RealPid.{RealPid}
use Rattle.fd_tables.specs.Numbers.{free_below}
use Rattle.fd_tables.specs.Slots as slots
use Rattle.plain_tables.specs.Tables.{Descriptors, slot}
use Rattle.plain_process.specs.Attempts.{Fails, Gives, need, found}
use Rattle.plain_machine.specs.declared.kernel.PlainKernel.{PlainKernel}
use Rattle.plain_machine.specs.Kernel.{free_among, free_from}
use Rattle.host_descriptors.specs.OfHostTables.declared.kernel.Kernel.{Kernel}
use Rattle.host_descriptors.specs.OfHostTables.Processes.{RealDescriptors}
use Rattle.host_descriptors.specs.OfHostTables.Stands.{Given, Stands}
use Rattle.host_descriptors.proofs.OfHostTables.LookUps.{at_slot, free_none}
use Rattle.host_sockets.proofs.Tries.{SameTry}

-- the count

module _ (m : RealDescriptors) (r : RealPid) where
  last_used : (n : ℕ) (b : Bool) → free_below m r n + cond b 0 1 ≡ 0 → (free_below m r n ≡ 0) × (b ≡ true)
  last_used n true e = (omega (arith, e), refl)
  last_used n false e = absurd (omega (arith, e))

  pub zero_used : (n : ℕ) → free_below m r n ≡ 0 → (fd : ℕ) → fd < n → IsSome (map.get m (slots.slot r fd))
  unfolding free_below
  zero_used zero e fd less = absurd (omega (arith, less))
  zero_used (suc n) e fd less =
      let last = last_used n (is_some (map.get m (slots.slot r n))) e in
      elim (same_or_other nat_cmp_total nat_cmp-IsAntisymmetric fd n) [
        | inl here ↦ ap (λ q. is_some (map.get m (slots.slot r q))) here ∙ last.1
        | inr differ ↦ zero_used n last.0 fd (before fd n less differ)
      ]
    where
      before : (a b : ℕ) → a < suc b → a ≢ b → a < b
      before a b h differ = omega (arith, h, differ)

  pub used_zero : (n : ℕ) → ((fd : ℕ) → fd < n → IsSome (map.get m (slots.slot r fd))) → free_below m r n ≡ 0
  unfolding free_below
  used_zero zero used = refl
  used_zero (suc n) used =
      let rest = used_zero n (λ fd less. used fd (omega (arith, less))) in
      let last = ap {B = ℕ} (λ b. cond b 0 1) (used n (omega arith)) in
      omega (arith, rest, last)

-- the plain search

module _ (m : Descriptors) (p : VPid) where
  used_from : (n from : ℕ) → free_among m p from n ≡ None → (fd : ℕ) → from ≤ fd → fd < from + n
      → IsSome (map.get m (slot p fd))
  unfolding free_among
  used_from zero from e fd low less = absurd (omega (arith, low, less))
  used_from (suc n) from e fd low less =
      by_test (is_some (map.get m (slot p from))) refl
      (λ none above. used_from n (from + 1) none fd above (omega (arith, less))) e
    where
      above : (a b : ℕ) → a ≤ b → b ≢ a → a + 1 ≤ b
      above a b h differ = omega (arith, h, differ)

      by_test : (b : Bool) → is_some (map.get m (slot p from)) ≡ b
          → (free_among m p (from + 1) n ≡ None → from + 1 ≤ fd → IsSome (map.get m (slot p fd)))
          → cond b (free_among m p (from + 1) n) (Some from) ≡ None → IsSome (map.get m (slot p fd))
      by_test false is later none = absurd (none-some from (sym none))
      by_test true is later none = elim (same_or_other nat_cmp_total nat_cmp-IsAntisymmetric fd from) [
        | inl here ↦ ap (λ q. is_some (map.get m (slot p q))) here ∙ is
        | inr differ ↦ later none (above from fd low differ)
      ]

module _ (g : Given) (real : Kernel) (k : PlainKernel) (st : Stands g None real k) (p : VPid) (who : RealPid)
    (paired : map.get g.pids p.0 ≡ Some who) where
  abbrev pub IsFree : ℕ → Unit {0} → Type 0
  IsFree n passed = free_from k p 0 ≡ Gives n

  abbrev count : ℕ
  count = free_below real.book.descriptors who 256

  some_none : (o : Option Descriptor) (q : Option Descriptor) → o ≡ q → IsSome o → IsSome q
  some_none o q e h = subst (λ (x : Option Descriptor). IsSome x) e h

  all_used : free_among k.descriptors p 0 DESCRIPTOR_LIMIT ≡ None → count ≡ 0
  all_used none =
      used_zero real.book.descriptors who 256 (λ fd less.
      some_none _ _
      (at_slot g.pids g.virts real.book.descriptors k.descriptors st.descriptors p who paired fd)
      (used_from k.descriptors p DESCRIPTOR_LIMIT 0 none fd (omega arith) (omega (arith, less))))

  by_search : (o : Option ℕ) → free_among k.descriptors p 0 DESCRIPTOR_LIMIT ≡ o → (count == 0) ≡ false
      → SameTry IsFree (free_from k p 0) (Gives tt)
  unfolding free_from found
  by_search None is some = true_false (sym (eq-eqb count 0 (all_used is)) ∙ some)
  by_search (Some fd) is some =
      let gives : free_from k p 0 ≡ Gives fd = ap (λ o. found o EMFILE) is in
      subst (λ m. SameTry IsFree m (Gives tt)) (sym gives) (record { alike = gives })

  by_count : (b : Bool) → (count == 0) ≡ b → SameTry IsFree (free_from k p 0) (need (not b) EMFILE)
  unfolding need
  by_count true is =
      subst (λ m. SameTry IsFree m (Fails EMFILE))
      (sym (free_none g real k st p who paired 0 (omega arith)
      (λ fd low less. zero_used real.book.descriptors who 256 (eqb-true count 0 is) fd less)))
      (record { alike = refl })
  by_count false is = by_search (free_among k.descriptors p 0 DESCRIPTOR_LIMIT) refl is

  pub same_free : SameTry IsFree (free_from k p 0) (need (not (count == 0)) EMFILE)
  same_free = by_count (count == 0) refl
