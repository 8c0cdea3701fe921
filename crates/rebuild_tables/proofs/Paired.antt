-- What a kernel part's descriptors and descriptions lead to is paired with real numbers.
--     paired_with                 what a look-up of a pair has found
--     numbered_at                 a descriptor's process is paired
--     has_real                    a description can be made again
--     is_known, owner_known       an owner is nobody, or paired
use Rattle.std.proofs.Common.{◌≡◌, ◌==◌, ◌||◌, ℕ, Bool, true, false, inl, inr, refl, sym, ap, ◌∙◌}
use Rattle.std.specs.Prelude.{Option, Some, None, is_some, IsSome, Ok}
use Rattle.std.specs.Option.{ok_or}
use Rattle.std.specs.FinMap as map
use Rattle.std.proofs.lemmas.Bool.{false_from_ne_true, eq-eqb}
use Rattle.views.proofs.MapLaws.{true_false, same_key, key_tied}
use Rattle.views.proofs.MapValues.{some_among-values}
use Rattle.sys_abi.specs.declared.identity.DescId.{DescId}
use Rattle.sys_abi.specs.declared.identity.Slot.{Slot}
use Rattle.sys_abi.specs.declared.identity.VPid.{VPid}
use Rattle.sys_abi.specs.declared.identity.VirtAddr.{VirtAddr}
use Rattle.sys_abi.specs.declared.descriptor.Descriptor.{Descriptor}
use Rattle.sys_abi.proofs.OrderLaws.{slot_total, slot_exact, desc_total, desc_exact, address_total, address_exact}
use Rattle.virt_ids.specs.Pairs.{Pairs}
use Rattle.plain_tables.specs.declared.process.Process.{Process}
use Rattle.plain_tables.specs.declared.description.Description.{Description}
use Rattle.plain_tables.specs.declared.description.Object.{Object}
use Rattle.plain_tables.specs.declared.description.Object.TheVariants.{Console, File, Stream, Socket, Listener, Datagram, Counter}
use Rattle.plain_tables.specs.Tables.{pid, is_live_process, lives_in, refers_to, is_held}
use Rattle.plain_tables.specs.Objects.{is_datagram, is_listener_at}
use Rattle.plain_tables.specs.Valid.Descriptions.{IsOwner}
use Rattle.plain_tables.proofs.Entries.{some_passes}
use Rattle.plain_machine.specs.declared.kernel.PlainKernel.{PlainKernel}
use Rattle.plain_machine.specs.Kernels.{IsKernel}
use Rattle.rebuild_tables.specs.Rebuilt.{HasNoDatagrams, HasReal}

pub paired_with : {R E : Type 0} (o : Option R) (r : R) (fault : E) → ok_or o fault ≡ Ok r → o ≡ Some r
paired_with None r fault is = cc
paired_with (Some q) r fault is = cc

some_process : (o : Option Process) → is_live_process o ≡ true → (x : Process) × (o ≡ Some x)
some_process None lives = true_false (sym lives)
some_process (Some x) lives = (x, refl)

true_or : (a b : Bool) → a ≡ true → (a || b) ≡ true
true_or true b is = refl
true_or false b is = true_false (sym is)

or_true : (a b : Bool) → b ≡ true → (a || b) ≡ true
or_true true b is = refl
or_true false b is = is

module _ (k : PlainKernel) (whole : IsKernel k) (ids : Pairs)
    (numbered : (p : VPid) (x : Process) → map.get k.processes p ≡ Some x
    → IsSome (map.get ids.pids p.0)) where
  live_paired : (p : VPid) → lives_in k.processes p ≡ true → IsSome (map.get ids.pids p.0)
  live_paired p lives =
      let there = some_process (map.get k.processes p) lives in
      numbered p there.0 there.1

  pub numbered_at : (at : Slot) (d : Descriptor) → map.get k.descriptors at ≡ Some d
      → IsSome (map.get ids.pids at.pid.0)
  numbered_at at d is = live_paired at.pid (whole.descriptors.alive at d is)

  -- owners

  abbrev pub is_known : ℕ → Bool
  is_known owner = (owner == 0) || is_some (map.get ids.pids owner)

  known_by : (holder : VPid) (owner : ℕ) → IsOwner k.processes k.makers holder owner → is_known owner ≡ true
  known_by holder owner (inl nobody) = true_or (owner == 0) _ (eq-eqb owner 0 nobody)
  known_by holder owner (inr is) = or_true (owner == 0) _ (live_paired (pid owner) is.0)

  pub owner_known : (id : DescId) (x : Description) → map.get k.descriptions id ≡ Some x
      → is_known x.owner ≡ true
  unfolding is_held
  owner_known id x is = by (is_known x.owner) refl
    where
      by_holder : (at : Slot) (d : Descriptor) → map.get k.descriptors at ≡ Some d → refers_to id d ≡ true
          → is_known x.owner ≡ true
      by_holder at d found refers =
          known_by at.pid x.owner (whole.holders.owner at d x found
          (ap (map.get k.descriptions) (sym (same_key desc_total desc_exact id d.desc refers)) ∙ is))

      by : (t : Bool) → is_known x.owner ≡ t → t ≡ true
      by true known = refl
      by false unknown =
          absurd (some_passes slot_total slot_exact (refers_to id) k.descriptors
          (whole.descriptions.held id x is) (λ at d found. false_from_ne_true (refers_to id d)
          (λ refers. true_false (sym (by_holder at d found refers) ∙ unknown))))

module _ (k : PlainKernel) (whole : IsKernel k) (ids : Pairs) (plain : HasNoDatagrams k.descriptions)
    (places : (a : VirtAddr) → IsSome (map.get k.listeners a) → IsSome (map.get ids.addresses a)) where
  listens : (id : DescId) (x : Description) (a : VirtAddr) → map.get k.descriptions id ≡ Some x
      → x.object ≡ Listener a → IsSome (map.get k.listeners a)
  listens id x a is object =
      whole.listeners.described a
      ∙ some_among-values desc_total desc_exact (λ (y : Description). is_listener_at a y.object)
      k.descriptions id x is (ap (is_listener_at a) object ∙ key_tied address_total address_exact a)

  pub has_real : (id : DescId) (x : Description) → map.get k.descriptions id ≡ Some x → HasReal ids x.object
  has_real id x is = by x.object refl
    where
      by : (o : Object) → x.object ≡ o → HasReal ids o
      by Console object = tt
      by (File number offset) object = tt
      by (Stream conn side) object = tt
      by (Socket a) object = tt
      by (Listener a) object = places a (listens id x a is object)
      by (Datagram peer) object = true_false (ap is_datagram (sym object) ∙ plain id x is)
      by (Counter value) object = tt
