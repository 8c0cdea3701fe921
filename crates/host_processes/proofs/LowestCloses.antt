-- The descriptors of a process close, the lowest first: these are all of them, in rising order.
--     closed_next           the least number from one on that is open, and a close of it
--     closed_rest           none is open from one on
--     IsClosedBelow         so far
--     closed_more, closed_all      one more turn, and the last one
--     turned, rested        the same by what a turn found
use Rattle.std.proofs.Common.{◌≡◌, ℕ, zero, suc, ◌+◌, ◌-◌, ◌<◌, ◌≤◌, ◌⊎◌, inl, inr, Option, Some, None, refl, sym, ap, ◌∙◌, subst, arith}
use Rattle.std.specs.Prelude.{nat_lt, Bool, true, false, MatchOption, IfSome, IfNone}
use Rattle.std.specs.FinMap as map
use Rattle.std.proofs.lemmas.Bool.Decides.{nat_tests}
use Rattle.std.proofs.lemmas.Option.{none-some}
use Rattle.views.specs.Limits.{DESCRIPTOR_LIMIT}
use Rattle.sys_abi.specs.declared.identity.VPid.{VPid}
use Rattle.sys_abi.specs.declared.identity.RealPid.{RealPid}
use Rattle.sys_abi.specs.declared.identity.DescId.{DescId}
use Rattle.sys_abi.specs.declared.identity.Fd.{Fd}
use Rattle.fd_tables.specs.Numbers.{NoneOpen, IsLowestOpen}
use Rattle.fd_tables.specs.Slots as slots
use Rattle.plain_tables.specs.Tables.{slot}
use Rattle.plain_machine.specs.declared.kernel.PlainKernel.{PlainKernel}
use Rattle.plain_machine.specs.Closing.{closed_by, close_fd}
use Rattle.plain_machine.specs.Ends.{closed_below}
use Rattle.plain_machine.specs.Kernels.{IsKernel}
use Rattle.plain_machine.proofs.WholeClosing.{none_below, whole_closed_below}
use Rattle.host_descriptors.specs.OfHostTables.declared.kernel.Kernel.{Kernel}
use Rattle.host_descriptors.specs.OfHostTables.Processes.{RealDescriptors}
use Rattle.host_descriptors.specs.OfHostTables.Serves.{Through}
use Rattle.host_descriptors.specs.OfHostTables.Stands.{Given, Stands}
use Rattle.host_descriptors.proofs.OfHostTables.LookUps.{some_value, at_slot}

module _ (k : PlainKernel) (p : VPid) where
  -- a number that is not open
  not_open : (c : PlainKernel) (fd : ℕ) → map.get c.descriptors (slot p fd) ≡ None → close_fd c p fd ≡ c
  unfolding close_fd
  not_open c fd none = ap (closed_by c (slot p fd)) none

  abbrev NoneFrom : ℕ → ℕ → Type 0
  NoneFrom below limit =
      (fd : ℕ) → below ≤ fd → fd < limit → map.get (closed_below k p below).descriptors (slot p fd) ≡ None

  skipped : (below n limit : ℕ) → below + n ≡ limit → NoneFrom below limit
      → closed_below k p limit ≡ closed_below k p below
  unfolding closed_below
  skipped below zero limit e none = ap (closed_below k p) (omega (arith, e))
  skipped below (suc n) zero e none = absurd (never below n e)
    where
      never : (below n : ℕ) → below + suc n ≡ 0 → ⊥
      never below n e = omega (arith, e)
  skipped below (suc n) (suc fd) e none =
      ap (λ c. close_fd c p fd) (skipped below n fd (omega (arith, e)) (λ low on less. none low on (omega (arith, less))))
      ∙ not_open (closed_below k p below) fd (none fd (omega (arith, e)) (omega arith))

  pub closed_rest : (below limit : ℕ) → below ≤ limit → NoneFrom below limit
      → closed_below k p limit ≡ closed_below k p below
  closed_rest below limit on none = skipped below (limit - below) limit (omega (arith, on)) none

  pub closed_next : (below fd : ℕ) → below ≤ fd → NoneFrom below fd
      → closed_below k p (suc fd) ≡ close_fd (closed_below k p below) p fd
  unfolding closed_below
  closed_next below fd on none = ap (λ c. close_fd c p fd) (closed_rest below fd on none)

-- after so many turns, by each of which a descriptor closed
pub record IsClosedBelow (g : Given) (now : Kernel) (k : PlainKernel) (p : VPid) (turns : ℕ) : Type 0 where
  pub below : ℕ
  pub turned : turns ≤ below
  pub in_range : below ≤ DESCRIPTOR_LIMIT
  pub stands : Stands g None now (closed_below k p below)

pub none_closed : (g : Given) (now : Kernel) (k : PlainKernel) (p : VPid) → Stands g None now k
    → IsClosedBelow g now k p 0
unfolding closed_below
none_closed g now k p st = record { below = 0; turned = omega arith; in_range = omega arith; stands = st }

below_or : (below fd : ℕ) → (below ≤ fd) ⊎ (fd < below)
below_or below fd = chosen (nat_lt fd below) refl
  where
    chosen : (b : Bool) → nat_lt fd below ≡ b → (below ≤ fd) ⊎ (fd < below)
    chosen true e = inr (grind (arith, nat_tests, e))
    chosen false e = inl (grind (arith, nat_tests, e))

module _ (g : Given) (now : Kernel) (k : PlainKernel) (p : VPid) (who : RealPid)
    (paired : map.get g.pids p.0 ≡ Some who) (turns : ℕ) (so_far : IsClosedBelow g now k p turns) where
  abbrev closed : PlainKernel
  closed = closed_below k p so_far.below

  same_slot : (fd : ℕ) → map.get closed.descriptors (slot p fd) ≡ map.get now.book.descriptors (slots.slot who fd)
  same_slot fd =
      at_slot g.pids g.virts now.book.descriptors closed.descriptors so_far.stands.descriptors p who paired fd

  pub closed_all : NoneOpen now.book.descriptors who 0 → (new : Kernel) → new ≡ now
      → Stands g None new (closed_below k p DESCRIPTOR_LIMIT)
  closed_all none new same =
      subst (λ (r : Kernel). Stands g None r (closed_below k p DESCRIPTOR_LIMIT)) (sym same)
      (subst (Stands g None now)
      (sym (closed_rest k p so_far.below DESCRIPTOR_LIMIT so_far.in_range
      (λ fd on less. same_slot fd ∙ none fd (omega arith))))
      so_far.stands)

  module _ (fd : ℕ) (lowest : IsLowestOpen now.book.descriptors who 0 fd) where
    above : so_far.below ≤ fd
    above = elim (below_or so_far.below fd) [
      | inl on ↦ on
      | inr less ↦
          let d = some_value (map.get now.book.descriptors (slots.slot who fd)) lowest.open_there in
          absurd (none_below k p so_far.below fd d.0 less (same_slot fd ∙ d.1))
    ]

    pub closed_more : (new : Kernel) → Stands g None new (close_fd closed p fd)
        → IsClosedBelow g new k p (turns + 1)
    closed_more new stands = record {
      below = suc fd;
      turned = let t = so_far.turned in let a = above in omega arith;
      in_range = let i = lowest.in_range in omega arith;
      stands = subst (Stands g None new)
          (sym (closed_next k p so_far.below fd above
          (λ low on less. same_slot low ∙ lowest.lowest low (omega arith) less))) stands;
    }

  -- there are no more turns than descriptors
  pub at_most : DESCRIPTOR_LIMIT < turns → ⊥
  at_most more = let t = so_far.turned in let i = so_far.in_range in omega arith

-- no descriptor is left to close
pub nothing_closed : {A : Type 0} (m : RealDescriptors) (who : RealPid) → NoneOpen m who 0
    → (o : Option (Fd × Option DescId))
    → MatchOption o (NoneOpen m who 0) (λ closed. IsLowestOpen m who 0 closed.0.0) → IfNone o A → A
nothing_closed m who none None lowest is = is
nothing_closed m who none (Some closed) lowest is =
    let d = some_value (map.get m (slots.slot who closed.0.0)) lowest.open_there in
    absurd (none-some d.0 (sym (none closed.0.0 (omega arith)) ∙ d.1))

-- a turn of the loop, by what it found
module _ {X : Type 0} (g : Given) (now : Kernel) (k : PlainKernel) (whole : IsKernel k) (p : VPid) (who : RealPid)
    (paired : map.get g.pids p.0 ≡ Some who) (turns : ℕ) (so_far : IsClosedBelow g now k p turns) (new : Kernel) where
  abbrev Lowest : Option (Fd × X) → Type 0
  Lowest o =
      MatchOption o (NoneOpen now.book.descriptors who 0)
      (λ closed. IsLowestOpen now.book.descriptors who 0 closed.0.0)

  pub turned : (o : Option (Fd × X)) (x : Fd × X) → o ≡ Some x → Lowest o
      → IfSome o (λ closed. Through now who (λ g k p. Stands g None new (close_fd k p closed.0.0)))
      → IsClosedBelow g new k p (turns + 1)
  turned None x e lowest closes = absurd (none-some x e)
  turned (Some y) x e lowest closes =
      closed_more g now k p who paired turns so_far y.0.0 lowest new
      (closes g (closed_below k p so_far.below) p (whole_closed_below k p so_far.below whole) so_far.stands paired)

  pub rested : (o : Option (Fd × X)) → o ≡ None → Lowest o → IfNone o (new ≡ now)
      → Stands g None new (closed_below k p DESCRIPTOR_LIMIT)
  rested None e lowest stays = closed_all g now k p who paired turns so_far lowest new stays
  rested (Some y) e lowest stays = absurd (none-some y (sym e))
