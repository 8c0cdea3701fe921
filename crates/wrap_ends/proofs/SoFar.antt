-- The descriptors of a process close, the lowest first, in a system.
--     IsClosedBelow      so far
--     closed_more, closed_all, at_most      one more turn, the last one, and how many there are
use Rattle.std.proofs.Common.{◌≡◌, ℕ, suc, ◌+◌, ◌<◌, ◌≤◌, ◌⊎◌, Bool, true, false, Option, Some, None, inl, inr, refl, sym, ◌∙◌, subst, arith}
use Rattle.std.specs.Prelude.{nat_lt, MatchOption}
use Rattle.std.specs.FinMap as map
use Rattle.std.proofs.lemmas.Bool.Decides.{nat_tests}
use Rattle.std.proofs.lemmas.Option.{none-some, same_Some}
use Rattle.views.specs.Limits.{DESCRIPTOR_LIMIT}
use Rattle.sys_abi.specs.declared.identity.Fd.{Fd}
use Rattle.sys_abi.specs.declared.identity.RealPid.{RealPid}
use Rattle.sys_abi.specs.declared.identity.VPid.{VPid}
use Rattle.host_tables.specs.Processes.{RealDescriptors}
use Rattle.fd_tables.specs.Numbers.{NoneOpen, IsLowestOpen}
use Rattle.fd_tables.specs.Slots as slots
use Rattle.plain_tables.specs.Tables.{slot}
use Rattle.plain_machine.specs.declared.kernel.PlainKernel.{PlainKernel}
use Rattle.plain_machine.specs.Closing.{close_fd}
use Rattle.plain_machine.specs.Ends.{closed_below}
use Rattle.plain_machine.proofs.WholeClosing.{none_below}
use Rattle.host_tables.specs.declared.system.System.{System}
use Rattle.host_tables.proofs.LookUps.{some_value, at_slot}
use Rattle.wrap_names.proofs.OfHostProcesses.LowestCloses.{closed_next, closed_rest}
use Rattle.wrap_names.specs.Wrapping.{IsWrapped}

pub record IsClosedBelow (now : System) (next_id : ℕ) (k : PlainKernel) (p : VPid) (turns : ℕ) : Type 0 where
  pub below : ℕ
  pub turned : turns ≤ below
  pub in_range : below ≤ DESCRIPTOR_LIMIT
  pub wrapped : IsWrapped now next_id (closed_below k p below)

pub none_closed : (now : System) (next_id : ℕ) (k : PlainKernel) (p : VPid) → IsWrapped now next_id k
    → IsClosedBelow now next_id k p 0
unfolding closed_below
none_closed now next_id k p w = record {
  below = 0;
  turned = omega arith;
  in_range = omega arith;
  wrapped = w;
}

below_or : (below fd : ℕ) → (below ≤ fd) ⊎ (fd < below)
below_or below fd = chosen (nat_lt fd below) refl
  where
    chosen : (b : Bool) → nat_lt fd below ≡ b → (below ≤ fd) ⊎ (fd < below)
    chosen true e = inr (grind (arith, nat_tests, e))
    chosen false e = inl (grind (arith, nat_tests, e))

module _ (now : System) (next_id : ℕ) (k : PlainKernel) (p : VPid) (who : RealPid)
    (paired : map.get now.ids.pids p.0 ≡ Some who) (turns : ℕ)
    (so_far : IsClosedBelow now next_id k p turns) where
  abbrev closed : PlainKernel
  closed = closed_below k p so_far.below

  same_slot : (fd : ℕ)
      → map.get closed.descriptors (slot p fd) ≡ map.get now.kernel.book.descriptors (slots.slot who fd)
  same_slot fd =
      at_slot now.ids.pids now.ids.virts now.kernel.book.descriptors closed.descriptors
      so_far.wrapped.stands.tables.descriptors p who paired fd

  pub closed_all : NoneOpen now.kernel.book.descriptors who 0
      → IsWrapped now next_id (closed_below k p DESCRIPTOR_LIMIT)
  closed_all none =
      subst (IsWrapped now next_id)
      (sym (closed_rest k p so_far.below DESCRIPTOR_LIMIT so_far.in_range
      (λ fd on less. same_slot fd ∙ none fd (omega arith))))
      so_far.wrapped

  module _ (fd : ℕ) (lowest : IsLowestOpen now.kernel.book.descriptors who 0 fd) where
    above : so_far.below ≤ fd
    above = elim (below_or so_far.below fd) [
      | inl on ↦ on
      | inr less ↦
          let d = some_value (map.get now.kernel.book.descriptors (slots.slot who fd)) lowest.open_there in
          absurd (none_below k p so_far.below fd d.0 less (same_slot fd ∙ d.1))
    ]

    pub closed_more : (new : System) → IsWrapped new next_id (close_fd closed p fd)
        → IsClosedBelow new next_id k p (turns + 1)
    closed_more new wrapped = record {
      below = suc fd;
      turned = let t = so_far.turned in let a = above in omega arith;
      in_range = let i = lowest.in_range in omega arith;
      wrapped = subst (IsWrapped new next_id)
          (sym (closed_next k p so_far.below fd above
          (λ low on less. same_slot low ∙ lowest.lowest low (omega arith) less))) wrapped;
    }

  -- there are no more turns than descriptors
  pub at_most : DESCRIPTOR_LIMIT < turns → ⊥
  at_most more = let t = so_far.turned in let i = so_far.in_range in omega arith

pub lowest_is : (m : RealDescriptors) (who : RealPid) (o : Option Fd) (fd : Fd) → o ≡ Some fd
    → MatchOption o (NoneOpen m who 0) (λ fd. IsLowestOpen m who 0 fd.0) → IsLowestOpen m who 0 fd.0
lowest_is m who None fd e is = absurd (none-some fd e)
lowest_is m who (Some x) fd e is = subst (λ (y : Fd). IsLowestOpen m who 0 y.0) (same_Some x fd e) is

pub none_is : (m : RealDescriptors) (who : RealPid) (o : Option Fd) → o ≡ None
    → MatchOption o (NoneOpen m who 0) (λ fd. IsLowestOpen m who 0 fd.0) → NoneOpen m who 0
none_is m who None e is = is
none_is m who (Some x) e is = absurd (none-some x (sym e))
