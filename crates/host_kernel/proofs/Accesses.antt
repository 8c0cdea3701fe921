-- The tests that a read and a write begin with: the access mode, and whether the description is ready.
--     tested h may ready       the description, where both hold
--     denied, unready_row, passed      a row behind the tests
--     never_waits, waits_as            whether it waits
use Rattle.std.proofs.Common.{◌≡◌, Bool, true, false, cond, List, refl, sym, subst}
use Rattle.std.specs.Prelude.{not}
use Rattle.views.specs.Numbers.{Byte}
use Rattle.sys_abi.specs.Flags.{has_flag}
use Rattle.sys_abi.specs.declared.errors.TheConstants.{EBADF, EAGAIN}
use Rattle.sys_abi.specs.declared.flags.TheConstants.{O_NONBLOCK}
use Rattle.plain_process.specs.Attempts.{Try, Fails, NotReady, Gives, and_then, need}
use Rattle.plain_machine.specs.Attempts.{Served}
use Rattle.plain_machine.specs.Kernel.{Held}
use Rattle.plain_machine.specs.Waiting.{need_ready, waits}
use Rattle.host_tables.specs.declared.kernel.Kernel.{Kernel}
use Rattle.host_tables.specs.Serves.{Serves, ByNumber, same}
use Rattle.host_tables.specs.Stands.{Given}
use Rattle.host_kernel.specs.Access.{unready}

-- what a description that isn't ready answers
abbrev after : Bool → Try (Unit {0})
after b = cond b (Fails EAGAIN) NotReady

module _ (h : Held) where
  abbrev pub tested : Bool → Bool → Try Held
  tested may ready = and_then (need may EBADF)
      (λ _. and_then (need_ready h.description.flags ready) (λ _. Gives h))

  module _ (m : Held → Try Served) where
    pub denied : (ready : Bool) → and_then (tested false ready) m ≡ Fails EBADF
    unfolding and_then need
    denied ready = refl

    pub passed : and_then (tested true true) m ≡ m h
    unfolding and_then need need_ready
    passed = refl

    module _ (g : Given) (real : Kernel) (x : List Byte) where
      by_flag : (b : Bool) → has_flag h.description.flags O_NONBLOCK ≡ b
          → Serves ByNumber same g real real x x (unready b) (and_then (tested true false) m)
      unfolding and_then need need_ready
      by_flag true e =
          subst (λ (b : Bool). Serves ByNumber same g real real x x (unready true) (and_then (and_then
          (after b) (λ _. Gives h)) m)) (sym e) (record { answer = refl; kernel = refl; bytes = refl })
      by_flag false e =
          subst (λ (b : Bool). Serves ByNumber same g real real x x (unready false) (and_then (and_then
          (after b) (λ _. Gives h)) m)) (sym e) (record { answer = refl; kernel = refl; bytes = refl })

      pub unready_row : Serves ByNumber same g real real x x
          (unready (has_flag h.description.flags O_NONBLOCK))
          (and_then (tested true false) m)
      unready_row = by_flag (has_flag h.description.flags O_NONBLOCK) refl

  pub never_denied : (ready : Bool) → not (waits (tested false ready)) ≡ true
  unfolding and_then need
  never_denied ready = refl

  pub never_ready : not (waits (tested true true)) ≡ true
  unfolding and_then need need_ready
  never_ready = refl

  waits_by : (b : Bool) → not (waits (and_then (after b) (λ _. Gives h))) ≡ b
  unfolding and_then
  waits_by true = refl
  waits_by false = refl

  pub waits_as : not (waits (tested true false)) ≡ has_flag h.description.flags O_NONBLOCK
  unfolding and_then need need_ready
  waits_as = waits_by (has_flag h.description.flags O_NONBLOCK)
