-- The numbers that a process takes for what it makes, and the status flags of what is made.
--     number_made      a number that it takes is no description's yet      sound_flags
use Rattle.std.proofs.Common.{◌≡◌, ℕ, ◌+◌, ◌-◌, ◌%◌, ◌^◌, ◌<◌, ◌≤◌, Bool, true, false, cond, refl, ap, ◌∙◌, arith}
use Rattle.std.specs.Prelude.{zero, suc, Option, Some, None, is_some}
use Rattle.std.specs.Option.{option_map_or}
use Rattle.std.specs.FinMap as map
use Rattle.std.proofs.lemmas.Bool.Decides.{nat_tests}
use Rattle.plain_tables.specs.OfSysAbi.declared.identity.VPid.{VPid}
use Rattle.plain_tables.specs.OfSysAbi.declared.flags.TheConstants.{O_NONBLOCK}
use Rattle.plain_tables.specs.OfSysAbi.Flags.{has_flag}
use Rattle.plain_tables.proofs.OfSysAbi.OrderLaws.{vpid_total, vpid_exact}
use Rattle.plain_machine.specs.declared.kernel.PlainKernel.{PlainKernel}
use Rattle.plain_tables.specs.declared.process.Process.{Process}
use Rattle.plain_tables.specs.OfSysAbi.declared.maker.Maker.{Maker}
use Rattle.plain_tables.specs.Tables.{is_live_process, made_more}
use Rattle.plain_tables.specs.Valid.Descriptions.{AreFlags}
use Rattle.plain_machine.specs.Kernel.{is_live, made_of, has_numbers, numbered}
use Rattle.plain_machine.specs.Kernels.{IsKernel}
use Rattle.plain_machine.specs.KernelLaws.{IsNumberOf}
use Rattle.plain_machine.specs.Making.{end_flags}
use Rattle.plain_tables.proofs.Changes.{changed_here}
use Rattle.plain_tables.proofs.Entries.{found_at}
use Rattle.plain_machine.proofs.WholePlaced.{fresh, unknown}
use Rattle.plain_machine.proofs.WholeNumbered.{whole_numbered}

flags_by : (mode : ℕ) (b : Bool) → mode < 3 → AreFlags (cond b (mode + O_NONBLOCK) mode)
flags_by zero true low = record { known = refl; mode = λ same. omega arith }
flags_by zero false low = record { known = refl; mode = λ same. omega arith }
flags_by (suc zero) true low = record { known = refl; mode = λ same. omega arith }
flags_by (suc zero) false low = record { known = refl; mode = λ same. omega arith }
flags_by (suc (suc zero)) true low = record { known = refl; mode = λ same. omega arith }
flags_by (suc (suc zero)) false low = record { known = refl; mode = λ same. omega arith }
flags_by (suc (suc (suc n))) b low = absurd (omega arith)

pub sound_flags : (mode flags : ℕ) → mode < 3 → AreFlags (end_flags mode flags)
sound_flags mode flags low = flags_by mode (has_flag flags O_NONBLOCK) low

pub status_mode : (mode flags : ℕ) → mode < 3 → end_flags mode flags % 4 ≡ mode
status_mode mode flags low = by_flag (has_flag flags O_NONBLOCK)
  where
    by_flag : (b : Bool) → cond b (mode + O_NONBLOCK) mode % 4 ≡ mode
    by_flag true = omega arith
    by_flag false = omega arith

there_if_live : (found : Option Process) → is_live_process found ≡ true → is_some found ≡ true
there_if_live None lives = lives
there_if_live (Some process) lives = refl

module _ (k : PlainKernel) (is : IsKernel k) (p : VPid) (alive : is_live k p ≡ true) where
  pub maker_of : (maker : Maker) × (map.get k.makers p ≡ Some maker)
  unfolding is_live
  maker_of = found_at vpid_total vpid_exact k.makers p (is.makers.same p ∙ there_if_live (map.get k.processes p) alive)

  pub made_is : made_of k p ≡ maker_of.0.made
  made_is = ap (λ o. option_map_or (λ (maker : Maker). maker.made) o 0) maker_of.1

  -- one of the next n numbers is no description's, and no datagram end knows it
  pub number_made : (n num : ℕ) → made_of k p ≤ num → num < made_of k p + n → IsNumberOf (numbered k p n) p num
  number_made n num from below =
      let made = made_is in
      record {
        maker = made_more n maker_of.0;
        known = changed_here vpid_total vpid_exact k.makers p (made_more n) maker_of.0 maker_of.1;
        below = omega arith;
        new = fresh k is p num maker_of.0 maker_of.1 alive (omega arith);
        unknown = unknown k is p num maker_of.0 maker_of.1 alive (omega arith);
      }

  -- the numbers of a call
  pub whole_making : (n : ℕ) → n ≤ 3 → has_numbers k p ≡ true → IsKernel (numbered k p n)
  whole_making n few has = whole_numbered k p n is (λ maker known.
      let made : made_of k p ≡ maker.made = ap (λ o. option_map_or (λ (m : Maker). m.made) o 0) known in
      let room : made_of k p < 2 ^ 32 - 4 = grind (arith, nat_tests, has) in
      omega arith)
