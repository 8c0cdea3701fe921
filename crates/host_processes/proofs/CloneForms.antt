-- The row of clone by what the flags make.
--     no_form      nothing: the flags are of no form
--     by_form      a child or a thread: what holds of that form for all flags holds of these
use Rattle.std.proofs.Common.{◌≡◌, true, List, Result, Some, None, refl, subst}
use Rattle.std.specs.Prelude.{nat_lt, IfOk}
use Rattle.std.proofs.lemmas.Result.{IfOk-weaker}
use Rattle.views.specs.Numbers.{Byte, Flags}
use Rattle.sys_abi.specs.declared.cloning.CloneForm.{CloneForm}
use Rattle.sys_abi.specs.declared.errors.TheConstants.{EINVAL}
use Rattle.sys_abi.specs.declared.identity.VPid.{VPid}
use Rattle.sys_abi.specs.declared.identity.RealPid.{RealPid}
use Rattle.sys_abi.specs.Clones.{clone_form}
use Rattle.plain_process.specs.Attempts.{Try}
use Rattle.plain_machine.specs.declared.kernel.PlainKernel.{PlainKernel}
use Rattle.plain_machine.specs.Attempts.{Served}
use Rattle.plain_machine.specs.Rows.Clone.{LAST_ID, clone_by, clone_row}
use Rattle.host_descriptors.specs.OfHostTables.declared.kernel.Kernel.{Kernel}
use Rattle.host_descriptors.specs.OfHostTables.declared.attempt.Attempt.{Attempt}
use Rattle.host_descriptors.specs.OfHostTables.declared.attempt.Attempt.TheVariants as answer
use Rattle.host_descriptors.specs.OfHostTables.Requests.{AreBelow}
use Rattle.host_descriptors.specs.OfHostTables.Serves.{Through, Serves, ByPid, silent}
use Rattle.host_descriptors.specs.OfHostTables.Stands.{Given}
use Rattle.host_processes.specs.Forks.{paired_with}

module _ (old new : Kernel) (who : RealPid) (flags : Flags) where
  abbrev Says : Given → List Byte → Attempt → Try Served → Type 0
  Says g x a m = Serves (ByPid who) (paired_with who) g old new x x a m

  abbrev Told : (PlainKernel → VPid → Try Served) → Attempt → Type 0
  Told row a =
      Through old who (λ g k p. (x : List Byte) → nat_lt k.next_id LAST_ID ≡ true → AreBelow g k.next_id
      → Says g x a (silent (row k p)))

  abbrev ToldOfAll : (PlainKernel → VPid → Flags → Try Served) → Attempt → Type 0
  ToldOfAll row a =
      Through old who (λ g k p. (each : Flags) (x : List Byte) → nat_lt k.next_id LAST_ID ≡ true
      → AreBelow g k.next_id → Says g x a (silent (row k p each)))

  pub no_form : None ≡ clone_form flags → new ≡ old
      → Told (λ k p. clone_row k p flags) (answer.Fails (record { 0 = EINVAL }))
  unfolding clone_row
  no_form form same g k p whole st paired x last below =
      subst (λ o. Says g x (answer.Fails (record { 0 = EINVAL })) (silent (clone_by k p flags o))) form
      (record { answer = refl; kernel = same; bytes = refl })

  pub by_form : {E : Type 0} (made : CloneForm) → Some made ≡ clone_form flags → (r : Result Attempt E)
      → IfOk r (ToldOfAll (λ k p each. clone_by k p each (Some made)))
      → IfOk r (Told (λ k p. clone_row k p flags))
  unfolding clone_row
  by_form made is r told =
      IfOk-weaker r _ _ (λ a serves g k p whole st paired x last below.
      subst (λ o. Says g x a (silent (clone_by k p flags o))) is
      (serves g k p whole st paired flags x last below))
      told
