-- What a row comes to, as a call that makes something owes it, by what is given then.
--     refused_by      a row that fails
--     made_by         a row that answers a descriptor
--     told_by         a row that answers the numbers of two
use Rattle.std.proofs.Common.{◌≡◌, ℕ, List, ◌++◌, Bool, true, false, Some, None, refl, sym, subst}
use Rattle.std.specs.Prelude.{if◌then◌else◌}
use Rattle.std.proofs.lemmas.Option.{same_Some, none-some}
use Rattle.views.specs.Numbers.{Byte}
use Rattle.plain_process.specs.Attempts.{Try, Fails, Gives}
use Rattle.plain_process.specs.Memory.{low_bytes}
use Rattle.plain_machine.specs.declared.kernel.PlainKernel.{PlainKernel}
use Rattle.plain_machine.specs.Attempts.{Served, replied}
use Rattle.plain_machine.specs.Rows.Channels.{numbers_answered}
use Rattle.host_tables.specs.declared.kernel.Kernel.{Kernel}
use Rattle.host_tables.specs.declared.attempt.Attempt.TheVariants as answer
use Rattle.host_tables.specs.Serves.{After, ByNumber, Serves}
use Rattle.host_tables.specs.Stands.{Given, Stands}

module _ (after : After) (g : Given) (old new : Kernel) (before now : List Byte) (m : Try Served) where
  pub refused_by : (e : ℕ) → m ≡ Fails e → new ≡ old → now ≡ before
      → Serves ByNumber after g old new before now (answer.Fails (record { 0 = e })) m
  refused_by e is same kept =
      subst (Serves ByNumber after g old new before now (answer.Fails (record { 0 = e }))) (sym is)
      (record { answer = refl; kernel = same; bytes = kept })

  pub made_by : (k : PlainKernel) (fd : ℕ) → m ≡ replied k fd → now ≡ before
      → Stands (after fd fd g) None new k
      → Serves ByNumber after g old new before now (answer.Gives fd) m
  made_by k fd is kept stands =
      subst (Serves ByNumber after g old new before now (answer.Gives fd)) (sym is)
      (record { reply = refl; bytes = kept; stands = stands })

  pub told_by : (k : PlainKernel) (first second : ℕ) → m ≡ Gives (numbers_answered k first second)
      → now ≡ low_bytes 4 first ++ low_bytes 4 second → Stands (after 0 0 g) None new k
      → Serves ByNumber after g old new before now (answer.Gives 0) m
  told_by k first second is told stands =
      subst (Serves ByNumber after g old new before now (answer.Gives 0)) (sym is)
      (record { reply = refl; bytes = told; stands = stands })

-- numbers that are given out, or not

pub none_left : {A : Type 0} (left : Bool) (x : A) → None ≡ (if left then Some x else None) → left ≡ false
none_left true x is = absurd (none-some x is)
none_left false x is = refl

pub some_left : {A : Type 0} (left : Bool) (x y : A) → Some x ≡ (if left then Some y else None)
    → (left ≡ true) × (x ≡ y)
some_left true x y is = (refl, same_Some x y is)
some_left false x y is = absurd (none-some x (sym is))
