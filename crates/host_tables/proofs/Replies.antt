-- What a row comes to, as a call over real numbers owes it.
--     gave          a row that answers a number
--     refused       a row that fails, where nothing has changed
use Rattle.std.proofs.Common.{◌≡◌, ℕ, List, None, refl, sym, subst}
use Rattle.views.specs.Numbers.{Byte}
use Rattle.plain_machine.specs.OfPlainProcess.Attempts.{Try, Fails}
use Rattle.plain_machine.specs.declared.kernel.PlainKernel.{PlainKernel}
use Rattle.plain_machine.specs.Attempts.{Served, replied}
use Rattle.host_tables.specs.declared.kernel.Kernel.{Kernel}
use Rattle.host_tables.specs.declared.attempt.Attempt.{Attempt}
use Rattle.host_tables.specs.declared.attempt.Attempt.TheVariants as answer
use Rattle.host_tables.specs.Serves.{ValueRelation, Serves, same}
use Rattle.host_tables.specs.Stands.{Given, Stands}

module _ (g : Given) (real : Kernel) (x : List Byte) (V : ValueRelation) where
  pub gave : (k : PlainKernel) (n m : ℕ) → V n m g → (new : Kernel) → Stands g None new k
      → (a : Attempt) → a ≡ answer.Gives n → Serves V same g real new x x a (replied k m)
  gave k n m is new stands a gives =
      subst (λ w. Serves V same g real new x x w (replied k m)) (sym gives)
      (record { reply = is; bytes = refl; stands = stands })

  pub refused : (e : ℕ) (m : Try Served) → m ≡ Fails e
      → Serves V same g real real x x (answer.Fails (record { 0 = e })) m
  refused e m is =
      subst (Serves V same g real real x x (answer.Fails (record { 0 = e }))) (sym is)
      (record { answer = refl; kernel = refl; bytes = refl })
