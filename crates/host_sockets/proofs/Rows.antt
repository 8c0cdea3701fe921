-- A row whose tests fail or wait, where nothing has changed.
--     row_fails, row_waits
use Rattle.std.proofs.Common.{◌≡◌, List, refl, sym, subst}
use Rattle.sys_abi.specs.declared.reply.Errno.{Errno}
use Rattle.views.specs.Numbers.{Byte}
use Rattle.plain_process.specs.Attempts.{Try, Fails, NotReady, and_then}
use Rattle.plain_machine.specs.Attempts.{Served}
use Rattle.host_descriptors.specs.OfHostTables.declared.attempt.Attempt.TheVariants as answer
use Rattle.host_descriptors.specs.OfHostTables.declared.kernel.Kernel.{Kernel}
use Rattle.host_descriptors.specs.OfHostTables.Serves.{ValueRelation, After, Serves}
use Rattle.host_descriptors.specs.OfHostTables.Stands.{Given}
use Rattle.host_sockets.proofs.Tries.{SameTry, as_fails, as_waits}

module _ (V : ValueRelation) (after : After) (g : Given) (real : Kernel) (x : List Byte) {A B : Type 0}
    (Is : A → B → Type 0) (m : Try A) (n : Try B) (next : A → Try Served) (same : SameTry Is m n) where
  pub row_fails : (error : Errno) → n ≡ Fails error.0
      → Serves V after g real real x x (answer.Fails error) (and_then m next)
  unfolding and_then
  row_fails error is =
      subst (λ w. Serves V after g real real x x (answer.Fails error) (and_then w next))
      (sym (as_fails Is m n error.0 same is)) (record { answer = refl; kernel = refl; bytes = refl })

  pub row_waits : n ≡ NotReady → Serves V after g real real x x answer.NotReady (and_then m next)
  unfolding and_then
  row_waits is =
      subst (λ w. Serves V after g real real x x answer.NotReady (and_then w next))
      (sym (as_waits Is m n same is)) (record { answer = refl; kernel = refl; bytes = refl })
