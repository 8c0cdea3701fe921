-- A system after a call, and the kernel part that its value tells.
--     stands_then, answers_then       where memory was not wanted
--     stands_before, answers_before   where it was
use Rattle.std.proofs.Common.{◌≡◌, ℕ, true, false, List, refl, sym}
use Rattle.views.specs.Numbers.{Byte}
use Rattle.views.proofs.MapLaws.{true_false}
use Rattle.plain_process.specs.Attempts.{Try}
use Rattle.plain_machine.specs.declared.kernel.PlainKernel.{PlainKernel}
use Rattle.plain_machine.specs.Attempts.{Served}
use Rattle.host_tables.specs.declared.reply.KernelReply.{KernelReply}
use Rattle.host_tables.specs.declared.reply.KernelReply.TheVariants.{Done, Error, Memory}
use Rattle.host_tables.specs.declared.reply.KernelReply.TheVariants as reply
use Rattle.host_tables.specs.declared.system.System.{System}
use Rattle.wrap_passing.specs.OfWrapNames.Wrapping.{IsWrapped, Answers, StandsAfter, is_memory, kernel_left}

module _ (s : System) (next_id : ℕ) (k : PlainKernel) (before now : List Byte) (m : Try Served) where
  pub stands_then : (answered : KernelReply) → is_memory answered ≡ false
      → StandsAfter s next_id k before now answered m → IsWrapped s next_id (kernel_left k m)
  stands_then (Done n) e h = h.0
  stands_then (Error f) e h = h.0
  stands_then reply.NotReady e h = h.0
  stands_then Memory e h = true_false e

  pub answers_then : (answered : KernelReply) → is_memory answered ≡ false
      → StandsAfter s next_id k before now answered m
      → Answers k (kernel_left k m) before now answered m
  answers_then (Done n) e h = (refl, h.1)
  answers_then (Error f) e h = (refl, h.1)
  answers_then reply.NotReady e h = (refl, h.1)
  answers_then Memory e h = true_false e

  pub stands_before : (answered : KernelReply) → is_memory answered ≡ true
      → StandsAfter s next_id k before now answered m → IsWrapped s next_id k
  stands_before (Done n) e h = true_false (sym e)
  stands_before (Error f) e h = true_false (sym e)
  stands_before reply.NotReady e h = true_false (sym e)
  stands_before Memory e h = h.0

  pub answers_before : (answered : KernelReply) → is_memory answered ≡ true
      → StandsAfter s next_id k before now answered m → Answers k k before now answered m
  answers_before (Done n) e h = true_false (sym e)
  answers_before (Error f) e h = true_false (sym e)
  answers_before reply.NotReady e h = true_false (sym e)
  answers_before Memory e h = (refl, h.1)
