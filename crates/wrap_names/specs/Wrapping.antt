-- What a wrapped system stands for, and what a call of a guest does to it.
--     IsWrapped s next_id k        the system, with the next virtual number, stands for the kernel part
--     kernel_left k m              the kernel part that a row leaves
--     TellsRow before now a m      the answer and the bytes are the row's
--     Answers, StandsAfter         a whole call: of kernel parts, and of a system that stands for one
use Rattle.std.specs.Prelude.{◌≡◌, ℕ, Bool, true, false, List, None}
use Rattle.views.specs.Numbers.{Byte}
use Rattle.plain_process.specs.Attempts.{Try, Fails, NotReady, Gives}
use Rattle.plain_machine.specs.declared.kernel.PlainKernel.{PlainKernel}
use Rattle.plain_machine.specs.Attempts.{Served}
use Rattle.host_streams.specs.OfHostTables.declared.attempt.Attempt.{Attempt}
use Rattle.host_streams.specs.OfHostTables.declared.attempt.Attempt.TheVariants as answer
use Rattle.host_streams.specs.OfHostTables.declared.reply.KernelReply.{KernelReply}
use Rattle.host_streams.specs.OfHostTables.declared.reply.KernelReply.TheVariants.{Done, Error, Memory}
use Rattle.host_streams.specs.OfHostTables.declared.reply.KernelReply.TheVariants as reply
use Rattle.host_streams.specs.OfHostTables.declared.system.System.{System}
use Rattle.host_streams.specs.OfHostTables.Serves.{IsReply, bytes_or}
use Rattle.host_streams.specs.OfHostTables.Systems.{StandsFor}

pub record IsWrapped (s : System) (next_id : ℕ) (k : PlainKernel) : Type 0 where
  pub stands : StandsFor s None k
  pub next : k.next_id ≡ next_id

abbrev pub kernel_left : PlainKernel → Try Served → PlainKernel
kernel_left k (Gives s) = s.kernel
kernel_left k _ = k

-- with the guest's numbers
abbrev pub TellsRow : List Byte → List Byte → Attempt → Try Served → Type 0
TellsRow before now a (Fails e) = (a ≡ answer.Fails (record { 0 = e })) × (now ≡ before)
TellsRow before now a NotReady = (a ≡ answer.NotReady) × (now ≡ before)
TellsRow before now a (Gives s) = IsReply (λ n m. n ≡ m) a s.reply × (now ≡ bytes_or before s.bytes)

abbrev pub is_memory : KernelReply → Bool
is_memory Memory = true
is_memory _ = false

-- the child that a wait tells, 0 where it tells none
abbrev pub child_in : KernelReply → ℕ
child_in (Done n) = n
child_in _ = 0

abbrev pub is_done : KernelReply → Bool
is_done (Done n) = true
is_done _ = false

-- after want of memory all is as before
abbrev pub Answers : PlainKernel → PlainKernel → List Byte → List Byte → KernelReply → Try Served → Type 0
Answers old new before now (Done n) m = (new ≡ kernel_left old m) × TellsRow before now (answer.Gives n) m
Answers old new before now (Error e) m = (new ≡ kernel_left old m) × TellsRow before now (answer.Fails e) m
Answers old new before now reply.NotReady m =
    (new ≡ kernel_left old m) × TellsRow before now answer.NotReady m
Answers old new before now Memory m = (new ≡ old) × (now ≡ before)

-- of a system that stood for k
abbrev pub StandsAfter : System → ℕ → PlainKernel → List Byte → List Byte → KernelReply → Try Served → Type 0
StandsAfter s next_id k before now (Done n) m =
    IsWrapped s next_id (kernel_left k m) × TellsRow before now (answer.Gives n) m
StandsAfter s next_id k before now (Error e) m =
    IsWrapped s next_id (kernel_left k m) × TellsRow before now (answer.Fails e) m
StandsAfter s next_id k before now reply.NotReady m =
    IsWrapped s next_id (kernel_left k m) × TellsRow before now answer.NotReady m
StandsAfter s next_id k before now Memory m = IsWrapped s next_id k × (now ≡ before)
