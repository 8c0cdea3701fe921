-- A call that a system passes on to its kernel.
--     AsksFor s s' k ..       by cases on the answer, with the guest's numbers
use Rattle.std.specs.Prelude.{◌≡◌, List}
use Rattle.views.specs.Numbers.{Byte}
use Rattle.plain_process.specs.Attempts.{Try}
use Rattle.plain_machine.specs.declared.kernel.PlainKernel.{PlainKernel}
use Rattle.plain_machine.specs.Attempts.{Served}
use Rattle.host_streams.specs.OfHostTables.declared.attempt.Attempt.TheVariants as answer
use Rattle.host_streams.specs.OfHostTables.declared.reply.KernelReply.{KernelReply}
use Rattle.host_streams.specs.OfHostTables.declared.reply.KernelReply.TheVariants.{Done, Error, Memory}
use Rattle.host_streams.specs.OfHostTables.declared.reply.KernelReply.TheVariants as reply
use Rattle.host_streams.specs.OfHostTables.declared.system.System.{System}
use Rattle.wrap_names.specs.Wrapping.{TellsRow, kernel_left}
use Rattle.wrap_names.specs.Passing.{Passed}

abbrev pub AsksFor : System → System → PlainKernel → List Byte → List Byte → KernelReply → Try Served → Type 0
AsksFor s s' k before now (Done n) m = Passed s s' (kernel_left k m) × TellsRow before now (answer.Gives n) m
AsksFor s s' k before now (Error e) m = Passed s s' (kernel_left k m) × TellsRow before now (answer.Fails e) m
AsksFor s s' k before now reply.NotReady m =
    Passed s s' (kernel_left k m) × TellsRow before now answer.NotReady m
AsksFor s s' k before now Memory m = Passed s s' k × (now ≡ before)
