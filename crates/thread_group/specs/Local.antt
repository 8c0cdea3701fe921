-- What a call comes to that its process answers alone, as the functions of a thread group tell it.
--     action_told, mask_told, stays_told, answer_told      answers, where user is the part after the call
--     FitsAnswer memory q answer                           the answer can be put
--     IsAsked user t q thread given                        the thread asks for a call that reads these bytes
--     MakesCall before after t q result                    the call was made, but for its answer
--     value_answer, action_answer, mask_answer, no_answer  what each kind of call answers
use Rattle.std.specs.Prelude.{◌≡◌, ℕ, ◌++◌, List, [], Some, None, Result, Ok, Err, IfOk}
use Rattle.std.specs.FinMap as map
use Rattle.call_table.specs.declared.request.Request.{Request}
use Rattle.sys_abi.specs.declared.reply.Reply.TheVariants.{Value as ToValue}
use Rattle.plain_process.specs.declared.user_part.SignalAction.{SignalAction}
use Rattle.plain_process.specs.declared.user_part.ThreadPart.{ThreadPart}
use Rattle.plain_process.specs.declared.user_part.UserPart.{UserPart}
use Rattle.plain_process.specs.Memory.{Memory, low_bytes}
use Rattle.plain_process.specs.Buffers.{lent, filled_spans}
use Rattle.plain_process.specs.Put.{CanTake, added_thread}
use Rattle.plain_process.specs.Local.{local_by}
use Rattle.plain_process.specs.Rows.Locals.{Local, Replies, Stays as StaysAs}
use Rattle.plain_process.specs.Rows.Handlers.{action_bytes}
use Rattle.process_memory.specs.declared.local_fault.LocalFault.{LocalFault}
use Rattle.process_memory.specs.Local.{DoesRow, value_told}
use Rattle.thread_group.specs.declared.local_answer.LocalAnswer.{LocalAnswer}
use Rattle.thread_group.specs.declared.local_answer.LocalAnswer.TheVariants.{Value, Action, Mask, Stays}

abbrev pub action_told : UserPart → SignalAction → Local
action_told user action = Replies user 0 (action_bytes action)

abbrev pub mask_told : UserPart → ℕ → Local
mask_told user mask = Replies user 0 (low_bytes 4 mask ++ low_bytes 4 0)

abbrev pub stays_told : UserPart → Unit {0} → Local
stays_told user done = StaysAs user

abbrev pub answer_told : UserPart → LocalAnswer → Local
answer_told user (Value value) = value_told user value
answer_told user (Action action) = action_told user action
answer_told user (Mask mask) = mask_told user mask
answer_told user Stays = StaysAs user

-- the answer's bytes can be written where the call asked for them, and it adds no thread
pub record FitsReply (memory : Memory) (q : Request) (value : ℕ) (bytes : List ℕ) : Type 0 where
  pub room : CanTake memory (filled_spans memory q) bytes
  pub threads : added_thread q (ToValue value) ≡ None

abbrev pub FitsAnswer : Memory → Request → LocalAnswer → Type 0
FitsAnswer memory q (Value value) = FitsReply memory q value []
FitsAnswer memory q (Action action) = FitsReply memory q 0 (action_bytes action)
FitsAnswer memory q (Mask mask) = FitsReply memory q 0 (low_bytes 4 mask ++ low_bytes 4 0)
FitsAnswer memory q Stays = Unit {0}

-- a thread asks for a call that reads these bytes
pub record IsAsked (user : UserPart) (t : ℕ) (q : Request) (thread : ThreadPart) (given : List ℕ) : Type 0 where
  pub there : map.get user.threads t ≡ Some thread
  pub read : lent user.memory q ≡ Some given

-- the call was made, but for its answer
pub record MakesCall (before after : UserPart) (t : ℕ) (q : Request) (result : Result LocalAnswer LocalFault) : Type 0 where
  pub row : (thread : ThreadPart) (given : List ℕ) → IsAsked before t q thread given
      → DoesRow answer_told before after (local_by before t thread q given) result
  pub fits : IfOk result (FitsAnswer after.memory q)

-- what each kind of call answers
abbrev pub value_answer : Result ℕ LocalFault → Result LocalAnswer LocalFault
value_answer (Ok value) = Ok (Value value)
value_answer (Err fault) = Err fault

abbrev pub action_answer : Result SignalAction LocalFault → Result LocalAnswer LocalFault
action_answer (Ok action) = Ok (Action action)
action_answer (Err fault) = Err fault

abbrev pub mask_answer : Result ℕ LocalFault → Result LocalAnswer LocalFault
mask_answer (Ok mask) = Ok (Mask mask)
mask_answer (Err fault) = Err fault

abbrev pub no_answer : Result (Unit {0}) LocalFault → Result LocalAnswer LocalFault
no_answer (Ok done) = Ok Stays
no_answer (Err fault) = Err fault
