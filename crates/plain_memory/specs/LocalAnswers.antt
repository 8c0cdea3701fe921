-- What the rows of local calls return, in the words of the definitions.
--     answer_told user answer               what a call leaves and gives, where user is the part after it
--     DoesRow before after attempt result   the row says so, and an error has left the part as it was
use Rattle.std.specs.Prelude.{◌≡◌, ◌++◌, [], Result, Ok, Err}
use Rattle.sys_abi.specs.declared.reply.Errno.{Errno}
use Rattle.plain_process.specs.declared.user_part.UserPart.{UserPart}
use Rattle.plain_memory.specs.declared.local_answer.LocalAnswer.{LocalAnswer}
use Rattle.plain_memory.specs.declared.local_answer.LocalAnswer.TheVariants as of_answer
use Rattle.plain_process.specs.Memory.{low_bytes}
use Rattle.plain_process.specs.Attempts.{Try, Fails, Gives}
use Rattle.plain_process.specs.Rows.Locals.{Local, Replies, Stays}
use Rattle.plain_process.specs.Rows.Handlers.{action_bytes}

abbrev pub answer_told : UserPart → LocalAnswer → Local
answer_told user (of_answer.Value value) = Replies user value []
answer_told user (of_answer.Action action) = Replies user 0 (action_bytes action)
answer_told user (of_answer.Mask mask) = Replies user 0 (low_bytes 4 mask ++ low_bytes 4 0)
answer_told user of_answer.Stays = Stays user

abbrev pub DoesRow : UserPart → UserPart → Try Local → Result LocalAnswer Errno → Type 0
DoesRow before after attempt (Ok answer) = attempt ≡ Gives (answer_told after answer)
DoesRow before after attempt (Err e) = (attempt ≡ Fails e.0) × (after ≡ before)
