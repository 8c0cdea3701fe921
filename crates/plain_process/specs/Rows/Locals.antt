-- What a call leaves and gives that its process answers alone: the process's part, and an answer, unless the
-- thread has none yet.
use Rattle.std.specs.Prelude.{ℕ, List, []}
use Rattle.elf32.specs.OfViews.Numbers.{Byte}
use Rattle.plain_process.specs.declared.user_part.UserPart.{UserPart}
use Rattle.plain_process.specs.Attempts.{Try, Gives}

pub data Local : Type 0 where
  Replies : UserPart → ℕ → List Byte → Local  -- the part, the value, and the bytes for the call's buffers
  Stays : UserPart → Local  -- the part as it stands then: the thread waits, or goes on elsewhere

abbrev pub local_reply : UserPart → ℕ → Try Local
local_reply user value = Gives (Replies user value [])

abbrev pub local_reply_with : UserPart → ℕ → List Byte → Try Local
local_reply_with user value bytes = Gives (Replies user value bytes)
