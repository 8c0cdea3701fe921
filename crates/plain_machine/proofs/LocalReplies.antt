-- What a row leaves and answers of a call that its process answers alone: a valid part with the same threads, and an answer that can be put.
--     FitsLocal user q done      quiet_reply      an answer without bytes      needed, was_found, or_try      through the tests of a row
use Rattle.std.proofs.Common.{◌≡◌, ℕ, Bool, true, false, cond, List, [], refl}
use Rattle.std.specs.Prelude.{Option, Some, None, All}
use Rattle.std.proofs.lemmas.List.Elements.{All-nil}
use Rattle.plain_tables.specs.OfCallTable.declared.request.Request.{Request}
use Rattle.plain_tables.specs.OfPlainProcess.declared.user_part.UserPart.{UserPart}
use Rattle.plain_tables.specs.OfPlainProcess.Attempts.{Try, Gives, need, found}
use Rattle.plain_tables.specs.OfPlainProcess.Buffers.{filled_spans}
use Rattle.plain_tables.specs.OfPlainProcess.Put.{CanTake}
use Rattle.plain_tables.specs.OfPlainProcess.Rows.Locals.{Local, Replies, Stays}
use Rattle.plain_tables.specs.OfPlainProcess.Valid.{IsWord, IsByte}
use Rattle.plain_machine.proofs.MemoryPages.{no_bytes_taken}
use Rattle.plain_machine.proofs.Trying.{Trying}
use Rattle.plain_machine.proofs.UserParts.{Follows}

pub record IsReply (user after : UserPart) (q : Request) (value : ℕ) (bytes : List ℕ) : Type 0 where
  pub follows : Follows user after
  pub word : IsWord value
  pub are : All IsByte bytes
  pub room : CanTake after.memory (filled_spans after.memory q) bytes

abbrev pub FitsLocal : UserPart → Request → Local → Type 0
FitsLocal user q (Replies after value bytes) = IsReply user after q value bytes
FitsLocal user q (Stays after) = Follows user after

pub quiet_reply : (user after : UserPart) (q : Request) (value : ℕ) → Follows user after → IsWord value → IsReply user after q value []
quiet_reply user after q value follows small = record { follows = follows; word = small; are = All-nil IsByte; room = no_bytes_taken after.memory (filled_spans after.memory q) }

-- tests
pub needed : (b : Bool) (e : ℕ) (done : Unit {0}) → need b e ≡ Gives done → b ≡ true
unfolding need
needed true e done is = refl
needed false e done is = cc

pub was_found : {A : Type 0} (o : Option A) (e : ℕ) (a : A) → found o e ≡ Gives a → o ≡ Some a
unfolding found
was_found None e a is = cc
was_found (Some b) e a is = let same : b ≡ a = cc in cc

pub or_try : {A : Type 0} {P : A → Type 0} (b : Bool) (first second : Try A) → Trying first P → Trying second P → Trying (cond b first second) P
or_try true first second holds other = holds
or_try false first second other holds = holds
