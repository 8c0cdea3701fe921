-- What a call comes to that its process answers alone, as its functions tell it.
--     DoesRow told before after attempt result      the user part goes from before to after as the row says; where the call
--                                                   is refused or memory was wanted nothing has changed
--     NamesAction, NamesSet                         what the bytes name that a call reads
use Rattle.std.specs.Prelude.{◌≡◌, ◌==◌, ℕ, List, [], true, false, Option, Some, None, Result, Ok, Err}
use Rattle.plain_process.specs.declared.user_part.SignalAction.{SignalAction}
use Rattle.plain_process.specs.declared.user_part.UserPart.{UserPart}
use Rattle.plain_process.specs.Attempts.{Try, Fails, Gives}
use Rattle.plain_process.specs.Rows.Locals.{Local, Replies}
use Rattle.plain_process.specs.Rows.Handlers.{action_in, word_in}
use Rattle.process_memory.specs.declared.local_fault.LocalFault.{LocalFault}
use Rattle.process_memory.specs.declared.local_fault.LocalFault.TheVariants.{Refused, Memory}

-- the answer of a call that answers a word, where user is the part after the call
abbrev pub value_told : UserPart → ℕ → Local
value_told user value = Replies user value []

abbrev pub DoesRow : {A : Type 0} → (UserPart → A → Local) → UserPart → UserPart → Try Local → Result A LocalFault
    → Type 0
DoesRow told before after attempt (Ok answer) = attempt ≡ Gives (told after answer)
DoesRow told before after attempt (Err (Refused e)) = (attempt ≡ Fails e.0) × (after ≡ before)
DoesRow told before after attempt (Err Memory) = after ≡ before

-- the action that a call names in its bytes, none where it names no place
abbrev pub NamesAction : Option SignalAction → List ℕ → ℕ → Type 0
NamesAction None given address = (address == 0) ≡ true
NamesAction (Some action) given address = ((address == 0) ≡ false) × (action ≡ action_in given)

-- and the set
abbrev pub NamesSet : Option ℕ → List ℕ → ℕ → Type 0
NamesSet None given address = (address == 0) ≡ true
NamesSet (Some set) given address = ((address == 0) ≡ false) × (set ≡ word_in given 0)
