-- Why an access may not be made: a byte's page is missing, or else a page lacks the right.
--     granted right found                    the frame of a look-up, where it has the right
--     is_mapped memory address n             each of the n bytes has its page
--     refusal memory right address n         why the bytes may not be had, if they may not
--     stored result memory                   the memory after a store, if it was made
use Rattle.std.specs.Prelude.{◌≡◌, ℕ, zero, suc, ◌+◌, ◌/◌, ◌&&◌, Bool, true, Option, Some, None, Result, Ok, Err, is_some, if◌then◌else◌}
use Rattle.std.specs.FinMap as map
use Rattle.plain_process.specs.declared.memory.Right.{Right}
use Rattle.plain_process.specs.declared.memory.Frame.{Frame}
use Rattle.plain_process.specs.Memory.{Memory as Pages, bytes_at, allows}
use Rattle.guest_pages.specs.declared.mem_fault.MemFault.{MemFault}
use Rattle.guest_pages.specs.declared.mem_fault.MemFault.TheVariants.{Unmapped, Rights}

abbrev pub granted : Right → Option Frame → Result Frame MemFault
granted right None = Err Unmapped
granted right (Some frame) = if allows right frame.rights then Ok frame else Err Rights

unfoldable pub is_mapped : Pages → ℕ → ℕ → Bool
is_mapped memory address zero = true
is_mapped memory address (suc n) = is_mapped memory address n && is_some (map.get memory ((address + n) / 4096))

unfoldable pub refusal : Pages → Right → ℕ → ℕ → Option MemFault
refusal memory right address n =
    if is_mapped memory address n then (if is_some (bytes_at memory right address n) then None else Some Rights) else Some Unmapped

abbrev pub stored : {A : Type 0} → Result A MemFault → Pages → Option Pages
stored (Ok _) memory = Some memory
stored (Err _) memory = None
