use Rattle.std.proofs.Common.{◌≡◌, ◌+◌, length}
use Rattle.std.specs.Prelude.{sum_by}
use Rattle.views.specs.Limits.{ALL_FILES_LIMIT}
use Rattle.plain_machine.specs.Transfers.Files.{total_bytes}
use Rattle.plain_transfers.proofs.files.have_room.Given as goal

-- what is left and the rest of the files make up for all that there are
abbrev pub invariant-loop-bytes : goal.invariant-loop-bytes
invariant-loop-bytes l = sum_by length l.bytes-iterator + ALL_FILES_LIMIT ≡ total_bytes l.files + l.room
