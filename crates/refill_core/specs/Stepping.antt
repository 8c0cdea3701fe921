-- What a contract sees of notes and a network together, and of one of the directions.
--     state notes t       both
--     dir_at notes i      the direction at a place
use Rattle.std.specs.Prelude.{ℕ, slice_index_or}
use Rattle.sys_abi.specs.declared.identity.Dir.{Dir}
use Rattle.wire_net.specs.Networks.{Network}
use Rattle.refill_core.specs.Refills.{Notes, Refilling, dirs_of}

abbrev pub state : Notes → Network → Refilling
state notes t = record { notes = notes; channels = t.channels }

-- of no notes it is any
abbrev pub no_dir : Dir
no_dir = record { conn = record { pid = record { 0 = 0 }; num = 0 }; side = 0 }

abbrev pub dir_at : Notes → ℕ → Dir
dir_at notes i = slice_index_or (dirs_of notes) i no_dir
