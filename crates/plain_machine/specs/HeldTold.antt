-- What code tells of a descriptor that a process holds: the descriptor itself and its description.
--     held_of, held_told
use Rattle.std.specs.Prelude.{Option, Some, None}
use Rattle.plain_tables.specs.OfSysAbi.declared.errors.TheConstants.{EBADF}
use Rattle.plain_tables.specs.OfSysAbi.declared.descriptor.Descriptor.{Descriptor}
use Rattle.plain_tables.specs.declared.description.Description.{Description}
use Rattle.plain_tables.specs.OfPlainProcess.Attempts.{Try, Fails, Gives}
use Rattle.plain_machine.specs.Kernel.{Held}

abbrev pub held_of : Descriptor × Description → Held
held_of found = record { desc = found.0.desc; cloexec = found.0.cloexec; description = found.1 }

abbrev pub held_told : Option (Descriptor × Description) → Try Held
held_told None = Fails EBADF
held_told (Some found) = Gives (held_of found)
