use Rattle.rebuild_tables.proofs.RestoredFiles.{IsRestored}
use Rattle.rebuild_tables.proofs.files.restore_files.Given as goal

abbrev pub invariant-loop-number : goal.invariant-loop-number
invariant-loop-number l =
    IsRestored l.kernel.names l.kernel.files l.kernel.next_file l.number-iterator l.files
