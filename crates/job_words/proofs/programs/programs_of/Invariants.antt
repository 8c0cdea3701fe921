use Rattle.std.proofs.Common.{◌≡◌, List, map, take}
use Rattle.job_words.specs.Programs.{ProgramText}
use Rattle.job_words.specs.Parts.{ArePrograms}
use Rattle.job_words.specs.Jobs.{start_of}
use Rattle.option_words.specs.Reading.{texts_of}
use Rattle.job_words.proofs.programs.programs_of.Given as goal

abbrev pub invariant-loop-word : goal.invariant-loop-word
invariant-loop-word l = (programs : List ProgramText) → ArePrograms (texts_of l.words) programs → l.list ≡ map start_of (take l.word-index programs)
