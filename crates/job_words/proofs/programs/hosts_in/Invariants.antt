use Rattle.std.proofs.Common.{◌≤◌, take}
use Rattle.job_words.specs.Parts.{AreCounted}
use Rattle.option_words.specs.Reading.{texts_of}
use Rattle.job_words.proofs.programs.hosts_in.Given as goal

abbrev pub invariant-loop-word : goal.invariant-loop-word
invariant-loop-word l = AreCounted (texts_of (take l.word-index l.words)) l.hosts × (l.hosts ≤ 16)
