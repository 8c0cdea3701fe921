use Rattle.std.proofs.Common.{length}
use Rattle.option_words.specs.Reading.{IsRead, texts_of}
use Rattle.option_words.proofs.options.read_options.Given as goal

abbrev pub invariant-loop-given : goal.invariant-loop-given
invariant-loop-given l = IsRead l.form (texts_of l.words) l.options (texts_of l.rest)

abbrev pub decreases-loop-given : goal.decreases-loop-given
decreases-loop-given l = length l.rest
