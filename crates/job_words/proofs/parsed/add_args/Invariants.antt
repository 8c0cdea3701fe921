use Rattle.std.proofs.Common.{◌≡◌, ◌++◌, map, take}
use Rattle.job_words.specs.Parsed.{heard, heard_at}
use Rattle.job_words.proofs.parsed.add_args.Given as goal

abbrev pub invariant-loop-name : goal.invariant-loop-name
invariant-loop-name l = map heard l.args.items ≡ map heard l.fn.args.items ++ map heard_at (take l.name-index l.options)
