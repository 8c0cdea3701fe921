use Rattle.std.proofs.Common.{◌≡◌, Bool, true, false, ◌&&◌, refl}
use Rattle.clap.specs.Simple.{app_of, is_simple, built, argument_words}
use Rattle.clap.specs.Takes.{built_takes}
use Rattle.clap.specs.Walk.{nothing_held}
use Rattle.option_words.specs.Reading.{texts_of}
use Rattle.job_words.proofs.parsed.parse.Goals as goal

left_true : (a b : Bool) → (a && b) ≡ true → a ≡ true
left_true true b is = refl
left_true false b is = cc

pub returns-in-Ok-clause-ok : goal.returns-in-Ok-clause-ok
returns-in-Ok-clause-ok c =
    (c.in-Ok.ensures.matches (left_true (is_simple (app_of c.args.command)) (built_takes (built (app_of c.args.command)) nothing_held (argument_words (app_of c.args.command) (texts_of c.args.words.now))) c.requires)).0
