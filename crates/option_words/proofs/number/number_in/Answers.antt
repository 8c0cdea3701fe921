use Rattle.std.proofs.Common.{◌≡◌, arith}
use Rattle.option_words.proofs.Numbers.{other_number}
use Rattle.option_words.proofs.number.number_in.Goals as goal

pub returns-then-number-least-clause-none : goal.returns-then-number-least-clause-none
returns-then-number-least-clause-none c n least greatest is =
    let same : n ≡ c.in_ok-number.number = other_number c.args.word.now n c.in_ok-number.number is c.in_ok-number.ensures.some (omega arith) (omega arith) in
    omega (arith, same)

pub returns-then-greatest-number-clause-none : goal.returns-then-greatest-number-clause-none
returns-then-greatest-number-clause-none c n least greatest is =
    let same : n ≡ c.in_ok-number.number = other_number c.args.word.now n c.in_ok-number.number is c.in_ok-number.ensures.some (omega arith) (omega arith) in
    omega (arith, same)
