use Rattle.std.proofs.Common.{◌≡◌, List, ℕ, Some, None, sym, ◌∙◌}
use Rattle.std.specs.Fmt.{decimal}
use Rattle.clap.specs.Matches.{found_of}
use Rattle.clap.proofs.WalkLemmas.{first_value-rows}
use Rattle.option_words.proofs.Numbers.{decimal_reads}
use Rattle.job_words.proofs.parsed.number_of.Goals as goal

same_some : (a b : List ℕ) → Some a ≡ Some b → a ≡ b
same_some a b is = cc

some_none : {A : Type 0} (a : List ℕ) → Some a ≡ None → A
some_none a is = cc

pub returns-clause-some : goal.returns-clause-some
returns-clause-some c n small found =
    let text : c.in_ok-text.text.now ≡ decimal n = same_some c.in_ok-text.text.now (decimal n) (c.in_ok-text.ensures ∙ (first_value-rows (found_of c.args.matches.now) c.args.id.now ∙ found)) in
    decimal_reads c.in_ok-text.text.now c.decimal_in.result n c.decimal_in.ensures.some c.decimal_in.ensures.small c.decimal_in.ensures.none small text

pub returns-clause-none : goal.returns-clause-none
returns-clause-none c missing = some_none c.in_ok-text.text.now (c.in_ok-text.ensures ∙ (first_value-rows (found_of c.args.matches.now) c.args.id.now ∙ missing))

pub returns-in_err-text-clause-some : goal.returns-in_err-text-clause-some
returns-in_err-text-clause-some c n small found = some_none (decimal n) (sym (c.in_err-text.ensures ∙ (first_value-rows (found_of c.args.matches.now) c.args.id.now ∙ found)))
