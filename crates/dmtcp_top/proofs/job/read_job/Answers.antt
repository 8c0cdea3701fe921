use Rattle.std.proofs.Common.{◌≡◌, map, string_bytes, Err, Result, subst}
use Rattle.std.specs.Prelude.{IfErr}
use Rattle.job_words.specs.declared.word_fault.WordFault.{WordFault}
use Rattle.job_words.specs.declared.word_fault.WordFault.TheVariants.{Usage, Memory}
use Rattle.dmtcp_top.proofs.Asking.{some_asked}
use Rattle.dmtcp_top.proofs.Commands.{help_words}
use Rattle.dmtcp_top.proofs.job.read_job.Goals as goal

apart : {A : Type 0} (result : Result A WordFault) (fault : WordFault) → result ≡ Err fault → fault ≡ Memory → result ≡ Err Usage → ⊥
apart result fault is memory usage = cc

not_usage : {A : Type 0} (result : Result A WordFault) (fault : WordFault) → result ≡ Err fault → fault ≡ Memory → IfErr result (λ f. f ≡ Usage) → ⊥
not_usage result fault is memory usage = let told : fault ≡ Usage = subst (λ r. IfErr r (λ f. f ≡ Usage)) is usage in cc

pub returns-in-Err-Memory-clause-refused : goal.returns-in-Err-Memory-clause-refused
returns-in-Err-Memory-clause-refused c = (
  some_asked (map string_bytes c.args.words.now)
      (λ nothing. apart c.read_words.result c.in-Err-Memory.field-0 c.in-Err-Memory.is c.in-Err-Memory.field-0-is (c.read_words.ensures.usage.1 nothing))
      (λ job is. (c.is_built.ensures job (c.outline_words.ensures job is)).0 c.if-not-is_built.false),
  λ asks. not_usage c.read_words.result c.in-Err-Memory.field-0 c.in-Err-Memory.is c.in-Err-Memory.field-0-is (c.read_words.ensures.help (help_words (map string_bytes c.args.words.now) asks.is)),
)
