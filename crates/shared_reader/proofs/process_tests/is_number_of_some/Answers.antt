use Rattle.std.proofs.Common.{◌||◌, sym, ap, ◌∙◌}
use Rattle.std.specs.List.{list_any}
use Rattle.shared_items.specs.SharedTests.{lists_thread}
use Rattle.shared_reader.proofs.KnownThreads.{number_of_some}
use Rattle.shared_reader.proofs.process_tests.is_number_of_some.Goals as goal

pub returns-then-has_process : goal.returns-then-has_process
returns-then-has_process c =
    c.if-has_process.true ∙ sym (ap (λ b. b || list_any (lists_thread c.args.n) c.args.earlier.now) (sym c.has_process.ensures ∙ c.if-has_process.true)) ∙ number_of_some c.args.n c.args.earlier.now

pub returns-else-has_process : goal.returns-else-has_process
returns-else-has_process c =
    c.contains_key.ensures ∙ c.requires.threads c.args.n
    ∙ sym (ap (λ b. b || list_any (lists_thread c.args.n) c.args.earlier.now) (sym c.has_process.ensures ∙ c.if-has_process.false))
    ∙ number_of_some c.args.n c.args.earlier.now
