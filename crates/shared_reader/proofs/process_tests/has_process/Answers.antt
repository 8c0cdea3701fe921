use Rattle.std.proofs.Common.{◌==◌, sym, Some, None}
use Rattle.shared_items.specs.declared.shared.ProcessEntry.{ProcessEntry}
use Rattle.shared_items.proofs.Searched.{some_here}
use Rattle.shared_reader.proofs.process_tests.has_process.Goals as goal

pub returns-in-None : goal.returns-in-None
returns-in-None c = sym (some_here (λ (process : ProcessEntry). process.pid.0 == c.args.n) c.args.earlier.now None c.in-None.ensures)

pub returns-in-Some : goal.returns-in-Some
returns-in-Some c = sym (some_here (λ (process : ProcessEntry). process.pid.0 == c.args.n) c.args.earlier.now (Some c.in-Some.field-0.now) c.in-Some.ensures)
