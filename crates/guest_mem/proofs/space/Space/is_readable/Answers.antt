use Rattle.std.proofs.Common.{◌∙◌}
use Rattle.plain_process.specs.declared.memory.Right.TheVariants.{Read}
use Rattle.guest_pages.proofs.Checks.{is_ok-checked}
use Rattle.guest_mem.proofs.space.Space.is_readable.Goals as goal

pub returns-clause-readable : goal.returns-clause-readable
returns-clause-readable c = c.is_ok.ensures.value ∙ is_ok-checked c.check.result c.args.self.now Read c.args.address c.args.n c.check.ensures.refused
