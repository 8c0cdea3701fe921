use Rattle.std.proofs.Common.{◌∙◌}
use Rattle.plain_process.specs.declared.memory.Right.TheVariants.{Write}
use Rattle.guest_pages.proofs.Checks.{is_ok-checked}
use Rattle.guest_mem.proofs.space.Space.is_writable.Goals as goal

pub returns-clause-writable : goal.returns-clause-writable
returns-clause-writable c = c.is_ok.ensures.value ∙ is_ok-checked c.check.result c.args.self.now Write c.args.address c.args.n c.check.ensures.refused
