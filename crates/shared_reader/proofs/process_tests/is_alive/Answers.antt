use Rattle.std.proofs.Common.{sym, ◌∙◌}
use Rattle.sys_abi.specs.Lives.{lives}
use Rattle.shared_reader.proofs.process_tests.is_alive.Goals as goal

pub returns-in-None : goal.returns-in-None
returns-in-None c = sym (c.in-None.ensures (λ process. lives process.life))

pub returns-in-Some : goal.returns-in-Some
returns-in-Some c = c.is_live.ensures ∙ sym (c.in-Some.ensures (λ process. lives process.life))
