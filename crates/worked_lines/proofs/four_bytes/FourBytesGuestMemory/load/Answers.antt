use Rattle.std.proofs.Common.{arith}
use Rattle.worked_lines.proofs.ShortPage.{load-byte_at, load-half_at, load-word_at, load_past}
use Rattle.worked_lines.proofs.four_bytes.FourBytesGuestMemory.load.Goals as goal

pub returns-then-address-ge4096-clause-answer : goal.returns-then-address-ge4096-clause-answer
returns-then-address-ge4096-clause-answer c = load_past c.args.self.now.bytes c.args.address c.args.size (omega arith) (omega arith)

pub returns-in-0-eq1-clause-answer : goal.returns-in-0-eq1-clause-answer
returns-in-0-eq1-clause-answer c = load-byte_at c.args.self.now.bytes c.args.address c.args.size (omega arith) (omega arith)

pub returns-in-0-eq2-clause-answer : goal.returns-in-0-eq2-clause-answer
returns-in-0-eq2-clause-answer c = load-half_at c.args.self.now.bytes c.args.address c.args.size (omega arith) (omega arith)

pub returns-in-0-eq4-clause-answer : goal.returns-in-0-eq4-clause-answer
returns-in-0-eq4-clause-answer c = load-word_at c.args.self.now.bytes c.args.address c.args.size (omega arith) (omega arith)
