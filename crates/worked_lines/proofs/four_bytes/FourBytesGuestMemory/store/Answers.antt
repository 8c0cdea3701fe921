use Rattle.std.proofs.Common.{◌≡◌, ◌∙◌, arith}
use Rattle.worked_lines.proofs.ShortPage.{memory_of, store-byte, store-half, store-word, store_past}
use Rattle.plain_process.specs.Memory.{store}
use Rattle.worked_lines.proofs.four_bytes.FourBytesGuestMemory.store.Goals as goal

pub returns-then-address-ge4096-clause-answer : goal.returns-then-address-ge4096-clause-answer
returns-then-address-ge4096-clause-answer c = store_past c.args.self.now.bytes c.args.address c.args.size c.args.value (omega arith) (omega arith)

pub returns-in-0-eq1-clause-answer : goal.returns-in-0-eq1-clause-answer
returns-in-0-eq1-clause-answer c =
    let a : c.args.address ≡ 0 = omega arith in
    let s : c.args.size ≡ 1 = omega arith in
    (λ i. store (memory_of c.args.self.now.bytes) (a i) (s i) c.args.value) ∙ store-byte c.args.self.now.bytes c.args.value

pub returns-in-0-eq2-clause-answer : goal.returns-in-0-eq2-clause-answer
returns-in-0-eq2-clause-answer c =
    let a : c.args.address ≡ 0 = omega arith in
    let s : c.args.size ≡ 2 = omega arith in
    (λ i. store (memory_of c.args.self.now.bytes) (a i) (s i) c.args.value) ∙ store-half c.args.self.now.bytes c.args.value

pub returns-in-0-eq4-clause-answer : goal.returns-in-0-eq4-clause-answer
returns-in-0-eq4-clause-answer c =
    let a : c.args.address ≡ 0 = omega arith in
    let s : c.args.size ≡ 4 = omega arith in
    (λ i. store (memory_of c.args.self.now.bytes) (a i) (s i) c.args.value) ∙ store-word c.args.self.now.bytes c.args.value
