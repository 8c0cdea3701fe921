use Rattle.std.proofs.Common.{◌≡◌, ℕ, ◌∙◌, ap, arith, inl, inr}
use Rattle.std.specs.Prelude.{Some}
use Rattle.image_store.specs.SlotWrites.{closing_step}
use Rattle.image_store.proofs.Passing.{passes_widen, passes_none}
use Rattle.image_store.proofs.PutImages.{closing_torn, closing_same}
use Rattle.image_store.proofs.gate.close_gate.Goals as goal

pub returns-in-None-clause-crash : goal.returns-in-None-clause-crash
returns-in-None-clause-crash g c = passes_widen (closing_step c.args.slot c.args.gate) c.write_gate.ensures.crash (λ old new torn. closing_torn c.args.slot c.args.gate old new (inl c.in-None.is) torn)

pub returns-in-Some-eq1-clause-crash : goal.returns-in-Some-eq1-clause-crash
returns-in-Some-eq1-clause-crash g c = passes_widen (closing_step c.args.slot c.args.gate) c.write_gate-in-Some-eq1.ensures.crash (λ old new torn. closing_torn c.args.slot c.args.gate old new (inr (let one : c.in-Some-eq1.field-0 ≡ 1 = omega arith in c.in-Some-eq1.is ∙ ap (λ (n : ℕ). Some n) one)) torn)

pub returns-in-Some-clause-crash : goal.returns-in-Some-clause-crash
returns-in-Some-clause-crash g c = passes_none (closing_step c.args.slot c.args.gate) (λ files. closing_same c.args.slot c.args.gate c.in-Some.field-0 files c.in-Some.is) (g.F.Folder.seen c.args.disk.now)
