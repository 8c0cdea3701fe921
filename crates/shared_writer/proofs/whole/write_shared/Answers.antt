use Rattle.std.proofs.lemmas.Result.{IfOk-weaker}
use Rattle.shared_items.proofs.SharedLaws.{of_text}
use Rattle.shared_writer.proofs.whole.write_shared.Goals as goal

pub returns : goal.returns
returns c = IfOk-weaker c.shared_text.result _ _ (λ bytes is. of_text bytes.items c.args.s.now is) c.shared_text.ensures
