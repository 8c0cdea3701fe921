use Rattle.std.proofs.Common.{ap, ◌∙◌}
use Rattle.shared_reader.specs.HoldersOf.{with_holder}
use Rattle.shared_reader.proofs.HolderPasses.{holder_noted}
use Rattle.shared_reader.proofs.holders.note_holder.Goals as goal

pub returns : goal.returns
returns c = holder_noted c.args.holders.now c.insert.new.self c.args.id c.args.host c.with_holder-noted.result c.in_ok-insert.ensures.ok (c.with_holder-noted.ensures ∙ ap (λ found. with_holder found c.args.host) (c.copied.ensures ∙ c.get.ensures))
