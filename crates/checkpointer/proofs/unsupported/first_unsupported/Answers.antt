use Rattle.std.proofs.Common.{refl, sym, ap, ◌∙◌}
use Rattle.std.specs.Option.{option_map}
use Rattle.staged_cut.specs.HandedOn.{plain_of}
use Rattle.checkpointer.specs.Marks.{unsupported_at}
use Rattle.checkpointer.proofs.unsupported.first_unsupported.Goals as goal

pub returns : goal.returns
returns c =
    let kernel = c.args.computation.now.kernel in
    sym (c.in_ok-p.ensures kernel kernel.next_id c.system.ensures (plain_of c.args.computation.now) refl)

pub returns-in_err-p : goal.returns-in_err-p
returns-in_err-p c =
    let kernel = c.args.computation.now.kernel in
    ap (option_map unsupported_at) c.from_residual.ensures
    ∙ sym (c.in_err-p.ensures kernel kernel.next_id c.system.ensures (plain_of c.args.computation.now) refl)
