use Rattle.std.proofs.Common.{ap, ◌∙◌}
use Rattle.std.specs.FinMap as map
use Rattle.plain_machine.specs.Transfers.Files.{with_piece}
use Rattle.plain_machine.proofs.OfPlainTables.Lends.{changed-found}
use Rattle.views.proofs.Outcomes.{on_some, on_ok_then}
use Rattle.plain_transfers.proofs.files.put_at.Goals as goal

pub returns-in-Some : goal.returns-in-Some
returns-in-Some c = on_ok_then c.put_piece.result c.put_piece.ensures (λ is.
    on_some c.in-Some.is (c.get_mut.follows.holds c.put_piece.new.list) ∙ ap (map.insert c.args.files.now c.args.number) is
    ∙ changed-found c.args.files.now c.args.number (λ bytes. with_piece bytes c.args.place c.args.piece.now) c.in-Some.bytes.now c.in-Some.ensures.value)
