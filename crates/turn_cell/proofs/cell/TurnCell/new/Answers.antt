use Rattle.std.proofs.Common.{ap, ◌∙◌, []}
use Rattle.std.specs.FinMap as map
use Rattle.turn_cell.specs.Turns.{own}
use Rattle.turn_cell.proofs.Prefixes.{prefix_empty}
use Rattle.turn_cell.proofs.Parts.{nothing_there, own_all}
use Rattle.turn_cell.proofs.Sharing.{opens}
use Rattle.turn_cell.proofs.cell.TurnCell.new.Goals as goal

pub vacant-requires : goal.vacant-requires
vacant-requires g c = opens g.S.Turned.history g.S.Turned.parts

pub put_back-pass-requires-clause-turn : goal.put_back-pass-requires-clause-turn
put_back-pass-requires-clause-turn g c = record {
  log = [];
  all = map.empty;
  turn = ap (λ m. m.0.turn) c.open-cell.ensures.turn;
  slot = ap (λ m. m.1) c.open-cell.ensures.turn;
  grows = prefix_empty (g.S.Turned.history c.args.state);
  others = λ n x _ is. absurd (nothing_there n x is);
}

pub returns-clause-held : goal.returns-clause-held
returns-clause-held g c =
    c.put_back-pass.ensures.held [] map.empty (ap (λ m. m.0.turn) c.open-cell.ensures.turn)
    ∙ ap (λ m. own m.0.parts map.empty (g.S.Turned.parts c.args.state)) c.open-cell.ensures.turn
    ∙ own_all (g.S.Turned.parts c.args.state)
