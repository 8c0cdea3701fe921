use Rattle.std.proofs.Common.{◌∙◌, ap, sym, subst}
use Rattle.turn_cell.specs.Turns.{own, is_held, KeepsOthers}
use Rattle.turn_cell.proofs.Parts.{keeps_rest}
use Rattle.turn_cell.proofs.cell.TurnCell.turn.Goals as goal

pub put_back-requires-clause-turn : goal.put_back-requires-clause-turn
put_back-requires-clause-turn g c =
    let before = g.S.Turned.parts c.take-seat.result.1 in
    let after = g.S.Turned.parts c.act-answer.new.state in
    let took = c.take-seat.ensures.took in record {
      log = g.S.Turned.history c.take-seat.result.1;
      all = before;
      turn = ap (λ m. m.0.turn) took;
      slot = ap (λ m. m.1) took;
      grows = c.act-answer.ensures.grows;
      others = subst (λ held. KeepsOthers (is_held held) before after) (sym (ap (λ m. m.0.parts) took))
          (keeps_rest c.args.pass.seat.me.0.parts before after (g.A.Act.changes c.args.act) c.requires.holds c.act-answer.ensures.others);
    }

pub returns-clause-turn : goal.returns-clause-turn
returns-clause-turn g c =
    let before = c.take-seat.result.1 in
    let after = c.act-answer.new.state in
    let took = c.take-seat.ensures.took in record {
      before = before;
      after = after;
      knew = c.take-seat.ensures.knew;
      grew = c.act-answer.ensures.grows;
      others = c.act-answer.ensures.others;
      did = c.act-answer.ensures.does;
      sees = c.put_back.ensures.seen;
      holds = c.put_back.ensures.held (g.S.Turned.history before) (g.S.Turned.parts before) (ap (λ m. m.0.turn) took)
          ∙ ap (λ m. own m.0.parts (g.S.Turned.parts before) (g.S.Turned.parts after)) took;
    }
