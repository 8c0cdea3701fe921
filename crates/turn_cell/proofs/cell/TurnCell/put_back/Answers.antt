use Rattle.std.proofs.Common.{arith, ◌∙◌, sym, ap, length}
use Rattle.turn_cell.specs.Turns.{own}
use Rattle.turn_cell.specs.Views.{is_waiting}
use Rattle.turn_cell.proofs.Keeping.{release_it, released_it, same_all}
use Rattle.turn_cell.proofs.cell.TurnCell.put_back.Goals as goal

pub store-requires : goal.store-requires
store-requires g c = (
  c.exchange-nothing.ensures.0 ∙ c.requires.cell,
  omega (arith, c.args.self.now.counts.0),
  release_it g.S.Turned.history g.S.Turned.parts _ _ c.args.seat.me _ c.args.state c.args.self.now.counts.1 c.exchange-nothing.ensures.3
      c.requires.turn.log c.requires.turn.all c.requires.turn.turn c.requires.turn.slot c.requires.turn.grows c.requires.turn.others,
)

pub invariant_of-result : goal.invariant_of-result
invariant_of-result g c =
    let came = released_it g.S.Turned.history g.S.Turned.parts 1 c.args.seat c.exchange-nothing.new.seat.me c.store.new.seat.me c.args.state c.requires.turn c.exchange-nothing.ensures.3 c.store.ensures.2 in
    record { idle = (ap (λ m. length m.1) came, ap (λ m. is_waiting m.0.turn) came) }

pub returns-clause-seen : goal.returns-clause-seen
returns-clause-seen g c =
    ap (λ m. m.0.seen) (released_it g.S.Turned.history g.S.Turned.parts 1 c.args.seat c.exchange-nothing.new.seat.me c.store.new.seat.me c.args.state c.requires.turn c.exchange-nothing.ensures.3 c.store.ensures.2)

pub returns-clause-held : goal.returns-clause-held
returns-clause-held g c log all is =
    ap (λ m. m.0.parts) (released_it g.S.Turned.history g.S.Turned.parts 1 c.args.seat c.exchange-nothing.new.seat.me c.store.new.seat.me c.args.state c.requires.turn c.exchange-nothing.ensures.3 c.store.ensures.2)
    ∙ ap (λ before. own c.args.seat.me.0.parts before (g.S.Turned.parts c.args.state)) (same_all c.requires.turn.log log c.requires.turn.all all (sym c.requires.turn.turn ∙ is))
