use Rattle.std.proofs.Common.{Some, None, sym, ap, ◌∙◌}
use Rattle.fd_tables.specs.Tables.{at_place}
use Rattle.fd_tables.proofs.TableViews.{seen_at}
use Rattle.fd_tables.proofs.tables.Tables.places.Goals as goal

pub returns-in-Some-clause-at : goal.returns-in-Some-clause-at
returns-in-Some-clause-at c = λ fd.
    seen_at c.self.inside.tables c.args.self.now c.args.p fd (Some c.in-Some.table.now) c.in-Some.ensures.value c.self.view_is
    ∙ ap (λ places. at_place places fd) (sym c.as_slice.ensures.value)

pub returns-in-None-clause-at : goal.returns-in-None-clause-at
returns-in-None-clause-at c = λ fd. seen_at c.self.inside.tables c.args.self.now c.args.p fd None c.in-None.ensures.value c.self.view_is
