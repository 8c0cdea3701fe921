use Rattle.std.proofs.Common.{Some, None, sym, ◌∙◌}
use Rattle.fd_tables.proofs.TableViews.{seen_at}
use Rattle.fd_tables.proofs.tables.Tables.get.Goals as goal

pub returns-in-Some-clause-at : goal.returns-in-Some-clause-at
returns-in-Some-clause-at c = c.get-in-Some.ensures.at ∙ sym (seen_at c.self.inside.tables c.args.self.now c.args.p c.args.fd (Some c.in-Some.table.now) c.in-Some.ensures.value c.self.view_is)

pub returns-in-None-clause-at : goal.returns-in-None-clause-at
returns-in-None-clause-at c = sym (seen_at c.self.inside.tables c.args.self.now c.args.p c.args.fd None c.in-None.ensures.value c.self.view_is)
