use Rattle.std.proofs.Common.{Some, None, sym, ◌∙◌}
use Rattle.fd_tables.proofs.TableViews.{seen_at}
use Rattle.fd_tables.proofs.Ranges.{free_seen, free_none}
use Rattle.fd_tables.proofs.tables.Tables.free.Goals as goal

pub returns-in-Some : goal.returns-in-Some
returns-in-Some c = c.free.ensures ∙ sym (free_seen c.args.self.now c.args.p c.in-Some.table.now (λ fd. seen_at c.self.inside.tables c.args.self.now c.args.p fd (Some c.in-Some.table.now) c.in-Some.ensures.value c.self.view_is) 256)

pub returns-in-None : goal.returns-in-None
returns-in-None c = sym (free_none c.args.self.now c.args.p (λ fd. seen_at c.self.inside.tables c.args.self.now c.args.p fd None c.in-None.ensures.value c.self.view_is) 256)
