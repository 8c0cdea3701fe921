use Rattle.std.proofs.Common.{Some, None, arith}
use Rattle.fd_tables.proofs.TableViews.{seen_at}
use Rattle.fd_tables.proofs.Ranges.{lowest_free_seen, all_used_seen, lowest_free_none}
use Rattle.fd_tables.proofs.tables.Tables.lowest_free.Goals as goal

pub returns-in-Some-clause-some : goal.returns-in-Some-clause-some
returns-in-Some-clause-some c = lowest_free_seen c.args.self.now c.args.p c.in-Some.table.now (λ fd. seen_at c.self.inside.tables c.args.self.now c.args.p fd (Some c.in-Some.table.now) c.in-Some.ensures.value c.self.view_is) c.args.from c.lowest_free.result c.lowest_free.ensures.some

pub returns-in-Some-clause-none : goal.returns-in-Some-clause-none
returns-in-Some-clause-none c = all_used_seen c.args.self.now c.args.p c.in-Some.table.now (λ fd. seen_at c.self.inside.tables c.args.self.now c.args.p fd (Some c.in-Some.table.now) c.in-Some.ensures.value c.self.view_is) c.args.from c.lowest_free.result c.lowest_free.ensures.none

pub returns-in-None-clause-some : goal.returns-in-None-clause-some
returns-in-None-clause-some c = lowest_free_none c.args.self.now c.args.p (λ fd. seen_at c.self.inside.tables c.args.self.now c.args.p fd None c.in-None.ensures.value c.self.view_is) c.args.from (omega arith)
