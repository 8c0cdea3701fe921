use Rattle.std.proofs.Common.{Some, None}
use Rattle.fd_tables.proofs.TableViews.{seen_at}
use Rattle.fd_tables.proofs.Ranges.{lowest_open_seen, none_open_seen}
use Rattle.fd_tables.proofs.tables.Tables.next_open.Goals as goal

pub returns-in-Some-clause-some : goal.returns-in-Some-clause-some
returns-in-Some-clause-some c = lowest_open_seen c.args.self.now c.args.p c.in-Some.table.now (λ fd. seen_at c.self.inside.tables c.args.self.now c.args.p fd (Some c.in-Some.table.now) c.in-Some.ensures.value c.self.view_is) c.args.from c.next_open.result c.next_open.ensures.some

pub returns-in-Some-clause-none : goal.returns-in-Some-clause-none
returns-in-Some-clause-none c = none_open_seen c.args.self.now c.args.p c.in-Some.table.now (λ fd. seen_at c.self.inside.tables c.args.self.now c.args.p fd (Some c.in-Some.table.now) c.in-Some.ensures.value c.self.view_is) c.args.from c.next_open.result c.next_open.ensures.none

pub returns-in-None-clause-none : goal.returns-in-None-clause-none
returns-in-None-clause-none c = λ fd after. seen_at c.self.inside.tables c.args.self.now c.args.p fd None c.in-None.ensures.value c.self.view_is
