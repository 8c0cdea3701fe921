use Rattle.std.proofs.Common.{◌≡◌}
use Rattle.std.specs.Prelude.{Some}
use Rattle.rebuild_tables.specs.ConnTables.{conn_of}
use Rattle.rebuild_tables.proofs.Copies.{IsCopied}
use Rattle.rebuild_tables.proofs.conns.add_conns.Given as goal

abbrev pub invariant-loop-id : goal.invariant-loop-id
invariant-loop-id l = record {
  copied : IsCopied (λ id channel. Some (conn_of id channel)) l.channels l.id-iterator l.t.conns;
  names : l.t.names ≡ l.fn.t.names;
  makers : l.t.makers ≡ l.fn.t.makers;
}
