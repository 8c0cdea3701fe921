use Rattle.std.proofs.Common.{◌≡◌}
use Rattle.rebuild_tables.specs.ConnTables.{address_in}
use Rattle.rebuild_tables.proofs.Copies.{IsCopied}
use Rattle.rebuild_tables.proofs.conns.set_names.Given as goal

abbrev pub invariant-loop-id : goal.invariant-loop-id
invariant-loop-id l = record {
  copied : IsCopied (λ id. address_in) l.descriptions l.id-iterator l.t.names;
  conns : l.t.conns ≡ l.fn.t.conns;
  makers : l.t.makers ≡ l.fn.t.makers;
}
