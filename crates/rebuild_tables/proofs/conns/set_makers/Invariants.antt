use Rattle.std.proofs.Common.{◌≡◌}
use Rattle.std.specs.Prelude.{Some}
use Rattle.rebuild_tables.proofs.Copies.{IsCopied}
use Rattle.rebuild_tables.proofs.conns.set_makers.Given as goal

abbrev pub invariant-loop-p : goal.invariant-loop-p
invariant-loop-p l = record {
  copied : IsCopied (λ p. Some) l.makers l.p-iterator l.t.makers;
  conns : l.t.conns ≡ l.fn.t.conns;
  names : l.t.names ≡ l.fn.t.names;
}
