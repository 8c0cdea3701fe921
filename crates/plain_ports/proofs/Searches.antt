-- The search for an automatic port, one number further.
--     unused_more, unused_none
use Rattle.std.proofs.Common.{◌≡◌, ℕ, suc, ◌+◌, ◌-◌, ◌<◌, ◌≤◌, cond, ap, arith}
use Rattle.std.specs.Prelude.{Some, None}
use Rattle.plain_machine.specs.declared.kernel.PlainKernel.{PlainKernel}
use Rattle.plain_machine.specs.Addresses.{address_at, is_port_used, unused_among}

pub unused_more : (k : PlainKernel) (host port : ℕ) → port < 61000
    → unused_among k host port (61000 - port) ≡ cond (is_port_used k (address_at host port)) (unused_among k host (port + 1) (61000 - (port + 1))) (Some port)
unfolding unused_among
unused_more k host port low = let rest : 61000 - port ≡ suc (61000 - (port + 1)) = omega arith in ap (unused_among k host port) rest

pub unused_none : (k : PlainKernel) (host port : ℕ) → 61000 ≤ port → unused_among k host port (61000 - port) ≡ None
unfolding unused_among
unused_none k host port high = let none : 61000 - port ≡ 0 = omega arith in ap (unused_among k host port) none
