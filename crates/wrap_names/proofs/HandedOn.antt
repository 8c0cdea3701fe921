-- An error that is handed on.
--     handed_on
use Rattle.std.proofs.Common.{◌≡◌, Result, Ok, Err, ap}
use Rattle.std.specs.Prelude.{IsErrAnd}
use Rattle.sys_abi.specs.declared.reply.Errno.{Errno}

pub handed_on : {A : Type 0} (r : Result A Errno) (e : Errno) → IsErrAnd r (λ (f : Errno). f ≡ e) → r ≡ Err e
handed_on (Ok a) e is = absurd is
handed_on (Err f) e is = ap (λ (x : Errno). Err x) is
