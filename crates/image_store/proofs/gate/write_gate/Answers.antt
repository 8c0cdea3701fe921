use Rattle.std.proofs.Common.{sym, subst}
use Rattle.disk_folder.specs.Crash.{Torn}
use Rattle.image_store.specs.Slots.{manifest_name}
use Rattle.image_store.proofs.Passing.{passes_then}
use Rattle.image_store.proofs.gate.write_gate.Goals as goal

pub returns-clause-crash : goal.returns-clause-crash
returns-clause-crash g c =
    let T = Torn (manifest_name c.args.slot) 0 1 in
    passes_then T c.write_at.ensures.crash c.sync.ensures.crash (λ old new torn. torn) (λ old mid new torn same. subst (T old) (sym same) torn)
