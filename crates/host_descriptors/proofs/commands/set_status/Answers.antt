use Rattle.std.proofs.Common.{ℕ, None, subst}
use Rattle.host_tables.specs.OfPlainMachine.Rows.Descriptors.{with_flags}
use Rattle.host_tables.specs.Stands.{Stands}
use Rattle.host_descriptors.specs.Held.{seen_held}
use Rattle.host_descriptors.proofs.HeldChanges.{status_kept}
use Rattle.host_descriptors.proofs.commands.set_status.Goals as goal

pub returns : goal.returns
returns c g k st =
    subst (λ (flags : ℕ). Stands g None (record c.args.kernel.now { book = c.set_flags.new.self })
    (with_flags k (seen_held g c.args.kernel.now c.args.held) flags)) c.set_flags-flags.ensures
    (status_kept g c.args.kernel.now k st c.args.held c.requires.there c.set_flags-flags.result
    c.set_flags.new.self c.set_flags.ensures)
