use Rattle.std.proofs.Common.{◌≡◌, sym, ap, ◌∙◌}
use Rattle.std.specs.Prelude.{Some, option_map}
use Rattle.thread_group.specs.Groups.{joined}
use Rattle.thread_group.proofs.LocalThreads.{mask_row_told}
use Rattle.thread_group.proofs.group.ThreadGroup.sigprocmask.Goals as goal

pub returns-clause-row : goal.returns-clause-row
returns-clause-row c memory given address thread names there =
    let old : Some c.mask-old.result ≡ Some thread.mask = sym c.mask-old.ensures ∙ ap (option_map (λ thread. thread.mask)) there in
    mask_row_told (joined memory c.args.self.now) (joined memory c.set_mask.new.self) c.args.t.0 thread given c.args.how address c.args.size c.mask-old.result c.if-not-is_mask_call.ensures
    (cc) (c.set_mask.ensures.set memory given address thread names there)
