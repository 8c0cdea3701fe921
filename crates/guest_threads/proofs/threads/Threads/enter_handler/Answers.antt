use Rattle.std.proofs.Common.{sym, ◌∙◌}
use Rattle.guest_threads.proofs.HandlerEntries.{entered_by}
use Rattle.guest_threads.proofs.threads.Threads.enter_handler.Goals as goal

pub returns : goal.returns
returns c =
    entered_by c.args.self.now c.push_context.new.self c.set_mask.new.self c.set_regs.new.self c.args.t c.in-Some.regs c.interrupted.result c.handler_regs.result c.in-Some-mask.mask
    c.handler_mask.result c.args.action c.args.s.0 c.args.is_unready (sym c.regs.ensures ∙ c.in-Some.is) (sym c.mask.ensures ∙ c.in-Some-mask.is) c.interrupted.ensures c.handler_mask.ensures
    c.handler_regs.ensures c.push_context.ensures c.set_mask.ensures c.set_regs.ensures
