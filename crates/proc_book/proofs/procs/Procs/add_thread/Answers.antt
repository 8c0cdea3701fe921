use Rattle.std.proofs.Common.{◌≡◌, ◌+◌, ◌<◌, length, rules, arith, sym, ap, subst, ◌∙◌}
use Rattle.std.specs.Prelude.{slice_index, slice_set}
use Rattle.std.proofs.lemmas.Grind.{common_steps}
use Rattle.virt_ids.specs.Changes.{at_key}
use Rattle.proc_book.specs.Procs.{ProcTable, with_thread}
use Rattle.proc_book.proofs.HandedOut.{handed_out-add_thread}
use Rattle.proc_book.proofs.procs.Procs.add_thread.Goals as goal

pub invariant_of-self-2 : goal.invariant_of-self-2
invariant_of-self-2 c =
    let all = c.self.inside.processes in
    let next = c.self.inside.next.items in
    let node = c.args.p.node in
    let inside : node < length next = subst (λ (t : ProcTable). node < length t.next) (sym c.self.view_is) c.requires.node in
    let number : c.index.result.now ≡ slice_index next node = first_of (search rules, grind (arith, common_steps)) in
    handed_out-add_thread all c.add_thread_at.new.processes next _ c.args.p c.self.invariant inside
    (c.in_ok-add_thread_at.ensures.ok ∙ ap (λ n. at_key all c.args.p (with_thread n)) number)
    (ap (λ n. slice_set next node (n + 1)) (c.from.ensures ∙ number))
