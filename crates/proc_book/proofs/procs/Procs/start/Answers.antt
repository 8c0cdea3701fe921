use Rattle.std.proofs.Common.{◌≡◌, ◌+◌, ◌<◌, length, rules, arith, sym, ap, subst, ◌∙◌}
use Rattle.std.specs.Prelude.{slice_index, slice_set}
use Rattle.std.specs.FinMap as map
use Rattle.std.proofs.lemmas.Grind.{common_steps}
use Rattle.proc_book.specs.Processes.{newborn}
use Rattle.proc_book.specs.Procs.{ProcTable, real}
use Rattle.proc_book.proofs.HandedOut.{handed_out-start}
use Rattle.proc_book.proofs.procs.Procs.start.Goals as goal

pub invariant_of-self-2 : goal.invariant_of-self-2
invariant_of-self-2 c =
    let all = c.self.inside.processes in
    let next = c.self.inside.next.items in
    let node = c.args.node in
    let inside : node < length next = subst (λ (t : ProcTable). node < length t.next) (sym c.self.view_is) c.requires.node in
    let number : c.index.result.now ≡ slice_index next node = first_of (search rules, grind (arith, common_steps)) in
    handed_out-start all c.insert.new.self next _ node c.args.parent c.self.invariant inside
    (c.in_ok-insert.ensures.ok ∙ ap (map.insert all (real node c.index.result.now)) c.in_ok-process.ensures ∙ ap (λ n. map.insert all (real node n) (newborn c.args.parent n)) number)
    (ap (λ n. slice_set next node (n + 1)) (c.from.ensures ∙ number))
