use Rattle.std.proofs.Common.{ap, ◌∙◌}
use Rattle.std.specs.Prelude.{None, Some, find}
use Rattle.std.specs.FinMap as map
use Rattle.views.specs.NumberMap.{is_above}
use Rattle.plain_process.specs.Memory.{Memory}
use Rattle.guest_mem.proofs.NextPages.{find-next}
use Rattle.guest_mem.proofs.space.Space.next_page.Goals as goal

pub returns-in-None-clause-next : goal.returns-in-None-clause-next
returns-in-None-clause-next c =
    find-next c.self.inside.frames c.args.above c.start_above.result None c.start_above.ensures c.in-None.ensures ∙ ap (λ (m : Memory). find (is_above c.args.above) (map.keys m)) c.self.view_is

pub returns-in-Some-clause-next : goal.returns-in-Some-clause-next
returns-in-Some-clause-next c =
    find-next c.self.inside.frames c.args.above c.start_above.result (Some c.in-Some.page) c.start_above.ensures c.in-Some.ensures
    ∙ ap (λ (m : Memory). find (is_above c.args.above) (map.keys m)) c.self.view_is
