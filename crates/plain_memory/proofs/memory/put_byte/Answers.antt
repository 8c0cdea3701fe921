use Rattle.std.proofs.Common.{◌∙◌, ap, ◌/◌, ◌%◌}
use Rattle.plain_process.specs.Memory.{with_byte, with_byte_in}
use Rattle.std.specs.FinMap as map
use Rattle.views.proofs.Outcomes.{on_some}
use Rattle.plain_memory.proofs.memory.put_byte.Goals as goal

pub returns-in-Some : goal.returns-in-Some
unfolding with_byte
returns-in-Some c =
    on_some c.in-Some.is (c.get_mut.follows.holds (record { rights = c.in-Some.frame.now.rights; page = c.set_byte.new.self }))
    ∙ ap (λ page. map.insert c.args.memory.now (c.args.address / 4096) (record { rights = c.in-Some.frame.now.rights; page = page })) c.set_byte.ensures
    ∙ ap (with_byte_in c.args.memory.now (c.args.address / 4096) (c.args.address % 4096) c.args.byte) c.in-Some.ensures.value
