use Rattle.std.proofs.Common.{sym, ◌∙◌}
use Rattle.seen_kernel.proofs.SeenKernel.{no_inbox, kernel_is}
use Rattle.seen_kernel.proofs.kernel.kernel_of.Goals as goal

pub returns : goal.returns
returns c held k told next =
    let holders = c.in_ok-processes.ensures held c.args.lists.now k told in
    let stored = c.in_ok-names.ensures held k told.stands in
    let connected = c.in_ok-channels.ensures held c.args.owners.now k told (λ i. (holders i).3) in
    kernel_is k c.in_ok-processes.processes c.in_ok-processes.makers c.in_ok-processes.descriptors
    c.in_ok-processes.descriptions c.in_ok-names.names c.in_ok-names.files c.in_ok-channels.channels
    c.in_ok-channels.directions c.in_ok-channels.listeners c.new.result c.next_file.result c.args.next_id
    holders stored connected
    (c.new.ensures ∙ no_inbox c.args.system.now held k told.stands told.plain)
    (c.next_file.ensures.number ∙ sym told.stands.tables.files.next_is) (sym next)
