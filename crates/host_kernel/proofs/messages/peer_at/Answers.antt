use Rattle.std.proofs.Common.{◌-◌, sym, ap, ◌∙◌}
use Rattle.std.specs.Prelude.{option_map}
use Rattle.std.specs.FinMap as map
use Rattle.host_kernel.proofs.MessageTests.{desc_of, peer_found, peer_gone}
use Rattle.host_kernel.proofs.messages.peer_at.Goals as goal

pub returns-in-Some : goal.returns-in-Some
returns-in-Some c =
    peer_found (1 - c.args.side) c.args.id (map.get c.args.kernel.now.datagrams c.args.queue) c.in-Some.peer
    (sym (ap (λ s. option_map (desc_of s c.args.id) (map.get c.args.kernel.now.datagrams c.args.queue))
    c.across.ensures)
    ∙ sym c.desc_at.ensures ∙ c.in-Some.is)

pub returns-in-None : goal.returns-in-None
returns-in-None c =
    peer_gone (1 - c.args.side) c.args.id (map.get c.args.kernel.now.datagrams c.args.queue)
    (sym (ap (λ s. option_map (desc_of s c.args.id) (map.get c.args.kernel.now.datagrams c.args.queue))
    c.across.ensures)
    ∙ sym c.desc_at.ensures ∙ c.in-None.is)
