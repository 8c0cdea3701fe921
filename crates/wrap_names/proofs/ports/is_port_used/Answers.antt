use Rattle.std.proofs.Common.{◌∙◌}
use Rattle.wrap_names.proofs.PortsUsed.{port_used_is}
use Rattle.wrap_names.proofs.ports.is_port_used.Goals as goal

pub returns : goal.returns
returns c k next_id w =
    c.port_used.ensures ∙ port_used_is c.args.system.now next_id k w c.args.address c.requires
