use Rattle.std.proofs.Common.{sym, ◌∙◌}
use Rattle.host_streams.specs.OfHostTables.Descriptions.{seen_object}
use Rattle.wrap_names.proofs.HostsFor.{host_short, host_found, host_bound}
use Rattle.wrap_names.proofs.binding.host_for.Goals as goal

pub returns-then-length-lt-ADDRESS_SIZE : goal.returns-then-length-lt-ADDRESS_SIZE
returns-then-length-lt-ADDRESS_SIZE c pairs =
    host_short (seen_object c.args.conns.now.names pairs c.args.desc c.args.object) c.args.length
    c.if-length-lt-ADDRESS_SIZE.true

pub returns-in-Some : goal.returns-in-Some
returns-in-Some c pairs =
    host_found (seen_object c.args.conns.now.names pairs c.args.desc c.args.object) c.args.length
    c.if-length-lt-ADDRESS_SIZE.false c.in-Some.host (sym (c.unbound_host.ensures pairs) ∙ c.in-Some.is)

pub returns-in-None : goal.returns-in-None
returns-in-None c pairs =
    host_bound (seen_object c.args.conns.now.names pairs c.args.desc c.args.object) c.args.length
    c.if-length-lt-ADDRESS_SIZE.false (sym (c.unbound_host.ensures pairs) ∙ c.in-None.is)
