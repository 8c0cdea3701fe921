use Rattle.host_streams.proofs.CounterRows.{value_kept}
use Rattle.host_streams.proofs.counters.put_value.Goals as goal

pub returns-clause-stands : goal.returns-clause-stands
returns-clause-stands c before counter g k st =
    value_kept g c.args.kernel.now k c.args.held st c.requires before counter c.args.value
    c.set_object.new.self c.set_object.ensures
