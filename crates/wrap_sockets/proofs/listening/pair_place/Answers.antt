use Rattle.wrap_sockets.proofs.Unlisted.{unpaired_again}
use Rattle.wrap_sockets.proofs.listening.pair_place.Goals as goal

pub returns-in_default-set_name-clause-ids : goal.returns-in_default-set_name-clause-ids
returns-in_default-set_name-clause-ids c =
    unpaired_again c.args.ids.now c.add_addr.new.self c.drop_addr.new.self c.args.found.address c.args.at
    c.add_addr.result c.in-Ok.field-0 c.add_addr.ensures.taken c.in-Ok.is c.in-Ok.ensures.ok
    c.drop_addr.ensures.dropped
