use Rattle.host_descriptors.proofs.FileCloses.{told_named, not_there, no_file}
use Rattle.host_descriptors.proofs.releasing.is_named.Goals as goal

pub returns-in-Some : goal.returns-in-Some
returns-in-Some c empty =
    told_named c.args.files.now.names c.args.number empty c.in-Some.name.now c.is_empty.result
    c.in-Some.ensures.of_file c.is_empty.ensures

pub returns-in-None : goal.returns-in-None
returns-in-None c empty =
    not_there c.args.files.now.names c.args.number
    (no_file c.args.files.now c.whole.ensures c.args.number c.in-None.ensures.there)
