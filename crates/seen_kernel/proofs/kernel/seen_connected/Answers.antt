use Rattle.seen_kernel.proofs.SeenKernel.{listeners_valid}
use Rattle.seen_kernel.proofs.kernel.seen_connected.Goals as goal

pub returns : goal.returns
returns c held owners k told are =
    let s = c.args.system.now in
    let st = told.stands.tables in
    let channels = c.in_ok-channels.ensures s.kernel.net.channels k.channels st.channels
    told.stands.exact.open_ends in
    let directions = c.in_ok-directions.ensures held k.directions st.directions told.bytes_are in
    let listeners = c.in_ok-listeners.ensures s.kernel.nodes k.channels k.listeners st.listeners
    (listeners_valid s held k told.stands c.args.descriptions.now are) in
    λ i. (channels i, directions i, listeners i)
