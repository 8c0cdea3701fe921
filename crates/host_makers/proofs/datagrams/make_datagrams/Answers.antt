use Rattle.std.proofs.Common.{Some, subst}
use Rattle.host_makers.specs.declared.placing.TwoEnds.{TwoEnds}
use Rattle.host_makers.specs.Ends.{datagram_ends}
use Rattle.host_makers.specs.Places.{ArePlaced}
use Rattle.host_makers.proofs.ChannelCalls.{datagrams_lack, datagrams_made}
use Rattle.host_makers.proofs.TwoPlaced.{both_undone}
use Rattle.host_makers.proofs.datagrams.make_datagrams.Goals as goal

pub returns-in_default-2-clause-ok : goal.returns-in_default-2-clause-ok
returns-in_default-2-clause-ok c g k p whole st paired named =
    datagrams_lack g c.args.kernel.now k st p c.args.who paired c.args.cloexec c.args.transfer.now
    c.args.flags
    c.args.ids named c.place_two.new.book
    (subst (ArePlaced c.args.kernel.now.book c.place_two.new.book c.args.who c.datagram_ends-ends.result)
    c.in_default-2.is c.in_ok-fds.ensures.ok)

pub returns-in_default-insert-clause-err : goal.returns-in_default-insert-clause-err
returns-in_default-insert-clause-err c =
    let real = c.args.kernel.now in
    let were = subst (ArePlaced real.book c.place_two.new.book c.args.who c.datagram_ends-ends.result)
    c.in-Some-2.is c.in_ok-fds.ensures.ok in
    let book = both_undone real.book c.whole.ensures c.args.who c.datagram_ends-ends.result
    (datagram_ends c.in-Some.queue c.args.ids c.args.cloexec c.args.flags) c.datagram_ends-ends.ensures
    c.requires
    c.place_two.new.book c.in-Some-2.fds.0.0 c.in-Some-2.fds.1.0 were c.close_two.new.book
    c.close_two.ensures in
    λ i. record real { book = book i; datagrams = c.in_default-insert.ensures.err i }

pub returns-clause-ok : goal.returns-clause-ok
returns-clause-ok c g k p whole st paired named =
    let real = c.args.kernel.now in
    datagrams_made g real k st p c.args.who paired c.args.cloexec c.args.transfer.now c.args.flags
    c.args.ids named
    c.place_two.new.book c.in-Some.queue c.in-Some.ensures.found.free c.requires c.insert.new.self
    c.in-Some-2.fds.0.0 c.in-Some-2.fds.1.0 c.put_numbers.new.transfer
    (subst (λ (ends : TwoEnds). ArePlaced real.book c.place_two.new.book c.args.who ends
    (Some c.in-Some-2.fds))
    c.datagram_ends-ends.ensures
    (subst (ArePlaced real.book c.place_two.new.book c.args.who c.datagram_ends-ends.result)
    c.in-Some-2.is c.in_ok-fds.ensures.ok))
    c.in-Ok.ensures.ok c.put_numbers.ensures
