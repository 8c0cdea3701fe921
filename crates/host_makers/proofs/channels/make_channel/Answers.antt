use Rattle.std.proofs.Common.{Some, sym, ◌∙◌, subst}
use Rattle.host_makers.specs.declared.placing.TwoEnds.{TwoEnds}
use Rattle.host_makers.specs.Ends.{channel_ends}
use Rattle.host_makers.specs.Places.{ArePlaced}
use Rattle.host_makers.proofs.ChannelCalls.{channel_full, channel_lacks, channel_made}
use Rattle.host_makers.proofs.TwoPlaced.{both_undone}
use Rattle.host_makers.proofs.channels.make_channel.Goals as goal

pub returns-then-is_full-clause-ok : goal.returns-then-is_full-clause-ok
returns-then-is_full-clause-ok c g k p whole st paired kind named =
    channel_full g c.args.kernel.now k st p c.args.who paired c.args.cloexec c.args.transfer.now kind
    c.args.one
    c.args.other c.args.ids named (sym c.is_full.ensures ∙ c.if-is_full.true)

pub returns-in_default-clause-ok : goal.returns-in_default-clause-ok
returns-in_default-clause-ok c g k p whole st paired kind named =
    channel_lacks g c.args.kernel.now k st p c.args.who paired c.args.cloexec c.args.transfer.now kind
    c.args.one
    c.args.other c.args.ids named (sym c.is_full.ensures ∙ c.if-is_full.false) c.place_two.new.book
    (subst (ArePlaced c.args.kernel.now.book c.place_two.new.book c.args.who c.channel_ends-ends.result)
    c.in_default.is c.in_ok-fds.ensures.ok)

pub returns-in_default-pair-clause-err : goal.returns-in_default-pair-clause-err
returns-in_default-pair-clause-err c =
    let real = c.args.kernel.now in
    let were = subst (ArePlaced real.book c.place_two.new.book c.args.who c.channel_ends-ends.result)
    c.in-Some.is c.in_ok-fds.ensures.ok in
    let book = both_undone real.book c.whole.ensures c.args.who c.channel_ends-ends.result
    (channel_ends c.args.ids c.args.cloexec c.args.one c.args.other) c.channel_ends-ends.ensures c.requires.1
    c.place_two.new.book c.in-Some.fds.0.0 c.in-Some.fds.1.0 were c.close_two.new.book c.close_two.ensures in
    λ i. record real { book = book i; net = c.in_default-pair.ensures.err i }

pub returns-clause-ok : goal.returns-clause-ok
returns-clause-ok c g k p whole st paired kind named =
    let real = c.args.kernel.now in
    channel_made g real k st p c.args.who paired c.args.cloexec c.args.transfer.now kind c.args.one
    c.args.other c.args.ids named (sym c.is_full.ensures ∙ c.if-is_full.false) c.place_two.new.book
    c.pair.new.self c.in-Some.fds.0.0 c.in-Some.fds.1.0 c.put_numbers.new.transfer c.requires
    (subst (λ (ends : TwoEnds). ArePlaced real.book c.place_two.new.book c.args.who ends (Some c.in-Some.fds))
    c.channel_ends-ends.ensures
    (subst (ArePlaced real.book c.place_two.new.book c.args.who c.channel_ends-ends.result)
    c.in-Some.is c.in_ok-fds.ensures.ok))
    c.in-Ok.ensures.ok c.put_numbers.ensures
