use Rattle.std.proofs.Common.{◌≡◌, sym, ap, ◌∙◌}
use Rattle.std.specs.FinMap as map
use Rattle.std.proofs.lemmas.Option.{same_Some, none-some}
use Rattle.sys_abi.specs.declared.identity.RealAddr.{RealAddr}
use Rattle.virt_ids.specs.Changes.{at_key}
use Rattle.discovery.specs.Directories.{Publications, place_of, with_look_up}
use Rattle.wire_channels.specs.Channels.{new_channel}
use Rattle.wire_channels.specs.Listeners.{with_last}
use Rattle.rebuild_system.proofs.FoundEnds.{placed, looked_up}
use Rattle.rebuild_system.proofs.joining.connect.Goals as goal

pub unreachable-requires : goal.unreachable-requires
unreachable-requires c =
    none-some c.args.at
    (sym c.in_default.is ∙ c.find.ensures.found
    ∙ ap (λ (m : Publications). place_of m c.args.id) c.in_ok-publish.ensures.ok
    ∙ placed c.args.directory.now c.args.id c.args.at)

pub returns-clause-net : goal.returns-clause-net
returns-clause-net c =
    let net = c.args.net.now in
    let id = c.args.id in
    let found : c.in-Some.found ≡ c.args.at =
    same_Some c.in-Some.found c.args.at
    (c.in-Some.ensures.found ∙ ap (λ (m : Publications). place_of m id) c.in_ok-publish.ensures.ok
    ∙ placed c.args.directory.now id c.args.at) in
    c.in-Ok.ensures.ok
    ∙ ap (λ (to : RealAddr). record net {
      listeners = at_key net.listeners to (with_last id);
      channels = map.insert net.channels id new_channel;
    }) found

pub returns-clause-found : goal.returns-clause-found
returns-clause-found c =
    c.find.ensures.asked
    ∙ ap (λ (m : Publications). with_look_up m c.args.id) c.in_ok-publish.ensures.ok
    ∙ looked_up c.args.directory.now c.args.id c.args.at
