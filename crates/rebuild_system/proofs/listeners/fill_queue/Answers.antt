use Rattle.std.proofs.Common.{List, refl, ap, subst, ◌∙◌, arith}
use Rattle.std.specs.Prelude.{is_some}
use Rattle.std.proofs.lemmas.List.{take_all}
use Rattle.virt_ids.specs.Changes.{at_key}
use Rattle.sys_abi.specs.declared.identity.ConnId.{ConnId}
use Rattle.rebuild_system.specs.Steps.{is_among, with_queue, AreJoined, AreFound}
use Rattle.rebuild_system.proofs.Queues.{queue_none, queue_more, next_new, AreJoined-none, AreJoined-more, AreFound-none, AreFound-more}
use Rattle.rebuild_system.proofs.listeners.fill_queue.Goals as goal

abbrev no_conn : ConnId
no_conn = record { pid = record { 0 = 0 }; num = 0 }

pub loop-id-init : goal.loop-id-init
loop-id-init c = record {
  base = refl;
  listeners = queue_none c.args.net.now.listeners c.args.at;
  channels = AreJoined-none c.args.kernel.now c.args.net.now.channels;
  found = AreFound-none c.args.at c.args.directory.now;
}

pub add_waiting-requires-clause-new : goal.add_waiting-requires-clause-new
add_waiting-requires-clause-new c =
    ap is_some (next_new c.args.queue.now c.loop-id.id-index no_conn c.loop-id-test.true c.args.kernel.now
    c.args.net.now.channels c.loop-id.net.channels c.loop-id.invariant.channels c.requires.once
    c.requires.new)

pub loop-id-preserved : goal.loop-id-preserved
loop-id-preserved c =
    let queue = c.args.queue.now in
    let i = c.loop-id.id-index in
    record {
      base = c.in_ok-add_waiting.ensures.base ∙ c.loop-id.invariant.base;
      listeners = queue_more queue i no_conn c.loop-id-test.true c.args.net.now.listeners
          c.loop-id.net.listeners c.add_waiting.new.net.listeners c.args.at c.loop-id.invariant.listeners
          c.in_ok-add_waiting.ensures.listeners;
      channels = AreJoined-more queue i no_conn c.loop-id-test.true c.args.kernel.now c.args.net.now.channels
          c.loop-id.net.channels c.add_waiting.new.net.channels c.loop-id.invariant.channels
          c.in_ok-add_waiting.ensures.channels;
      found = AreFound-more queue i no_conn c.loop-id-test.true c.args.at c.args.directory.now
          c.loop-id.directory c.add_waiting.new.directory c.loop-id.invariant.found
          c.in_ok-add_waiting.ensures.found;
    }

pub returns-clause-listeners : goal.returns-clause-listeners
returns-clause-listeners c =
    c.loop-id.invariant.listeners
    ∙ ap (λ (q : List ConnId). at_key c.args.net.now.listeners c.args.at (with_queue q))
    (take_all c.loop-id.id-index c.args.queue.now (omega (arith, c.loop-id-test.false)))

pub returns-clause-channels : goal.returns-clause-channels
returns-clause-channels c =
    subst
    (λ (q : List ConnId).
    AreJoined c.args.kernel.now (is_among q) c.args.net.now.channels c.loop-id.net.channels)
    (take_all c.loop-id.id-index c.args.queue.now (omega (arith, c.loop-id-test.false)))
    c.loop-id.invariant.channels

pub returns-clause-found : goal.returns-clause-found
returns-clause-found c =
    subst (λ (q : List ConnId). AreFound c.args.at (is_among q) c.args.directory.now c.loop-id.directory)
    (take_all c.loop-id.id-index c.args.queue.now (omega (arith, c.loop-id-test.false)))
    c.loop-id.invariant.found
