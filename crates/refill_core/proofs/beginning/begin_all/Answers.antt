use Rattle.std.proofs.Common.{◌≡◌, ◌≤◌, drop, length, get_or, sym, ◌∙◌}
use Rattle.sys_abi.specs.declared.identity.Dir.{Dir}
use Rattle.wire_channels.specs.declared.limits.TheConstants.{QUEUE_LIMIT}
use Rattle.wire_net.specs.DrainedNets.{list_on}
use Rattle.wire_net.specs.Ends.{agent_of}
use Rattle.refill_core.proofs.Turns.{begun_note, as_first, few_now, one_begun, others_later, all_begun}
use Rattle.refill_core.proofs.beginning.begin_all.Goals as goal

-- ---- what the next direction asks

abbrev due : (c : goal.After-begin_on-arg-1) → Dir
due c = (get_or c.loop-notes.all c.loop-notes.notes-index c.notes-item.result).dir

listed : (c : goal.After-begin_on-arg-1)
    → list_on (due c) c.loop-notes.lists ≡ list_on (due c) c.args.lists.now
listed c =
    as_first (begun_note c.args.lists.now c.args.ends.now) c.loop-notes.all c.args.all.now
    c.loop-notes.notes-index c.notes-item.result (λ (e : Dir). list_on e c.loop-notes.lists)
    (λ (e : Dir). list_on e c.args.lists.now) c.loop-notes-test.true c.loop-notes.invariant.notes
    c.requires.apart c.loop-notes.invariant.lists

pub begin_on-requires-clause-ahead : goal.begin_on-requires-clause-ahead
begin_on-requires-clause-ahead c =
    as_first (begun_note c.args.lists.now c.args.ends.now) c.loop-notes.all c.args.all.now
    c.loop-notes.notes-index c.notes-item.result
    (λ (e : Dir). list_on e (drop c.loop-notes.next c.loop-notes.lists))
    (λ (e : Dir). list_on e c.args.lists.now) c.loop-notes-test.true c.loop-notes.invariant.notes
    c.requires.apart c.loop-notes.invariant.ahead
    ∙ sym (listed c)

pub begin_on-requires-clause-few : goal.begin_on-requires-clause-few
begin_on-requires-clause-few c =
    few_now (λ list. length list.bytes ≤ QUEUE_LIMIT) (due c) c.loop-notes.lists c.args.lists.now (listed c)
    c.requires.few

-- ---- one direction further

pub loop-notes-preserved : goal.loop-notes-preserved
loop-notes-preserved c =
    let f = begun_note c.args.lists.now c.args.ends.now in
    let all = c.loop-notes.all in
    let old = c.args.all.now in
    let i = c.loop-notes.notes-index in
    let z = c.notes-item.result in
    let below = c.loop-notes-test.true in
    let is = c.loop-notes.invariant in
    let lists = λ (e : Dir). list_on e c.loop-notes.lists in
    let ahead = λ (e : Dir). list_on e (drop c.loop-notes.next c.loop-notes.lists) in
    let agents = λ (e : Dir). agent_of c.loop-notes.rest.now e.conn e.side in
    let first_lists = λ (e : Dir). list_on e c.args.lists.now in
    let first_agents = λ (e : Dir). agent_of c.args.ends.now e.conn e.side in
    record {
      notes =
          one_begun all old i z c.begin_on.new.notes c.loop-notes.lists c.args.lists.now
          c.loop-notes.rest.now c.args.ends.now below is.notes
          (as_first f all old i z lists first_lists below is.notes c.requires.apart is.lists)
          (as_first f all old i z agents first_agents below is.notes c.requires.apart is.agents)
          c.begin_on.ensures.begun;
      lists =
          others_later f all old i z lists (λ (e : Dir). list_on e c.begin_on.new.lists) first_lists below
          is.notes is.lists (c.begin_on.ensures.others 0);
      ahead =
          others_later f all old i z ahead
          (λ (e : Dir). list_on e (drop c.list_behind-next.result c.begin_on.new.lists)) first_lists below
          is.notes is.ahead
          (λ e differ.
          c.list_behind-next.ensures e differ ∙ c.begin_on.ensures.others c.loop-notes.next e differ);
      agents =
          others_later f all old i z agents
          (λ (e : Dir). agent_of c.ends_behind-rest.result.now e.conn e.side) first_agents below is.notes
          is.agents c.ends_behind-rest.ensures;
    }

pub returns : goal.returns
returns c =
    all_begun c.args.lists.now c.args.ends.now c.loop-notes.all c.args.all.now c.loop-notes.notes-index
    c.loop-notes-test.false c.loop-notes.invariant.notes
