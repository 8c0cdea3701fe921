use Rattle.std.proofs.Common.{ℕ, sym, ◌∙◌, subst}
use Rattle.std.specs.FinMap as map
use Rattle.conn_table.specs.declared.table.ConnTable.{ConnTable}
use Rattle.virt_ids.specs.Pairs.{Pairs, without_back}
use Rattle.plain_tables.specs.Tables.{pid}
use Rattle.plain_machine.specs.Serve.{row}
use Rattle.wrap_names.specs.Wrapping.{StandsAfter}
use Rattle.wrap_passing.proofs.WaitedRow.{wait_keeps, wait_stays, wait_goes}
use Rattle.wrap_passing.proofs.serving.serve_wait.Goals as goal

pub returns-then-child-eq0 : goal.returns-then-child-eq0
returns-then-child-eq0 c =
    let k = c.args.stood.now.kernel in
    let t = c.args.t.0 in
    let r = c.args.request.now in
    let before = c.args.transfer.now in
    wait_stays c.args.system.now c.args.next_id k c.requires.wrapped c.args.p t r before c.requires.asked
    (wait_keeps k c.args.p t r before c.requires.waits) c.ask-reply.new.system c.ask-reply.ensures.conns
    c.ask-reply.new.transfer c.ask-reply.result (sym c.child_in-child.ensures ∙ c.if-child-eq0.true)
    c.ask-reply.ensures.asks

pub returns : goal.returns
returns c =
    let k = c.args.stood.now.kernel in
    let t = c.args.t.0 in
    let r = c.args.request.now in
    let before = c.args.transfer.now in
    let s = c.ask-reply.new.system in
    let now = c.ask-reply.new.transfer in
    let m = row k c.args.p t r before in
    let told = c.ask-reply.result in
    let goes = wait_goes c.args.system.now c.args.next_id k c.requires.wrapped c.args.p t r before c.requires.asked
    (wait_keeps k c.args.p t r before c.requires.waits) s c.ask-reply.ensures.conns now told
    (λ none. c.if-child-eq0.false (c.child_in-child.ensures ∙ none)) c.ask-reply.ensures.asks in
    subst (λ (conns : ConnTable). StandsAfter (record s { ids = c.drop_pid.new.self; conns = conns }) c.args.next_id k
    before now told m) (sym c.drop_maker.ensures)
    (subst (λ (ids : Pairs). StandsAfter (record s {
      ids = ids;
      conns = record s.conns { makers = map.remove s.conns.makers (pid c.child_in-child.result) };
    }) c.args.next_id k before now told m) (sym c.drop_pid.ensures.dropped)
    (subst (λ (n : ℕ). StandsAfter (record s {
      ids = record s.ids {
        pids = map.remove s.ids.pids n;
        virts = without_back s.ids.virts (map.get s.ids.pids n);
      };
      conns = record s.conns { makers = map.remove s.conns.makers (pid n) };
    }) c.args.next_id k before now told m) (sym c.child_in-child.ensures) goes))
