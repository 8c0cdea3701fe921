use Rattle.std.proofs.Common.{sym, ap, ◌∙◌, subst}
use Rattle.std.specs.Prelude.{is_some}
use Rattle.std.specs.FinMap as map
use Rattle.conn_table.specs.declared.table.ConnTable.{ConnTable}
use Rattle.virt_ids.specs.Pairs.{Pairs}
use Rattle.host_tables.specs.Systems.{given_of}
use Rattle.host_tables.proofs.LookUps.{lives_of}
use Rattle.wrap_names.specs.OfHostProcesses.Leaves.{after_leave}
use Rattle.wrap_names.specs.Wrapping.{IsWrapped}
use Rattle.wrap_ends.proofs.Leaving.{stays_zombie, is_nobody}
use Rattle.wrap_ends.proofs.ThreadEnds.{thread_found, thread_there}
use Rattle.wrap_ends.proofs.ending.leave_alone.Goals as goal

pub returns-in_default : goal.returns-in_default
returns-in_default c k next_id w paired alive few none whole =
    absurd (thread_there c.args.system.now next_id k w c.args.p c.args.who paired alive
    (sym c.next_real_thread.ensures ∙ c.in_default.is))

pub returns-then-is_some : goal.returns-then-is_some
returns-then-is_some c k next_id w paired alive few none whole =
    let s = c.args.system.now in
    let p = c.args.p in
    let who = c.args.who in
    let found = thread_found s next_id k w p who paired alive c.in-Some.last
    (sym c.next_real_thread.ensures ∙ c.in-Some.is) in
    let stands = c.leave.ensures (sym (lives_of (given_of s) s.kernel k w.stands.tables p who paired) ∙ alive)
    (given_of s) k p w.stands.kernel w.stands.tables paired in
    stays_zombie s next_id k w p who paired alive few none c.args.status found.number found.there
    c.leave.new.kernel
    whole stands c.forget_thread.new.ids (c.forget_thread.ensures found.number found.leads)
    (ap is_some (sym c.status.ensures) ∙ sym c.is_some.ensures ∙ c.if-is_some.true)

pub returns : goal.returns
returns c k next_id w paired alive few none whole =
    let s = c.args.system.now in
    let p = c.args.p in
    let who = c.args.who in
    let found = thread_found s next_id k w p who paired alive c.in-Some.last
    (sym c.next_real_thread.ensures ∙ c.in-Some.is) in
    let stands = c.leave.ensures (sym (lives_of (given_of s) s.kernel k w.stands.tables p who paired) ∙ alive)
    (given_of s) k p w.stands.kernel w.stands.tables paired in
    let left = after_leave k p c.args.status in
    subst (λ (conns : ConnTable). IsWrapped (record s {
      kernel = c.leave.new.kernel;
      ids = c.drop_pid.new.self;
      conns = conns;
    }) next_id left) (sym c.drop_maker.ensures)
    (subst (λ (ids : Pairs). IsWrapped (record s {
      kernel = c.leave.new.kernel;
      ids = ids;
      conns = record s.conns { makers = map.remove s.conns.makers p };
    }) next_id left) (sym c.drop_pid.ensures.dropped)
    (is_nobody s next_id k w p who paired alive few none c.args.status found.number found.there
    c.leave.new.kernel
    whole stands c.forget_thread.new.ids (c.forget_thread.ensures found.number found.leads)
    (ap is_some (sym c.status.ensures) ∙ sym c.is_some.ensures ∙ c.if-is_some.false)))
