use Rattle.std.proofs.Common.{◌≡◌, ◌+◌, ◌<◌, ◌^◌, Some, sym, ap, ◌∙◌, subst}
use Rattle.std.specs.FinMap as map
use Rattle.sys_abi.specs.declared.maker.Maker.{Maker}
use Rattle.call_table.specs.declared.request.Request.{Request}
use Rattle.conn_table.specs.declared.table.ConnTable.{ConnTable}
use Rattle.plain_machine.specs.RowLaws.{IsAsked}
use Rattle.plain_machine.specs.Serve.{row}
use Rattle.host_tables.specs.Systems.{given_of}
use Rattle.wrap_names.specs.Wrapping.{StandsAfter}
use Rattle.wrap_sockets.specs.Listing.{with_listed, settled}
use Rattle.wrap_sockets.specs.Naming.{IsNamedConnect}
use Rattle.wrap_sockets.specs.Replies.{Answered}
use Rattle.wrap_sockets.proofs.ConnectedCalls.{Says, new_conn, unlisted, answered, connect_stays, countable, connect_done}
use Rattle.wrap_sockets.proofs.Meetings.{no_connect}
use Rattle.wrap_sockets.proofs.connecting.connect.Goals as goal

pub unreachable-requires : goal.unreachable-requires
unreachable-requires c = no_connect c.args.request.now c.requires.connects c.in_default.not-Connect

pub connect-requires : goal.connect-requires
connect-requires c =
    let s = c.args.system.now in
    let k = c.args.stood.now.kernel in
    let w = c.requires.wrapped in
    let n = c.name_connect-named.result in
    let names = subst (λ bytes. IsNamedConnect (given_of s) k c.args.p c.in-Connect.fd c.in-Connect.length
    bytes n)
    c.as_slice.ensures.value (c.name_connect-named.ensures k c.args.next_id w c.real_caller-who.ensures) in
    record {
      new = new_conn s c.args.next_id k w c.args.p c.requires.asked.alive c.in-Connect.fd c.in-Connect.length
          c.args.transfer.now n names;
    }

pub settle-requires : goal.settle-requires
settle-requires c =
    let s = c.args.system.now in
    let k = c.args.stood.now.kernel in
    let w = c.requires.wrapped in
    let p = c.args.p in
    let t = c.args.t.0 in
    let before = c.args.transfer.now in
    let fd = c.in-Connect.fd in
    let length = c.in-Connect.length in
    let n = c.name_connect-named.result in
    let new = c.connect.new.kernel in
    let asked = subst (λ q. IsAsked k p t q before) c.in-Connect.is c.requires.asked in
    let names = subst (λ bytes. IsNamedConnect (given_of s) k p fd length bytes n)
    c.as_slice.ensures.value (c.name_connect-named.ensures k c.args.next_id w c.real_caller-who.ensures) in
    let told = subst (Answered (Says s c.args.next_id k w p t fd c.in-Connect.address length before asked n
    names new)
    (new ≡ s.kernel)) (sym c.reply_of-reply.ensures)
    (answered s c.args.next_id k w p t fd c.in-Connect.address length before asked n names new
    c.real_caller-who.result c.real_caller-who.ensures c.connect.result c.connect.ensures.ok
    c.connect.ensures.err) in
    subst (λ (conns : ConnTable). (maker : Maker) → map.get conns.makers p ≡ Some maker
    → maker.made + 1 < 2 ^ 32)
    (sym c.in-Ok.ensures.ok)
    (countable s c.args.next_id k w p t fd c.in-Connect.address length before asked n names new
    c.reply_of-reply.result (sym c.is_done.ensures ∙ c.if-not-is_done.false) told)

pub returns-then-not-is_done : goal.returns-then-not-is_done
returns-then-not-is_done c =
    let s = c.args.system.now in
    let k = c.args.stood.now.kernel in
    let w = c.requires.wrapped in
    let p = c.args.p in
    let t = c.args.t.0 in
    let before = c.args.transfer.now in
    let fd = c.in-Connect.fd in
    let length = c.in-Connect.length in
    let n = c.name_connect-named.result in
    let new = c.connect.new.kernel in
    let asked = subst (λ q. IsAsked k p t q before) c.in-Connect.is c.requires.asked in
    let names = subst (λ bytes. IsNamedConnect (given_of s) k p fd length bytes n)
    c.as_slice.ensures.value (c.name_connect-named.ensures k c.args.next_id w c.real_caller-who.ensures) in
    let told = subst (Answered (Says s c.args.next_id k w p t fd c.in-Connect.address length before asked n
    names new)
    (new ≡ s.kernel)) (sym c.reply_of-reply.ensures)
    (answered s c.args.next_id k w p t fd c.in-Connect.address length before asked n names new
    c.real_caller-who.result c.real_caller-who.ensures c.connect.result c.connect.ensures.ok
    c.connect.ensures.err) in
    let back = c.unlist.ensures s.conns
    (unlisted s c.args.next_id k w p c.requires.asked.alive fd length before n names) c.in-Ok.ensures.ok in
    subst (λ (conns : ConnTable). StandsAfter (record s { kernel = new; conns = conns }) c.args.next_id k
    before before
    c.reply_of-reply.result (row k p t c.args.request.now before)) (sym back)
    (subst (λ (q : Request). StandsAfter (record s { kernel = new }) c.args.next_id k before before
    c.reply_of-reply.result (row k p t q before)) (sym c.in-Connect.is)
    (connect_stays s c.args.next_id k w p t fd c.in-Connect.address length before asked n names new
    c.reply_of-reply.result (sym c.is_done.ensures ∙ c.if-not-is_done.true) told))

pub returns : goal.returns
returns c =
    let s = c.args.system.now in
    let k = c.args.stood.now.kernel in
    let w = c.requires.wrapped in
    let p = c.args.p in
    let t = c.args.t.0 in
    let before = c.args.transfer.now in
    let fd = c.in-Connect.fd in
    let length = c.in-Connect.length in
    let n = c.name_connect-named.result in
    let new = c.connect.new.kernel in
    let asked = subst (λ q. IsAsked k p t q before) c.in-Connect.is c.requires.asked in
    let names = subst (λ bytes. IsNamedConnect (given_of s) k p fd length bytes n)
    c.as_slice.ensures.value (c.name_connect-named.ensures k c.args.next_id w c.real_caller-who.ensures) in
    let told = subst (Answered (Says s c.args.next_id k w p t fd c.in-Connect.address length before asked n
    names new)
    (new ≡ s.kernel)) (sym c.reply_of-reply.ensures)
    (answered s c.args.next_id k w p t fd c.in-Connect.address length before asked n names new
    c.real_caller-who.result c.real_caller-who.ensures c.connect.result c.connect.ensures.ok
    c.connect.ensures.err) in
    subst (λ (conns : ConnTable). StandsAfter (record s { kernel = new; conns = conns }) c.args.next_id k
    before before
    c.reply_of-reply.result (row k p t c.args.request.now before))
    (sym (c.settle.ensures ∙ ap (λ (conns : ConnTable). settled conns p n.listed) c.in-Ok.ensures.ok))
    (subst (λ (q : Request). StandsAfter
    (record s { kernel = new; conns = settled (with_listed s.conns n.listed) p n.listed }) c.args.next_id k
    before
    before c.reply_of-reply.result (row k p t q before)) (sym c.in-Connect.is)
    (connect_done s c.args.next_id k w p t fd c.in-Connect.address length before asked n names new
    c.reply_of-reply.result (sym c.is_done.ensures ∙ c.if-not-is_done.false) told))
