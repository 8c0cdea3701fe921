use Rattle.std.proofs.Common.{◌≡◌, Result, sym, subst}
use Rattle.sys_abi.specs.declared.reply.Errno.{Errno}
use Rattle.plain_machine.specs.Rows.Sockets.{bind_row}
use Rattle.host_streams.specs.HandedOn.{seen_held}
use Rattle.host_streams.specs.OfHostTables.Systems.{given_of}
use Rattle.wrap_names.specs.declared.binding.Bound.{Bound}
use Rattle.wrap_names.specs.Binding.{bound_told}
use Rattle.wrap_names.proofs.BindRow.{bind_fails, bind_refused, no_address, bind_gives}
use Rattle.wrap_names.proofs.HandedOn.{handed_on}
use Rattle.wrap_names.proofs.HostsFor.{is_unbound}
use Rattle.wrap_names.proofs.binding.find_bound.Goals as goal

pub returns-in_err-held-clause-told : goal.returns-in_err-held-clause-told
returns-in_err-held-clause-told c k next_id p w paired =
    let s = c.args.system.now in
    let given = c.args.given.now in
    let e = c.in_err-held.field-0.0 in
    subst (λ (r : Result Bound Errno). bind_row k p c.args.fd c.args.length given
    ≡ bound_told (given_of s) s.kernel k r)
    (sym (handed_on c.from_residual.result e c.from_residual.ensures.1))
    (bind_fails k p c.args.fd c.args.length given e.0 (c.in_err-held.ensures.told k next_id p w paired))

pub returns-in_err-own-clause-told : goal.returns-in_err-own-clause-told
returns-in_err-own-clause-told c k next_id p w paired =
    let s = c.args.system.now in
    let given = c.args.given.now in
    let e = c.in_err-own.field-0.0 in
    let h = seen_held (given_of s) s.kernel c.in_ok-held.held in
    subst (λ (r : Result Bound Errno). bind_row k p c.args.fd c.args.length given
    ≡ bound_told (given_of s) s.kernel k r)
    (sym (handed_on c.from_residual-in_err-own.result e c.from_residual-in_err-own.ensures.1))
    (bind_refused k p c.args.fd c.args.length given h (c.in_ok-held.ensures.told k next_id p w paired) e.0
    (c.in_err-own.ensures s.kernel.datagrams))

pub returns-in_err-address-clause-told : goal.returns-in_err-address-clause-told
returns-in_err-address-clause-told c k next_id p w paired =
    let s = c.args.system.now in
    let given = c.args.given.now in
    let e = c.in_err-address.field-0.0 in
    let h = seen_held (given_of s) s.kernel c.in_ok-held.held in
    subst (λ (r : Result Bound Errno). bind_row k p c.args.fd c.args.length given
    ≡ bound_told (given_of s) s.kernel k r)
    (sym (handed_on c.from_residual-in_err-address.result e c.from_residual-in_err-address.ensures.1))
    (no_address k p c.args.fd c.args.length given h (c.in_ok-held.ensures.told k next_id p w paired)
    c.in_ok-own.own (c.in_ok-own.ensures s.kernel.datagrams) e.0 (c.in_err-address.ensures k next_id w))

pub returns-clause-told : goal.returns-clause-told
returns-clause-told c k next_id p w paired =
    let s = c.args.system.now in
    let given = c.args.given.now in
    let h = seen_held (given_of s) s.kernel c.in_ok-held.held in
    bind_gives k p c.args.fd c.args.length given h (c.in_ok-held.ensures.told k next_id p w paired)
    c.in_ok-own.own (c.in_ok-own.ensures s.kernel.datagrams) c.in_ok-address.address
    (c.in_ok-address.ensures k next_id w)

pub returns-clause-there : goal.returns-clause-there
returns-clause-there c =
    let s = c.args.system.now in
    record {
      held = c.in_ok-held.ensures.there;
      socket = is_unbound s.conns.names s.kernel.datagrams c.in_ok-held.held.desc c.args.length
          c.in_ok-own.own c.in_ok-held.held.description.object (c.in_ok-own.ensures s.kernel.datagrams);
    }
