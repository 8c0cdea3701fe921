use Rattle.std.proofs.Common.{◌≡◌, Result, sym, ap, ◌∙◌, subst}
use Rattle.sys_abi.specs.declared.identity.VirtAddr.{VirtAddr}
use Rattle.sys_abi.specs.declared.reply.Errno.{Errno}
use Rattle.plain_machine.specs.Rows.Sockets.{is_own_host, port_for}
use Rattle.plain_ports.specs.Told.{told, same_address}
use Rattle.wrap_names.specs.Binding.{address_for}
use Rattle.wrap_names.proofs.HandedOn.{handed_on}
use Rattle.wrap_names.proofs.HostsFor.{other_family, other_host, no_port, some_port}
use Rattle.wrap_names.proofs.binding.address_for.Goals as goal

pub returns-then-family_of-ne-AF_INET : goal.returns-then-family_of-ne-AF_INET
returns-then-family_of-ne-AF_INET c k next_id w =
    other_family k c.args.own c.args.given.now
    (λ same. c.if-family_of-ne-AF_INET.true (c.family_of.ensures ∙ same))

pub returns-then-not-is_own_host : goal.returns-then-not-is_own_host
returns-then-not-is_own_host c k next_id w =
    other_host k c.args.own c.args.given.now (sym c.family_of.ensures ∙ c.if-family_of-ne-AF_INET.false)
    (sym (c.is_own_host.ensures ∙ ap (is_own_host c.args.own) c.named_host.ensures)
    ∙ c.if-not-is_own_host.true)

pub returns-in_err-port : goal.returns-in_err-port
returns-in_err-port c k next_id w =
    let family = sym c.family_of.ensures ∙ c.if-family_of-ne-AF_INET.false in
    let near = sym (c.is_own_host.ensures ∙ ap (is_own_host c.args.own) c.named_host.ensures)
    ∙ c.if-not-is_own_host.false in
    let e = c.in_err-port.field-0.0 in
    subst (λ (r : Result VirtAddr Errno). address_for k c.args.own c.args.given.now ≡ told same_address r)
    (sym (handed_on c.from_residual.result e c.from_residual.ensures.1))
    (no_port k c.args.own c.args.given.now family near e.0
    (ap (port_for k c.args.own) (sym c.port_of.ensures) ∙ c.in_err-port.ensures k next_id w))

pub returns : goal.returns
returns c k next_id w =
    let family = sym c.family_of.ensures ∙ c.if-family_of-ne-AF_INET.false in
    let near = sym (c.is_own_host.ensures ∙ ap (is_own_host c.args.own) c.named_host.ensures)
    ∙ c.if-not-is_own_host.false in
    some_port k c.args.own c.args.given.now family near c.in_ok-port.port
    (ap (port_for k c.args.own) (sym c.port_of.ensures) ∙ c.in_ok-port.ensures k next_id w)
