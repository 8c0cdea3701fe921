use Rattle.std.proofs.Common.{sym, ap, ◌∙◌, subst}
use Rattle.std.specs.Prelude.{Option}
use Rattle.std.proofs.lemmas.Bool.{eq-eqb, ne_eqb}
use Rattle.sys_abi.specs.declared.identity.DescId.{DescId}
use Rattle.fd_tables.specs.declared.description.Object.TheVariants.{Socket}
use Rattle.host_tables.specs.declared.attempt.Attempt.TheVariants.{Gives, Fails}
use Rattle.host_tables.specs.Conditions.{IsNewDesc}
use Rattle.host_makers.specs.Places.{new_desc, IsPlaced}
use Rattle.host_makers.proofs.MadeCalls.{SocketSays, socket_foreign, socket_refused, socket_unnumbered, socket_full, socket_made}
use Rattle.host_makers.proofs.sockets.socket.Goals as goal

pub returns-then-domain-ne-AF_INET-clause-ok : goal.returns-then-domain-ne-AF_INET-clause-ok
returns-then-domain-ne-AF_INET-clause-ok c g k p whole st paired x named =
    socket_foreign g c.args.kernel.now k p x c.args.domain c.args.socket_type c.args.protocol c.args.id
    (ne_eqb c.args.domain 2 c.if-domain-ne-AF_INET.true)

pub returns-then-not-is_internet_stream-clause-ok : goal.returns-then-not-is_internet_stream-clause-ok
returns-then-not-is_internet_stream-clause-ok c g k p whole st paired x named =
    socket_refused g c.args.kernel.now k p x c.args.domain c.args.socket_type c.args.protocol c.args.id
    (eq-eqb c.args.domain 2 c.if-domain-ne-AF_INET.false)
    (sym c.is_internet_stream.ensures ∙ c.if-not-is_internet_stream.true)

pub returns-in_default-clause-ok : goal.returns-in_default-clause-ok
returns-in_default-clause-ok c g k p whole st paired x named =
    socket_unnumbered g c.args.kernel.now k p x c.args.domain c.args.socket_type c.args.protocol c.args.id
    (eq-eqb c.args.domain 2 c.if-domain-ne-AF_INET.false)
    (sym c.is_internet_stream.ensures ∙ c.if-not-is_internet_stream.false) (sym c.in_default.is ∙ named)

pub returns-in-Some-2-clause-ok : goal.returns-in-Some-2-clause-ok
returns-in-Some-2-clause-ok c g k p whole st paired x named =
    let real = c.args.kernel.now in
    subst (λ (id : Option DescId). SocketSays g real k p x c.args.domain c.args.socket_type c.args.protocol id
    (record real { book = c.place.new.book }) (Gives c.in-Some-2.fd.0)) (sym c.in-Some.is)
    (socket_made g real k p x st c.args.who paired c.in-Some.id (sym c.in-Some.is ∙ named)
    (subst (IsNewDesc real.book) c.in-Some.is c.requires) c.place.new.book c.new_desc-desc.result
    c.has_cloexec.result c.args.domain c.args.socket_type c.args.protocol
    (eq-eqb c.args.domain 2 c.if-domain-ne-AF_INET.false)
    (sym c.is_internet_stream.ensures ∙ c.if-not-is_internet_stream.false) c.in-Some-2.fd.0
    (subst (IsPlaced real.book c.place.new.book c.args.who c.in-Some.id c.new_desc-desc.result
    c.has_cloexec.result)
    c.in-Some-2.is c.in_ok-fd.ensures.ok)
    (c.new_desc-desc.ensures ∙ ap (new_desc Socket) c.socket_flags.ensures) c.has_cloexec.ensures)

pub returns-in-None-clause-ok : goal.returns-in-None-clause-ok
returns-in-None-clause-ok c g k p whole st paired x named =
    let real = c.args.kernel.now in
    subst (λ (id : Option DescId). SocketSays g real k p x c.args.domain c.args.socket_type c.args.protocol id
    (record real { book = c.place.new.book }) (Fails (record { 0 = 24 }))) (sym c.in-Some.is)
    (socket_full g real k p x st c.args.who paired c.in-Some.id (sym c.in-Some.is ∙ named)
    (subst (IsNewDesc real.book) c.in-Some.is c.requires) c.place.new.book c.new_desc-desc.result
    c.has_cloexec.result c.args.domain c.args.socket_type c.args.protocol
    (eq-eqb c.args.domain 2 c.if-domain-ne-AF_INET.false)
    (sym c.is_internet_stream.ensures ∙ c.if-not-is_internet_stream.false)
    (subst (IsPlaced real.book c.place.new.book c.args.who c.in-Some.id c.new_desc-desc.result
    c.has_cloexec.result)
    c.in-None.is c.in_ok-fd.ensures.ok))
