use Rattle.std.proofs.Common.{◌≡◌, ◌≤◌, true, false, sym, ◌∙◌, subst, arith}
use Rattle.std.specs.Prelude.{nat_lt}
use Rattle.std.proofs.lemmas.Bool.Decides.{nat_tests}
use Rattle.std.proofs.lemmas.Result.{IfOk-weaker}
use Rattle.sys_abi.specs.declared.errors.TheConstants.{EINVAL}
use Rattle.host_tables.specs.OfPlainMachine.Rows.Descriptors.{dup_from, dup_above}
use Rattle.host_tables.specs.Serves.{Serves, ByNumber, same}
use Rattle.host_descriptors.specs.Held.{seen_held}
use Rattle.host_tables.proofs.Replies.{refused}
use Rattle.host_descriptors.proofs.FcntlRows.{above_limit, above_is, past_held}
use Rattle.host_descriptors.proofs.commands.dup_above.Goals as goal

pub returns-then-argument-ge-DESCRIPTOR_LIMIT-clause-ok : goal.returns-then-argument-ge-DESCRIPTOR_LIMIT-clause-ok
returns-then-argument-ge-DESCRIPTOR_LIMIT-clause-ok c g k p whole st paired x =
    let real = c.args.kernel.now in
    let h = seen_held g real c.args.held in
    let far = c.if-argument-ge-DESCRIPTOR_LIMIT.true in
    let past : nat_lt c.args.argument 256 ≡ false = grind (arith, nat_tests, far) in
    refused g real x ByNumber EINVAL (dup_above k p h c.args.argument c.args.cloexec)
    (above_limit g real x k p h c.args.argument c.args.cloexec past)

pub returns-clause-ok : goal.returns-clause-ok
returns-clause-ok c =
    let near = c.if-argument-ge-DESCRIPTOR_LIMIT.false in
    let low : nat_lt c.args.argument 256 ≡ true = grind (arith, nat_tests, near) in
    let under : c.args.argument ≤ 256 = grind (arith, near) in
    IfOk-weaker c.dup_from.result _ _ (λ a serves g k p whole st paired x.
    subst (λ m. Serves ByNumber same g c.args.kernel.now c.dup_from.new.kernel x x a m)
    (past_held g c.args.kernel.now k st p c.args.who paired c.args.fd c.args.argument x c.args.held c.requires.held
    (λ h. dup_from k p h c.args.argument c.args.cloexec)
    ∙ sym (above_is g c.args.kernel.now x k p (seen_held g c.args.kernel.now c.args.held) c.args.argument
    c.args.cloexec low))
    (serves g k p whole st paired x under))
    c.dup_from.ensures.ok
