use Rattle.std.proofs.Common.{ℕ, true, false, None, sym, ◌∙◌, subst}
use Rattle.sys_abi.specs.declared.errors.TheConstants.{ESRCH}
use Rattle.host_tables.specs.OfPlainMachine.Rows.Descriptors.{with_owner, set_owner}
use Rattle.host_tables.specs.Serves.{ByNumber}
use Rattle.host_tables.specs.Stands.{Stands}
use Rattle.host_tables.proofs.Neighbours.{neighbour_some, neighbour_none}
use Rattle.host_tables.proofs.Replies.{refused}
use Rattle.host_descriptors.specs.Held.{seen_held}
use Rattle.host_descriptors.proofs.HeldChanges.{may_own_is, may_own_nobody, known_pair}
use Rattle.host_descriptors.proofs.FcntlRows.{own_refused, own_done}
use Rattle.host_descriptors.proofs.commands.set_owner.Goals as goal

pub returns-then-argument-eq0 : goal.returns-then-argument-eq0
returns-then-argument-eq0 c g k p x whole st target =
    let real = c.args.kernel.now in
    let h = seen_held g real c.args.held in
    own_done g real x k p h c.args.argument
    (may_own_nobody g real k st p c.args.argument c.if-argument-eq0.true) c.own.new.kernel
    (subst (λ (n : ℕ). Stands g None c.own.new.kernel (with_owner k h n)) (sym c.if-argument-eq0.true)
    (c.own.ensures g k st tt))

pub returns-in_default : goal.returns-in_default
returns-in_default c g k p x whole st target =
    let real = c.args.kernel.now in
    let h = seen_held g real c.args.held in
    refused g real x ByNumber ESRCH (set_owner k p h c.args.argument)
    (own_refused g real x k p h c.args.argument
    (may_own_is g real k st p c.args.argument c.if-argument-eq0.false false
    (neighbour_none g real k st p c.args.argument (sym c.in_default.is ∙ target))))

pub returns-then-not-is_live : goal.returns-then-not-is_live
returns-then-not-is_live c g k p x whole st target =
    let real = c.args.kernel.now in
    let h = seen_held g real c.args.held in
    let may = neighbour_some g real k st p c.args.argument c.in-Some.owner (sym c.in-Some.is ∙ target) in
    refused g real x ByNumber ESRCH (set_owner k p h c.args.argument)
    (own_refused g real x k p h c.args.argument
    (may_own_is g real k st p c.args.argument c.if-argument-eq0.false false
    (may.1 ∙ sym c.is_live.ensures ∙ c.if-not-is_live.true)))

pub returns : goal.returns
returns c g k p x whole st target =
    let real = c.args.kernel.now in
    let h = seen_held g real c.args.held in
    let may = neighbour_some g real k st p c.args.argument c.in-Some.owner (sym c.in-Some.is ∙ target) in
    let known = known_pair g real k st c.args.argument c.in-Some.owner may.0 in
    own_done g real x k p h c.args.argument
    (may_own_is g real k st p c.args.argument c.if-argument-eq0.false true
    (may.1 ∙ sym c.is_live.ensures ∙ c.if-not-is_live.false)) c.own-2.new.kernel
    (subst (λ (n : ℕ). Stands g None c.own-2.new.kernel (with_owner k h n)) known.1
    (c.own-2.ensures g k st known.0))
