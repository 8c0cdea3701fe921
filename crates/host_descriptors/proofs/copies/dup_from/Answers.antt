use Rattle.std.proofs.Common.{refl, sym, ap, subst, Err}
use Rattle.sys_abi.specs.declared.errors.TheConstants.{EBADF, EMFILE}
use Rattle.fd_book.specs.Books.{Books}
use Rattle.host_tables.specs.declared.attempt.Attempt.TheVariants.{Fails}
use Rattle.host_descriptors.proofs.HeldTold.{there_by}
use Rattle.host_descriptors.proofs.Dups.{Says, the_row, ok_err, some_none, serves_bad, serves_full, serves_placed}
use Rattle.host_descriptors.proofs.copies.dup_from.Goals as goal

pub returns-in-Ok-clause-ok : goal.returns-in-Ok-clause-ok
returns-in-Ok-clause-ok c g k p whole st paired x low =
    let there = there_by c.args.kernel.now c.args.who c.args.fd c.whole.ensures _ refl
    (λ none. ok_err _ _ (c.in-Ok.ensures.bad.1 none)) in
    serves_placed g c.args.kernel.now k st p c.args.who paired c.args.fd c.args.from low c.args.cloexec x there
    c.dup_from.new.self c.in-Ok.to.0 c.in-Ok.ensures.lowest (c.in-Ok.ensures.ok there.descriptor there.at)

pub returns-in-Err-BadFd-clause-ok : goal.returns-in-Err-BadFd-clause-ok
returns-in-Err-BadFd-clause-ok c g k p whole st paired x low =
    let real = c.args.kernel.now in
    subst (λ (b : Books). Says g real k st p c.args.who paired c.args.fd c.args.from low c.args.cloexec x
    (record real { book = b }) (Fails (record { 0 = EBADF }))
    (the_row g real k st p c.args.who paired c.args.fd c.args.from low c.args.cloexec x))
    (sym c.in-Err-BadFd.ensures.err)
    (serves_bad g real k st p c.args.who paired c.args.fd c.args.from low c.args.cloexec x
    (c.in-Err-BadFd.ensures.bad.0 (ap Err c.in-Err-BadFd.field-0-is)))

pub returns-in-Err-TooMany-clause-ok : goal.returns-in-Err-TooMany-clause-ok
returns-in-Err-TooMany-clause-ok c g k p whole st paired x low =
    let real = c.args.kernel.now in
    let full = c.in-Err-TooMany.ensures.too_many.0 (ap Err c.in-Err-TooMany.field-0-is) in
    let there = there_by real c.args.who c.args.fd c.whole.ensures _ refl (some_none _ full.0) in
    subst (λ (b : Books). Says g real k st p c.args.who paired c.args.fd c.args.from low c.args.cloexec x
    (record real { book = b }) (Fails (record { 0 = EMFILE }))
    (the_row g real k st p c.args.who paired c.args.fd c.args.from low c.args.cloexec x))
    (sym c.in-Err-TooMany.ensures.err)
    (serves_full g real k st p c.args.who paired c.args.fd c.args.from low c.args.cloexec x there full.1)
