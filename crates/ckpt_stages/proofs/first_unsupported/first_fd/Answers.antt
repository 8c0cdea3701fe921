use Rattle.std.proofs.Common.{◌<◌, ◌≤◌, sym, arith, ◌∙◌}
use Rattle.fd_tables.specs.Numbers.{first_above}
use Rattle.ckpt_stages.proofs.FirstOnes.{fd_on, fd_found, fd_done}
use Rattle.ckpt_stages.proofs.first_unsupported.first_fd.Goals as goal

pub loop-fd-init : goal.loop-fd-init
loop-fd-init c fd below = absurd (omega (arith, below))

pub loop-fd-smaller : goal.loop-fd-smaller
loop-fd-smaller c =
    let from_on : first_above c.loop-fd.above ≤ c.in-Some.fd.0 = c.in-Some.ensures.from_on in
    let in_range : c.in-Some.fd.0 < 256 = c.in-Some.ensures.in_range in
    omega arith

pub loop-fd-preserved : goal.loop-fd-preserved
loop-fd-preserved c =
    fd_on c.args.book.now c.args.r c.loop-fd.above c.loop-fd.invariant c.in-Some.fd.0 c.in-Some.ensures
    (sym c.kind_at.ensures ∙ c.in_default-kind_at.is)

pub returns-in-Some-kind_at : goal.returns-in-Some-kind_at
returns-in-Some-kind_at c =
    fd_found c.args.book.now c.args.r c.loop-fd.above c.loop-fd.invariant c.in-Some.fd c.in-Some-kind_at.kind
    c.in-Some.ensures (sym c.kind_at.ensures ∙ c.in-Some-kind_at.is)

pub returns : goal.returns
returns c = fd_done c.args.book.now c.args.r c.loop-fd.above c.loop-fd.invariant c.in_default.ensures
