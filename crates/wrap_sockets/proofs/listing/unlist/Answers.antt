use Rattle.std.proofs.Common.{ap, ◌∙◌, subst, arith}
use Rattle.wrap_sockets.specs.Listing.{with_listed, IsUnlisted}
use Rattle.wrap_sockets.proofs.Unlisted.{unlisted_again}
use Rattle.wrap_sockets.proofs.listing.unlist.Goals as goal

pub returns : goal.returns
returns c before free is =
    unlisted_again before c.in-Some.listed (subst (IsUnlisted before) c.in-Some.is free) c.args.conns.now
    c.drop_end.new.self c.drop_end-2.new.self (is ∙ ap (with_listed before) c.in-Some.is)
    (c.drop_end.ensures.closed (omega arith)) (c.drop_end-2.ensures.closed (omega arith))
