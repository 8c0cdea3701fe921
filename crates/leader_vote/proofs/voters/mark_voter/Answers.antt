use Rattle.std.proofs.Common.{◌≡◌, true, sym, ap, subst, ◌∙◌}
use Rattle.std.specs.Prelude.{OnSome}
use Rattle.std.specs.Option.{option_copied_mut, option_map_or}
use Rattle.std.specs.FinMap as map
use Rattle.leader_vote.proofs.voters.mark_voter.Goals as goal

pub returns : goal.returns
returns c =
    subst (λ lent. OnSome lent (c.get_mut.follows.lender true ≡ map.insert c.args.voters.now c.args.p
    true)) c.in-Some.is
    (c.get_mut.follows.holds true)
    ∙ sym (ap (λ found. option_map_or (λ _. map.insert c.args.voters.now c.args.p true) found
    c.args.voters.now)
    (sym c.get_mut.ensures.value ∙ ap option_copied_mut c.in-Some.is))
