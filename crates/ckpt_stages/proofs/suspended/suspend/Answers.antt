use Rattle.std.proofs.Common.{refl, sym, ap, subst, ◌∙◌}
use Rattle.host_tables.specs.declared.system.System.{System}
use Rattle.cut_stages.specs.Cuts.{put_back}
use Rattle.ckpt_stages.specs.Suspensions.{IsSuspended}
use Rattle.ckpt_stages.proofs.Suspending.{suspended, entered_voters}
use Rattle.ckpt_stages.proofs.suspended.suspend.Goals as goal

pub invariant_of-result : goal.invariant_of-result
invariant_of-result c =
    subst (λ (s : System). IsSuspended s c.args.next_id c.args.stood.kernel c.args.reserved.owners
    c.args.reserved.voters
    c.args.reserved.dirs.items c.args.reserved.ends c.args.reserved.room)
    (sym (c.put_back.ensures ∙ ap (λ owners. put_back owners c.args.system) c.new-nobody.ensures))
    (suspended c.args.system c.args.next_id c.args.stood.kernel c.requires.wrapped c.args.reserved.owners
    c.args.reserved.voters c.args.reserved.dirs.items c.args.reserved.ends c.args.reserved.room
    c.requires.reserved c.requires.supported)

pub returns : goal.returns
returns c = record {
  kernel = refl;
  next = refl;
  barrier_is = refl;
  voters = entered_voters c.args.system c.args.next_id c.args.stood.kernel c.requires.wrapped
      c.args.reserved.voters
      c.requires.reserved.voting;
}
