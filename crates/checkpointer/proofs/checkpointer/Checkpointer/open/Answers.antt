use Rattle.std.proofs.Common.{inl, refl, sym, ◌∙◌, arith}
use Rattle.checkpointer.proofs.Safety.{none_above}
use Rattle.checkpointer.proofs.Served.{reopened_next}
use Rattle.checkpointer.proofs.checkpointer.Checkpointer.open.Goals as goal

pub open_store-requires : goal.open_store-requires
open_store-requires g c = none_above (g.F.Folder.seen c.args.disk.now).files c.args.self.now.tally.greatest c.requires.kept.above

pub returns-in-Some-clause-ok : goal.returns-in-Some-clause-ok
returns-in-Some-clause-ok g c = c.requires.kept.fits c.in-Some.store (sym c.take.ensures.value ∙ c.in-Some.is)

pub returns-in-Some-clause-nothing : goal.returns-in-Some-clause-nothing
returns-in-Some-clause-nothing g c = record {
  same = refl;
  crash = record {
    later = omega arith;
    now = λ image left. (image, left, refl);
    since = λ t image le left. inl left;
    keeps = λ t image le left. left;
    wants = λ want. want;
  };
}

pub returns-in-Ok-clause-ok : goal.returns-in-Ok-clause-ok
returns-in-Ok-clause-ok g c =
    let none = c.requires.kept.floor (sym c.take.ensures.value ∙ c.in-None.is) in
    (c.in-Ok.ensures.fits, reopened_next c.in-Ok.store c.args.self.now.tally.greatest c.in-Ok.ensures.floor none (c.in-Ok.ensures.passed none))
