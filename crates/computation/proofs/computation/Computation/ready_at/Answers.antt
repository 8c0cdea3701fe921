use Rattle.std.proofs.Common.{not, sym, ap, ◌∙◌}
use Rattle.std.specs.Option.{option_copied}
use Rattle.computation.specs.Computations.{plain_of}
use Rattle.computation.proofs.Threads.{part_of, none_goes, nobody_goes, goes_is}
use Rattle.computation.proofs.computation.Computation.ready_at.Goals as goal

pub returns-in_default-clause-goes : goal.returns-in_default-clause-goes
returns-in_default-clause-goes c =
    none_goes (plain_of c.args.self.now) c.args.p c.args.t.0 (part_of c.args.self.now.guests c.args.p _ (sym (ap option_copied c.in_default.is) ∙ c.get.ensures))

pub returns-then-not-has_thread-clause-goes : goal.returns-then-not-has_thread-clause-goes
returns-then-not-has_thread-clause-goes c =
    nobody_goes (plain_of c.args.self.now) c.args.p c.args.t.0 c.in-Some.guest.now.user
    (part_of c.args.self.now.guests c.args.p _ (sym (ap option_copied c.in-Some.is) ∙ c.get.ensures)) (sym c.has_thread.ensures ∙ c.if-not-has_thread.true)

pub returns-then-is_idle-clause-goes : goal.returns-then-is_idle-clause-goes
returns-then-is_idle-clause-goes c =
    let g = plain_of c.args.self.now in
    ap not (sym c.if-is_idle.true ∙ c.is_idle.ensures g.users)
    ∙ goes_is g c.args.p c.args.t.0 c.in-Some.guest.now.user
    (part_of c.args.self.now.guests c.args.p _ (sym (ap option_copied c.in-Some.is) ∙ c.get.ensures)) (sym c.has_thread.ensures ∙ c.if-not-has_thread.false)

pub returns-clause-goes : goal.returns-clause-goes
returns-clause-goes c =
    let g = plain_of c.args.self.now in
    ap not (sym c.if-is_idle.false ∙ c.is_idle.ensures g.users)
    ∙ goes_is g c.args.p c.args.t.0 c.in-Some.guest.now.user
    (part_of c.args.self.now.guests c.args.p _ (sym (ap option_copied c.in-Some.is) ∙ c.get.ensures)) (sym c.has_thread.ensures ∙ c.if-not-has_thread.false)

pub returns-clause-can : goal.returns-clause-can
returns-clause-can c = record {
  stands = record {
    user = c.in-Some.guest.now.user;
    there = part_of c.args.self.now.guests c.args.p _ (sym (ap option_copied c.in-Some.is) ∙ c.get.ensures);
    thread = sym c.has_thread.ensures ∙ c.if-not-has_thread.false;
    stands = c.look-ran.ensures;
  };
  goes = sym (returns-clause-goes c);
}
