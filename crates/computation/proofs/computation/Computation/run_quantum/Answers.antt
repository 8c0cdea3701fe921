use Rattle.std.proofs.Common.{◌≡◌, true, None, refl, sym, ap, subst, ◌∙◌}
use Rattle.std.specs.Prelude.{is_some}
use Rattle.std.specs.FinMap as map
use Rattle.views.proofs.MapLaws.{get_insert_same}
use Rattle.views.proofs.Outcomes.{on_some}
use Rattle.sys_abi.proofs.OrderLaws.{vpid_total, vpid_exact}
use Rattle.sys_abi.specs.declared.record.Record.TheVariants.{User}
use Rattle.guest_proc.specs.Guests.{ran_at}
use Rattle.guest_proc.specs.declared.ran.Ran.TheVariants.{Whole}
use Rattle.plain_process.specs.declared.user_part.UserPart.{UserPart}
use Rattle.plain_process.specs.Steps.{user_step}
use Rattle.computation.specs.Computations.{plain_of}
use Rattle.computation.specs.Parts.{Guests}
use Rattle.computation.proofs.Numbered.{Numbered, numbered_put}
use Rattle.computation.proofs.Taking.{takes_valid}
use Rattle.computation.proofs.Quanta.{some_run, ends_well, keeps_thread}
use Rattle.computation.proofs.Effects.{user_goes, missing_part, found_part, same_part, nobody, put_takes}
use Rattle.computation.proofs.computation.Computation.run_quantum.Goals as goal

pub unreachable-requires : goal.unreachable-requires
unreachable-requires c = nobody _ c.requires.runs.user (missing_part c.args.self.now.guests c.args.p c.in_default.ensures.value) c.requires.runs.there

pub run-n-requires-clause-thread : goal.run-n-requires-clause-thread
run-n-requires-clause-thread c =
    let same = same_part c.args.self.now.guests c.args.p c.in-Some.guest.now c.requires.runs.user c.in-Some.ensures.value c.requires.runs.there in
    subst (λ (u : UserPart). is_some (map.get u.threads c.args.t.0) ≡ true) (sym same) c.requires.runs.thread

pub place_after-stands-requires-clause-thread : goal.place_after-stands-requires-clause-thread
place_after-stands-requires-clause-thread c =
    let guest = c.in-Some.guest.now in
    let same = same_part c.args.self.now.guests c.args.p guest c.requires.runs.user c.in-Some.ensures.value c.requires.runs.there in
    let there = subst (λ (u : UserPart). is_some (map.get u.threads c.args.t.0) ≡ true) (sym same) c.requires.runs.thread in
    keeps_thread c.run-n.result.0 guest.user c.run-n.new.self.user c.args.t.0 there c.run-n.ensures.steps

pub returns-clause-took : goal.returns-clause-took
returns-clause-took c = (
  c.run-n.result.0,
  λ taken.
      let run = c.run-n.ensures in
      let guest = c.in-Some.guest.now in
      let after = c.run-n.new.self in
      let same = same_part c.args.self.now.guests c.args.p guest c.requires.runs.user c.in-Some.ensures.value c.requires.runs.there in
      let goes : ran_at (user_step guest.user c.args.t.0) ≡ Whole = subst (λ (u : UserPart). ran_at (user_step u c.args.t.0) ≡ Whole) (sym same) (sym c.requires.runs.stands) in
      let some = some_run guest.user after.user c.args.t.0 c.run-n.result.0 c.run-n.result.1 goes run.steps run.place run.whole.0 in
      let ends = ends_well guest.user after.user c.args.t.0 c.run-n.result.0 c.run-n.result.1 some run.steps run.place run.whole.0 in
      put_takes c.args.self.now _ c.args.p after after.user (User c.args.p c.args.t c.run-n.result.0)
      (user_goes (plain_of c.args.self.now) c.args.p c.args.t c.run-n.result.0 guest.user after.user (found_part c.args.self.now.guests c.args.p guest c.in-Some.ensures.value) some run.count run.steps ends)
      (on_some c.in-Some.is (c.get_mut.follows.holds after)) refl c.args.trace.now c.append.new.self taken c.append.ensures,
)

pub returns-clause-ready : goal.returns-clause-ready
returns-clause-ready c = record {
  valid = takes_valid _ _ _ _ _ _ c.requires.ready.valid ((returns-clause-took c).1 None);
  numbered = subst Numbered (sym (on_some c.in-Some.is (c.get_mut.follows.holds c.run-n.new.self)))
      (numbered_put c.args.self.now.guests c.args.p c.run-n.new.self c.requires.ready.numbered (c.run-n.ensures.pid ∙ c.requires.ready.numbered c.args.p c.in-Some.guest.now (sym c.in-Some.ensures.value)));
}

pub returns-clause-told : goal.returns-clause-told
returns-clause-told c =
    let guest = c.in-Some.guest.now in
    let after = c.run-n.new.self in
    let same = same_part c.args.self.now.guests c.args.p guest c.requires.runs.user c.in-Some.ensures.value c.requires.runs.there in
    let before = subst (λ (u : UserPart). is_some (map.get u.threads c.args.t.0) ≡ true) (sym same) c.requires.runs.thread in
    let put = on_some c.in-Some.is (c.get_mut.follows.holds after) in
    let found = sym (ap (λ (guests : Guests). map.get guests c.args.p) put ∙ get_insert_same vpid_total vpid_exact c.args.self.now.guests c.args.p after) in
    record {
      user = after.user;
      there = found_part _ c.args.p after found;
      thread = keeps_thread c.run-n.result.0 guest.user after.user c.args.t.0 before c.run-n.ensures.steps;
      stands = c.place_after-stands.ensures;
    }
