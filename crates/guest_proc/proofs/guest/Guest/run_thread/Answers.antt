use Rattle.std.proofs.Common.{◌≡◌, ◌∙◌, ap, refl, sym, subst, false}
use Rattle.std.specs.Prelude.{Some, option_map}
use Rattle.std.specs.FinMap as map
use Rattle.plain_process.specs.declared.user_part.UserPart.{UserPart}
use Rattle.plain_process.specs.Steps.{user_step, user_steps, waits, with_regs}
use Rattle.guest_threads.specs.Threads.{changed}
use Rattle.thread_group.specs.Groups.{joined}
use Rattle.guest_proc.specs.Guests.{GuestPart, Tells, with_parts}
use Rattle.guest_proc.proofs.GuestLemmas.{steps, tells}
use Rattle.guest_proc.proofs.guest.Guest.run_thread.Goals as goal

abbrev before : (c : goal.After-ran_of) → UserPart
before c = joined c.self.inside.memory c.self.inside.group

abbrev after : (c : goal.After-ran_of) → UserPart
after c = with_parts (before c) c.run-count.new.self.pages (changed (before c).threads c.args.t.0 (λ thread. with_regs thread c.run-count.new.regs))

idle : (c : goal.After-ran_of) → waits (before c) c.args.t.0 ≡ false
idle c = ap (λ (v : GuestPart). waits v.user c.args.t.0) c.self.view_is ∙ c.requires.idle

has : (c : goal.After-ran_of) → option_map (λ thread. thread.regs) (map.get (before c).threads c.args.t.0) ≡ Some c.regs_of-regs.result
has c = subst (λ (v : GuestPart). option_map (λ thread. thread.regs) (map.get v.user.threads c.args.t.0) ≡ Some c.regs_of-regs.result) (sym c.self.view_is) c.regs_of-regs.ensures

-- the two parts of the guest after the run
parts : (c : goal.After-ran_of) → after c ≡ joined c.run-count.new.self c.set_regs.new.self
parts c = λ k. joined (sym c.run-count.ensures.rest k) (sym c.set_regs.ensures k)

pub returns-clause-steps : goal.returns-clause-steps
returns-clause-steps c =
    ap (λ (v : GuestPart). user_steps c.run-count.result.0 v.user c.args.t.0) (sym c.self.view_is)
    ∙ steps (before c) c.args.t.0 c.run-count.result.0 c.regs_of-regs.result c.run-count.new.regs c.run-count.new.self.pages _ (has c) (idle c) c.run-count.ensures.run refl
    ∙ ap (λ (u : UserPart). Some u) (parts c)

pub returns-clause-place : goal.returns-clause-place
returns-clause-place c =
    subst (λ (u : UserPart). Tells c.ran_of.result (user_step u c.args.t.0)) (parts c)
    (tells (before c) c.args.t.0 c.run-count.result.1 c.ran_of.result c.regs_of-regs.result c.run-count.new.regs c.run-count.new.self.pages _ (has c) (idle c) c.run-count.ensures.stop c.ran_of.ensures refl)
