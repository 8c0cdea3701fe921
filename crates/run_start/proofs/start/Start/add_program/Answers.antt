use Rattle.std.proofs.Common.{◌≤◌, [], ◌∷◌, ◌++◌, length, sym, ap, subst, arith}
use Rattle.std.proofs.lemmas.Grind.{common_steps}
use Rattle.computation.specs.OfGuestProc.Guests.{GuestPart}
use Rattle.plain_process.specs.Start.{Launched}
use Rattle.plain_machine.specs.Valid.{IsValid}
use Rattle.plain_machine.proofs.StartKernels.{start_is_valid}
use Rattle.computation.proofs.Numbered.{Numbered, OnOk-map, numbered_put}
use Rattle.run_start.proofs.Starts.{all_launched, program_added, all_arrived_at, no_datagrams_at}
use Rattle.run_start.proofs.start.Start.add_program.Goals as goal

pub returns-clause-start : goal.returns-clause-start
returns-clause-start c = OnOk-map c.add_process.result (λ kernel programs files is.
    program_added c.args.self.now c.add_process.new.self c.insert.new.self programs files (record { host = c.args.host; program = c.args.program.now; arguments = c.args.arguments.now }) c.in_ok-guest.guest is
    kernel c.in_ok-insert.ensures.ok (ap (λ (g : GuestPart). g.user) c.in_ok-guest.ensures)) c.add_process.ensures.ok

pub returns-clause-ready : goal.returns-clause-ready
returns-clause-ready c = OnOk-map c.add_process.result (λ starts.
    let given = c.requires.start in
    let job : Launched = record { host = c.args.host; program = c.args.program.now; arguments = c.args.arguments.now } in
    let count : length (given.0 ++ job ∷ []) ≤ 128 = let few = given.1.1.3 in grind (arith, common_steps) in
    record {
      valid = subst IsValid (sym (starts given.0 given.1.0 given.1.1.0)) (start_is_valid (given.0 ++ job ∷ []) given.1.0 count (all_launched given.0 job given.1.1.2 c.requires.launched) given.1.1.1);
      numbered = subst Numbered (sym c.in_ok-insert.ensures.ok) (numbered_put c.args.self.now.guests _ c.in_ok-guest.guest c.requires.ready.numbered (ap (λ (g : GuestPart). g.pid) c.in_ok-guest.ensures));
      arrived = all_arrived_at c.add_process.new.self c.insert.new.self _ _ (starts given.0 given.1.0 given.1.1.0);
      plain = no_datagrams_at c.add_process.new.self c.insert.new.self _ _ (starts given.0 given.1.0 given.1.1.0);
    }) (returns-clause-start c)
