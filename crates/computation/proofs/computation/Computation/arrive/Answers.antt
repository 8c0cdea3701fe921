use Rattle.std.proofs.Common.{◌≡◌, None, refl, ap, ◌∙◌}
use Rattle.sys_abi.specs.declared.record.Record.TheVariants.{Arrive}
use Rattle.plain_machine.specs.declared.kernel.PlainKernel.{PlainKernel}
use Rattle.plain_machine.specs.declared.plain.Plain.{Plain}
use Rattle.wrap_calls.specs.HandedOn.{after_arrival}
use Rattle.computation.specs.Computations.{plain_of}
use Rattle.trace_log.specs.Trace.{with_record}
use Rattle.computation.proofs.Arrivals.{with_all, missing_at, found_at, arrival_goes, arrived_kernel, side_is, rest_is}
use Rattle.computation.proofs.Taking.{quiet_takes, valid_after}
use Rattle.computation.proofs.computation.Computation.arrive.Goals as goal

pub arrive-requires : goal.arrive-requires
arrive-requires c =
    let g = plain_of c.args.self.now in
    let is = c.requires.missing in
    side_is g.kernel c.args.dir (missing_at g c.args.dir is.0 is.1).direction c.requires.ready.valid.kernel
    (found_at g c.args.dir is.0 is.1)

pub returns-clause-took : goal.returns-clause-took
returns-clause-took c taken =
    let g = plain_of c.args.self.now in
    let is = c.requires.missing in
    let head = missing_at g c.args.dir is.0 is.1 in
    let there = found_at g c.args.dir is.0 is.1 in
    let kernel : c.arrive.new.self ≡ with_all g.kernel c.args.dir head.direction =
    c.arrive.ensures.arrived ∙ ap (after_arrival g.kernel c.args.dir) c.missing-n.ensures
    ∙ arrived_kernel g.kernel c.args.dir head.direction there head.missing in
    quiet_takes g _ _ _ _ _ taken (arrival_goes g c.args.dir head.direction there head.missing)
    (ap (λ (k : PlainKernel). let h : Plain = record { kernel = k; users = g.users } in h) kernel)
    (c.append.ensures ∙ ap (λ n. with_record c.args.trace.now (Arrive c.args.dir n)) c.missing-n.ensures)

pub returns-clause-rest : goal.returns-clause-rest
returns-clause-rest c rest is =
    let g = plain_of c.args.self.now in
    let head = missing_at g c.args.dir rest is in
    let kernel : c.arrive.new.self ≡ with_all g.kernel c.args.dir head.direction =
    c.arrive.ensures.arrived ∙ ap (after_arrival g.kernel c.args.dir) c.missing-n.ensures
    ∙ arrived_kernel g.kernel c.args.dir head.direction (found_at g c.args.dir rest is) head.missing in
    rest_is g (record { kernel = c.arrive.new.self; users = g.users }) c.args.dir rest is
    (ap (λ (k : PlainKernel). k.directions) kernel)

pub returns-clause-ready : goal.returns-clause-ready
returns-clause-ready c = record {
  valid = let takes = returns-clause-took c None in valid_after (plain_of c.args.self.now) _ _ _ _ c.requires.ready.valid takes.outcome refl;
  numbered = c.requires.ready.numbered;
}
