use Rattle.std.proofs.Common.{[], sym, ap, subst, ◌∙◌, arith}
use Rattle.std.specs.FinMap as map
use Rattle.std.proofs.lemmas.List.Elements.{All-nil}
use Rattle.sys_abi.specs.Orders.{vpid_cmp}
use Rattle.computation.specs.OfGuestProc.Guests.{GuestPart}
use Rattle.plain_machine.specs.Valid.{IsValid}
use Rattle.plain_machine.proofs.StartKernels.{start_is_valid}
use Rattle.run_start.proofs.Starts.{nothing_starts, nothing_named, all_arrived_at, no_datagrams_at}
use Rattle.computation.proofs.Effects.{nobody}
use Rattle.run_start.proofs.start.Start.empty.Goals as goal

pub returns-clause-start : goal.returns-clause-start
returns-clause-start c = nothing_starts _ _ c.empty.ensures c.new.ensures

pub returns-clause-ready : goal.returns-clause-ready
returns-clause-ready c = record {
  valid = subst IsValid (sym (returns-clause-start c)) (start_is_valid [] [] (omega arith) (All-nil _) nothing_named);
  numbered = λ p guest there. absurd (nobody _ guest (ap (λ guests. map.get guests p) c.new.ensures ∙ map.get-empty {X = GuestPart} vpid_cmp p) there);
  arrived = all_arrived_at _ _ [] [] (returns-clause-start c);
  plain = no_datagrams_at _ _ [] [] (returns-clause-start c);
}
