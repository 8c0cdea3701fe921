use Rattle.std.proofs.Common.{◌≡◌, ◌≢◌, ◌++◌, map as each, take, drop}
use Rattle.std.specs.Prelude.{All}
use Rattle.sys_abi.specs.declared.identity.Dir.{Dir}
use Rattle.wire_net.specs.DrainedNets.{list_on}
use Rattle.wire_net.specs.Ends.{agent_of}
use Rattle.refill_core.proofs.Turns.{begun_note}
use Rattle.refill_core.proofs.beginning.begin_all.Given as goal

abbrev pub invariant-loop-notes : goal.invariant-loop-notes
invariant-loop-notes l = record {
  notes : l.all ≡ each (begun_note l.initial.lists l.ends) (take l.notes-index l.initial.all) ++ drop l.notes-index l.initial.all;
  lists : (d : Dir) → All (λ x. x.dir ≢ d) (take l.notes-index l.initial.all)
      → list_on d l.lists ≡ list_on d l.initial.lists;
  ahead : (d : Dir) → All (λ x. x.dir ≢ d) (take l.notes-index l.initial.all)
      → list_on d (drop l.next l.lists) ≡ list_on d l.initial.lists;
  agents : (d : Dir) → All (λ x. x.dir ≢ d) (take l.notes-index l.initial.all)
      → agent_of l.rest d.conn d.side ≡ agent_of l.ends d.conn d.side;
}
