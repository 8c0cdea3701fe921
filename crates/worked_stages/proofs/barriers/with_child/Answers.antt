use Rattle.std.proofs.Common.{◌==◌, sym, ap, lit<}
use Rattle.sys_abi.specs.declared.identity.VPid.{VPid}
use Rattle.views.proofs.MapLaws.{true_false}
use Rattle.barrier_core.specs.declared.members.TheConstants.{MEMBER_LIMIT}
use Rattle.worked_stages.proofs.FirstMembers.{one_waits, one_alone, one_few}
use Rattle.worked_stages.proofs.barriers.with_child.Goals as goal

pub joined-requires-clause-early : goal.joined-requires-clause-early
joined-requires-clause-early g c = one_waits c.in_ok-barrier.barrier c.ask-asked.new.self (record { 0 = 40000 }) c.in_ok-barrier.ensures c.ask-asked.ensures.after

pub joined-requires-clause-child : goal.joined-requires-clause-child
joined-requires-clause-child g c =
    one_alone c.in_ok-barrier.barrier c.ask-asked.new.self (record { 0 = 40000 }) (record { 0 = 40001 }) c.in_ok-barrier.ensures c.ask-asked.ensures.after
    (λ same. true_false (sym (ap (λ (v : VPid). v.0 == 40000) same)))

pub joined-requires-clause-room : goal.joined-requires-clause-room
joined-requires-clause-room g c =
    one_few c.in_ok-barrier.barrier c.ask-asked.new.self (record { 0 = 40000 }) MEMBER_LIMIT (lit< tt) c.in_ok-barrier.ensures c.ask-asked.ensures.after
