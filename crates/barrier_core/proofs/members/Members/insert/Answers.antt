use Rattle.barrier_core.specs.declared.members.TheConstants.{MEMBER_LIMIT}
use Rattle.barrier_core.proofs.RowLaws.{put_seen}
use Rattle.barrier_core.proofs.members.Members.insert.Goals as goal

pub returns : goal.returns
returns c =
    put_seen c.put_row.result _ _ c.args.self.now c.args.p c.fresh.result MEMBER_LIMIT _ c.put_row.ensures.ok c.put_row.ensures.succeeds c.self.view_is c.fresh.ensures c.requires c.self.invariant.1
