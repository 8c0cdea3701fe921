use Rattle.std.proofs.Common.{◌≡◌, ◌+◌, ◌≤◌, length}
use Rattle.std.specs.FinMap as map
use Rattle.std.specs.Slice.Iter.{iter_rest}
use Rattle.barrier_core.specs.Members.{asked}
use Rattle.barrier_core.proofs.Asking.{joining}
use Rattle.barrier_core.proofs.members.insert_all.Given as goal

abbrev pub invariant-loop-p : goal.invariant-loop-p
invariant-loop-p l = record {
  members : joining (iter_rest l.p-iterator.iter) l.into ≡ asked l.live;
  room : map.len l.into + length (iter_rest l.p-iterator.iter) ≤ length l.live;
}
