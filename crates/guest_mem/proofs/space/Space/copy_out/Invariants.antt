use Rattle.std.proofs.Common.{◌≡◌, ◌-◌, ◌≤◌, ◌++◌}
use Rattle.std.specs.Prelude.{Some, option_map}
use Rattle.plain_process.specs.declared.memory.Right.TheVariants.{Read}
use Rattle.plain_process.specs.Memory.{bytes_at}
use Rattle.guest_mem.proofs.space.Space.copy_out.Given as goal

-- the bytes so far stand at the transfer's end
abbrev pub invariant-loop-done : goal.invariant-loop-done
invariant-loop-done l = record {
  within : l.done ≤ l.count;
  put : option_map (λ bytes. l.initial.transfer ++ bytes) (bytes_at l.self Read l.address l.done) ≡ Some l.transfer;
}

abbrev pub decreases-loop-done : goal.decreases-loop-done
decreases-loop-done l = l.count - l.done
