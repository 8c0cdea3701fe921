-- Processes end, and make others.
-- Source: `man 2 exit`, `man 2 wait4`, `man 2 fork`; that the zombies of a parent that ends go with it is
-- this project's own rule.
--     after_end k p status        p ends: its descriptors close from 0 on, what it owned has no owner, its
--                                 children have no parent and its zombies go; then it is a zombie, of which
--                                 its live parent hears by a signal, or it is gone
--     thread_ended k p t status   a thread ends, and the last one takes its process with it
--     after_fork k p              a child more, with the next number and its parent's descriptors
use Rattle.std.specs.Prelude.{ℕ, zero, suc, ◌+◌, ◌*◌, ◌%◌, nat_le, Option, Some, None, if◌then◌else◌}
use Rattle.std.specs.FinMap as map
use Rattle.plain_tables.specs.OfViews.Numbers.{ThreadNumber}
use Rattle.plain_tables.specs.OfViews.Limits.{DESCRIPTOR_LIMIT}
use Rattle.plain_tables.specs.OfSysAbi.declared.identity.VPid.{VPid}
use Rattle.plain_tables.specs.OfSysAbi.declared.signals.TheConstants.{SIGCHLD}
use Rattle.plain_machine.specs.declared.kernel.PlainKernel.{PlainKernel}
use Rattle.plain_tables.specs.declared.process.Process.{Process}
use Rattle.plain_tables.specs.Tables.{pid, without_thread_entry}
use Rattle.plain_tables.specs.Ends.{orphaned, makers_of, disowned, zombie, child_process, shared_below}
use Rattle.plain_machine.specs.Kernel.{is_live, at_process, without_process, after_raise_for_all, thread_count, host_of}
use Rattle.plain_machine.specs.Closing.{close_fd}

-- the descriptors below a number close, in rising order
unfoldable pub closed_below : PlainKernel → VPid → ℕ → PlainKernel
closed_below k p zero = k
closed_below k p (suc fd) = close_fd (closed_below k p fd) p fd

abbrev pub without_owner : PlainKernel → VPid → PlainKernel
without_owner k p = record k { descriptions = disowned p k.descriptions }

abbrev pub without_children : PlainKernel → VPid → PlainKernel
without_children k p = record k {
  processes = orphaned p k.processes;
  makers = makers_of (orphaned p k.processes) k.makers;
}

abbrev pub with_zombie : PlainKernel → VPid → ℕ → PlainKernel
with_zombie k p status = at_process k p (zombie status)

abbrev pub left_to : PlainKernel → VPid → ℕ → VPid → PlainKernel
left_to k p status parent =
    if is_live k parent then with_zombie (after_raise_for_all k parent SIGCHLD) p status else
    without_process p k

abbrev pub left_by : PlainKernel → VPid → ℕ → Option Process → PlainKernel
left_by k p status None = k
left_by k p status (Some process) = left_to k p status (pid process.parent)

abbrev pub without_holds : PlainKernel → VPid → PlainKernel
without_holds k p = without_children (without_owner (closed_below k p DESCRIPTOR_LIMIT) p) p

unfoldable pub after_end : PlainKernel → VPid → ℕ → PlainKernel
after_end k p status = left_by (without_holds k p) p status (map.get k.processes p)

-- the status that a code of exit gives (`man 2 wait4`)
abbrev pub exit_status : ℕ → ℕ
exit_status code = code % 256 * 256

unfoldable pub thread_ended : PlainKernel → VPid → ThreadNumber → ℕ → PlainKernel
thread_ended k p t status =
    if nat_le (thread_count k p) 1 then after_end k p status else at_process k p (without_thread_entry t)

unfoldable pub after_fork : PlainKernel → VPid → PlainKernel
after_fork k p = record k {
  processes = map.insert k.processes (pid k.next_id) (child_process p.0 k.next_id);
  makers = map.insert k.makers (pid k.next_id) (record { host = host_of k p; made = 1 });
  descriptors = shared_below p (pid k.next_id) k.descriptors DESCRIPTOR_LIMIT;
  next_id = k.next_id + 1;
}
