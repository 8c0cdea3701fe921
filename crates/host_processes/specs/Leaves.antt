-- What a process that has ended leaves, once its descriptors are closed.
-- Source: `man 2 exit`, `man 2 wait4`; that the zombies of a parent that ends go with it is this project's
-- own rule.
--     after_leave k p status      what p owned has no owner, its children have no parent and its zombies go;
--                                 then it is a zombie, of which its live parent hears by a signal, or it is
--                                 gone
use Rattle.std.specs.Prelude.{ℕ}
use Rattle.std.specs.FinMap as map
use Rattle.sys_abi.specs.declared.identity.VPid.{VPid}
use Rattle.plain_machine.specs.declared.kernel.PlainKernel.{PlainKernel}
use Rattle.plain_machine.specs.Ends.{without_owner, without_children, left_by}

abbrev pub after_leave : PlainKernel → VPid → ℕ → PlainKernel
after_leave k p status =
    left_by (without_children (without_owner k p) p) p status (map.get k.processes p)
