-- Whether a descriptor leads to a console that is open for writing, through the pairs.
--     stranger_writes       a process that has no real number
--     console_told          by what the look-up over real numbers found
use Rattle.std.proofs.Common.{◌≡◌, ℕ, false, ◌&&◌, Option, Some, None, refl, ap, ◌∙◌}
use Rattle.std.specs.FinMap as map
use Rattle.sys_abi.specs.declared.identity.DescId.{DescId}
use Rattle.sys_abi.specs.declared.identity.VPid.{VPid}
use Rattle.sys_abi.specs.declared.identity.RealPid.{RealPid}
use Rattle.fd_book.specs.Books.{IsWhole}
use Rattle.fd_tables.specs.declared.description.Object.{Object}
use Rattle.fd_tables.specs.declared.description.Object.TheVariants as object
use Rattle.fd_tables.specs.Slots as slots
use Rattle.plain_tables.specs.Tables.{may_write}
use Rattle.plain_machine.specs.declared.kernel.PlainKernel.{PlainKernel}
use Rattle.plain_machine.specs.Serve.{is_console}
use Rattle.conn_table.specs.Pairs.{Pairs}
use Rattle.host_descriptors.specs.declared.held.Held.{Held}
use Rattle.host_descriptors.specs.Held.{held_in}
use Rattle.host_descriptors.proofs.HeldChanges.{there_of, none_held}
use Rattle.host_descriptors.proofs.HeldTold.{held_told}
use Rattle.host_tables.specs.declared.kernel.Kernel.{Kernel}
use Rattle.host_tables.specs.Descriptions.{Names, seen_object}
use Rattle.host_tables.specs.Stands.{Given, Stands}
use Rattle.host_tables.proofs.LookUps.{held_none}
use Rattle.wrap_calls.specs.Console.{takes_writes, writes_console, is_real_console, leads_to_console}
use Rattle.wrap_calls.proofs.ReadyStrangers.{stranger_holds}

same_console : (names : Names) (pairs : Pairs) (id : DescId) (o : Object)
    → is_console (seen_object names pairs id o) ≡ is_real_console o
same_console names pairs id object.Console = refl
same_console names pairs id (object.File number offset) = refl
same_console names pairs id (object.Stream conn side) = refl
same_console names pairs id object.Socket = refl
same_console names pairs id (object.Listener at) = refl
same_console names pairs id (object.Datagram queue side) = refl
same_console names pairs id (object.Counter value) = refl

module _ (g : Given) (real : Kernel) (k : PlainKernel) (st : Stands g None real k) (p : VPid) (fd : ℕ) where
  pub stranger_writes : map.get g.pids p.0 ≡ None → writes_console k p fd ≡ false
  stranger_writes none = ap takes_writes (stranger_holds g real k st p none fd)

  module _ (who : RealPid) (paired : map.get g.pids p.0 ≡ Some who) (book : IsWhole real.book) where
    told_by : (o : Option Held) → held_in real.book (slots.slot who fd) ≡ o
        → writes_console k p fd ≡ leads_to_console o
    told_by None is =
        ap takes_writes
        (held_none g real k st p who paired fd (none_held real.book (slots.slot who fd) book is))
    told_by (Some h) is =
        ap takes_writes (held_told g real k st p who paired fd (there_of real who fd h is))
        ∙ ap (λ b. b && may_write h.description.flags)
        (same_console g.names real.datagrams h.desc h.description.object)

    pub console_told : writes_console k p fd ≡ leads_to_console (held_in real.book (slots.slot who fd))
    console_told = told_by (held_in real.book (slots.slot who fd)) refl
