use Rattle.std.proofs.Common.{refl, sym, ◌∙◌, subst}
use Rattle.sys_abi.specs.declared.errors.TheConstants.{EBADF, ESPIPE}
use Rattle.fd_tables.specs.declared.description.Object.TheVariants.{File}
use Rattle.fd_tables.specs.Slots.{slot}
use Rattle.plain_machine.specs.Rows.Files.{lseek_row}
use Rattle.host_descriptors.specs.OfHostTables.Serves.{Serves, ByNumber, same}
use Rattle.host_descriptors.proofs.OfHostTables.Replies.{refused}
use Rattle.host_descriptors.specs.Held.{seen_held}
use Rattle.host_descriptors.proofs.HeldChanges.{none_held}
use Rattle.host_files.proofs.Seeks.{lseek_bad, lseek_at, seek_other}
use Rattle.host_files.proofs.offsets.lseek.Goals as goal

pub returns-in_default : goal.returns-in_default
returns-in_default c g k p whole st paired x =
    let real = c.args.kernel.now in
    refused g real x ByNumber EBADF (lseek_row k p c.args.fd c.args.offset c.args.whence)
    (lseek_bad g real k st p c.args.who paired c.args.fd c.args.offset c.args.whence
    (none_held real.book (slot c.args.who c.args.fd) c.whole.ensures (sym c.held_at.ensures ∙ c.in_default.is)))

pub returns-in-File : goal.returns-in-File
returns-in-File c g k p whole st paired x =
    let real = c.args.kernel.now in
    subst (λ m. Serves ByNumber same g real c.seek.new.kernel x x c.seek.result m)
    (sym (lseek_at g real k st p c.args.who paired c.args.fd c.args.offset c.args.whence c.in-Some.held
    (sym c.in-Some.ensures) (File c.in-File.number c.in-File.at) c.in-File.is))
    (c.seek.ensures g k x st)

pub returns-in_default-object : goal.returns-in_default-object
returns-in_default-object c g k p whole st paired x =
    let real = c.args.kernel.now in
    let h = c.in-Some.held in
    refused g real x ByNumber ESPIPE (lseek_row k p c.args.fd c.args.offset c.args.whence)
    (lseek_at g real k st p c.args.who paired c.args.fd c.args.offset c.args.whence h (sym c.in-Some.ensures)
    h.description.object refl
    ∙ seek_other k (seen_held g real h) c.args.offset c.args.whence g.names real.datagrams h.desc
    h.description.object c.in_default-object.not-File)
