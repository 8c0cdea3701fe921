use Rattle.std.proofs.Common.{sym}
use Rattle.sys_abi.specs.declared.errors.TheConstants.{EBADF}
use Rattle.plain_machine.specs.Transfers.Files.{read_file}
use Rattle.host_descriptors.specs.OfHostTables.Serves.{ByNumber}
use Rattle.host_descriptors.specs.Held.{seen_held}
use Rattle.host_descriptors.proofs.OfHostTables.Replies.{refused}
use Rattle.host_files.proofs.FileReads.{read_bad, read_done}
use Rattle.host_files.proofs.bytes.read_file.Goals as goal

pub returns-in_default : goal.returns-in_default
returns-in_default c g k st =
    let real = c.args.kernel.now in
    let h = seen_held g real c.args.held.now in
    refused g real c.args.transfer.now ByNumber EBADF (read_file k h c.args.number c.args.offset c.args.count)
    (read_bad g real k st h c.args.number c.args.offset c.args.count (sym c.in_default.ensures))

pub returns : goal.returns
returns c g k st =
    let real = c.args.kernel.now in
    read_done g real k st (seen_held g real c.args.held.now) c.args.number c.args.offset c.args.count
    c.in-Some.bytes.now (sym c.in-Some.ensures) c.take_piece-taken.result c.take_piece-taken.ensures.length
    c.args.transfer.now c.take_piece-taken.new.transfer c.take_piece-taken.ensures.bytes c.move_to.new.kernel
    (c.move_to.ensures g k c.args.offset st c.requires.file)
