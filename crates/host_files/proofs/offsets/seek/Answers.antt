use Rattle.std.proofs.Common.{sym, ◌∙◌}
use Rattle.sys_abi.specs.declared.errors.TheConstants.{EINVAL}
use Rattle.plain_tables.specs.declared.description.Object.TheVariants.{File}
use Rattle.plain_machine.specs.Kernel.{with_object}
use Rattle.plain_machine.specs.Rows.Files.{seek}
use Rattle.host_descriptors.specs.OfHostTables.Serves.{ByNumber}
use Rattle.host_descriptors.proofs.OfHostTables.Replies.{refused}
use Rattle.host_descriptors.specs.Held.{seen_held}
use Rattle.host_files.proofs.Answered.{answered}
use Rattle.host_files.proofs.Moves.{size_is}
use Rattle.host_files.proofs.Seeks.{seek_no_start, seek_no_place, seek_done}
use Rattle.host_files.proofs.offsets.seek.Goals as goal

pub returns-in_default : goal.returns-in_default
returns-in_default c g k x st =
    let real = c.args.kernel.now in
    let h = seen_held g real c.args.held.now in
    refused g real x ByNumber EINVAL (seek k h c.args.offset c.args.whence (File c.args.number c.args.at))
    (seek_no_start k h c.args.offset c.args.whence c.args.number c.args.at c.file_size.result
    (size_is g real k st c.args.number ∙ sym c.file_size.ensures)
    (sym c.seek_start.ensures ∙ c.in_default.is))

pub returns-in_default-moved_by : goal.returns-in_default-moved_by
returns-in_default-moved_by c g k x st =
    let real = c.args.kernel.now in
    let h = seen_held g real c.args.held.now in
    refused g real x ByNumber EINVAL (seek k h c.args.offset c.args.whence (File c.args.number c.args.at))
    (seek_no_place k h c.args.offset c.args.whence c.args.number c.args.at c.file_size.result
    (size_is g real k st c.args.number ∙ sym c.file_size.ensures) c.in-Some.start
    (sym c.seek_start.ensures ∙ c.in-Some.is)
    (sym c.moved_by.ensures ∙ c.in_default-moved_by.is))

pub returns : goal.returns
returns c g k x st =
    let real = c.args.kernel.now in
    let h = seen_held g real c.args.held.now in
    let place = c.in-Some-moved_by.place in
    answered g real x (with_object k h (File c.args.number place)) place
    (seek k h c.args.offset c.args.whence (File c.args.number c.args.at))
    (seek_done k h c.args.offset c.args.whence c.args.number c.args.at c.file_size.result
    (size_is g real k st c.args.number ∙ sym c.file_size.ensures) c.in-Some.start place
    (sym c.seek_start.ensures ∙ c.in-Some.is)
    (sym c.moved_by.ensures ∙ c.in-Some-moved_by.is))
    c.move_to.new.kernel (c.move_to.ensures g k c.args.at st c.requires.file)
