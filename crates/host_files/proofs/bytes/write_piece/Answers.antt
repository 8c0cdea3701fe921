use Rattle.std.proofs.Common.{◌≡◌, ◌+◌, true, false, length, Err, sym, ap, ◌∙◌, subst, arith}
use Rattle.std.specs.Prelude.{nat_lt}
use Rattle.std.proofs.lemmas.Bool.Decides.{nat_tests}
use Rattle.sys_abi.specs.declared.errors.TheConstants.{EFBIG, ENOSPC}
use Rattle.vfs_files.specs.FileTable.{FileTable, is_too_big}
use Rattle.plain_machine.specs.Rows.Files.{OFFSET_LIMIT, with_file_bytes}
use Rattle.plain_machine.specs.Transfers.Files.{with_piece, moved_behind, write_piece}
use Rattle.host_descriptors.specs.OfHostTables.declared.attempt.Attempt.TheVariants.{Fails}
use Rattle.host_descriptors.specs.OfHostTables.Serves.{Serves, ByNumber, same}
use Rattle.host_descriptors.proofs.OfHostTables.Replies.{refused}
use Rattle.host_descriptors.specs.Held.{seen_held}
use Rattle.host_files.proofs.Answered.{answered}
use Rattle.host_files.proofs.FileWrites.{piece_far, piece_full, piece_done, written_kept, fits_by, big_by}
use Rattle.host_files.proofs.bytes.write_piece.Goals as goal

pub returns-then-end-ge-OFFSET_LIMIT-clause-ok : goal.returns-then-end-ge-OFFSET_LIMIT-clause-ok
returns-then-end-ge-OFFSET_LIMIT-clause-ok c g k at bytes x st file is =
    let real = c.args.kernel.now in
    let h = seen_held g real c.args.held.now in
    let far = c.if-end-ge-OFFSET_LIMIT.true in
    let past : nat_lt (c.args.place + length c.args.piece.now) OFFSET_LIMIT ≡ false = grind (arith, nat_tests, far) in
    refused g real x ByNumber EFBIG (write_piece k h c.args.number c.args.place bytes c.args.piece.now)
    (piece_far g real k st h c.args.number c.args.place bytes c.args.piece.now past)

pub returns-in-Ok-clause-ok : goal.returns-in-Ok-clause-ok
returns-in-Ok-clause-ok c g k at bytes x st file is =
    let real = c.args.kernel.now in
    let h = seen_held g real c.args.held.now in
    let piece = c.args.piece.now in
    let end = c.args.place + length piece in
    let below = c.if-end-ge-OFFSET_LIMIT.false in
    let near : nat_lt (c.args.place + length c.args.piece.now) OFFSET_LIMIT ≡ true = grind (arith, nat_tests, below) in
    let after = with_file_bytes k c.args.number (with_piece bytes c.args.place piece) in
    answered g real x (moved_behind after h c.args.number end) (length piece)
    (write_piece k h c.args.number c.args.place bytes piece)
    (piece_done g real k st h c.args.number c.args.place bytes piece is c.requires.some near
    (fits_by (is_too_big real.files.files c.args.number c.args.place piece) c.write_at.result c.in-Ok.field-0
    c.in-Ok.is c.write_at.ensures.refused))
    c.move_to.new.kernel
    (c.move_to.ensures g after at
    (written_kept g real k st h c.args.number c.args.place bytes piece is c.requires.some near c.write_at.new.self
    c.in-Ok.ensures.ok) file)

pub returns-in-Err-Space-clause-ok : goal.returns-in-Err-Space-clause-ok
returns-in-Err-Space-clause-ok c g k at bytes x st file is =
    let real = c.args.kernel.now in
    let h = seen_held g real c.args.held.now in
    let piece = c.args.piece.now in
    let row = write_piece k h c.args.number c.args.place bytes piece in
    let below = c.if-end-ge-OFFSET_LIMIT.false in
    let near : nat_lt (c.args.place + length c.args.piece.now) OFFSET_LIMIT ≡ true = grind (arith, nat_tests, below) in
    subst (λ (t : FileTable). Serves ByNumber same g real (record real { files = t }) x x
    (Fails (record { 0 = ENOSPC })) row) (sym c.in-Err-Space.ensures.err)
    (refused g real x ByNumber ENOSPC row
    (piece_full g real k st h c.args.number c.args.place bytes piece is c.requires.some near
    (big_by (is_too_big real.files.files c.args.number c.args.place piece) c.write_at.result
    (c.in-Err-Space.is ∙ ap Err c.in-Err-Space.field-0-is) c.write_at.ensures.granted)))
