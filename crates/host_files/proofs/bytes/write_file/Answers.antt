use Rattle.std.proofs.Common.{length, sym, ap, ◌∙◌, subst}
use Rattle.std.specs.Prelude.{◌==◌, if◌then◌else◌}
use Rattle.std.specs.FinMap as map
use Rattle.std.proofs.lemmas.Result.{IfOk-weaker}
use Rattle.sys_abi.specs.declared.errors.TheConstants.{EBADF}
use Rattle.sys_abi.specs.declared.flags.TheConstants.{O_APPEND}
use Rattle.sys_abi.specs.Flags.{has_flag}
use Rattle.plain_machine.specs.Transfers.Files.{write_piece, write_file}
use Rattle.host_descriptors.specs.OfHostTables.Serves.{Serves, ByNumber, same}
use Rattle.host_descriptors.proofs.OfHostTables.Replies.{refused}
use Rattle.host_descriptors.specs.Held.{seen_held}
use Rattle.host_files.proofs.Answered.{answered}
use Rattle.host_files.proofs.FileWrites.{write_bad, write_none, write_some, size_none, size_some}
use Rattle.host_files.proofs.bytes.write_file.Goals as goal

pub returns-in_default-clause-ok : goal.returns-in_default-clause-ok
returns-in_default-clause-ok c g k st =
    let real = c.args.kernel.now in
    let h = seen_held g real c.args.held.now in
    refused g real c.args.transfer.now ByNumber EBADF
    (write_file k h c.args.number c.args.offset c.args.transfer.now)
    (write_bad g real k st h c.args.number c.args.offset c.args.transfer.now
    (size_none (map.get real.files.files c.args.number) (sym c.len.ensures ∙ c.in_default.is)))

pub returns-then-is_empty-clause-ok : goal.returns-then-is_empty-clause-ok
returns-then-is_empty-clause-ok c g k st =
    let real = c.args.kernel.now in
    let h = seen_held g real c.args.held.now in
    let there = size_some (map.get real.files.files c.args.number) c.in-Some.size (sym c.len.ensures ∙ c.in-Some.is) in
    answered g real c.args.transfer.now k 0 (write_file k h c.args.number c.args.offset c.args.transfer.now)
    (write_none g real k st h c.args.number c.args.offset c.args.transfer.now there.0 there.1.0
    (ap (λ w. length w == 0) (sym c.as_slice-piece.ensures.value) ∙ sym c.is_empty.ensures
    ∙ c.if-is_empty.true)) real st

pub returns-clause-ok : goal.returns-clause-ok
returns-clause-ok c =
    IfOk-weaker c.write_piece.result _ _ (λ a serves g k st.
    let real = c.args.kernel.now in
    let given = c.args.transfer.now in
    let h = seen_held g real c.args.held.now in
    let there = size_some (map.get real.files.files c.args.number) c.in-Some.size (sym c.len.ensures ∙ c.in-Some.is) in
    let place_is = c.write_place-place.ensures
    ∙ ap (λ n. if has_flag h.description.flags O_APPEND then n else c.args.offset) (sym there.1.1) in
    subst (λ m. Serves ByNumber same g real c.write_piece.new.kernel given given a m)
    (sym (write_some g real k st h c.args.number c.args.offset given there.0 there.1.0
    (ap (λ w. length w == 0) (sym c.as_slice-piece.ensures.value) ∙ sym c.is_empty.ensures ∙ c.if-is_empty.false)
    ∙ (λ i. write_piece k h c.args.number (sym place_is i) there.0 (sym c.as_slice-piece.ensures.value i))))
    (serves g k c.args.offset there.0 given st c.requires.file there.1.0))
    c.write_piece.ensures.ok
