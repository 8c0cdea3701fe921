use Rattle.std.proofs.Common.{Err, None, sym, ap, ◌∙◌, subst, arith}
use Rattle.std.specs.FinMap as map
use Rattle.std.proofs.lemmas.Result.{IfOk-weaker}
use Rattle.sys_abi.specs.declared.errors.TheConstants.{EMFILE}
use Rattle.sys_abi.specs.declared.flags.TheConstants.{O_CLOEXEC}
use Rattle.sys_abi.specs.Flags.{has_flag}
use Rattle.fd_book.specs.Books as books
use Rattle.fd_book.specs.Books.{Books}
use Rattle.fd_tables.specs.Slots.{slot}
use Rattle.plain_machine.specs.Rows.Files.{status_flags, opened_number, with_opened, with_open_file}
use Rattle.host_descriptors.specs.OfHostTables.declared.kernel.Kernel.{Kernel}
use Rattle.host_descriptors.specs.OfHostTables.declared.attempt.Attempt.TheVariants.{Fails}
use Rattle.host_descriptors.specs.OfHostTables.Serves.{Serves, ByNumber, same}
use Rattle.host_descriptors.specs.OfHostTables.Stands.{Stands}
use Rattle.host_descriptors.proofs.OfHostTables.LookUps.{free_none, free_some}
use Rattle.host_descriptors.proofs.OfHostTables.Replies.{refused}
use Rattle.host_files.specs.Opening.{opening_at}
use Rattle.host_files.proofs.Answered.{answered, on_err}
use Rattle.host_files.proofs.OpenedFiles.{file_placed}
use Rattle.host_files.proofs.Openings.{numbered_next, full, refused_open, done_open}
use Rattle.host_files.proofs.Refusals.{refusal_errno, allowed, refused_as, answer_is}
use Rattle.host_files.proofs.Undone.{undone, told_file}
use Rattle.host_files.proofs.opening.open_named.Goals as goal

pub returns-in-Err-TooMany-clause-ok : goal.returns-in-Err-TooMany-clause-ok
returns-in-Err-TooMany-clause-ok c g k p whole st paired x named =
    let real = c.args.kernel.now in
    let row = opening_at k p c.args.name.now c.args.flags in
    subst (λ (b : Books). Serves ByNumber same g real (record real { book = b }) x x (Fails (record { 0 = EMFILE })) row)
    (sym c.in-Err-TooMany.ensures.err)
    (refused g real x ByNumber EMFILE row
    (full k p c.args.name.now c.args.flags
    (free_none g real k st p c.args.who paired 0 (omega arith)
    (c.in-Err-TooMany.ensures.too_many.0 (ap Err c.in-Err-TooMany.field-0-is)))))

pub returns-in-Ok-open-clause-ok : goal.returns-in-Ok-open-clause-ok
returns-in-Ok-open-clause-ok c g k p whole st paired x named =
    let real = c.args.kernel.now in
    let name = c.args.name.now in
    let flags = c.args.flags in
    let fd = c.in-Ok.fd.0 in
    let number = c.in-Ok-open.number in
    let file = map.get k.names name in
    let is_opened = c.in-Ok-open.ensures.ok in
    let after = with_open_file (with_opened k name flags file) p fd flags (opened_number k file) in
    answered g real x after fd (opening_at k p name flags)
    (done_open k p name flags fd (free_some g real k st p c.args.who paired 0 fd (omega arith) c.in-Ok.ensures.lowest)
    (allowed real.files k st.files whole.numbers.last_file flags name is_opened.allowed))
    (record real { files = c.open.new.files; book = c.set_object.new.self })
    (subst (λ (b : Books). Stands g None (record real { files = c.open.new.files; book = b }) after)
    (sym (told_file real.book (slot c.args.who fd) c.args.id number (status_flags flags) (has_flag flags O_CLOEXEC)
    c.place.new.self c.set_object.new.self c.unopened.result c.unopened.ensures c.in-Ok.ensures.ok
    c.set_object.ensures))
    (file_placed g real k whole st name flags c.open.new.files number is_opened p c.args.who paired fd c.args.id
    c.requires (numbered_next k p c.args.id named).1))

pub returns-in-Err-clause-ok : goal.returns-in-Err-clause-ok
returns-in-Err-clause-ok c =
    IfOk-weaker c.refusal.result _ _ (λ a is g k p whole st paired x named.
    let real = c.args.kernel.now in
    let name = c.args.name.now in
    let flags = c.args.flags in
    let fd = c.in-Ok.fd.0 in
    let row = opening_at k p name flags in
    let answer = answer_is c.in-Err.fault a is in
    let closed = c.close.ensures.closed
    ∙ ap (λ (b : Books). books.after_close b (slot c.args.who fd)) c.in-Ok.ensures.ok
    ∙ undone real.book c.whole.ensures (slot c.args.who fd) c.args.id c.unopened.result (has_flag flags O_CLOEXEC)
    c.in-Ok.ensures.lowest.free c.requires in
    subst (λ (r : Kernel). Serves ByNumber same g real r x x a row)
    (λ i. record real { files = sym c.in-Err.ensures.err i; book = sym closed i })
    (subst (λ w. Serves ByNumber same g real real x x w row) (sym answer.0)
    (refused g real x ByNumber (refusal_errno c.in-Err.fault) row
    (refused_open k p name flags fd
    (free_some g real k st p c.args.who paired 0 fd (omega arith) c.in-Ok.ensures.lowest)
    (refusal_errno c.in-Err.fault)
    (refused_as real.files k st.files whole.numbers.last_file flags name c.in-Err.fault
    (c.in-Err.ensures.refused answer.1))))))
    c.refusal.ensures

pub returns-in-Err-clause-err : goal.returns-in-Err-clause-err
returns-in-Err-clause-err c =
    let real = c.args.kernel.now in
    let closed = c.close.ensures.closed
    ∙ ap (λ (b : Books). books.after_close b (slot c.args.who c.in-Ok.fd.0)) c.in-Ok.ensures.ok
    ∙ undone real.book c.whole.ensures (slot c.args.who c.in-Ok.fd.0) c.args.id c.unopened.result
    (has_flag c.args.flags O_CLOEXEC) c.in-Ok.ensures.lowest.free c.requires in
    on_err c.refusal.result (λ i. record real { files = c.in-Err.ensures.err i; book = closed i })
