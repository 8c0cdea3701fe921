use Rattle.std.proofs.Common.{sym, ◌∙◌, refl, inl, inr}
use Rattle.image_process.specs.ProcessImages.{process_format, tids_of, is_whole_process}
use Rattle.image_format.proofs.Numerals.{fit_bytes}
use Rattle.image_process.proofs.ProcessFiles as law
use Rattle.image_process.proofs.Owners.{owns}
use Rattle.image_format.proofs.WholeFiles as whole
use Rattle.image_process.proofs.process_image.read_image.Goals as goal

pub is_whole_process-requires-clause-order : goal.is_whole_process-requires-clause-order
is_whole_process-requires-clause-order c =
    law.break-order _ _ (law.fields c.args.pid (tids_of c.args.threads.now) c.args.bytes.now c.in-Ok.p c.in-Ok.rest.now c.in-Ok.ensures (fit_bytes _ c.type_inv.bytes)).break_end

pub is_whole_process-requires-clause-pages : goal.is_whole_process-requires-clause-pages
is_whole_process-requires-clause-pages c =
    (law.fields c.args.pid (tids_of c.args.threads.now) c.args.bytes.now c.in-Ok.p c.in-Ok.rest.now c.in-Ok.ensures (fit_bytes _ c.type_inv.bytes)).pages

pub damaged-requires : goal.damaged-requires
damaged-requires c = whole.rest-le (process_format c.args.pid (tids_of c.args.threads.now)) is_whole_process c.args.bytes.now c.in-Ok.p c.in-Ok.rest.now (fit_bytes _ c.type_inv.bytes) c.in-Ok.ensures

pub damaged-requires-in-Err-Left : goal.damaged-requires-in-Err-Left
damaged-requires-in-Err-Left c =
    whole.left-le (process_format c.args.pid (tids_of c.args.threads.now)) is_whole_process c.args.bytes.now c.in-Err-Left.left (fit_bytes _ c.type_inv.bytes)
    (rw c.in-Err-Left.field-0-is at c.in-Err-Left.ensures)

pub returns-in-Err-Left-clause-only : goal.returns-in-Err-Left-clause-only
returns-in-Err-Left-clause-only c =
    rw c.damaged-in-Err-Left.ensures
    (law.none_left c.args.pid (tids_of c.args.threads.now) c.args.bytes.now c.in-Err-Left.left (rw c.in-Err-Left.field-0-is at c.in-Err-Left.ensures))

pub returns-in-Err-Left-clause-exact : goal.returns-in-Err-Left-clause-exact
returns-in-Err-Left-clause-exact c =
    rw c.damaged-in-Err-Left.ensures (
      refl,
      whole.damaged_left (process_format c.args.pid (tids_of c.args.threads.now)) is_whole_process c.args.bytes.now c.in-Err-Left.left (fit_bytes _ c.type_inv.bytes)
          (rw c.in-Err-Left.field-0-is at c.in-Err-Left.ensures),
    )

pub returns-then-not-is_empty-clause-only : goal.returns-then-not-is_empty-clause-only
returns-then-not-is_empty-clause-only c =
    rw c.damaged.ensures
    (law.none_after c.args.pid (tids_of c.args.threads.now) c.args.bytes.now c.in-Ok.p c.in-Ok.rest.now c.in-Ok.ensures
    (inl (whole.something c.in-Ok.rest.now (sym c.is_empty.ensures ∙ c.if-not-is_empty.true))))

pub returns-then-not-is_empty-clause-exact : goal.returns-then-not-is_empty-clause-exact
returns-then-not-is_empty-clause-exact c =
    rw c.damaged.ensures (
      refl,
      whole.damaged_after (process_format c.args.pid (tids_of c.args.threads.now)) is_whole_process c.args.bytes.now c.in-Ok.p c.in-Ok.rest.now (fit_bytes _ c.type_inv.bytes) c.in-Ok.ensures
          (inl (whole.something c.in-Ok.rest.now (sym c.is_empty.ensures ∙ c.if-not-is_empty.true))),
    )

pub returns-then-is_whole_process-clause-found : goal.returns-then-is_whole_process-clause-found
returns-then-is_whole_process-clause-found c =
    law.found c.args.pid (tids_of c.args.threads.now) c.args.bytes.now c.in-Ok.p c.in-Ok.rest.now c.in-Ok.ensures (fit_bytes _ c.type_inv.bytes)
    (whole.nothing c.in-Ok.rest.now (sym c.is_empty.ensures ∙ c.if-not-is_empty.false)) (sym c.is_whole_process.ensures ∙ c.if-is_whole_process.true)

pub returns-then-is_whole_process-clause-only : goal.returns-then-is_whole_process-clause-only
returns-then-is_whole_process-clause-only c = law.only c.args.pid (tids_of c.args.threads.now) c.args.bytes.now c.in-Ok.p c.in-Ok.rest.now c.in-Ok.ensures

pub returns-else-is_whole_process-clause-only : goal.returns-else-is_whole_process-clause-only
returns-else-is_whole_process-clause-only c =
    rw c.damaged-else-is_whole_process.ensures
    (law.none_after c.args.pid (tids_of c.args.threads.now) c.args.bytes.now c.in-Ok.p c.in-Ok.rest.now c.in-Ok.ensures (inr (sym c.is_whole_process.ensures ∙ c.if-is_whole_process.false)))

pub returns-else-is_whole_process-clause-exact : goal.returns-else-is_whole_process-clause-exact
returns-else-is_whole_process-clause-exact c =
    rw c.damaged-else-is_whole_process.ensures (
      refl,
      whole.damaged_end (process_format c.args.pid (tids_of c.args.threads.now)) is_whole_process c.args.bytes.now c.in-Ok.p c.in-Ok.rest.now (fit_bytes _ c.type_inv.bytes) c.in-Ok.ensures
          (whole.nothing c.in-Ok.rest.now (sym c.is_empty.ensures ∙ c.if-not-is_empty.false)) (sym c.is_whole_process.ensures ∙ c.if-is_whole_process.false),
    )

pub returns-then-is_whole_process-clause-again : goal.returns-then-is_whole_process-clause-again
returns-then-is_whole_process-clause-again c =
    let spelled =
    law.found c.args.pid (tids_of c.args.threads.now) c.args.bytes.now c.in-Ok.p c.in-Ok.rest.now c.in-Ok.ensures (fit_bytes _ c.type_inv.bytes)
    (whole.nothing c.in-Ok.rest.now (sym c.is_empty.ensures ∙ c.if-not-is_empty.false)) (sym c.is_whole_process.ensures ∙ c.if-is_whole_process.true) in
    owns c.args.pid (tids_of c.args.threads.now) c.in-Ok.p (law.image_of _ _ _ _ spelled)
