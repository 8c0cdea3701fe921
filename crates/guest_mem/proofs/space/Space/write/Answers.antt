use Rattle.std.proofs.Common.{◌%◌, ◌/◌, sym, ap, subst, ◌∙◌}
use Rattle.plain_process.specs.declared.memory.Frame.{Frame}
use Rattle.plain_process.specs.Memory.{Memory, with_bytes}
use Rattle.guest_pages.specs.Bytes.{with_piece}
use Rattle.guest_pages.specs.Pages.{IsSpace}
use Rattle.guest_pages.proofs.Writes.{with_bytes-changed, IsSpace-changed}
use Rattle.guest_mem.proofs.space.Space.write.Goals as goal

pub returns : goal.returns
returns c =
    c.write.ensures.put ∙ with_bytes-changed c.self.inside.frames c.args.address c.args.piece.now c.requires c.write.ensures.length
    ∙ ap (λ (m : Memory). with_bytes m c.args.address c.args.piece.now) c.self.view_is

pub invariant_of-self : goal.invariant_of-self
invariant_of-self c =
    subst IsSpace (sym c.write.ensures.put) (IsSpace-changed c.self.inside.frames (c.args.address / 4096) (λ (frame : Frame). with_piece frame (c.args.address % 4096) c.args.piece.now) c.self.invariant)
