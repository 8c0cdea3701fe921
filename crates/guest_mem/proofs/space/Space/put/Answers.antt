use Rattle.std.proofs.Common.{◌+◌, ◌≤◌, ◌%◌, ◌/◌, ℕ, length, sym, ap, subst, ◌∙◌, arith}
use Rattle.plain_process.specs.declared.memory.Frame.{Frame}
use Rattle.plain_process.specs.Memory.{Memory, with_bytes}
use Rattle.plain_process.specs.Memory.{low_bytes}
use Rattle.guest_pages.proofs.InPage.{length-low_bytes}
use Rattle.guest_pages.specs.Bytes.{with_piece}
use Rattle.guest_pages.specs.Pages.{IsSpace}
use Rattle.guest_pages.proofs.Writes.{with_bytes-changed, IsSpace-changed}
use Rattle.guest_mem.proofs.space.Space.put.Goals as goal

within : (a size value : ℕ) → a % 4096 + size ≤ 4096 → a % 4096 + length (low_bytes size value) ≤ 4096
within a size value inside = omega (arith, length-low_bytes size value)

pub returns : goal.returns
returns c =
    c.put_number.ensures.put ∙ with_bytes-changed c.self.inside.frames c.args.address (low_bytes c.args.size c.args.value) (within c.args.address c.args.size c.args.value c.requires.inside) c.put_number.ensures.length
    ∙ ap (λ (m : Memory). with_bytes m c.args.address (low_bytes c.args.size c.args.value)) c.self.view_is

pub invariant_of-self : goal.invariant_of-self
invariant_of-self c =
    subst IsSpace (sym c.put_number.ensures.put) (IsSpace-changed c.self.inside.frames (c.args.address / 4096) (λ (frame : Frame). with_piece frame (c.args.address % 4096) (low_bytes c.args.size c.args.value)) c.self.invariant)
