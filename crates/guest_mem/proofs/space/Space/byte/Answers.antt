use Rattle.std.proofs.Common.{◌%◌, sym, ap, ◌∙◌, subst}
use Rattle.std.specs.Prelude.{IsSome, Some}
use Rattle.guest_pages.proofs.InPage.{byte_at-granted, byte_of}
use Rattle.guest_pages.proofs.Ranges.{false_true}
use Rattle.guest_mem.proofs.space.Space.byte.Goals as goal

pub unreachable-requires : goal.unreachable-requires
unreachable-requires c =
    false_true (subst IsSome (byte_at-granted c.args.self.now c.args.right c.args.address ∙ ap (byte_of (c.args.address % 4096)) (sym c.in-Err.ensures)) c.requires)

pub returns : goal.returns
returns c =
    byte_at-granted c.args.self.now c.args.right c.args.address ∙ ap (byte_of (c.args.address % 4096)) (sym c.in-Ok.ensures) ∙ ap (λ byte. Some byte) (sym c.byte.ensures)
