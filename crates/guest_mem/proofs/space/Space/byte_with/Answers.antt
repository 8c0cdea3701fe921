use Rattle.std.proofs.Common.{◌%◌, sym, ap, ◌∙◌}
use Rattle.std.specs.Prelude.{Some}
use Rattle.guest_pages.proofs.InPage.{byte_at-granted, byte_of}
use Rattle.guest_mem.proofs.space.Space.byte_with.Goals as goal

pub returns-in-Ok : goal.returns-in-Ok
returns-in-Ok c =
    sym (byte_at-granted c.args.self.now c.args.right c.args.address ∙ ap (byte_of (c.args.address % 4096)) (sym c.in-Ok.ensures) ∙ ap (λ byte. Some byte) (sym c.byte.ensures))

pub returns-in-Err : goal.returns-in-Err
returns-in-Err c = sym (byte_at-granted c.args.self.now c.args.right c.args.address ∙ ap (byte_of (c.args.address % 4096)) (sym c.in-Err.ensures))
