use Rattle.std.proofs.Common.{◌≡◌, ◌+◌, ◌-◌, ◌%◌, ◌≤◌, length, take, drop, sym, ap, ◌∙◌, subst, arith}
use Rattle.std.specs.Prelude.{IsSome, Some}
use Rattle.plain_process.specs.declared.memory.Right.TheVariants.{Read}
use Rattle.guest_pages.proofs.InPage.{bytes_at-in_page, bytes_of, bytes_from-take}
use Rattle.guest_pages.proofs.Ranges.{false_true}
use Rattle.guest_mem.proofs.space.Space.piece.Goals as goal

pub unreachable-requires : goal.unreachable-requires
unreachable-requires c =
    false_true (subst IsSome (bytes_at-in_page c.args.self.now Read c.args.address c.args.size c.requires.some c.requires.inside ∙ ap (bytes_of (c.args.address % 4096) c.args.size) (sym c.in-Err.ensures)) c.requires.readable)

pub returns : goal.returns
returns c =
    let offset = c.args.address % 4096 in
    let within : offset + c.args.size ≤ length c.in-Ok.frame.now.page = omega (arith, c.as_slice.ensures.size) in
    let size : c.args.size ≡ offset + c.args.size - offset = omega arith in
    bytes_at-in_page c.args.self.now Read c.args.address c.args.size c.requires.some c.requires.inside
    ∙ ap (bytes_of offset c.args.size) (sym c.in-Ok.ensures)
    ∙ ap (λ bytes. Some bytes) (bytes_from-take c.in-Ok.frame.now.page offset c.args.size within ∙ (λ i. take (size i) (drop offset (sym c.as_slice.ensures.bytes i))))
