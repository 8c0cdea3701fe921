use Rattle.std.proofs.Common.{◌≡◌}
use Rattle.rv_asm.specs.Labels.{lines_in}
use Rattle.rv_asm.specs.Layout.{place_of}
use Rattle.rv_asm.specs.Files.{AreGood, body_before}
use Rattle.rv_asm.proofs.assembler.body_of.Given as goal

abbrev pub invariant-loop-line : goal.invariant-loop-line
invariant-loop-line l =
    (l.place ≡ place_of (lines_in l.lines) l.line) × (l.body.items ≡ body_before (lines_in l.lines) l.line) × AreGood (lines_in l.lines) l.line
