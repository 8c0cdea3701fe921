use Rattle.std.proofs.Common.{◌≡◌, map}
use Rattle.rv_asm.specs.Labels.{lines_in, label_seen}
use Rattle.rv_asm.specs.Layout.{place_of, labels_before}
use Rattle.rv_asm.proofs.labels.layout_of.Given as goal

abbrev pub invariant-loop-line : goal.invariant-loop-line
invariant-loop-line l =
    (l.place ≡ place_of (lines_in l.lines) l.line) × (map label_seen l.labels.items ≡ labels_before (lines_in l.lines) l.line)
