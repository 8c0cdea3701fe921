use Rattle.std.proofs.Common.{sym, ◌∙◌}
use Rattle.elf32.proofs.FirstSome.{result_err-exit}
use Rattle.elf32.proofs.Bytes.{bytes_are-more, bytes_are-found, bytes_are-end}
use Rattle.elf32.proofs.file_header.check_bytes.Goals as goal

pub returns-in_err-check : goal.returns-in_err-check
returns-in_err-check c =
    result_err-exit _ _ c.from_residual.ensures.1
    ∙ sym (bytes_are-found _ _ _ _ _ _ c.loop-index-test.true (sym c.in_err-check.ensures.fault))
    ∙ c.loop-index.invariant

pub loop-index-preserved : goal.loop-index-preserved
loop-index-preserved c =
    bytes_are-more _ _ _ _ _ c.loop-index-test.true (sym c.in_ok-check.ensures.fault) ∙ c.loop-index.invariant

pub returns : goal.returns
returns c = sym (bytes_are-end _ _ _ _ _ c.loop-index-test.false) ∙ c.loop-index.invariant
