use Rattle.std.proofs.Common.{sym, ap, ◌∙◌, inr}
use Rattle.elf32.specs.ProgramHeaders.{segments_before}
use Rattle.elf32.proofs.Accepted.{AreAccepted, segments-accepted}
use Rattle.elf32.proofs.FirstSome.{Reports-exit}
use Rattle.elf32.proofs.WholeFile.{first_fault-header, first_fault-segments, first_fault-starts}
use Rattle.elf32.proofs.reader.read_elf.Goals as goal

pub returns-in_err-header-clause-rules : goal.returns-in_err-header-clause-rules
returns-in_err-header-clause-rules c =
    Reports-exit _ _ _ c.from_residual.ensures.1 (inr (first_fault-header _ _ (sym c.in_err-header.ensures.rules)))

pub returns-in_err-segments-clause-rules : goal.returns-in_err-segments-clause-rules
returns-in_err-segments-clause-rules c =
    Reports-exit _ _ _ c.from_residual-in_err-segments.ensures.1
    (first_fault-segments _ c.in_ok-header.header _ c.in_ok-header.ensures.fields c.in_ok-header.ensures.rules c.in_err-segments.ensures.rules)

pub returns-in_err-check-clause-rules : goal.returns-in_err-check-clause-rules
returns-in_err-check-clause-rules c =
    Reports-exit _ _ _ c.from_residual-in_err-check.ensures.1
    (inr (first_fault-starts _ c.in_ok-header.header c.as_slice.result.now c.is_entry-starts.result c.in_ok-header.ensures.fields (c.as_slice.ensures ∙ c.in_ok-segments.ensures.segments)
    c.is_entry-starts.ensures c.in_ok-header.ensures.rules c.in_ok-segments.ensures.rules ∙ sym c.in_err-check.ensures.fault))

pub returns-clause-rules : goal.returns-clause-rules
returns-clause-rules c =
    first_fault-starts _ c.in_ok-header.header c.as_slice.result.now c.is_entry-starts.result c.in_ok-header.ensures.fields (c.as_slice.ensures ∙ c.in_ok-segments.ensures.segments)
    c.is_entry-starts.ensures c.in_ok-header.ensures.rules c.in_ok-segments.ensures.rules ∙ sym c.in_ok-check.ensures.fault

accepted : (c : goal.In_ok-check) → AreAccepted c.in_ok-segments.segments
accepted c = segments-accepted _ _ (c.in_ok-segments.ensures.segments ∙ ap (λ h. segments_before c.args.bytes.now h.phnum) c.in_ok-header.ensures.fields) (returns-clause-rules c)

pub returns-clause-placed : goal.returns-clause-placed
returns-clause-placed c = (accepted c).placed

pub returns-clause-apart : goal.returns-clause-apart
returns-clause-apart c = (accepted c).apart

pub returns-clause-pages : goal.returns-clause-pages
returns-clause-pages c = (accepted c).pages
