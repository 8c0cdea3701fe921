use Rattle.std.proofs.Common.{refl, ap, ◌∙◌}
use Rattle.elf32.specs.Faults.{first_some}
use Rattle.elf32.specs.ProgramHeaders.{segments_before}
use Rattle.elf32.specs.Rules.{program_header_rules}
use Rattle.elf32.proofs.FirstSome.{Reports-exit}
use Rattle.elf32.proofs.HeaderRules.{rules-step, rules-exit, segments-step}
use Rattle.elf32.proofs.reader.read_segments.Goals as goal

pub returns-in_err-add-clause-rules : goal.returns-in_err-add-clause-rules
returns-in_err-add-clause-rules c =
    Reports-exit _ _ _ c.from_residual.ensures.1
    (rules-exit c.args.file.now c.loop-index.layout.segments c.args.header.phoff c.loop-index.index c.args.header.phnum _ (ap (λ h. h.phoff) c.requires.fields) c.loop-index.invariant.segments c.loop-index-test.true
    c.loop-index.invariant.rules c.in_err-add.ensures.rules)

pub loop-index-init : goal.loop-index-init
unfolding first_some program_header_rules segments_before
loop-index-init c = record { rules = refl; segments = c.new-layout.ensures }

pub loop-index-preserved : goal.loop-index-preserved
loop-index-preserved c =
    let at_phoff = ap (λ h. h.phoff) c.requires.fields in
    record {
      rules = rules-step c.args.file.now c.loop-index.layout.segments c.args.header.phoff c.loop-index.index at_phoff c.loop-index.invariant.segments
          c.loop-index.invariant.rules c.in_ok-add.ensures.rules;
      segments = c.in_ok-add.ensures.added
          ∙ segments-step c.args.file.now c.loop-index.layout.segments c.args.header.phoff c.loop-index.index at_phoff c.loop-index.invariant.segments;
    }
