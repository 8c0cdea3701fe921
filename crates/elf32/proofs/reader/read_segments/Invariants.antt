use Rattle.std.proofs.Common.{◌≡◌, None}
use Rattle.elf32.specs.Faults.{first_some}
use Rattle.elf32.specs.ProgramHeaders.{segments_before}
use Rattle.elf32.specs.Rules.{program_header_rules}
use Rattle.elf32.proofs.reader.read_segments.Given as goal

abbrev pub invariant-loop-index : goal.invariant-loop-index
invariant-loop-index l = record {
  rules : first_some (program_header_rules l.file l.index) ≡ None;
  segments : l.layout.segments ≡ segments_before l.file l.index;
}
