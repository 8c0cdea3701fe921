use Rattle.std.proofs.Common.{◌≡◌, ◌+◌, drop}
use Rattle.elf32.specs.Rules.{bytes_are}
use Rattle.elf32.proofs.file_header.check_bytes.Given as goal

abbrev pub invariant-loop-index : goal.invariant-loop-index
invariant-loop-index l =
    bytes_are l.file (l.place + l.index) (drop l.index l.bytes) l.reason ≡ bytes_are l.file l.place l.bytes l.reason
