use Rattle.std.proofs.Common.{◌≡◌, ◌*◌}
use Rattle.plain_process.specs.Start.{segment_bytes}
use Rattle.guest_start.proofs.pages.segment_page.Given as goal

abbrev pub invariant-loop-offset : goal.invariant-loop-offset
invariant-loop-offset l = l.bytes.items ≡ segment_bytes l.segments (4096 * l.number) l.offset
