use Rattle.std.proofs.Common.{take}
use Rattle.trace_log.specs.Spelling.{Spell}
use Rattle.trace_log.proofs.trace.spell.Given as goal

abbrev pub invariant-loop-event : goal.invariant-loop-event
invariant-loop-event l = Spell (take l.event-index l.records) l.bytes.items
