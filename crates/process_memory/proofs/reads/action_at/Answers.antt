use Rattle.std.proofs.Common.{◌≡◌, ◌+◌, refl, sym, subst, arith}
use Rattle.std.specs.Prelude.{IsSome}
use Rattle.plain_process.specs.Memory.{bytes_at}
use Rattle.plain_process.specs.declared.memory.Right.TheVariants.{Read}
use Rattle.guest_pages.proofs.Checks.{readable-part}
use Rattle.process_memory.proofs.LocalReads.{action_read}
use Rattle.process_memory.proofs.reads.action_at.Goals as goal

pub readable_word-requires : goal.readable_word-requires
readable_word-requires c =
    let start : c.args.address + 0 ≡ c.args.address = omega arith in
    subst (λ a. IsSome (bytes_at c.args.space.now Read a 4)) start
    (readable-part c.args.space.now Read c.args.address 16 0 4 (omega arith) (sym c.if-not-is_readable.ensures.readable))

pub readable_word-requires-2 : goal.readable_word-requires-2
readable_word-requires-2 c = readable-part c.args.space.now Read c.args.address 16 4 4 (omega arith) (sym c.if-not-is_readable.ensures.readable)

pub readable_word-requires-3 : goal.readable_word-requires-3
readable_word-requires-3 c = readable-part c.args.space.now Read c.args.address 16 8 4 (omega arith) (sym c.if-not-is_readable.ensures.readable)

pub returns : goal.returns
returns c =
    rw (c.blockable.ensures)
    (action_read c.args.space.now c.args.address c.readable_word.result c.readable_word-2.result c.readable_word-3.result (bytes_at c.args.space.now Read c.args.address 16) refl
    (sym c.if-not-is_readable.ensures.readable) c.readable_word.ensures c.readable_word-2.ensures c.readable_word-3.ensures)
