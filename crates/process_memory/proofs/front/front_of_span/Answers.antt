use Rattle.std.proofs.Common.{◌≡◌, ◌+◌, length, sym, subst, ◌∙◌, arith}
use Rattle.std.specs.Prelude.{is_some, min, true}
use Rattle.std.proofs.lemmas.Bool.{true≢false}
use Rattle.plain_process.specs.declared.memory.Right.TheVariants.{Read}
use Rattle.plain_process.specs.Memory.{bytes_at}
use Rattle.guest_pages.proofs.Checks.{readable-part}
use Rattle.guest_mem.proofs.Copies.{length-bytes_at}
use Rattle.process_memory.proofs.Fronts.{FrontSoFar, starts, filled, whole, byte_of}
use Rattle.process_memory.proofs.front.front_of_span.Goals as goal

pub unreachable-requires : goal.unreachable-requires
unreachable-requires c =
    let part = readable-part c.args.space.now Read c.args.at.address c.args.at.length 0 c.min-count.result (omega arith) c.requires in
    let place : c.args.at.address + 0 ≡ c.args.at.address = omega arith in
    let had : is_some (bytes_at c.args.space.now Read c.args.at.address c.min-count.result) ≡ true = subst (λ a. is_some (bytes_at c.args.space.now Read a c.min-count.result) ≡ true) place part in
    true≢false (sym had ∙ sym c.is_readable.ensures.readable ∙ c.if-not-is_readable.true)

pub loop-index-init : goal.loop-index-init
loop-index-init c = λ given is. starts given

pub loop-index-preserved : goal.loop-index-preserved
loop-index-preserved c = λ given is.
    filled given c.loop-index.index c.unwrap_or.result c.loop-index.front (omega arith)
    (byte_of c.args.space.now c.args.at.address c.args.at.length c.loop-index.index given c.byte_with-byte.result c.unwrap_or.result (omega arith) is c.byte_with-byte.ensures c.unwrap_or.ensures)
    (c.loop-index.invariant given is)

pub returns : goal.returns
returns c = λ given is.
    let size = length-bytes_at c.args.space.now Read c.args.at.address c.args.at.length given is in
    let all : c.loop-index.index ≡ min (length given) 16 = omega arith in
    whole given c.loop-index.front (subst (λ n. FrontSoFar given n c.loop-index.front) all (c.loop-index.invariant given is))
