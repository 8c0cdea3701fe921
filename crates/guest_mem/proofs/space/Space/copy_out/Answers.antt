use Rattle.std.proofs.Common.{◌+◌, ap, arith}
use Rattle.std.proofs.lemmas.List.{append-nil}
use Rattle.std.specs.Prelude.{Some}
use Rattle.plain_process.specs.declared.memory.Right.TheVariants.{Read}
use Rattle.plain_process.specs.Memory.{bytes_at}
use Rattle.guest_pages.proofs.Checks.{refusal-none, readable-part}
use Rattle.guest_mem.proofs.Copies.{length-bytes_at, length-copied, copied_more}
use Rattle.guest_mem.proofs.space.Space.copy_out.Goals as goal

pub loop-done-init : goal.loop-done-init
unfolding bytes_at
loop-done-init c = record { within = omega arith; put = ap (λ bytes. Some bytes) (append-nil c.args.transfer.now) }

pub piece-requires-clause-readable : goal.piece-requires-clause-readable
piece-requires-clause-readable c =
    readable-part c.args.self.now Read c.args.address c.args.n c.loop-done.done c.room_in_page-size.result (omega (arith, c.room_in_page-size.ensures))
    (refusal-none c.args.self.now Read c.args.address c.args.n c.in_ok-check.ensures.refused)

pub put-requires : goal.put-requires
put-requires c =
    let piece = length-bytes_at c.args.self.now Read (c.args.address + c.loop-done.done) c.room_in_page-size.result c.piece.result.now c.piece.ensures in
    let front = length-copied c.args.self.now Read c.args.address c.loop-done.done c.args.transfer.now c.loop-done.transfer c.loop-done.invariant.put in
    omega (arith, piece, front, c.room_in_page-size.ensures, c.requires)

pub loop-done-preserved : goal.loop-done-preserved
loop-done-preserved c = record {
  within = omega (arith, c.room_in_page-size.ensures);
  put = copied_more c.args.self.now Read c.args.address c.loop-done.done c.room_in_page-size.result c.args.transfer.now c.loop-done.transfer c.piece.result.now c.put.new.self
      c.loop-done.invariant.put c.piece.ensures c.put.ensures;
}
