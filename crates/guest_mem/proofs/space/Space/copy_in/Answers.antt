use Rattle.std.proofs.Common.{◌+◌, ◌≤◌, length, arith, refl}
use Rattle.plain_process.specs.Memory.{with_bytes}
use Rattle.guest_mem.proofs.Copies.{written_more}
use Rattle.guest_mem.proofs.space.Space.copy_in.Goals as goal

pub loop-done-init : goal.loop-done-init
unfolding with_bytes
loop-done-init c = record { within = omega arith; written = refl }

pub loop-done-preserved : goal.loop-done-preserved
loop-done-preserved c =
    let within : c.loop-done.done + c.room_in_page.result ≤ length c.args.piece.now = omega (arith, c.room_in_page.ensures) in
    record {
      within = within;
      written = written_more c.args.self.now c.loop-done.self c.write.new.self c.args.address c.loop-done.done c.room_in_page.result c.args.piece.now within c.loop-done.invariant.written c.write.ensures;
    }
