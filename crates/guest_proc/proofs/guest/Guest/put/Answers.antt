use Rattle.std.proofs.Common.{ap, sym, ◌∙◌}
use Rattle.plain_process.specs.declared.user_part.UserPart.{UserPart}
use Rattle.plain_process.specs.Put.{after_threads, word_of}
use Rattle.guest_proc.proofs.Putting.{answered_by, has_still, can_still, put_missing, put_there}
use Rattle.guest_proc.proofs.guest.Guest.put.Goals as goal

pub returns-then-not-has_thread-clause-user : goal.returns-then-not-has_thread-clause-user
returns-then-not-has_thread-clause-user c = put_missing c.args.self.now.user c.args.t.0 c.args.request.now c.args.reply c.args.bytes.now (sym c.if-not-has_thread.ensures)

pub change_threads-requires-clause-thread : goal.change_threads-requires-clause-thread
change_threads-requires-clause-thread c =
    has_still c.args.self.now.user c.finish_call.new.self.user c.args.t.0 c.args.request.now (word_of c.args.reply) c.args.bytes.now
    (answered_by c.args.self.now c.put_bytes.new.self c.finish_call.new.self c.args.t.0 c.args.request.now c.args.reply c.word_of.result c.args.bytes.now c.put_bytes.ensures c.word_of.ensures
    c.finish_call.ensures) (sym c.if-not-has_thread.ensures)

pub change_threads-requires-clause-free : goal.change_threads-requires-clause-free
change_threads-requires-clause-free c =
    can_still c.args.self.now.user c.finish_call.new.self.user c.args.t.0 c.args.request.now c.args.reply (word_of c.args.reply) c.args.bytes.now
    (answered_by c.args.self.now c.put_bytes.new.self c.finish_call.new.self c.args.t.0 c.args.request.now c.args.reply c.word_of.result c.args.bytes.now c.put_bytes.ensures c.word_of.ensures
    c.finish_call.ensures) (sym c.if-not-has_thread.ensures) c.requires.added

pub returns-clause-user : goal.returns-clause-user
returns-clause-user c =
    c.change_threads.ensures.user
    ∙ ap (λ (user : UserPart). after_threads user c.args.t.0 c.args.request.now c.args.reply)
    (answered_by c.args.self.now c.put_bytes.new.self c.finish_call.new.self c.args.t.0 c.args.request.now c.args.reply c.word_of.result c.args.bytes.now c.put_bytes.ensures c.word_of.ensures
    c.finish_call.ensures)
    ∙ put_there c.args.self.now.user c.args.t.0 c.args.request.now c.args.reply c.args.bytes.now (sym c.if-not-has_thread.ensures)
