use Rattle.std.proofs.Common.{◌≡◌, ◌≤◌, sym, subst}
use Rattle.std.specs.Prelude.{IfSome, IfNone}
use Rattle.plain_process.specs.Buffers.{filled_spans}
use Rattle.plain_process.specs.Valid.{CanAddAs}
use Rattle.thread_group.proofs.OfProcessMemory.Taking.{takes_nothing}
use Rattle.guest_proc.proofs.LocalAnswers.{error_adds_nothing}
use Rattle.guest_proc.proofs.guest.Guest.put_error.Goals as goal

pub put-requires-clause-writable : goal.put-requires-clause-writable
put-requires-clause-writable c = takes_nothing c.args.self.now.user.memory (filled_spans c.args.self.now.user.memory c.args.request.now)

pub put-requires-clause-added : goal.put-requires-clause-added
put-requires-clause-added c = subst (CanAddAs c.args.self.now.user) (sym (error_adds_nothing c.args.request.now c.args.errno)) tt

pub put-requires-clause-spare : goal.put-requires-clause-spare
put-requires-clause-spare c =
    subst (λ added. IfSome added (λ _. 1 ≤ c.args.self.now.spare)) (sym (error_adds_nothing c.args.request.now c.args.errno)) tt

pub returns : goal.returns
returns c =
    let same = subst (λ added. IfNone added (c.put.new.self.spare ≡ c.args.self.now.spare)) (error_adds_nothing c.args.request.now c.args.errno) c.put.ensures.spare in
    λ k. record { pid = c.put.ensures.pid k; user = c.put.ensures.user k; spare = same k }
