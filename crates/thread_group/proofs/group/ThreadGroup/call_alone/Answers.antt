use Rattle.std.proofs.Common.{refl}
use Rattle.std.specs.Prelude.{Ok}
use Rattle.call_table.specs.declared.request.Request.TheVariants.{SetTidAddress, SchedYield, RtSigaction, RtSigprocmask, RtSigreturn, Gettid, Brk, Munmap, Mmap}
use Rattle.plain_process.specs.Buffers.{reads_of, given_of}
use Rattle.plain_process.specs.Put.{added_thread}
use Rattle.plain_process.specs.Local.{local_by}
use Rattle.thread_group.specs.Groups.{joined}
use Rattle.thread_group.proofs.LocalCalls.{value_call, quiet_call, action_call, mask_call, other_call, sigaction_fits, sigprocmask_fits, lent_given}
use Rattle.thread_group.proofs.group.ThreadGroup.call_alone.Goals as goal

pub returns-in-SetTidAddress-clause-call : goal.returns-in-SetTidAddress-clause-call
unfolding local_by added_thread
returns-in-SetTidAddress-clause-call c =
    value_call (joined c.args.memory.now c.args.self.now) (joined c.args.memory.now c.set_tid_address.new.self) c.args.t.0 c.args.request.now (SetTidAddress c.in-SetTidAddress.place)
    (Ok c.set_tid_address.result) (Ok _) c.in-SetTidAddress.is refl (λ thread given asked. c.set_tid_address.ensures.row c.args.memory.now thread asked.there) (λ value. refl)

pub returns-in-SchedYield-clause-call : goal.returns-in-SchedYield-clause-call
unfolding local_by added_thread
returns-in-SchedYield-clause-call c =
    value_call (joined c.args.memory.now c.args.self.now) (joined c.args.memory.now c.args.self.now) c.args.t.0 c.args.request.now SchedYield (Ok 0) (Ok _) c.in-SchedYield.is refl
    (λ thread given asked. refl) (λ value. refl)

pub returns-in-RtSigaction-clause-call : goal.returns-in-RtSigaction-clause-call
unfolding local_by given_of reads_of
returns-in-RtSigaction-clause-call c =
    let named = RtSigaction c.in-RtSigaction.signal c.in-RtSigaction.action c.in-RtSigaction.old_action c.in-RtSigaction.size in
    action_call (joined c.args.memory.now c.args.self.now) (joined c.args.memory.now c.sigaction.new.self) c.args.t.0 c.args.request.now named c.sigaction.result c.action_answer.result
    c.in-RtSigaction.is c.action_answer.ensures
    (λ thread given asked. c.sigaction.ensures.row c.args.memory.now given c.in-RtSigaction.action (c.new_action-new.ensures given (lent_given c.args.memory.now.pages named given asked.read)))
    (λ action. sigaction_fits c.args.memory.now.pages c.args.request.now c.in-RtSigaction.signal c.in-RtSigaction.action c.in-RtSigaction.old_action c.in-RtSigaction.size action
    c.in-RtSigaction.is c.requires.lent)

pub returns-in-RtSigprocmask-clause-call : goal.returns-in-RtSigprocmask-clause-call
unfolding local_by given_of reads_of
returns-in-RtSigprocmask-clause-call c =
    let named = RtSigprocmask c.in-RtSigprocmask.how c.in-RtSigprocmask.set c.in-RtSigprocmask.old_set c.in-RtSigprocmask.size in
    mask_call (joined c.args.memory.now c.args.self.now) (joined c.args.memory.now c.sigprocmask.new.self) c.args.t.0 c.args.request.now named c.sigprocmask.result c.mask_answer.result
    c.in-RtSigprocmask.is c.mask_answer.ensures
    (λ thread given asked. c.sigprocmask.ensures.row c.args.memory.now given c.in-RtSigprocmask.set thread
    (c.new_set-new.ensures given (lent_given c.args.memory.now.pages named given asked.read)) asked.there)
    (λ mask. sigprocmask_fits c.args.memory.now.pages c.args.request.now c.in-RtSigprocmask.how c.in-RtSigprocmask.set c.in-RtSigprocmask.old_set c.in-RtSigprocmask.size mask
    c.in-RtSigprocmask.is c.requires.lent)

pub returns-in-RtSigreturn-clause-call : goal.returns-in-RtSigreturn-clause-call
unfolding local_by
returns-in-RtSigreturn-clause-call c =
    quiet_call (joined c.args.memory.now c.args.self.now) (joined c.args.memory.now c.sigreturn.new.self) c.args.t.0 c.args.request.now RtSigreturn c.sigreturn.result c.no_answer.result
    c.in-RtSigreturn.is c.no_answer.ensures (λ thread given asked. c.sigreturn.ensures.row c.args.memory.now thread asked.there)

pub returns-in-Gettid-clause-call : goal.returns-in-Gettid-clause-call
unfolding local_by added_thread
returns-in-Gettid-clause-call c =
    value_call (joined c.args.memory.now c.args.self.now) (joined c.args.memory.now c.args.self.now) c.args.t.0 c.args.request.now Gettid (Ok c.args.t.0) (Ok _) c.in-Gettid.is refl
    (λ thread given asked. refl) (λ value. refl)

pub returns-in-Brk-clause-call : goal.returns-in-Brk-clause-call
unfolding local_by added_thread
returns-in-Brk-clause-call c =
    value_call (joined c.args.memory.now c.args.self.now) (joined c.brk.new.self c.args.self.now) c.args.t.0 c.args.request.now (Brk c.in-Brk.address) c.brk.result c.value_answer.result c.in-Brk.is
    c.value_answer.ensures (λ thread given asked. c.brk.ensures (joined c.args.memory.now c.args.self.now)) (λ value. refl)

pub returns-in-Munmap-clause-call : goal.returns-in-Munmap-clause-call
unfolding local_by added_thread
returns-in-Munmap-clause-call c =
    value_call (joined c.args.memory.now c.args.self.now) (joined c.munmap.new.self c.args.self.now) c.args.t.0 c.args.request.now (Munmap c.in-Munmap.address c.in-Munmap.length) c.munmap.result
    c.value_answer-in-Munmap.result c.in-Munmap.is c.value_answer-in-Munmap.ensures (λ thread given asked. c.munmap.ensures.row (joined c.args.memory.now c.args.self.now)) (λ value. refl)

pub returns-in-Mmap-clause-call : goal.returns-in-Mmap-clause-call
unfolding local_by added_thread
returns-in-Mmap-clause-call c =
    value_call (joined c.args.memory.now c.args.self.now) (joined c.mmap.new.self c.args.self.now) c.args.t.0 c.args.request.now
    (Mmap c.in-Mmap.address c.in-Mmap.length c.in-Mmap.protection c.in-Mmap.flags c.in-Mmap.fd c.in-Mmap.offset) c.mmap.result c.value_answer-in-Mmap.result
    c.in-Mmap.is c.value_answer-in-Mmap.ensures (λ thread given asked. c.mmap.ensures (joined c.args.memory.now c.args.self.now)) (λ value. refl)

pub returns-in_default-clause-call : goal.returns-in_default-clause-call
returns-in_default-clause-call c = other_call (joined c.args.memory.now c.args.self.now) c.args.t.0 c.args.request.now (record {
  set_tid_address = c.in_default.not-SetTidAddress;
  futex = c.in_default.not-Futex;
  sched_yield = c.in_default.not-SchedYield;
  sigaction = c.in_default.not-RtSigaction;
  sigprocmask = c.in_default.not-RtSigprocmask;
  sigreturn = c.in_default.not-RtSigreturn;
  gettid = c.in_default.not-Gettid;
  brk = c.in_default.not-Brk;
  munmap = c.in_default.not-Munmap;
  mmap = c.in_default.not-Mmap;
})
