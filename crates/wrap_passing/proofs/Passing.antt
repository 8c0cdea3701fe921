-- A call that the kernel answered, as the system tells it.
--     passed       from what the kernel promises to what the system does
use Rattle.std.proofs.Common.{◌≡◌, ℕ, List, Some, None, refl, sym, ap, ◌∙◌, subst}
use Rattle.std.specs.FinMap as map
use Rattle.views.specs.Numbers.{Byte}
use Rattle.sys_abi.specs.declared.identity.VPid.{VPid}
use Rattle.sys_abi.specs.declared.identity.RealPid.{RealPid}
use Rattle.sys_abi.specs.declared.reply.Reply.{Reply}
use Rattle.sys_abi.specs.declared.reply.Reply.TheVariants as plain_reply
use Rattle.call_table.specs.declared.request.Request.{Request}
use Rattle.plain_process.specs.Attempts.{Try, Fails, NotReady, Gives}
use Rattle.plain_machine.specs.declared.kernel.PlainKernel.{PlainKernel}
use Rattle.plain_machine.specs.Attempts.{Served}
use Rattle.plain_machine.specs.Serve.{row}
use Rattle.host_tables.specs.declared.attempt.Attempt.{Attempt}
use Rattle.host_tables.specs.declared.attempt.Attempt.TheVariants as answer
use Rattle.host_tables.specs.declared.kernel.Kernel.{Kernel}
use Rattle.host_tables.specs.declared.reply.KernelReply.{KernelReply}
use Rattle.host_tables.specs.declared.reply.KernelReply.TheVariants.{Done, Error, Memory}
use Rattle.host_tables.specs.declared.reply.KernelReply.TheVariants as reply
use Rattle.host_tables.specs.declared.request.RealRequest.{RealRequest}
use Rattle.host_tables.specs.declared.system.System.{System}
use Rattle.host_tables.specs.Numbers.{real}
use Rattle.host_tables.specs.Requests.{plain_of, IsNamed}
use Rattle.host_tables.specs.Serves.{IsReply, After, ValueRelation, Gave, Serves, ValueOf, GivenAfter, row_of, value_of, reply_value, ServesAttempt, ServesCall}
use Rattle.host_tables.specs.Stands.{Given, Stands}
use Rattle.host_tables.specs.Systems.{given_of}
use Rattle.wrap_names.specs.Passing.{Passed}
use Rattle.wrap_names.specs.Asks.{AsksFor}
use Rattle.wrap_passing.specs.Telling.{told_value, told_reply}
use Rattle.wrap_names.specs.Wrapping.{IsWrapped, TellsRow, kernel_left}
use Rattle.wrap_passing.proofs.RealCalls.{IsPlain}

-- an answer with the guest's number
abbrev told_attempt : (ℕ → ℕ) → Attempt → Attempt
told_attempt told (answer.Gives n) = answer.Gives (told n)
told_attempt told a = a

module _ (g : Given) (old new : Kernel) (k : PlainKernel) (st : Stands g None old k) (before now : List Byte)
    (V : ValueRelation) (after : After) (kept : (n m : ℕ) → after n m g ≡ g) (told : ℕ → ℕ)
    (tells : (n m : ℕ) → V n m g → told n ≡ m) where
  abbrev Does : Attempt → Try Served → Type 0
  Does a m = Stands g None new (kernel_left k m) × TellsRow before now (told_attempt told a) m

  reply_told : (a : Attempt) (r : Reply) → IsReply (λ n m. V n m g) a r
      → IsReply (λ n m. n ≡ m) (told_attempt told a) r
  reply_told (answer.Gives n) (plain_reply.Value m) h = tells n m h
  reply_told (answer.Gives n) (plain_reply.Error f) h = absurd h
  reply_told (answer.Fails e) (plain_reply.Value m) h = absurd h
  reply_told (answer.Fails e) (plain_reply.Error f) h = h
  reply_told answer.NotReady r h = absurd h

  pub does : (a : Attempt) (m : Try Served) → Serves V after g old new before now a m → Does a m
  does a (Fails e) u =
      (subst (λ x. Stands g None x k) (sym u.kernel) st, (ap (told_attempt told) u.answer, u.bytes))
  does a NotReady u =
      (subst (λ x. Stands g None x k) (sym u.kernel) st, (ap (told_attempt told) u.answer, u.bytes))
  does a (Gives s) gave =
      let same = subst (λ x. Gave (λ n m. V n m x) x new before now a s)
      (kept (value_of a) (reply_value s.reply)) gave in
      (same.stands, (reply_told a s.reply same.reply, same.bytes))

module _ (s : System) (next_id : ℕ) (k : PlainKernel) (w : IsWrapped s next_id k) (p : VPid) (t : ℕ)
    (r : Request) (who : RealPid) (thread : ℕ) (paired : map.get s.ids.pids p.0 ≡ Some who)
    (thread_paired : map.get s.ids.pids t ≡ Some (real who.node thread)) (req : RealRequest)
    (plain : IsPlain req r) (before now : List Byte) (named : IsNamed (given_of s) k who p 0 before req)
    (new : Kernel) where
  abbrev after_it : System
  after_it = record s { kernel = new }

  abbrev its_row : Try Served
  its_row = row k p t r before

  row_is : row_of req (row k p t (plain_of 0 req) before) ≡ its_row
  row_is = plain.loud (row k p t (plain_of 0 req) before) ∙ plain.row_is k p t before

  does_row : (a : Attempt) → ServesAttempt s.kernel new who thread req before now a
      → Does (given_of s) s.kernel new k w.stands.tables before now (ValueOf who req)
      (GivenAfter who k p 0 before req) (λ n m. plain.after who k p before n m (given_of s))
      (told_value s.ids.virts who req)
      (λ n m h. plain.value who n m (given_of s) w.stands.tables.paired.inverse h) a its_row
  does_row a serves =
      does (given_of s) s.kernel new k w.stands.tables before now (ValueOf who req)
      (GivenAfter who k p 0 before req) (λ n m. plain.after who k p before n m (given_of s))
      (told_value s.ids.virts who req)
      (λ n m h. plain.value who n m (given_of s) w.stands.tables.paired.inverse h) a its_row
      (subst (Serves (ValueOf who req) (GivenAfter who k p 0 before req) (given_of s) s.kernel new before now a)
      row_is
      (serves (given_of s) k p w.stands.kernel w.stands.tables paired t 0 thread_paired named))

  pass : (k' : PlainKernel) → Stands (given_of s) None new k'
      → Passed s after_it k'
  pass k' stands = record { ids = refl; conns = refl; names = refl; stands = stands }

  pub passed : (answered : KernelReply) → ServesCall s.kernel new who thread req before now answered
      → AsksFor s after_it k before now (told_reply s.ids.virts who req answered) its_row
  passed (Done n) serves =
      let d = does_row (answer.Gives n) serves in
      (pass (kernel_left k its_row) d.0, d.1)
  passed (Error e) serves =
      let d = does_row (answer.Fails e) serves in
      (pass (kernel_left k its_row) d.0, d.1)
  passed reply.NotReady serves =
      let d = does_row answer.NotReady serves in
      (pass (kernel_left k its_row) d.0, d.1)
  passed Memory serves = (
    pass k
        (subst (λ x. Stands (given_of s) None x k) (sym serves.0) w.stands.tables),
    serves.1,
  )
