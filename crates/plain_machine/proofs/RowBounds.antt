-- What every row's law is made of: the answer's part, and the ways in which a call leaves the processes.
--     RowLaw k p t q given      what a row shows of itself      row_law, unbuilt      of its tests and its effect, of a call that always refuses
--     meets                     of an answer without bytes
--     IsQuiet t q reply         an answer that changes no threads      quiet      of each call but an exit and a clone
--     stays, ends, changed      who lives after a call that changes no process, ends the caller's, changes its threads
--     tested, looked_up         through the tests of a row that doesn't wait
use Rattle.std.proofs.Common.{◌≡◌, ◌≢◌, ℕ, ◌^◌, ◌<◌, ◌≤◌, Bool, true, false, List, [], length, refl, sym, ap, subst, ◌∙◌, arith}
use Rattle.std.specs.Prelude.{Option, Some, None, is_some}
use Rattle.std.specs.FinMap as map
use Rattle.std.proofs.lemmas.List.Elements.{All-nil}
use Rattle.plain_tables.proofs.OfViews.MapLaws.{true_false}
use Rattle.plain_tables.specs.OfSysAbi.declared.identity.VPid.{VPid}
use Rattle.plain_tables.specs.OfSysAbi.declared.reply.Reply.{Reply}
use Rattle.plain_tables.specs.OfSysAbi.declared.reply.Reply.TheVariants.{Value}
use Rattle.plain_tables.specs.OfCallTable.declared.request.Request.{Request}
use Rattle.plain_tables.specs.OfCallTable.declared.request.Request.TheVariants.{Exit, Clone}
use Rattle.plain_tables.specs.OfSysAbi.declared.transfer.TheConstants.{TRANSFER_LIMIT}
use Rattle.plain_machine.specs.declared.kernel.PlainKernel.{PlainKernel}
use Rattle.plain_tables.specs.declared.process.Process.{Process}
use Rattle.plain_tables.specs.Tables.{pid, is_live_process, has_thread_in}
use Rattle.plain_tables.specs.OfPlainProcess.Attempts.{Try, Fails, NotReady, Gives, and_then, need, found}
use Rattle.plain_tables.specs.OfPlainProcess.Buffers.{filled_spans}
use Rattle.plain_tables.specs.OfPlainProcess.Put.{added_thread, made_by, error}
use Rattle.plain_tables.specs.OfPlainProcess.Valid.{IsWord}
use Rattle.plain_machine.specs.Attempts.{Served, refused, settled}
use Rattle.plain_machine.specs.Kernel.{is_live, has_thread, at_process}
use Rattle.plain_machine.specs.Ends.{after_end}
use Rattle.plain_machine.specs.Valid.{IsKernel}
use Rattle.plain_machine.specs.RowLaws.{IsAsked, IsAnswer, IsServed, IsMade, MayAdd, there_after}
use Rattle.plain_machine.specs.Serve.{row, serve, is_ready, front_of}
use Rattle.plain_tables.proofs.OfPlainProcess.Giving.{Giving, gives, nothing}
use Rattle.plain_machine.proofs.Trying.{Trying, fails}
use Rattle.plain_machine.proofs.MemoryPages.{no_bytes_taken}
use Rattle.plain_machine.proofs.ChangedProcesses.{changed_other, changed_here}
use Rattle.plain_machine.proofs.KernelThreads.{SameProcesses}
use Rattle.plain_machine.proofs.EndedKernels.{kernel_ended}
use Rattle.plain_machine.proofs.WholeEnds.{whole_ended}

-- the answer's part

bare_answer : (q : Request) (given : List ℕ) (k : PlainKernel) (value : ℕ) → IsWord value → IsAnswer q given (record { kernel = k; reply = Value value; bytes = []; console = [] })
bare_answer q given k value small = record {
  reply = small;
  bytes = All-nil _;
  short = omega arith;
  room = λ memory reads. no_bytes_taken memory (filled_spans memory q);
  is_shown = false;
  console = refl;
}

refusal_answer : (q : Request) (given : List ℕ) (k : PlainKernel) (e : ℕ) → IsAnswer q given (refused k e)
refusal_answer q given k e = record {
  reply = omega arith;
  bytes = All-nil _;
  short = omega arith;
  room = λ memory reads. no_bytes_taken memory (filled_spans memory q);
  is_shown = false;
  console = refl;
}

-- answers that change no threads

pub record IsQuiet (t : ℕ) (q : Request) (reply : Reply) : Type 0 where
  pub threads : (u : ℕ) (was : Bool) → there_after t q reply u was ≡ was
  pub adds : added_thread q reply ≡ None
  pub makes : made_by q reply ≡ None

-- neither an exit nor a clone
abbrev pub leaves_threads : Request → Bool
leaves_threads (Exit code) = false
leaves_threads (Clone flags stack parent_tid tls child_tid) = false
leaves_threads q = true

pub quiet : (t : ℕ) (q : Request) (reply : Reply) → leaves_threads q ≡ true → IsQuiet t q reply
unfolding there_after added_thread made_by
quiet t (Exit code) reply other = true_false (sym other)
quiet t (Clone flags stack parent_tid tls child_tid) reply other = true_false (sym other)
quiet t _ reply other = record { threads = λ u was. refl; adds = refl; makes = refl }

-- the next number is nobody's

module _ (k : PlainKernel) (is : IsKernel k) where
  no_process : (found : Option Process) → map.get k.processes (pid k.next_id) ≡ found → found ≡ None
  no_process None there = refl
  no_process (Some process) there = let number = (is.processes.each (pid k.next_id) process there).number.1 in absurd (omega arith)

  pub next_is_nobody : is_live k (pid k.next_id) ≡ false
  unfolding is_live
  next_is_nobody = ap is_live_process (no_process (map.get k.processes (pid k.next_id)) refl)

  pub next_is_other : (p : VPid) → is_live k p ≡ true → pid k.next_id ≢ p
  next_is_other p alive same = true_false (sym alive ∙ ap (is_live k) (sym same) ∙ next_is_nobody)

-- who lives after the call

module _ (k : PlainKernel) (p : VPid) (t : ℕ) (q : Request) (given : List ℕ) (asked : IsAsked k p t q given) (served : Served) (answer : IsAnswer q given served) where
  nobody_made : made_by q served.reply ≡ None → is_live served.kernel (pid k.next_id) ≡ false → IsMade k served.kernel (made_by q served.reply)
  nobody_made none dead = subst (IsMade k served.kernel) (sym none) dead

  nothing_added : added_thread q served.reply ≡ None → MayAdd k p (added_thread q served.reply)
  nothing_added none = subst (MayAdd k p) (sym none) tt

  pub stays : IsKernel served.kernel → SameProcesses k served.kernel → k.next_id ≤ served.kernel.next_id → IsQuiet t q served.reply → IsServed k p t q given served
  stays kernel same later quiet = record {
    kernel = kernel;
    answer = answer;
    live = λ r other new. same.live r;
    elsewhere = λ r u other new. same.threads r u;
    here = λ u alive. same.threads p u ∙ sym (quiet.threads u (has_thread k p u));
    made = nobody_made quiet.makes (same.live (pid k.next_id) ∙ next_is_nobody k asked.kernel);
    adds = nothing_added quiet.adds;
    later = later;
  }

  -- the caller's process ends
  pub ends : (status : ℕ) → status < 2 ^ 32 → served.kernel ≡ after_end k p status → added_thread q served.reply ≡ None → made_by q served.reply ≡ None → IsServed k p t q given served
  ends status word is adds makes =
      let over = kernel_ended k p status asked.kernel asked.alive in
      let same : served.kernel.next_id ≡ k.next_id = ap (λ (after : PlainKernel). after.next_id) is ∙ over.next_id in
      record {
        kernel = subst IsKernel (sym is) (whole_ended k p status asked.kernel asked.alive word);
        answer = answer;
        live = λ r other new. ap (λ (after : PlainKernel). is_live after r) is ∙ over.live r other;
        elsewhere = λ r u other new. ap (λ (after : PlainKernel). has_thread after r u) is ∙ over.threads r u other;
        here = λ u alive. true_false (sym alive ∙ ap (λ (after : PlainKernel). is_live after p) is ∙ over.gone);
        made = nobody_made makes (ap (λ (after : PlainKernel). is_live after (pid k.next_id)) is
            ∙ over.live (pid k.next_id) (next_is_other k asked.kernel p asked.alive) ∙ next_is_nobody k asked.kernel);
        adds = nothing_added adds;
        later = omega arith;
      }

  -- the threads of the caller's process change
  pub changed : (change : Process → Process) (next : ℕ) → served.kernel ≡ record (at_process k p change) { next_id = next } → IsKernel served.kernel → k.next_id ≤ served.kernel.next_id
      → ((process : Process) (u : ℕ) → map.get k.processes p ≡ Some process → is_some (map.get (change process).threads u) ≡ there_after t q served.reply u (is_some (map.get process.threads u)))
      → MayAdd k p (added_thread q served.reply) → made_by q served.reply ≡ None → IsServed k p t q given served
  unfolding is_live
  changed change next changes kernel later threads adds makes = record {
    kernel = kernel;
    answer = answer;
    live = λ r other new. ap (λ (after : PlainKernel). is_live_process (map.get after.processes r)) changes ∙ ap is_live_process (changed_other k.processes p change r other);
    elsewhere = λ r u other new. ap (λ (after : PlainKernel). has_thread_in u (map.get after.processes r)) changes ∙ ap (has_thread_in u) (changed_other k.processes p change r other);
    here = λ u now. ap (λ (after : PlainKernel). has_thread_in u (map.get after.processes p)) changes ∙ threads_here u (map.get k.processes p) refl asked.alive;
    made = nobody_made makes (ap (λ (after : PlainKernel). is_live_process (map.get after.processes (pid k.next_id))) changes
        ∙ ap is_live_process (changed_other k.processes p change (pid k.next_id) (next_is_other k asked.kernel p asked.alive)) ∙ next_is_nobody k asked.kernel);
    adds = adds;
    later = later;
  }
    where
      threads_here : (u : ℕ) (found : Option Process) → map.get k.processes p ≡ found → is_live_process found ≡ true
          → has_thread_in u (map.get (at_process k p change).processes p) ≡ there_after t q served.reply u (has_thread_in u (map.get k.processes p))
      threads_here u None known lives = true_false (sym lives)
      threads_here u (Some process) known lives = ap (has_thread_in u) (changed_here k.processes p change process known) ∙ threads process u known ∙ ap (λ o. there_after t q served.reply u (has_thread_in u o)) (sym known)

pub same_processes : (k : PlainKernel) → SameProcesses k k
same_processes k = record { live = λ q. refl; threads = λ q u. refl }

-- a row

-- what a row gives is short, and is served as the law says where a thread of a valid kernel part asks
pub record Meets (k : PlainKernel) (p : VPid) (t : ℕ) (q : Request) (given : List ℕ) (served : Served) : Type 0 where
  pub short : length served.bytes ≤ TRANSFER_LIMIT
  pub law : IsAsked k p t q given → IsServed k p t q given served

pub record RowLaw (k : PlainKernel) (p : VPid) (t : ℕ) (q : Request) (given : List ℕ) : Type 0 where
  pub served : Giving (serve k p t q given) (Meets k p t q given)
  pub ready : is_some (serve k p t q given) ≡ is_ready k p t q (front_of given)

abbrev pub Settles : PlainKernel → Try Served → Type 0
Settles k attempt = is_some (settled k attempt) ≡ true

pub tested : (k : PlainKernel) (b : Bool) (e : ℕ) (next : Try Served) → Settles k next → Settles k (and_then (need b e) (λ _. next))
unfolding and_then need
tested k true e next is = is
tested k false e next is = refl

pub looked_up : (k : PlainKernel) {A : Type 0} (there : Option A) (e : ℕ) (next : A → Try Served) → ((a : A) → Settles k (next a)) → Settles k (and_then (found there e) next)
unfolding and_then found
looked_up k None e next is = refl
looked_up k (Some a) e next is = is a

module _ (k : PlainKernel) (p : VPid) (t : ℕ) (q : Request) (given : List ℕ) where
  pub refusal : (e : ℕ) → IsQuiet t q (error e) → IsAsked k p t q given → IsServed k p t q given (refused k e)
  refusal e quiet asked = stays k p t q given asked (refused k e) (refusal_answer q given k e) asked.kernel (same_processes k) (omega arith) quiet

  settled_law : (attempt : Try Served) → ((e : ℕ) → IsQuiet t q (error e)) → Trying attempt (Meets k p t q given) → Giving (settled k attempt) (Meets k p t q given)
  settled_law (Fails e) quiet holds = gives (refused k e) (record { short = omega arith; law = refusal e (quiet e) })
  settled_law NotReady quiet holds = nothing
  settled_law (Gives served) quiet holds = gives served (holds.each served refl)

  -- of a row whose errors change no threads
  pub row_law : ((e : ℕ) → IsQuiet t q (error e)) → Trying (row k p t q given) (Meets k p t q given) → is_some (settled k (row k p t q given)) ≡ is_ready k p t q (front_of given)
      → RowLaw k p t q given
  unfolding serve
  row_law quiet holds ready = record { served = settled_law (row k p t q given) quiet holds; ready = ready }

  pub unbuilt : (e : ℕ) → row k p t q given ≡ Fails e → leaves_threads q ≡ true → is_ready k p t q (front_of given) ≡ true → RowLaw k p t q given
  unbuilt e refuses other ready = row_law (λ e. quiet t q (error e) other) (subst (λ attempt. Trying attempt (Meets k p t q given)) (sym refuses) (fails e))
      (ap (λ attempt. is_some (settled k attempt)) refuses ∙ sym ready)

  -- an answer without bytes
  pub meets : (next : PlainKernel) (value : ℕ) → (IsAsked k p t q given → IsWord value) → ((asked : IsAsked k p t q given) → IsAnswer q given (record { kernel = next; reply = Value value; bytes = []; console = [] })
      → IsServed k p t q given (record { kernel = next; reply = Value value; bytes = []; console = [] })) → Meets k p t q given (record { kernel = next; reply = Value value; bytes = []; console = [] })
  meets next value small law = record { short = omega arith; law = λ asked. law asked (bare_answer q given next value (small asked)) }
