-- The call that waits for a child, before and after the child's pair and maker go.
--     Reaps k served       nothing has changed, or a child that has ended is gone and told
--     wait_keeps           the row of wait4
--     wait_stays           a system where no child is told
--     wait_goes            one where the child that is told goes with its pair and its maker
use Rattle.std.proofs.Common.{◌≡◌, ◌≢◌, ◌⊎◌, ℕ, ◌≤◌, Bool, true, false, cond, List, Option, Some, None, inl, inr, refl, sym, ap, ◌∙◌, subst, arith}
use Rattle.std.specs.Prelude.{◌==◌, IsSome, is_some, option_map}
use Rattle.std.specs.Ordering.{nat_cmp}
use Rattle.std.specs.FinMap as map
use Rattle.std.proofs.lemmas.Option.{none-some, same_Some}
use Rattle.views.specs.Numbers.{Byte}
use Rattle.views.proofs.MapLaws.{true_false, get_remove_other}
use Rattle.sys_abi.specs.declared.errors.TheConstants.{ECHILD, EINVAL}
use Rattle.sys_abi.specs.declared.identity.VPid.{VPid}
use Rattle.sys_abi.specs.declared.identity.RealPid.{RealPid}
use Rattle.sys_abi.specs.declared.life.Life.TheVariants.{Zombie}
use Rattle.sys_abi.specs.declared.reply.Errno.{Errno}
use Rattle.sys_abi.specs.declared.reply.Reply.TheVariants.{Value}
use Rattle.sys_abi.proofs.OrderLaws.{vpid_total, vpid_exact}
use Rattle.call_table.specs.declared.request.Request.{Request}
use Rattle.call_table.specs.declared.request.Request.TheVariants.{Wait4}
use Rattle.conn_table.specs.declared.conn.Conn.{Conn}
use Rattle.virt_ids.specs.Pairs.{without_back}
use Rattle.plain_process.specs.Attempts.{Try, Fails, NotReady, Gives, need}
use Rattle.plain_tables.specs.declared.process.Process.{Process}
use Rattle.plain_tables.specs.declared.waiting.Waiting.{Waiting}
use Rattle.plain_tables.specs.declared.waiting.Waiting.TheVariants as found
use Rattle.plain_tables.specs.Tables.{FIRST_PID, Makers, pid, has_thread_in}
use Rattle.plain_tables.specs.Valid.Processes.{FitsLife}
use Rattle.plain_tables.specs.Waits.{wait_for}
use Rattle.plain_machine.specs.declared.kernel.PlainKernel.{PlainKernel}
use Rattle.plain_machine.specs.Attempts.{Served, replied}
use Rattle.plain_machine.specs.Kernel.{without_process}
use Rattle.plain_machine.specs.RowLaws.{IsAsked}
use Rattle.plain_machine.specs.Rows.Wait.{WNOHANG, may_be_asked, child_of_number, wait4_by, wait4_row}
use Rattle.plain_machine.specs.Serve.{row}
use Rattle.plain_machine.proofs.ReapedKernels.{IsEnded, found_ended, whole_reaped}
use Rattle.plain_machine.proofs.Trying.{Trying, succeeds, fails, after}
use Rattle.host_tables.specs.declared.attempt.Attempt.TheVariants as answer
use Rattle.host_tables.specs.declared.reply.KernelReply.{KernelReply}
use Rattle.host_tables.specs.declared.reply.KernelReply.TheVariants.{Done, Error, Memory}
use Rattle.host_tables.specs.declared.reply.KernelReply.TheVariants as reply
use Rattle.host_tables.specs.declared.system.System.{System}
use Rattle.host_tables.specs.Numbers.{HasRoom}
use Rattle.host_tables.specs.Serves.{IsReply}
use Rattle.host_tables.specs.Stands.{Given, Stands}
use Rattle.host_tables.specs.Systems.{given_of, IsNumber}
use Rattle.host_tables.proofs.LookUps.{some_value}
use Rattle.wrap_names.specs.Passing.{Passed}
use Rattle.wrap_names.specs.Asks.{AsksFor}
use Rattle.wrap_passing.specs.Asking.{is_wait}
use Rattle.wrap_names.specs.Wrapping.{IsWrapped, StandsAfter, TellsRow, child_in, kernel_left}
use Rattle.wrap_names.proofs.FewerPairs.{real_was, other_number}
use Rattle.wrap_names.proofs.Keeps.{still}
use Rattle.wrap_names.proofs.Kept.{kept_wrapped, given_is, next_kept, ends_are}
use Rattle.wrap_names.proofs.Reaping.{IsNobody, nobody_left, first, Stands-shrinks}

pub record IsReaped (k : PlainKernel) (served : Served) : Type 0 where
  pub child : VPid
  pub status : ℕ
  pub ended : IsEnded k.processes child status
  pub kernel : served.kernel ≡ without_process child k
  pub answers : served.reply ≡ Value child.0

pub record IsIdle (k : PlainKernel) (served : Served) : Type 0 where
  pub kernel : served.kernel ≡ k
  pub answers : served.reply ≡ Value 0

abbrev pub Reaps : PlainKernel → Served → Type 0
Reaps k served = IsIdle k served ⊎ IsReaped k served

waiting : {A : Type 0} {P : A → Type 0} → Trying {A = A} NotReady P
waiting = record { each = λ a is. cc }

module _ (k : PlainKernel) (p : VPid) where
  none_ended : (at_once : Bool) → Trying (cond at_once (replied k 0) NotReady) (Reaps k)
  none_ended true = succeeds _ (inl (record { kernel = refl; answers = refl }))
  none_ended false = waiting

  by_found : (child : Option VPid) (options : ℕ) (o : Waiting) → wait_for k.processes p child ≡ o
      → Trying (wait4_by k options o) (Reaps k)
  by_found child options found.NoChild is = fails ECHILD
  by_found child options found.NotReady is = none_ended (options == WNOHANG)
  by_found child options (found.Ended q status) is =
      succeeds _ (inr (record {
        child = q;
        status = status;
        ended = found_ended k.processes p child q status is;
        kernel = refl;
        answers = refl;
      }))

  pub wait_keeps : (t : ℕ) (r : Request) (given : List ℕ) → is_wait r ≡ true
      → Trying (row k p t r given) (Reaps k)
  unfolding row is_wait wait4_row
  wait_keeps t (Wait4 number place options usage) given waits =
      after (need (may_be_asked number options usage) EINVAL) (λ done may.
      by_found (child_of_number number) options (wait_for k.processes p (child_of_number number)) refl)
  wait_keeps t _ given waits = true_false (sym waits)

-- a process that has ended has no threads
some_counts : (m : map.FinMap nat_cmp ℕ) (v : ℕ) → is_some (map.get m v) ≡ true → map.len m ≡ 0 → ⊥
some_counts m v has none = none_there (map.get m v) (ap (λ e. map.get e v) (map.empty_of_len m none) ∙ map.get-empty nat_cmp v) has
  where
    none_there : (o : Option ℕ) → o ≡ None → is_some o ≡ true → ⊥
    none_there None e h = true_false (sym h)
    none_there (Some x) e h = none-some x (sym e)

no_thread : (v : ℕ) (o : Option Process) (x : Process) → o ≡ Some x → has_thread_in v o ≡ true → (status : ℕ)
    → x.life ≡ Zombie status → FitsLife x.life x.threads x.pending → ⊥
no_thread v None x is has status life fits = true_false (sym has)
no_thread v (Some y) x is has status life fits =
    let same = same_Some y x is in
    some_counts x.threads v (ap (λ (z : Process). is_some (map.get z.threads v)) (sym same) ∙ has)
    (subst (λ l. FitsLife l x.threads x.pending) life fits).0

module _ (s : System) (next_id : ℕ) (k : PlainKernel) (w : IsWrapped s next_id k) (p : VPid) (t : ℕ) (r : Request)
    (given : List Byte) (asked : IsAsked k p t r given) (reaps : Trying (row k p t r given) (Reaps k)) (s' : System)
    (conns : s'.conns ≡ s.conns) (now : List Byte) where
  abbrev m : Try Served
  m = row k p t r given

  as_before : Passed s s' k → IsWrapped s' next_id k
  as_before passed =
      kept_wrapped s next_id k w s' k passed (still k)
      (w.stands.exact.makers ∙ ap (λ conns. conns.makers) (sym conns)) w.stands.kernel

  back : (x : Try Served) → kernel_left k x ≡ k → Passed s s' (kernel_left k x)
      → IsWrapped s' next_id (kernel_left k x)
  back x same passed = subst (IsWrapped s' next_id) (sym same) (as_before (subst (Passed s s') same passed))

  no_error : (e : Errno) (x : Try Served) → Trying x (Reaps k) → TellsRow given now (answer.Fails e) x
      → kernel_left k x ≡ k
  no_error e (Fails f) made tells = refl
  no_error e NotReady made tells = refl
  no_error e (Gives served) made tells = elim (made.each served refl) [
    | inl idle ↦ idle.kernel
    | inr reaped ↦ absurd (subst (IsReply (λ a b. a ≡ b) (answer.Fails e)) reaped.answers tells.0)
  ]

  no_wait : (x : Try Served) → TellsRow given now answer.NotReady x → kernel_left k x ≡ k
  no_wait (Fails f) tells = refl
  no_wait NotReady tells = refl
  no_wait (Gives served) tells = absurd tells.0

  none_told : (v : ℕ) (x : Try Served) → v ≡ 0 → Trying x (Reaps k) → TellsRow given now (answer.Gives v) x
      → kernel_left k x ≡ k
  none_told v (Fails f) zero_is made tells = refl
  none_told v NotReady zero_is made tells = refl
  none_told v (Gives served) zero_is made tells = elim (made.each served refl) [
    | inl idle ↦ idle.kernel
    | inr reaped ↦
        let is : v ≡ reaped.child.0 = subst (IsReply (λ a b. a ≡ b) (answer.Gives v)) reaped.answers tells.0 in
        let above = first k w.stands.kernel reaped.child reaped.status reaped.ended in
        absurd (not_zero v reaped.child.0 zero_is is above)
  ]
    where
      not_zero : (v c : ℕ) → v ≡ 0 → v ≡ c → FIRST_PID ≤ c → ⊥
      not_zero v c z is above = omega (arith, z, is, above)

  pub wait_stays : (answered : KernelReply) → child_in answered ≡ 0 → AsksFor s s' k given now answered m
      → StandsAfter s' next_id k given now answered m
  wait_stays (Done v) e h = (back m (none_told v m e reaps h.1) h.0, h.1)
  wait_stays (Error f) e h = (back m (no_error f m reaps h.1) h.0, h.1)
  wait_stays reply.NotReady e h = (back m (no_wait m h.1) h.0, h.1)
  wait_stays Memory e h = (as_before h.0, h.1)

  -- where a child is told
  abbrev without_child : ℕ → System
  without_child v = record s' {
    ids = record s'.ids {
      pids = map.remove s'.ids.pids v;
      virts = without_back s'.ids.virts (map.get s'.ids.pids v);
    };
    conns = record s'.conns { makers = map.remove s'.conns.makers (pid v) };
  }

  module _ (q : VPid) (status : ℕ) (ended : IsEnded k.processes q status) (passed : Passed s s' (without_process q k)) where
    abbrev k' : PlainKernel
    k' = without_process q k

    abbrev g' : Given
    g' = given_of s'

    stands' : Stands g' None s'.kernel k'
    stands' = subst (λ g. Stands g None s'.kernel k') (sym (given_is s s' k' passed)) passed.stands

    its_real : (real : RealPid) × (map.get s'.ids.pids q.0 ≡ Some real)
    its_real =
        let was = some_value (map.get s.ids.pids q.0) (w.stands.tables.numbered.process q ended.process ended.there) in
        (was.0, ap (λ ids. map.get ids.pids q.0) passed.ids ∙ was.1)

    nobody : IsNobody k' q.0
    nobody = nobody_left k w.stands.kernel q status ended

    tables' : Stands (given_of (without_child q.0)) None s'.kernel k'
    tables' =
        subst (λ virts. Stands (record g' { pids = map.remove s'.ids.pids q.0; virts = virts }) None s'.kernel k')
        (sym (ap (without_back s'.ids.virts) its_real.1))
        (Stands-shrinks g' s'.kernel k' stands' q.0 its_real.0 its_real.1 nobody)

    some_still : (u : VPid) → u ≢ q → IsSome (map.get k.processes u) → IsSome (map.get k'.processes u)
    some_still u differ is = ap is_some (get_remove_other vpid_total vpid_exact k.processes q u differ) ∙ is

    not_its : (u : VPid) (v : ℕ) → has_thread_in v (map.get k.processes u) ≡ true → u ≢ q
    not_its u v has same =
        no_thread v (map.get k.processes u) ended.process (ap (map.get k.processes) same ∙ ended.there) has status
        ended.life (w.stands.kernel.processes.each q ended.process ended.there).life

    number_still : (v : ℕ) → v ≢ q.0 → IsNumber k v → IsNumber k' v
    number_still v differ is = elim is [
      | inl process ↦ inl (some_still (pid v) (λ same. differ (ap (λ (u : VPid). u.0) same)) process)
      | inr thread ↦ inr (
        thread.0,
        ap (has_thread_in v) (get_remove_other vpid_total vpid_exact k.processes q thread.0 (not_its thread.0 v thread.1))
            ∙ thread.1,
      )
    ]

    pub gone_wrapped : IsWrapped (without_child q.0) next_id k'
    gone_wrapped = record {
      stands = record {
        kernel = whole_reaped k q status w.stands.kernel ended;
        tables = tables';
        exact = record {
          makers = ap (λ (makers : Makers). map.remove makers q)
              (w.stands.exact.makers ∙ ap (λ conns. conns.makers) (sym conns));
          numbers = λ v real is.
              number_still v
              (other_number s'.ids.pids s'.ids.virts stands'.paired.inverse q.0 its_real.0 its_real.1 v real is)
              (w.stands.exact.numbers v real (ap (λ ids. map.get ids.pids v) (sym passed.ids)
              ∙ real_was s'.ids.pids s'.ids.virts stands'.paired.inverse q.0 its_real.0 its_real.1 v real is));
          places = λ a at is.
              w.stands.exact.places a at (ap (λ ids. map.get ids.addresses a) (sym passed.ids) ∙ is);
          names = λ id a is.
              w.stands.exact.names id a (ap (λ names. map.get names id) (sym passed.names) ∙ is);
          open_ends = λ id.
              ap (λ conns. option_map (λ (c : Conn). c.open_ends) (map.get conns id)) passed.conns
              ∙ w.stands.exact.open_ends id ∙ ends_are s next_id k w s' k' passed refl id;
          entries = λ id conn is.
              w.stands.exact.entries id conn (ap (λ conns. map.get conns id) (sym passed.conns) ∙ is);
        };
        room = subst (HasRoom k.next_id) (sym (next_kept s s' k' passed)) w.stands.room;
      };
      next = w.next;
    }

  child_told : (v : ℕ) (x : Try Served) → v ≢ 0 → Trying x (Reaps k) → TellsRow given now (answer.Gives v) x
      → Passed s s' (kernel_left k x) → IsWrapped (without_child v) next_id (kernel_left k x)
  child_told v (Fails f) some made tells passed = absurd (no_gift (record { 0 = f }) tells.0)
    where
      no_gift : (e : Errno) → answer.Gives v ≡ answer.Fails e → ⊥
      no_gift e h = cc
  child_told v NotReady some made tells passed = absurd (no_gift tells.0)
    where
      no_gift : answer.Gives v ≡ answer.NotReady → ⊥
      no_gift h = cc
  child_told v (Gives served) some made tells passed = elim (made.each served refl) [
    | inl idle ↦ absurd (some (subst (IsReply (λ a b. a ≡ b) (answer.Gives v)) idle.answers tells.0))
    | inr reaped ↦
        let is : v ≡ reaped.child.0 = subst (IsReply (λ a b. a ≡ b) (answer.Gives v)) reaped.answers tells.0 in
        subst (λ n. IsWrapped (without_child n) next_id served.kernel) (sym is)
        (subst (IsWrapped (without_child reaped.child.0) next_id) (sym reaped.kernel)
        (gone_wrapped reaped.child reaped.status reaped.ended (subst (Passed s s') reaped.kernel passed)))
  ]

  pub wait_goes : (answered : KernelReply) → child_in answered ≢ 0 → AsksFor s s' k given now answered m
      → StandsAfter (without_child (child_in answered)) next_id k given now answered m
  wait_goes (Done v) some h = (child_told v m some reaps h.1 h.0, h.1)
  wait_goes (Error f) some h = absurd (some refl)
  wait_goes reply.NotReady some h = absurd (some refl)
  wait_goes Memory some h = absurd (some refl)
