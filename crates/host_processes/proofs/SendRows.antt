-- The rows of kill and tgkill through the pairs.
--     kill_bad, kill_none, kill_sent             by the tests of the row
--     tgkill_bad, tgkill_none, tgkill_sent       the same
use Rattle.std.proofs.Common.{◌≡◌, ℕ, Bool, true, false, List, Option, Some, None, refl, sym, ap, ◌∙◌, subst}
use Rattle.std.specs.Prelude.{◌&&◌, is_some}
use Rattle.std.specs.Option.{option_map_or}
use Rattle.std.specs.FinMap as map
use Rattle.views.specs.Numbers.{Byte}
use Rattle.views.specs.Seen.{Agree}
use Rattle.views.proofs.Seen.{agree_same}
use Rattle.sys_abi.specs.declared.identity.VPid.{VPid}
use Rattle.sys_abi.specs.declared.identity.RealPid.{RealPid}
use Rattle.sys_abi.specs.declared.errors.TheConstants.{EINVAL, ESRCH}
use Rattle.proc_book.specs.declared.process.Process as real_process
use Rattle.proc_book.specs.Processes as procs
use Rattle.proc_book.specs.Procs.{can_raise}
use Rattle.plain_process.specs.Attempts.{Try, Fails, and_then, need}
use Rattle.plain_tables.specs.declared.process.Process.{Process}
use Rattle.plain_tables.specs.Tables.{pid, has_thread_in}
use Rattle.plain_machine.specs.declared.kernel.PlainKernel.{PlainKernel}
use Rattle.plain_machine.specs.Attempts.{Served, replied}
use Rattle.plain_machine.specs.Kernel.{is_neighbour, has_thread, after_raise, after_raise_for_all}
use Rattle.plain_machine.specs.Kernels.{IsKernel}
use Rattle.plain_machine.specs.Rows.Send.{is_above_zero, may_be_sent, kill_row, tgkill_row}
use Rattle.host_descriptors.specs.OfHostTables.declared.kernel.Kernel.{Kernel}
use Rattle.host_descriptors.specs.OfHostTables.declared.attempt.Attempt.TheVariants as answer
use Rattle.host_descriptors.specs.OfHostTables.Numbers.{to_real_thread}
use Rattle.host_descriptors.specs.OfHostTables.Processes.{SameProcess}
use Rattle.host_descriptors.specs.OfHostTables.Requests.{neighbour_of}
use Rattle.host_descriptors.specs.OfHostTables.Serves.{Serves, ByNumber, same}
use Rattle.host_descriptors.specs.OfHostTables.Stands.{Given, Stands}
use Rattle.host_descriptors.proofs.OfHostTables.LookUps.{some_value, process_of, real_process_of}
use Rattle.host_descriptors.proofs.OfHostTables.Neighbours.{together_by, neighbours_node, neighbour_some, neighbour_none, neighbour_host}
use Rattle.host_descriptors.proofs.OfHostTables.Replies.{refused}
use Rattle.host_processes.specs.Raises.{raise_answer, with_raised}
use Rattle.host_processes.proofs.Raised.{raises, raised_for_process, raised_for_thread, sent}

and_false : (a b : Bool) → b ≡ false → (a && b) ≡ false
and_false true b e = e
and_false false b e = refl

module _ (g : Given) (real : Kernel) (k : PlainKernel) (st : Stands g None real k) (p : VPid) (number s : ℕ)
    (x : List Byte) where
  abbrev may : Bool
  may = is_above_zero number && may_be_sent s

  abbrev row_by : Bool → Bool → PlainKernel → Try Served
  row_by a b new = and_then (need a EINVAL) (λ _. and_then (need b ESRCH) (λ _. replied new 0))

  bad_by : (a b : Bool) (new : PlainKernel) → a ≡ false → row_by a b new ≡ Fails EINVAL
  unfolding and_then need
  bad_by a b new e = ap (λ c. row_by c b new) e

  none_by : (a b : Bool) (new : PlainKernel) → a ≡ true → b ≡ false → row_by a b new ≡ Fails ESRCH
  unfolding and_then need
  none_by a b new e f = (λ i. row_by (e i) (f i) new)

  sent_by : (a b : Bool) (new : PlainKernel) → a ≡ true
      → row_by a b new ≡ and_then (need b ESRCH) (λ _. replied new 0)
  unfolding and_then need
  sent_by a b new e = ap (λ c. row_by c b new) e

  pub kill_bad : may ≡ false
      → Serves ByNumber same g real real x x (answer.Fails (record { 0 = EINVAL })) (kill_row k p number s)
  unfolding kill_row
  kill_bad e =
      refused g real x ByNumber EINVAL (kill_row k p number s)
      (bad_by may (is_neighbour k p number) (after_raise_for_all k (pid number) s) e)

  pub kill_none : may ≡ true → None ≡ neighbour_of g.pids k p number
      → Serves ByNumber same g real real x x (answer.Fails (record { 0 = ESRCH })) (kill_row k p number s)
  unfolding kill_row
  kill_none e none =
      refused g real x ByNumber ESRCH (kill_row k p number s)
      (none_by may (is_neighbour k p number) (after_raise_for_all k (pid number) s) e
      (neighbour_none g real k st p number none))

  -- without a thread a process that lives can have it raised
  pub kill_sent : may ≡ true → (t : RealPid) → Some t ≡ neighbour_of g.pids k p number
      → Serves ByNumber same g real (with_raised real t None s) x x (raise_answer real t None)
      (kill_row k p number s)
  unfolding kill_row
  kill_sent e t is =
      let to_t = neighbour_some g real k st p number t is in
      subst (Serves ByNumber same g real (with_raised real t None s) x x (raise_answer real t None))
      (sym (sent_by may (is_neighbour k p number) (after_raise_for_all k (pid number) s) e))
      (sent g real x t None s (after_raise_for_all k (pid number) s) (is_neighbour k p number) to_t.1
      (raised_for_process g real k st (pid number) t to_t.0 s))

  module _ (whole : IsKernel k) (who : RealPid) (paired : map.get g.pids p.0 ≡ Some who) (tid : ℕ) where
    abbrev is_there : Bool
    is_there = is_neighbour k p number && has_thread k (pid number) tid

    abbrev then : PlainKernel
    then = after_raise k (pid number) tid s

    pub tgkill_bad : may ≡ false
        → Serves ByNumber same g real real x x (answer.Fails (record { 0 = EINVAL }))
        (tgkill_row k p number tid s)
    unfolding tgkill_row
    tgkill_bad e =
        refused g real x ByNumber EINVAL (tgkill_row k p number tid s) (bad_by may is_there then e)

    nobody : is_neighbour k p number ≡ false → is_there ≡ false
    nobody e = ap (λ b. b && has_thread k (pid number) tid) e

    tgkill_refused : may ≡ true → is_there ≡ false
        → Serves ByNumber same g real real x x (answer.Fails (record { 0 = ESRCH }))
        (tgkill_row k p number tid s)
    unfolding tgkill_row
    tgkill_refused e none =
        refused g real x ByNumber ESRCH (tgkill_row k p number tid s) (none_by may is_there then e none)

    pub tgkill_none : may ≡ true → None ≡ neighbour_of g.pids k p number
        → Serves ByNumber same g real real x x (answer.Fails (record { 0 = ESRCH }))
        (tgkill_row k p number tid s)
    tgkill_none e none = tgkill_refused e (nobody (neighbour_none g real k st p number none))

    -- the caller is there too, and on the same node
    node_is : (t : RealPid) → Some t ≡ neighbour_of g.pids k p number → (z : Process)
        → map.get k.processes (pid number) ≡ Some z → t.node ≡ who.node
    node_is t is z there =
        let host = neighbour_host g real k st p number t is in
        let maker = (together_by (map.get k.makers p) (map.get k.makers (pid number)) host).first_is in
        let own = some_value (map.get k.processes p) (sym (whole.makers.same p) ∙ ap is_some maker) in
        let to_t = (neighbour_some g real k st p number t is).0 in
        neighbours_node g real k st p (pid number) who t own.0 z own.1 there host paired to_t

    module _ (t : RealPid) (is : Some t ≡ neighbour_of g.pids k p number) where
      to_t : map.get g.pids number ≡ Some t
      to_t = (neighbour_some g real k st p number t is).0

      no_thread : None ≡ to_real_thread g.pids who.node tid → (o : Option Process)
          → map.get k.processes (pid number) ≡ o → has_thread_in tid o ≡ false
      no_thread none None there = refl
      no_thread none (Some z) there =
          let y = real_process_of g real k st (pid number) t to_t z there in
          ap is_some (y.1.1.threads.virt_alone tid
          (ap (λ node. to_real_thread g.pids node tid) (node_is t is z there) ∙ sym none))

      pub tgkill_no_thread : may ≡ true → None ≡ to_real_thread g.pids who.node tid
          → Serves ByNumber same g real real x x (answer.Fails (record { 0 = ESRCH }))
          (tgkill_row k p number tid s)
      tgkill_no_thread e none =
          tgkill_refused e (and_false (is_neighbour k p number) (has_thread k (pid number) tid)
          (no_thread none (map.get k.processes (pid number)) refl))

      module _ (u : ℕ) (thread : Some u ≡ to_real_thread g.pids who.node tid) where
        leads : (z : Process) → map.get k.processes (pid number) ≡ Some z
            → to_real_thread g.pids t.node tid ≡ Some u
        leads z there = ap (λ node. to_real_thread g.pids node tid) (node_is t is z there) ∙ sym thread

        by_both : (o : Option Process) (q : Option real_process.Process)
            → map.get k.processes (pid number) ≡ o
            → Agree (SameProcess g.pids g.virts (pid number) t) o q
            → (option_map_or procs.is_live q false && has_thread_in tid o)
            ≡ option_map_or (procs.lives_with (Some u)) q false
        by_both None None there agree = refl
        by_both None (Some y) there agree = absurd agree
        by_both (Some z) None there agree = absurd agree
        by_both (Some z) (Some y) there agree =
            ap (λ o. procs.is_live y && is_some o)
            (agree_same (map.get z.threads tid) (map.get y.threads u)
            (agree.threads.at tid u (leads z there)))

        test_is : is_there ≡ can_raise real.procs.processes t (Some u)
        test_is =
            ap (λ b. b && has_thread k (pid number) tid) (neighbour_some g real k st p number t is).1
            ∙ by_both (map.get k.processes (pid number)) (map.get real.procs.processes t) refl
            (st.processes.at (pid number) t to_t)

        pub tgkill_sent : may ≡ true
            → Serves ByNumber same g real (with_raised real t (Some u) s) x x (raise_answer real t (Some u))
            (tgkill_row k p number tid s)
        unfolding tgkill_row
        tgkill_sent e =
            subst (Serves ByNumber same g real (with_raised real t (Some u) s) x x
            (raise_answer real t (Some u)))
            (sym (sent_by may is_there then e))
            (sent g real x t (Some u) s then is_there test_is
            (λ can.
            let y = raises (map.get real.procs.processes t) (Some u) can in
            let z = process_of g real k st (pid number) t to_t y.0 y.1.0 in
            raised_for_thread g real k st (pid number) t to_t s tid u (leads z.0 z.1.0) can))
