-- A signal that is taken away from a thread or its process, through the pairs.
--     taken_stands       the kernel goes on to stand
--     taken_kept         and all is kept that the pairs are about
--     taken_wrapped      a system from which a signal was taken
use Rattle.std.proofs.Common.{◌≡◌, ℕ, Bool, true, false, cond, [], Some, None, inl, inr, refl, sym, ap, ◌∙◌, subst, arith}
use Rattle.std.specs.Prelude.{◌==◌, IsSome, is_some, not, bit_and, bit_xor, unwrap_or}
use Rattle.std.specs.Option.{option_map_or}
use Rattle.std.specs.Cmp.{nat_cmp_total}
use Rattle.std.specs.Int.Bits.{xor_zero_r}
use Rattle.std.specs.declared.cmp.Ordering.{Ordering}
use Rattle.std.specs.FinMap as map
use Rattle.std.specs.FinMap.{nat_cmp-IsAntisymmetric}
use Rattle.std.proofs.lemmas.Bool.{eqb-true}
use Rattle.std.proofs.lemmas.List.Elements.{All-nil}
use Rattle.views.specs.Seen.{SeenBy}
use Rattle.views.proofs.MapLaws.{true_false, same_or_other, get_insert_other}
use Rattle.views.proofs.Seen.{agree_same, SeenBy-insert}
use Rattle.sys_abi.specs.declared.identity.VPid.{VPid}
use Rattle.sys_abi.specs.declared.identity.RealPid.{RealPid}
use Rattle.sys_abi.specs.Signals.{bit_of, has_signal, without_signal}
use Rattle.virt_ids.specs.Changes.{at_key}
use Rattle.proc_book.specs.declared.process.Process as real_process
use Rattle.proc_book.specs.Processes as procs
use Rattle.proc_book.specs.Procs.{after_take as real_take}
use Rattle.plain_tables.specs.declared.process.Process.{Process}
use Rattle.plain_tables.specs.Tables.{changed_by, signals_of, taken_from, with_signals}
use Rattle.plain_machine.specs.declared.kernel.PlainKernel.{PlainKernel}
use Rattle.plain_process.specs.Valid.{IsByte, IsRequest}
use Rattle.call_table.specs.declared.request.Request.TheVariants.{Getpid}
use Rattle.plain_machine.specs.Kernel.{after_take, has_thread, is_live}
use Rattle.plain_machine.specs.Kernels.{IsKernel}
use Rattle.plain_machine.specs.RowLaws.{IsAsked}
use Rattle.plain_machine.proofs.WholeChanges.{whole_take}
use Rattle.host_tables.specs.declared.kernel.Kernel.{Kernel}
use Rattle.host_tables.specs.Numbers.{to_real_thread, to_virt_thread}
use Rattle.host_tables.specs.Processes.{IsSame, SameProcess}
use Rattle.host_tables.specs.Stands.{Given, Stands}
use Rattle.host_tables.proofs.LookUps.{some_value, real_process_of}
use Rattle.host_tables.proofs.ProcessChanges.{HasNoMore, process_changed}
use Rattle.host_tables.proofs.Ways.{lead_thread}
use Rattle.host_tables.specs.declared.system.System.{System}
use Rattle.host_tables.specs.Systems.{given_of}
use Rattle.wrap_names.specs.declared.numbers.Caller.{Caller}
use Rattle.wrap_names.specs.Naming.{caller_in}
use Rattle.wrap_names.specs.Wrapping.{IsWrapped}
use Rattle.wrap_names.proofs.Callers.{its_process, its_thread, paired, thread_leads}
use Rattle.wrap_names.proofs.Keeps.{KeepsAll, changed_kept, more_signals}
use Rattle.wrap_names.proofs.Kept.{kept_wrapped}

-- what isn't pending can't be taken
without_absent : (set s : ℕ) → has_signal set s ≡ false → without_signal set s ≡ set
without_absent set s none =
    ap (bit_xor set) (nothing (bit_and set (bit_of s)) none) ∙ xor_zero_r set
  where
    nothing : (n : ℕ) → not (n == 0) ≡ false → n ≡ 0
    nothing n h = by_test (n == 0) refl h
      where
        by_test : (b : Bool) → (n == 0) ≡ b → not b ≡ false → n ≡ 0
        by_test true e h = eqb-true n 0 e
        by_test false e h = true_false h

at_key_is : {K X : Type 0} {R : K → K → Ordering} (m : map.FinMap R X) (at : K) (f : X → X) (x : X)
    → map.get m at ≡ Some x → at_key m at f ≡ map.insert m at (f x)
at_key_is m at f x is = ap (λ o. option_map_or (λ value. map.insert m at (f value)) o m) is

more_taken : (t s : ℕ) (x : Process) (u : ℕ) (b : Bool) → is_some (map.get x.threads u) ≡ true
    → is_some (map.get (cond b (with_signals x t (without_signal (signals_of t x) s))
    (record x { pending = without_signal x.pending s })).threads u) ≡ true
more_taken t s x u true h = more_signals x t (without_signal (signals_of t x) s) u h
more_taken t s x u false h = h

pub taken_kept : (k : PlainKernel) (p : VPid) (t s : ℕ) → KeepsAll k (after_take k p t s)
unfolding after_take
taken_kept k p t s =
    changed_kept k p (taken_from t s) (λ x u h. more_taken t s x u (has_signal (signals_of t x) s) h)

module _ (g : Given) (real : Kernel) (k : PlainKernel) (st : Stands g None real k) (p : VPid) (who : RealPid)
    (paired : map.get g.pids p.0 ≡ Some who) (t u : ℕ) (leads : to_real_thread g.pids who.node t ≡ Some u) (s : ℕ)
    (x : Process) (is_x : map.get k.processes p ≡ Some x) (there : IsSome (map.get x.threads t)) where
  y_of : (y : real_process.Process) × ((map.get real.procs.processes who ≡ Some y) × SameProcess g.pids g.virts p who x y)
  y_of = real_process_of g real k st p who paired x is_x

  abbrev y : real_process.Process
  y = y_of.0

  is : SameProcess g.pids g.virts p who x y
  is = y_of.1.1

  here : map.get x.threads t ≡ map.get y.threads u
  here = agree_same (map.get x.threads t) (map.get y.threads u) (is.threads.at t u leads)

  abbrev Same : Process → real_process.Process → Type 0
  Same = SameProcess g.pids g.virts p who

  at_thread : Same (with_signals x t (without_signal (signals_of t x) s))
      (record y { threads = at_key y.threads u (λ set. without_signal set s) })
  at_thread =
      let set = some_value (map.get x.threads t) there in
      let there_y = sym here ∙ set.1 in
      record {
        life = is.life;
        pending = is.pending;
        parent = is.parent;
        threads = subst (SeenBy (to_real_thread g.pids who.node) (to_virt_thread g.virts who.node) IsSame
            (map.insert x.threads t (without_signal (signals_of t x) s)))
            (sym (at_key_is y.threads u (λ set. without_signal set s) set.0 there_y))
            (SeenBy-insert nat_cmp_total nat_cmp-IsAntisymmetric nat_cmp_total nat_cmp-IsAntisymmetric
            (to_real_thread g.pids who.node) (to_virt_thread g.virts who.node)
            (lead_thread g.pids g.virts st.paired.inverse who.node) IsSame x.threads y.threads is.threads t u leads
            (without_signal (signals_of t x) s) (without_signal set.0 s)
            (ap (λ o. without_signal (unwrap_or o 0) s) set.1));
      }

  at_process : (c : Bool) → has_signal y.pending s ≡ c
      → Same (record x { pending = without_signal x.pending s })
      (cond c (record y { pending = without_signal y.pending s }) y)
  at_process true e = record {
    life = is.life;
    pending = ap (λ set. without_signal set s) is.pending;
    parent = is.parent;
    threads = is.threads;
  }
  at_process false e = record {
    life = is.life;
    pending = ap (λ set. without_signal set s) is.pending ∙ without_absent y.pending s e;
    parent = is.parent;
    threads = is.threads;
  }

  by_test : (b : Bool) → Same (cond b (with_signals x t (without_signal (signals_of t x) s))
      (record x { pending = without_signal x.pending s }))
      (cond b (record y { threads = at_key y.threads u (λ set. without_signal set s) })
      (cond (has_signal y.pending s) (record y { pending = without_signal y.pending s }) y))
  by_test true = at_thread
  by_test false = at_process (has_signal y.pending s) refl

  taken_same : Same (taken_from t s x) (procs.after_take u s y)
  taken_same =
      subst (λ b. Same (taken_from t s x) (cond b (record y { threads = at_key y.threads u (λ set. without_signal set s) })
      (cond (has_signal y.pending s) (record y { pending = without_signal y.pending s }) y)))
      (ap (λ o. has_signal (unwrap_or o 0) s) here) (by_test (has_signal (signals_of t x) s))

  no_more : (b : Bool) → HasNoMore (cond b (with_signals x t (without_signal (signals_of t x) s))
      (record x { pending = without_signal x.pending s })) x
  no_more false w at = at
  no_more true w at = elim (same_or_other nat_cmp_total nat_cmp-IsAntisymmetric w t) [
    | inl same ↦ ap (λ n. is_some (map.get x.threads n)) same ∙ there
    | inr differ ↦
        sym (ap is_some (get_insert_other nat_cmp_total nat_cmp-IsAntisymmetric x.threads t
        (without_signal (signals_of t x) s) w differ)) ∙ at
  ]

  pub taken_stands : Stands g None
      (record real { procs = record real.procs { processes = real_take real.procs.processes who u s } })
      (after_take k p t s)
  unfolding after_take
  taken_stands =
      subst (λ m. Stands g None
      (record real { procs = record real.procs { processes = real_take real.procs.processes who u s } })
      (record k { processes = m })) (sym (ap (changed_by k.processes p (taken_from t s)) is_x))
      (subst (λ m. Stands g None (record real { procs = record real.procs { processes = m } })
      (record k { processes = map.insert k.processes p (taken_from t s x) }))
      (sym (at_key_is real.procs.processes who (procs.after_take u s) y y_of.1.0))
      (process_changed g None real k st p who paired x (taken_from t s x) (procs.after_take u s y) is_x
      (no_more (has_signal (signals_of t x) s)) taken_same))

-- a thread that is there could ask
pub asked_nothing : (k : PlainKernel) (p : VPid) (t : ℕ) → IsKernel k → is_live k p ≡ true
    → has_thread k p t ≡ true → IsAsked k p t Getpid []
unfolding IsRequest
asked_nothing k p t whole alive thread = record {
  kernel = whole;
  alive = alive;
  thread = thread;
  request = tt;
  bytes = All-nil IsByte;
  short = omega arith;
}

pub taken_wrapped : (s : System) (next_id : ℕ) (k : PlainKernel) (w : IsWrapped s next_id k) (p : VPid) (t : ℕ)
    → is_live k p ≡ true → has_thread k p t ≡ true → (c : Caller) → caller_in s.ids.pids p t ≡ Some c → (n : ℕ)
    → IsWrapped (record s {
      kernel = record s.kernel {
        procs = record s.kernel.procs {
          processes = real_take s.kernel.procs.processes c.who c.thread n;
        };
      };
    }) next_id (after_take k p t n)
taken_wrapped s next_id k w p t alive thread c is n =
    let asked = asked_nothing k p t w.stands.kernel alive thread in
    let x = its_process s next_id k w p t Getpid [] asked in
    let kept = taken_kept k p t n in
    let s' : System = record s {
      kernel = record s.kernel {
        procs = record s.kernel.procs {
          processes = real_take s.kernel.procs.processes c.who c.thread n;
        };
      };
    } in
    kept_wrapped s next_id k w s' (after_take k p t n)
    (record {
      ids = refl;
      conns = refl;
      names = refl;
      stands = taken_stands (given_of s) s.kernel k w.stands.tables p c.who
          (paired s next_id k w p t Getpid [] asked c is) t c.thread
          (thread_leads s next_id k w p t Getpid [] asked c is) n x.0 x.1
          (its_thread s next_id k w p t Getpid [] asked);
    }) kept.tables (kept.makers ∙ w.stands.exact.makers) (whole_take k p w.stands.kernel t n)
