-- A process or thread for which signals are raised one by one.
--     none_made      for which none is
--     one_more       and then one more
use Rattle.std.proofs.Common.{◌≡◌, ℕ, Bool, true, false, Option, Some, None, refl, sym, ap, ◌∙◌}
use Rattle.std.specs.Prelude.{◌&&◌, is_some, unwrap_or, if◌then◌else◌}
use Rattle.std.specs.Option.{option_map_or}
use Rattle.std.specs.Cmp.{nat_cmp_total}
use Rattle.std.specs.declared.cmp.Ordering.{Ordering}
use Rattle.std.specs.FinMap as map
use Rattle.std.specs.FinMap.{nat_cmp-IsAntisymmetric}
use Rattle.views.proofs.MapLaws.{true_false, get_insert_same, insert_insert, insert_same}
use Rattle.sys_abi.specs.declared.identity.RealPid.{RealPid}
use Rattle.sys_abi.specs.Signals.{with_signal}
use Rattle.sys_abi.proofs.OrderLaws.{real_pid_total, real_pid_exact}
use Rattle.virt_ids.specs.Changes.{at_key}
use Rattle.proc_book.specs.declared.process.Process.{Process}
use Rattle.proc_book.specs.Processes.{is_live, lives_with, raised}
use Rattle.proc_book.specs.Ends.{Processes}
use Rattle.proc_book.specs.Procs.{can_raise, pending_of, after_raise}
use Rattle.rebuild_processes.specs.Making.{with_set}

pub at_key_is : {K X : Type 0} {R : K → K → Ordering} (m : map.FinMap R X) (at : K) (f : X → X) (x : X)
    → map.get m at ≡ Some x → at_key m at f ≡ map.insert m at (f x)
at_key_is m at f x is = ap (λ o. option_map_or (λ value. map.insert m at (f value)) o m) is

value_of : {X : Type 0} (o : Option X) → is_some o ≡ true → (x : X) × (o ≡ Some x)
value_of None h = true_false (sym h)
value_of (Some x) h = (x, refl)

and_right : (a b : Bool) → (a && b) ≡ true → b ≡ true
and_right true b e = e
and_right false b e = true_false (sym e)

pub raises : (o : Option Process) (t : Option ℕ) → option_map_or (lives_with t) o false ≡ true
    → (y : Process) × ((o ≡ Some y) × (lives_with t y ≡ true))
raises None t e = true_false (sym e)
raises (Some y) t e = (y, (refl, e))

-- of one process

thread_of : (u : ℕ) (y : Process) → lives_with (Some u) y ≡ true → (set : ℕ) × (map.get y.threads u ≡ Some set)
thread_of u y lives =
    value_of (map.get y.threads u) (and_right (is_live y) (is_some (map.get y.threads u)) lives)

set_none : (t : Option ℕ) (y : Process) → lives_with t y ≡ true → pending_of t (Some y) ≡ 0
    → with_set t 0 y ≡ y
set_none None y lives none = ap (λ (n : ℕ). record y { pending = n }) (sym none)
set_none (Some u) y lives none =
    let set = thread_of u y lives in
    let zero : set.0 ≡ 0 = ap (λ o. unwrap_or o 0) (sym set.1) ∙ none in
    ap (λ threads. record y { threads = threads })
    (at_key_is y.threads u (λ _. 0) set.0 set.1
    ∙ insert_same nat_cmp_total nat_cmp-IsAntisymmetric y.threads u 0 (set.1 ∙ ap Some zero))

set_more : (t : Option ℕ) (made s : ℕ) (y : Process) → lives_with t y ≡ true
    → raised t s (with_set t made y) ≡ with_set t (with_signal made s) y
set_more None made s y lives = refl
set_more (Some u) made s y lives =
    let set = thread_of u y lives in
    let first = at_key_is y.threads u (λ _. made) set.0 set.1 in
    ap (λ threads. record y { threads = threads })
    (ap (λ m. at_key m u (λ n. with_signal n s)) first
    ∙ at_key_is (map.insert y.threads u made) u (λ n. with_signal n s) made
    (get_insert_same nat_cmp_total nat_cmp-IsAntisymmetric y.threads u made)
    ∙ insert_insert nat_cmp_total nat_cmp-IsAntisymmetric y.threads u made (with_signal made s)
    ∙ sym (at_key_is y.threads u (λ _. with_signal made s) set.0 set.1))

set_lives : (t : Option ℕ) (made : ℕ) (y : Process) → lives_with t y ≡ true
    → lives_with t (with_set t made y) ≡ true
set_lives None made y lives = lives
set_lives (Some u) made y lives =
    let set = thread_of u y lives in
    let there : map.get (at_key y.threads u (λ _. made)) u ≡ Some made =
    ap (λ m. map.get m u) (at_key_is y.threads u (λ _. made) set.0 set.1)
    ∙ get_insert_same nat_cmp_total nat_cmp-IsAntisymmetric y.threads u made in
    ap (λ b. is_live y && b) (ap is_some there ∙ sym (ap is_some set.1)) ∙ lives

-- of the table

module _ (m : Processes) (r : RealPid) (t : Option ℕ) (alive : can_raise m r t ≡ true) where
  its : (y : Process) × ((map.get m r ≡ Some y) × (lives_with t y ≡ true))
  its = raises (map.get m r) t alive

  set_is : (made : ℕ) → at_key m r (with_set t made) ≡ map.insert m r (with_set t made its.0)
  set_is made = at_key_is m r (with_set t made) its.0 its.1.0

  pub none_made : pending_of t (map.get m r) ≡ 0 → at_key m r (with_set t 0) ≡ m
  none_made none =
      set_is 0
      ∙ ap (map.insert m r) (set_none t its.0 its.1.1 (ap (pending_of t) (sym its.1.0) ∙ none))
      ∙ insert_same real_pid_total real_pid_exact m r its.0 its.1.0

  module _ (made s : ℕ) where
    abbrev now : Process
    now = with_set t made its.0

    here : map.get (map.insert m r now) r ≡ Some now
    here = get_insert_same real_pid_total real_pid_exact m r now

    can : can_raise (map.insert m r now) r t ≡ true
    can = ap (λ o. option_map_or (lives_with t) o false) here ∙ set_lives t made its.0 its.1.1

    inserted_more : after_raise (map.insert m r now) r t s ≡ map.insert m r (with_set t (with_signal made s) its.0)
    inserted_more =
        ap (λ b. if b then at_key (map.insert m r now) r (raised t s) else map.insert m r now) can
        ∙ at_key_is (map.insert m r now) r (raised t s) now here
        ∙ insert_insert real_pid_total real_pid_exact m r now (raised t s now)
        ∙ ap (map.insert m r) (set_more t made s its.0 its.1.1)

    pub one_more : after_raise (at_key m r (with_set t made)) r t s
        ≡ at_key m r (with_set t (with_signal made s))
    one_more =
        ap (λ n. after_raise n r t s) (set_is made) ∙ inserted_more ∙ sym (set_is (with_signal made s))
