-- Children of a process that has no real number: there are none but those of nobody, who all live.
--     stranger_told            a wait by a stranger finds no child
--     any_orphan               a wait by nobody for any child, by whether some process lives
--     one_orphan, absent_told  for one child, by its parent and whether it lives
use Rattle.std.proofs.Common.{◌≡◌, ◌≢◌, ℕ, zero, suc, ◌<◌, ◌≤◌, ◌⊎◌, inl, inr, Bool, true, false, cond, Option, Some, None}
use Rattle.std.proofs.Common.{refl, sym, ap, ◌∙◌, arith}
use Rattle.std.specs.Prelude.{◌==◌, ◌&&◌, not, is_some, option_and_then}
use Rattle.std.specs.Option.{option_map_or}
use Rattle.std.specs.FinMap as map
use Rattle.std.proofs.lemmas.Option.{none-some}
use Rattle.std.proofs.lemmas.Bool.{eqb-true, eq-eqb}
use Rattle.views.specs.Leasts.{FindsLeast}
use Rattle.views.specs.Seen.{Agree}
use Rattle.views.proofs.MapLaws.{true_false}
use Rattle.sys_abi.specs.declared.identity.VPid.{VPid}
use Rattle.sys_abi.specs.declared.identity.RealPid.{RealPid}
use Rattle.sys_abi.specs.declared.life.Life.{Life}
use Rattle.sys_abi.specs.declared.life.Life.TheVariants.{Live, Zombie}
use Rattle.sys_abi.specs.Lives.{lives}
use Rattle.proc_book.specs.declared.process.Process as real_process
use Rattle.plain_tables.specs.declared.process.Process.{Process}
use Rattle.plain_tables.specs.declared.waiting.Waiting.{Waiting}
use Rattle.plain_tables.specs.declared.waiting.Waiting.TheVariants.{NoChild, NotReady, Ended}
use Rattle.plain_tables.specs.Ends.{is_child_of}
use Rattle.plain_tables.specs.Tables.{FIRST_PID, NOBODY, pid, is_live_process}
use Rattle.plain_tables.specs.Valid.Processes.{IsParent, HasParent}
use Rattle.plain_tables.specs.Waits.{wait_of, wait_by, wait_any, wait_for, is_answered}
use Rattle.plain_machine.specs.declared.kernel.PlainKernel.{PlainKernel}
use Rattle.plain_machine.specs.Kernels.{IsKernel}
use Rattle.plain_machine.specs.Rows.Wait.{ANY_CHILD, child_of_number}
use Rattle.plain_machine.specs.Tests.{has_life}
use Rattle.plain_machine.proofs.Leasts.{status_at, finding, finds-wait_any}
use Rattle.host_tables.specs.declared.kernel.Kernel.{Kernel}
use Rattle.host_tables.specs.Numbers.{IsNumberOf}
use Rattle.host_tables.specs.Processes.{SameProcess}
use Rattle.host_tables.specs.Stands.{Given, Stands}
use Rattle.host_tables.proofs.LookUps.{some_value}
use Rattle.wrap_calls.proofs.SomeLife.{lives_if_there, dead_if_empty}

-- a process that lives and has no parent
abbrev pub is_orphan : Option real_process.Process → Bool
is_orphan None = false
is_orphan (Some y) = lives y.life && not (is_some y.parent)

module _ (k : PlainKernel) (whole : IsKernel k) where
  there_by : (o : Option Process) → is_live_process o ≡ true → is_some o ≡ true
  there_by None live = true_false (sym live)
  there_by (Some x) live = refl

  parent_there : (q : VPid) (n : ℕ) → IsParent k.processes k.makers q n
      → is_some (map.get k.processes (pid n)) ≡ true
  parent_there q n is = there_by (map.get k.processes (pid n)) is.alive

  low : (n m : ℕ) → n ≡ NOBODY → n ≡ m → FIRST_PID ≤ m → ⊥
  low n m e f h = omega (arith, e, f, h)

  -- nobody is no process
  not_parent : (q : VPid) (n : ℕ) → n ≡ NOBODY → IsParent k.processes k.makers q n → ⊥
  not_parent q n none is =
      let x = some_value (map.get k.processes (pid n)) (parent_there q n is) in
      low n n none refl (whole.processes.each (pid n) x.0 x.1).number.0

  parent_of : (q : VPid) (x : Process) → map.get k.processes q ≡ Some x
      → (x.parent ≡ NOBODY) ⊎ IsParent k.processes k.makers q x.parent
  parent_of q x is = by_life x.life (whole.parents.each q x is)
    where
      by_life : (life : Life) → HasParent k.processes k.makers q x.parent life
          → (x.parent ≡ NOBODY) ⊎ IsParent k.processes k.makers q x.parent
      by_life Live has = has
      by_life (Zombie status) has = inr has.0

  -- a process for which nobody waits lives
  orphan_lives : (q : VPid) (x : Process) → map.get k.processes q ≡ Some x → x.parent ≡ NOBODY → x.life ≡ Live
  orphan_lives q x is none = by_life x.life refl (whole.parents.each q x is)
    where
      by_life : (life : Life) → x.life ≡ life → HasParent k.processes k.makers q x.parent life → x.life ≡ Live
      by_life Live at has = at
      by_life (Zombie status) at has = absurd (not_parent q x.parent none has.0)

  -- parents have lesser numbers, and the least process has none
  record HasOrphan : Type 0 where
    key : VPid
    value : Process
    there : map.get k.processes key ≡ Some value
    orphan : value.parent ≡ NOBODY

  orphan_below : (n : ℕ) (q : VPid) (x : Process) → map.get k.processes q ≡ Some x → q.0 < n → HasOrphan
  orphan_below zero q x is less = absurd (omega (arith, less))
  orphan_below (suc n) q x is less = elim (parent_of q x is) [
    | inl none ↦ record { key = q; value = x; there = is; orphan = none }
    | inr parent ↦
        let y = some_value (map.get k.processes (pid x.parent)) (parent_there q x.parent parent) in
        let below = parent.below in
        orphan_below n (pid x.parent) y.0 y.1 (omega (arith, below, less))
  ]

  -- what nobody finds
  abbrev Found : Waiting → Type 0
  Found w = FindsLeast (is_child_of (pid NOBODY)) status_at k.processes (finding w)

  is_nobodys : (x : Process) → x.parent ≡ NOBODY → is_child_of (pid NOBODY) x ≡ true
  is_nobodys x none = eq-eqb x.parent NOBODY none

  nobodys : (x : Process) → is_child_of (pid NOBODY) x ≡ true → x.parent ≡ NOBODY
  nobodys x child = eqb-true x.parent NOBODY child

  no_status : (x : Process) (z : ℕ) → x.life ≡ Live → status_at x ≡ Some z → ⊥
  no_status x z live status = none-some z (sym (ap (λ life. status_at (record x { life = life })) live)
      ∙ status)

  any_by : (w : Waiting) → Found w → not (has_life k) ≡ is_answered w
  any_by NoChild none = ap not (dead_if_empty k whole (λ q x is.
      let o = orphan_below (suc q.0) q x is (omega arith) in
      true_false (sym (is_nobodys o.value o.orphan) ∙ none o.key o.value o.there)))
  any_by NotReady found = ap not (lives_if_there k whole found.0.key found.0.value found.0.there)
  any_by (Ended q status) found =
      absurd (no_status found.value status
      (orphan_lives q found.value found.there (nobodys found.value found.asked)) found.given)

  pub any_orphan : not (has_life k) ≡ is_answered (wait_for k.processes (pid NOBODY) None)
  any_orphan = any_by (wait_any (pid NOBODY) (map.entries k.processes)) (finds-wait_any
      (pid NOBODY) k.processes)

  -- a process without children
  module _ (p : VPid) (childless : (q : VPid) (x : Process) → map.get k.processes q ≡ Some x
      → is_child_of p x ≡ false) where
    any_answered : (w : Waiting) → FindsLeast (is_child_of p) status_at k.processes (finding w)
        → true ≡ is_answered w
    any_answered NoChild found = refl
    any_answered NotReady found =
        true_false (sym found.0.asked ∙ childless found.0.key found.0.value found.0.there)
    any_answered (Ended q status) found = refl

    one_answered : (q : VPid) (o : Option Process) → map.get k.processes q ≡ o → true
        ≡ is_answered (wait_by p q o)
    one_answered q None is = refl
    one_answered q (Some x) is = sym (ap (λ b. is_answered (cond b (wait_of q x.life) NoChild))
        (childless q x is))

    childless_told : (child : Option VPid) → true ≡ is_answered (wait_for k.processes p child)
    childless_told None = any_answered (wait_any p (map.entries k.processes)) (finds-wait_any p k.processes)
    childless_told (Some q) = one_answered q (map.get k.processes q) refl

module _ (g : Given) (real : Kernel) (k : PlainKernel) (st : Stands g None real k) (whole : IsKernel k) where
  module _ (p : VPid) (unpaired : map.get g.pids p.0 ≡ None) (some : p.0 ≢ NOBODY) where
    not_its : (x : Process) → (x.parent ≡ NOBODY) ⊎ (is_some (map.get k.processes (pid x.parent)) ≡ true)
        → (b : Bool) → is_child_of p x ≡ b → b ≡ false
    not_its x has false child = refl
    not_its x has true child =
        let same = eqb-true x.parent p.0 child in
        elim has [
          | inl none ↦ absurd (some (sym same ∙ none))
          | inr there ↦
              let y = some_value (map.get k.processes (pid x.parent)) there in
              true_false (sym (st.numbered.process (pid x.parent) y.0 y.1)
              ∙ ap (λ n. is_some (map.get g.pids n)) same ∙ ap is_some unpaired)
        ]

    no_child : (q : VPid) (x : Process) → map.get k.processes q ≡ Some x → is_child_of p x ≡ false
    no_child q x is = not_its x (elim (parent_of k whole q x is) [
      | inl none ↦ inl none
      | inr parent ↦ inr (parent_there k whole q x.parent parent)
    ]) (is_child_of p x) refl

    pub stranger_told : (child : Option VPid) → true ≡ is_answered (wait_for k.processes p child)
    stranger_told = childless_told k whole p no_child

  module _ (number : ℕ) where
    abbrev answered : Option Process → Bool
    answered o = is_answered (wait_by (pid NOBODY) (pid number) o)

    pub absent_told : map.get g.pids number ≡ None → true ≡ answered (map.get k.processes (pid number))
    absent_told none = sym (ap answered (st.processes.virt_alone (pid number) none))

    module _ (r : RealPid) (paired : map.get g.pids number ≡ Some r) where
      living : (x : Process) → x.life ≡ Live → x.parent ≡ NOBODY → false ≡ answered (Some x)
      living x live none =
          sym (ap (λ b. is_answered (cond b (wait_of (pid number) x.life) NoChild))
          (is_nobodys k whole x none)
          ∙ ap (λ life. is_answered (wait_of (pid number) life)) live)

      other : (x : Process) → is_child_of (pid NOBODY) x ≡ false → true ≡ answered (Some x)
      other x child = sym (ap (λ b. is_answered (cond b (wait_of (pid number) x.life) NoChild)) child)

      not_nobodys : (x : Process) → (x.parent ≡ NOBODY → ⊥) → (b : Bool) → is_child_of (pid NOBODY) x ≡ b
          → b ≡ false
      not_nobodys x some true child = absurd (some (nobodys k whole x child))
      not_nobodys x some false child = refl

      paired_low : (n : ℕ) (s : RealPid) → map.get g.virts s ≡ Some n → n ≡ NOBODY → ⊥
      paired_low n s at none =
          low k whole n n none refl (st.paired.handed_out n s (st.paired.inverse.leads_there n s at)).virt

      by_parent : (x : Process) → map.get k.processes (pid number) ≡ Some x → (parent : Option RealPid)
          → IsNumberOf g.virts NOBODY parent x.parent → (life : Life) → x.life ≡ life
          → not (lives life && not (is_some parent)) ≡ answered (Some x)
      by_parent x is None none Live live = living x live none
      by_parent x is None none (Zombie status) ended =
          absurd (not_live status (sym ended ∙ orphan_lives k whole (pid number) x is none))
        where
          not_live : (status : ℕ) → Zombie status ≡ Live → ⊥
          not_live status e = cc
      by_parent x is (Some s) at Live live =
          other x (not_nobodys x (paired_low x.parent s at) (is_child_of (pid NOBODY) x) refl)
      by_parent x is (Some s) at (Zombie status) live =
          other x (not_nobodys x (paired_low x.parent s at) (is_child_of (pid NOBODY) x) refl)

      by_both : (o : Option Process) (q : Option real_process.Process) → map.get k.processes (pid number) ≡ o
          → Agree (SameProcess g.pids g.virts (pid number) r) o q → not (is_orphan q) ≡ answered o
      by_both None None is same = refl
      by_both None (Some y) is same = absurd same
      by_both (Some x) None is same = absurd same
      by_both (Some x) (Some y) is same = by_parent x is y.parent same.parent y.life same.life

      pub one_orphan : not (is_orphan (map.get real.procs.processes r))
          ≡ is_answered (wait_for k.processes (pid NOBODY) (Some (pid number)))
      one_orphan =
          by_both (map.get k.processes (pid number)) (map.get real.procs.processes r) refl
          (st.processes.at (pid number) r paired)

-- as code tells it
pub ended_orphan : (o : Option real_process.Process) → option_map_or (λ y. lives y.life) o false ≡ false
    → is_orphan o ≡ false
ended_orphan None ended = refl
ended_orphan (Some y) ended = ap (λ b. b && not (is_some y.parent)) ended

pub live_orphan : (o : Option real_process.Process) → option_map_or (λ y. lives y.life) o false ≡ true
    → is_some (option_and_then (λ y. y.parent) o) ≡ not (is_orphan o)
live_orphan None live = true_false (sym live)
live_orphan (Some y) live = sym (ap (λ b. not (b && not (is_some y.parent))) live ∙ twice (is_some y.parent))
  where
    twice : (b : Bool) → not (not b) ≡ b
    twice true = refl
    twice false = refl

-- what is asked for, by its number
pub any_number : (number : ℕ) → number ≡ ANY_CHILD → child_of_number number ≡ None
any_number number any = ap (λ b. cond b None (Some (pid number))) (eq-eqb number ANY_CHILD any)

pub one_number : (number : ℕ) → (number ≡ ANY_CHILD → ⊥) → child_of_number number ≡ Some (pid number)
one_number number other = by_test (number == ANY_CHILD) refl
  where
    by_test : (b : Bool) → (number == ANY_CHILD) ≡ b → cond b None (Some (pid number)) ≡ Some (pid number)
    by_test true any = absurd (other (eqb-true number ANY_CHILD any))
    by_test false is = refl

pub same_pid : (p : VPid) (n : ℕ) → p.0 ≡ n → p ≡ pid n
same_pid p n is = ap pid is
