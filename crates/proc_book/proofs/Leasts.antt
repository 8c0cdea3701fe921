-- A wait for any child, which goes over the processes in the order of their numbers, finds the least child
-- that has ended, said of each child.
--     finding found        what a wait finds, as the least child that gives a status
--     finds-any            what a wait for any child finds, as the least entry of a map
--     finds-wait_any, finds_for      the same in the words of a wait
use Rattle.std.proofs.Common.{◌≡◌, ℕ, Bool, true, false, cond, not, ◌&&◌, List, [], ◌∷◌}
use Rattle.std.proofs.Common.{refl, sym, ap, subst, ◌∙◌}
use Rattle.std.specs.Prelude.{Option, Some, None, is_some, IsTrue}
use Rattle.std.specs.FinMap as map
use Rattle.std.proofs.lemmas.Option.{same_Some, none-some}
use Rattle.views.specs.Leasts.{this_first, least_of, FindsLeast}
use Rattle.views.proofs.Leasts.{finds-least_of}
use Rattle.virt_ids.specs.OfSysAbi.declared.identity.RealPid.{RealPid}
use Rattle.virt_ids.specs.OfSysAbi.declared.life.Life.{Life}
use Rattle.virt_ids.specs.OfSysAbi.declared.life.Life.TheVariants.{Live, Zombie}
use Rattle.virt_ids.specs.OfSysAbi.Lives.{lives}
use Rattle.virt_ids.proofs.OfSysAbi.OrderLaws.{real_pid_total, real_pid_exact}
use Rattle.proc_book.specs.declared.process.Process.{Process}
use Rattle.proc_book.specs.declared.waiting.Waiting.{Waiting}
use Rattle.proc_book.specs.declared.waiting.Waiting.TheVariants.{NoChild, NotReady, Ended}
use Rattle.proc_book.specs.Processes.{is_live, is_child_of}
use Rattle.proc_book.specs.Ends.{Processes, is_zombie_child}
use Rattle.proc_book.specs.Procs.{status_by, status_of, ended_first, wait_any, wait_for}
use Rattle.proc_book.specs.Waits.{Finds}

abbrev pub finding : Waiting → Option (Option (RealPid × ℕ))
finding NoChild = None
finding NotReady = Some None
finding (Ended r status) = Some (Some (r, status))

finding-ended_first : (r : RealPid) (life : Life) (later : Waiting)
    → finding (ended_first r life later) ≡ this_first r (status_by life) (finding later)
finding-ended_first r (Zombie status) later = refl
finding-ended_first r Live NoChild = refl
finding-ended_first r Live NotReady = refl
finding-ended_first r Live (Ended q status) = refl

one_before : (r : RealPid) (life : Life) (later : Waiting) (found : Option (Option (RealPid × ℕ)))
    (child : Bool) → finding later ≡ found → finding (cond child (ended_first r life later) later)
    ≡ cond child (this_first r (status_by life) found) found
one_before r own later found true is = finding-ended_first r own later ∙ ap (this_first r (status_by own)) is
one_before r own later found false is = is

finding-wait_any : (p : RealPid) (es : List (RealPid × Process))
    → finding (wait_any p es) ≡ least_of (is_child_of p) status_of es
finding-wait_any p [] = refl
finding-wait_any p (e ∷ es) =
    one_before e.0 e.1.life (wait_any p es) (least_of (is_child_of p) status_of es) (is_child_of p e.1)
    (finding-wait_any p es)

pub finds-any : (p : RealPid) (m : Processes)
    → FindsLeast (is_child_of p) status_of m (finding (wait_any p (map.entries m)))
finds-any p m =
    subst (FindsLeast (is_child_of p) status_of m) (sym (finding-wait_any p (map.entries m)))
    (finds-least_of real_pid_total real_pid_exact (is_child_of p) status_of m)

-- a status is that of a zombie
no_status : (life : Life) → status_by life ≡ None → not (lives life) ≡ false
no_status Live none = refl
no_status (Zombie status) none = absurd (none-some status (sym none))

a_status : (life : Life) → not (lives life) ≡ true → is_some (status_by life) ≡ true
a_status Live zombie = zombie
a_status (Zombie status) zombie = refl

its_status : (life : Life) (status : ℕ) → status_by life ≡ Some status → life ≡ Zombie status
its_status Live status is = absurd (none-some status is)
its_status (Zombie own) status is = ap Zombie (same_Some own status is)

no_zombie : (p : RealPid) (process : Process) (child : Bool) → is_child_of p process ≡ child
    → (IsTrue child → status_of process ≡ None) → is_zombie_child p process ≡ false
no_zombie p process true is none =
    ap (λ b. b && not (is_live process)) is ∙ no_status process.life (none refl)
no_zombie p process false is none = ap (λ b. b && not (is_live process)) is

both_true : (b c : Bool) → (b && c) ≡ true → (b ≡ true) × (c ≡ true)
both_true true c is = (refl, is)
both_true false c is = (is, absurd (nothing is))
  where
    nothing : false ≡ true → ⊥
    nothing e = subst (λ b. cond b ⊥ (Unit {0})) e tt

module _ (p : RealPid) (m : Processes) where
  finds_all : (found : Waiting) → FindsLeast (is_child_of p) status_of m (finding found) → Finds m p found
  finds_all NoChild told = told
  finds_all NotReady told = record {
    child = told.0.key;
    there = record { process = told.0.value; there = told.0.there; child = told.0.asked };
    live = λ r process is. no_zombie p process (is_child_of p process) refl (told.1 r process is);
  }
  finds_all (Ended r status) told = record {
    child = record {
      process = told.value;
      there = told.there;
      child = told.asked;
      ended = its_status told.value.life status told.given;
    };
    least = λ q process is zombie.
        let tests = both_true (is_child_of p process) (not (is_live process)) zombie in
        told.least q process is tests.0 (a_status process.life tests.1);
  }

  pub finds-wait_any : Finds m p (wait_any p (map.entries m))
  finds-wait_any = finds_all (wait_any p (map.entries m)) (finds-any p m)

  pub finds_for : (child : Option RealPid) → child ≡ None → Finds m p (wait_for m p child)
  finds_for None any = finds-wait_any
  finds_for (Some child) any = absurd (none-some child (sym any))
