-- A wait for any child, which goes over the processes in the order of their numbers, finds the least child
-- that has ended, said of each child.
--     finding found       what a wait finds, as the least child that gives a status
--     finds-wait_any      what a wait for any child finds
use Rattle.std.proofs.Common.{◌≡◌, ℕ, Bool, true, false, cond, List, [], ◌∷◌, refl, sym, ap, ◌∙◌, subst}
use Rattle.std.specs.Prelude.{Option, Some, None}
use Rattle.std.specs.FinMap as map
use Rattle.plain_tables.specs.OfViews.Leasts.{this_first, least_of, FindsLeast}
use Rattle.plain_tables.proofs.OfViews.Leasts.{finds-least_of}
use Rattle.plain_tables.specs.OfSysAbi.declared.identity.VPid.{VPid}
use Rattle.plain_tables.specs.OfSysAbi.declared.life.Life.{Life}
use Rattle.plain_tables.specs.OfSysAbi.declared.life.Life.TheVariants.{Live, Zombie}
use Rattle.plain_tables.proofs.OfSysAbi.OrderLaws.{vpid_total, vpid_exact}
use Rattle.plain_tables.specs.declared.process.Process.{Process}
use Rattle.plain_tables.specs.Tables.{Processes}
use Rattle.plain_tables.specs.Ends.{is_child_of}
use Rattle.plain_tables.specs.declared.waiting.Waiting.{Waiting}
use Rattle.plain_tables.specs.declared.waiting.Waiting.TheVariants.{NoChild, NotReady, Ended}
use Rattle.plain_tables.specs.Waits.{ended_first, wait_any}

-- the status with which a process has ended
abbrev pub status_of : Life → Option ℕ
status_of Live = None
status_of (Zombie status) = Some status

abbrev pub status_at : Process → Option ℕ
status_at process = status_of process.life

abbrev pub finding : Waiting → Option (Option (VPid × ℕ))
finding NoChild = None
finding NotReady = Some None
finding (Ended q status) = Some (Some (q, status))

finding-ended_first : (q : VPid) (life : Life) (later : Waiting)
    → finding (ended_first q life later) ≡ this_first q (status_of life) (finding later)
finding-ended_first q (Zombie status) later = refl
finding-ended_first q Live NoChild = refl
finding-ended_first q Live NotReady = refl
finding-ended_first q Live (Ended r status) = refl

one_before : (q : VPid) (life : Life) (later : Waiting) (found : Option (Option (VPid × ℕ)))
    (child : Bool) → finding later ≡ found → finding (cond child (ended_first q life later) later)
    ≡ cond child (this_first q (status_of life) found) found
one_before q own later found true is = finding-ended_first q own later ∙ ap (this_first q (status_of own)) is
one_before q own later found false is = is

finding-wait_any : (p : VPid) (es : List (VPid × Process))
    → finding (wait_any p es) ≡ least_of (is_child_of p) status_at es
finding-wait_any p [] = refl
finding-wait_any p (e ∷ es) =
    one_before e.0 e.1.life (wait_any p es) (least_of (is_child_of p) status_at es) (is_child_of p e.1)
    (finding-wait_any p es)

pub finds-wait_any : (p : VPid) (processes : Processes)
    → FindsLeast (is_child_of p) status_at processes (finding (wait_any p (map.entries processes)))
finds-wait_any p processes =
    subst (FindsLeast (is_child_of p) status_at processes) (sym (finding-wait_any p (map.entries processes)))
    (finds-least_of vpid_total vpid_exact (is_child_of p) status_at processes)
