-- The runs of a ring's halves.
--     never_rose              a count of no faults did not rise
--     state_at                where a run that came to its end stands
--     wants_memory, memory_then      memory was wanted when it had come there
--     value_found             what it left in the file of the value
--     silent                  the log's lines of a run without checkpoints
--     raised                  a result that is this error
--     then_looks              the folder was only looked at afterwards
--     rose_then               so a fault that was counted then was counted in both
use Rattle.std.proofs.Common.{◌≡◌, ℕ, ◌^◌, ◌<◌, List, [], ◌∷◌, ◌++◌, Option, Some, None, false, inl, inr, refl, sym, ap, subst, ◌∙◌, arith}
use Rattle.std.specs.Prelude.{◌⊎◌, All, IfSome, IsErrAnd, Result, Ok, Err, codes}
use Rattle.std.proofs.lemmas.List.Elements.{All-head, All-tail}
use Rattle.views.specs.Faults.{Rose}
use Rattle.views.proofs.FaultCounts.{Rose-after}
use Rattle.sys_abi.specs.declared.record.Record.{Record}
use Rattle.sys_abi.specs.declared.record.Record.TheVariants.{User, Call, Deliver, Arrive, Cut, Drained, Refilled, Complete, Refused, Lapsed}
use Rattle.disk_folder.specs.Files.{FolderFiles as Folder}
use Rattle.disk_folder.specs.SeenFolder.{SeenFolder}
use Rattle.disk_folder.proofs.Stretches.{joins, weakens}
use Rattle.plain_machine.specs.declared.kernel.PlainKernel.{PlainKernel}
use Rattle.plain_machine.specs.declared.plain.Plain.{Plain}
use Rattle.plain_machine.specs.Runs.{run}
use Rattle.option_words.specs.Options.{Text}
use Rattle.trace_log.specs.declared.requests.Schedule.{Schedule}
use Rattle.trace_log.specs.declared.log_lines.Progress.{Progress}
use Rattle.trace_log.specs.LogText.{after, at_start, line_of, lines_from, log_text}
use Rattle.trace_log.specs.Requests.{is_mark}
use Rattle.trace_log.proofs.RequestMarks.{has_no_marks}
use Rattle.endings.specs.declared.status.Status.TheVariants.{Memory as IsMemory}
use Rattle.endings.specs.declared.ending.Ending.TheVariants.{Memory}
use Rattle.endings.specs.Log.{memory_line}
use Rattle.drive.specs.HandedOn.{IsOpening, CountsFaults}
use Rattle.drive.specs.RunEnds.{IsRun, KernelAtEnd, RanOut}
use Rattle.drive.proofs.HandedOn.{took_front}
use Rattle.launch_start.specs.Values.{content_named}
use Rattle.dmtcp_top.specs.Sessions.{Session, Beginning, Outside, session_in, log_in}
use Rattle.dmtcp_top.specs.Launches.{beginning, origin}
use Rattle.dmtcp_top.specs.Ends.{CameTo, Reaches}
use Rattle.dmtcp_top.specs.Endings.{IsRunOut, IsStopped}
use Rattle.dmtcp_top.specs.Loads.{OnlyLooks}
use Rattle.dmtcp_top.specs.Promise.{SpellsCutOf, StaysWhole}
use Rattle.dmtcp_top.specs.Ring.{value_left}
use Rattle.dmtcp_top.specs.RingEndings.{IsHalfDone}
use Rattle.dmtcp_top.proofs.Loads.{left_before}

pub never_rose : {P : Type 0} → Rose 0 0 → P
never_rose (inl less) = absurd (omega arith)
never_rose (inr most) = absurd (cc)

pub raised : {A E : Type 0} (P : Result A E → Type 0) (r : Result A E) (e : E) → IsErrAnd r (λ x. x ≡ e) → P (Err e) → P r
raised P (Ok a) e is holds = absurd is
raised P (Err x) e is holds = subst (λ y. P (Err y)) (sym is) holds

inner : {A : Type 0} (a b : A) → Some a ≡ Some b → a ≡ b
inner a b is = cc

-- ---- where a run came to its end

pub state_at : (half : Session) (came : CameTo RanOut half) (at : Beginning) (g : Plain) → half.left.start ≡ Some at → run at.state half.left.trace ≡ Some g → came.run.shown.state ≡ g
state_at half came at g start steps =
    let same : at ≡ beginning came.begun = inner at (beginning came.begun) (sym start ∙ came.start) in
    let there : run (origin came.begun) half.left.trace ≡ Some g = subst (λ (b : Beginning). run b.state half.left.trace ≡ Some g) same steps in
    inner came.run.shown.state g (sym came.run.shown.run.steps ∙ there)

pub wants_memory : (half : Session) → CameTo RanOut half → Reaches IsMemory half memory_line
wants_memory half came = (inr (record { begun = came.begun; start = came.start; run = came.run.shown }), refl)

pub memory_then : (system : PlainKernel) (words : List Text) (trace : List Record) (before now : Outside) → IsRunOut system words trace before now → IsStopped Memory words trace before now
memory_then system words trace before now out =
    let come = out.come in
    let lines = come.there.1 in
    record {
      come = record {
        start = come.start;
        there = (wants_memory (session_in words come.start trace before now) come.there.0.0, took_front (log_in before now) (log_text trace) lines);
        pace = (log_text trace, (inl refl, lines));
        in_rounds = come.in_rounds;
        whole = come.whole;
      };
      other = λ e. absurd (cc);
    }

if_some : (o : Option Beginning) (P Q : Beginning → Type 0) → IfSome o P → ((b : Beginning) → P b → Q b) → IfSome o Q
if_some None P Q holds next = tt
if_some (Some b) P Q holds next = next b holds

pub half_done : (system : PlainKernel) (left : List ℕ) (words : List Text) (trace : List Record) (before now : Outside) → IsRunOut system words trace before now → left ≡ content_named system (codes "value")
    → IsHalfDone left words trace before now
half_done system left words trace before now out is = record {
  come = out.come;
  value = if_some out.come.start (λ begun. KernelAtEnd begun.state trace system) (λ begun. (g : Plain) × (run begun.state trace ≡ Some g) × (left ≡ content_named g.kernel (codes "value")))
      out.state (λ begun at. (at.0, at.1.0, is ∙ ap (λ k. content_named k (codes "value")) at.1.1));
}

-- what the half left is what its run left
pub value_found : (half : Session) (came : CameTo RanOut half) (left : List ℕ) → IfSome half.left.start (λ begun. (g : Plain) × (run begun.state half.left.trace ≡ Some g) × (left ≡ content_named g.kernel (codes "value")))
    → left ≡ value_left came
value_found half came left there =
    let at : Beginning = beginning came.begun in
    let found = subst (λ (o : Option Beginning). IfSome o (λ begun. (g : Plain) × (run begun.state half.left.trace ≡ Some g) × (left ≡ content_named g.kernel (codes "value")))) came.start there in
    found.2 ∙ ap (λ (g : Plain). content_named g.kernel (codes "value")) (sym (state_at half came at found.0 came.start found.1))

-- ---- lines

no_line : (so_far : Progress) (r : Record) → is_mark r ≡ false → (line_of so_far r ≡ []) × (after so_far r ≡ so_far)
unfolding line_of after
no_line so_far (User p t n) plain = (refl, refl)
no_line so_far (Call p t) plain = (refl, refl)
no_line so_far (Deliver p t s) plain = (refl, refl)
no_line so_far (Arrive dir n) plain = (refl, refl)
no_line so_far (Cut generation) plain = absurd (cc)
no_line so_far (Drained dir n) plain = absurd (cc)
no_line so_far (Refilled dir n) plain = absurd (cc)
no_line so_far (Complete generation) plain = absurd (cc)
no_line so_far (Refused cause) plain = absurd (cc)
no_line so_far Lapsed plain = absurd (cc)

no_lines : (so_far : Progress) (records : List Record) → All (λ r. is_mark r ≡ false) records → lines_from so_far records ≡ []
no_lines so_far [] plain = refl
no_lines so_far (r ∷ records) plain =
    let here = no_line so_far r (All-head (λ x. is_mark x ≡ false) r records plain) in
    ap (λ line. line ++ lines_from (after so_far r) records) here.0
    ∙ ap (λ progress. lines_from progress records) here.1
    ∙ no_lines so_far records (All-tail (λ x. is_mark x ≡ false) r records plain)

-- a run without checkpoints has no lines
pub silent : (schedule : Schedule) (g last : Plain) (room : ℕ) (trace : List Record) → schedule.every ≡ None → IsRun schedule g room trace last → log_text trace ≡ []
silent schedule g last room trace none is = no_lines at_start trace (has_no_marks schedule g last is.requests trace none is.reaches).0

-- ---- the folder

abbrev Good : Option Beginning → List Record → SeenFolder → Folder → Type 0
Good start trace old image = IsOpening old.may_leave image ⊎ SpellsCutOf start trace image

pub then_looks : (start : Option Beginning) (trace : List Record) (old mid new : SeenFolder) → StaysWhole start trace old mid → OnlyLooks mid new → StaysWhole start trace old new
then_looks start trace old mid new whole looks = record {
  crash = λ files is.
      let stays = whole.crash files is in
      joins old mid new (Good start trace old) stays
      (weakens mid new mid.may_leave (Good start trace old) looks.crash (λ image left. stays.each image (mid.counts_now old.moment image stays.later left)));
  complete = λ files is generation image there left. whole.complete files is generation image there (left_before mid new image looks.nothing left);
  counted = counted whole.counted;
}
  where
    counted : CountsFaults trace old.faults mid.faults → CountsFaults trace old.faults new.faults
    counted (inl counts) = inl (let later = looks.counts.later in omega arith)
    counted (inr full) =
        inr (let later = looks.counts.later in let small : new.faults < 2 ^ 64 = looks.counts.small (omega (arith, full)) in omega arith)

pub rose_then : (trace : List Record) (old mid new : SeenFolder) → CountsFaults trace old.faults mid.faults → OnlyLooks mid new → Rose mid.faults new.faults → Rose old.faults new.faults
rose_then trace old mid new (inl counts) looks rose = Rose-after old.faults mid.faults new.faults (omega (arith, counts)) rose
rose_then trace old mid new (inr full) looks (inl less) = let small : new.faults < 2 ^ 64 = looks.counts.small (omega (arith, full)) in absurd (omega arith)
rose_then trace old mid new (inr full) looks (inr most) = inr most
