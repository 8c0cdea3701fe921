-- Calls one after another: what a crash may leave, and whether the folder tells its content.
--     passes_then, passes_widen, passes_none      two stretches, a weaker step, and no call at all
--     leaves_only        from a settled folder: what a crash in the stretch leaves
--     nothing_then, nothing_call, nothing_none    stretches that change nothing
--     told_then, told_before, told_still          the folder goes on to tell its content
--     reads_then, reads_ok                        one change of what reads give after another
--     settled_at, settled_same                    a settled folder
use Rattle.std.proofs.Common.{◌≡◌, ℕ, inl, inr, refl, sym, ap, subst, ◌∙◌, arith}
use Rattle.std.specs.Prelude.{Option, Some, None, option_map, is_some, IfSome, Result, Ok, Err, OnOk, OnErr}
use Rattle.disk_folder.specs.Files.{FolderFiles}
use Rattle.disk_folder.specs.Crash.{AfterStep, IsSettled, Only, Same}
use Rattle.disk_folder.specs.Moments.{Passes, LeavesOnly}
use Rattle.disk_folder.specs.declared.disk_fault.DiskFault.{DiskFault}
use Rattle.disk_folder.specs.SeenFolder.{SeenFolder}
use Rattle.image_store.specs.StoreCrashes.{SameTold, ChangesNothing}
use Rattle.disk_folder.proofs.Stretches.{either}

both_steps : {a b : SeenFolder} {R S T : FolderFiles → FolderFiles → Type 0} → Passes R a b → ((old mid new : FolderFiles) → R old mid → S mid new → T old new) → (image : FolderFiles) → AfterStep S b.may_leave image → AfterStep T a.may_leave image
both_steps first both image (mid, left, second) =
    let from = first.now mid left in
    (from.0, from.1, both from.0 mid image from.2 second)

pub passes_then : {a b c : SeenFolder} {R S : FolderFiles → FolderFiles → Type 0} (T : FolderFiles → FolderFiles → Type 0) → Passes R a b → Passes S b c → ((old new : FolderFiles) → R old new → T old new) → ((old mid new : FolderFiles) → R old mid → S mid new → T old new) → Passes T a c
passes_then T first second one both = record {
  later = let l = first.later in let m = second.later in omega arith;
  now = λ image left. both_steps first both image (second.now image left);
  since = λ t image le left. either (second.since t image (let l = first.later in omega arith) left)
      (λ earlier. either (first.since t image le earlier) inl (λ it. inr (it.0, it.1, one it.0 image it.2)))
      (λ it. inr (both_steps first both image it));
  keeps = λ t image le left. second.keeps t image (let l = first.later in omega arith) (first.keeps t image le left);
  wants = λ want. first.wants (second.wants want);
}

pub passes_widen : {a b : SeenFolder} {R : FolderFiles → FolderFiles → Type 0} (T : FolderFiles → FolderFiles → Type 0) → Passes R a b → ((old new : FolderFiles) → R old new → T old new) → Passes T a b
passes_widen T call wider = record {
  later = call.later;
  now = λ image left. let it = call.now image left in (it.0, it.1, wider it.0 image it.2);
  since = λ t image le left. either (call.since t image le left) inl (λ it. inr (it.0, it.1, wider it.0 image it.2));
  keeps = call.keeps;
  wants = call.wants;
}

pub passes_none : (T : FolderFiles → FolderFiles → Type 0) → ((files : FolderFiles) → T files files) → (d : SeenFolder) → Passes T d d
passes_none T same d = record {
  later = omega arith;
  now = λ image left. (image, left, same image);
  since = λ t image le left. inl left;
  keeps = λ t image le left. left;
  wants = λ want. want;
}

pub leaves_only : {a b : SeenFolder} {T : FolderFiles → FolderFiles → Type 0} (files : FolderFiles) (P : FolderFiles → Type 0) → Passes T a b → ((image : FolderFiles) → a.may_leave image → image ≡ files) → P files → ((image : FolderFiles) → T files image → P image) → LeavesOnly a b P
leaves_only {a} {b} {T} files P stretch only here leads =
    let after : (image : FolderFiles) → AfterStep T a.may_leave image → P image = λ image it. leads image (subst (λ f. T f image) (only it.0 it.1) it.2) in
    record {
      later = stretch.later;
      each = λ image left. either (stretch.since a.moment image (omega arith) left) (λ before. subst P (sym (only image (a.only_now image before))) here) (after image);
      before = λ t image le left. either (stretch.since t image le left) inl (λ it. inr (after image it));
    }

pub nothing_then : {a b c : SeenFolder} → ChangesNothing a b → ChangesNothing b c → ChangesNothing a c
nothing_then first second = record {
  same = second.same ∙ first.same;
  crash = passes_then Same first.crash second.crash (λ old new is. is) (λ old mid new is is2. is2 ∙ is);
}

pub nothing_none : (d : SeenFolder) → ChangesNothing d d
nothing_none d = record { same = refl; crash = passes_none Same (λ files. refl) d }

pub nothing_call : {a b : SeenFolder} → b.files ≡ a.files → Passes Same a b → ChangesNothing a b
nothing_call same crash = record { same = same; crash = crash }

pub told_same : (old new : Option FolderFiles) → new ≡ old → SameTold old new
told_same old new is = ap is_some is

pub told_then : (a b c : Option FolderFiles) → SameTold a b → SameTold b c → SameTold a c
told_then a b c first second = second ∙ first

-- where it tells what it holds at the end, it did so at the start
pub told_before : (old new : Option FolderFiles) (files : FolderFiles) → SameTold old new → new ≡ Some files → (before : FolderFiles) × (old ≡ Some before)
told_before None new files same is = absurd (Some-None (sym same ∙ ap is_some is))
  where
    Some-None : is_some {T = FolderFiles} None ≡ is_some (Some files) → ⊥
    Some-None e = (cc)
told_before (Some before) new files same is = (before, refl)

pub told_still : (old new : Option FolderFiles) (before : FolderFiles) → SameTold old new → old ≡ Some before → (files : FolderFiles) × (new ≡ Some files)
told_still old new before same is = at_new new (same ∙ ap is_some is)
  where
    at_new : (new : Option FolderFiles) → is_some new ≡ is_some (Some before) → (files : FolderFiles) × (new ≡ Some files)
    at_new None e = absurd (cc)
    at_new (Some files) e = (files, refl)

-- one change of what reads give after another
pub reads_then : (a b c : Option FolderFiles) (f g h : FolderFiles → FolderFiles) → b ≡ option_map f a → c ≡ option_map g b → ((files : FolderFiles) → a ≡ Some files → g (f files) ≡ h files) → c ≡ option_map h a
reads_then None b c f g h first second same = second ∙ ap (option_map g) first
reads_then (Some files) b c f g h first second same = second ∙ ap (option_map g) first ∙ ap Some (same files refl)

pub reads_ok : {A : Type 0} (result : Result A DiskFault) (a b c : Option FolderFiles) (f g h : FolderFiles → FolderFiles) → b ≡ option_map f a → OnOk result (c ≡ option_map g b) → ((files : FolderFiles) → a ≡ Some files → g (f files) ≡ h files) → OnOk result (c ≡ option_map h a)
reads_ok (Ok value) a b c f g h first second same = reads_then a b c f g h first second same
reads_ok (Err fault) a b c f g h first second same = tt

-- where a folder tells what it holds
pub told_at : (P : FolderFiles → Type 0) (told : Option FolderFiles) (files : FolderFiles) → IfSome told P → told ≡ Some files → P files
told_at P told files holds is = let Q : Option FolderFiles → Type 0 = λ o. IfSome o P in subst Q is holds

-- what a settled folder leaves, where it tells its content
pub settled_at : (folder : SeenFolder) (files : FolderFiles) → IsSettled folder → folder.files ≡ Some files → Only files folder.may_leave
settled_at folder files settled is = told_at (λ f. Only f folder.may_leave) folder.files files settled is

-- a settled folder stays settled while nothing changes
pub settled_same : {a b : SeenFolder} (files : FolderFiles) → Passes Same a b → Only files a.may_leave → Only files b.may_leave
settled_same files stretch only = λ image left. let it = stretch.now image left in it.2 ∙ only it.0 it.1

pub on_err : {A E P : Type 0} (result : Result A E) → P → OnErr result P
on_err (Ok value) p = tt
on_err (Err fault) p = p
