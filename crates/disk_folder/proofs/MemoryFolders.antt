-- A folder in memory keeps the promises of a `Folder`.
use Rattle.std.proofs.Common.{◌≡◌, ℕ, ◌+◌, ◌<◌, ◌≤◌, Bool, true, false, [], ◌∷◌, ◌++◌, length, take, inl, inr, refl, sym, ap, subst, ◌∙◌, arith, length-append}
use Rattle.std.specs.Prelude.{◌⊎◌, Some, Result, Ok, Err, OnOk}
use Rattle.std.proofs.lemmas.List.{take-append-le, take_all}
use Rattle.std.proofs.lemmas.Bool.{cases_lt}
use Rattle.disk_folder.specs.Files.{FolderFiles}
use Rattle.disk_folder.specs.Crash.{AfterStep, Same, IsSettled}
use Rattle.disk_folder.specs.Moments.{Passes}
use Rattle.disk_folder.specs.History.{History, image_after, MayLeave, durable, pending, torn_by, with_call}
use Rattle.disk_folder.specs.InMemory.{LeftSince, in_memory, Answers}
use Rattle.disk_folder.specs.declared.call.Call.{Call}
use Rattle.disk_folder.specs.declared.request.Request.{Request}
use Rattle.disk_folder.specs.declared.request.Request.TheVariants.{Sync}
use Rattle.disk_folder.specs.declared.disk_fault.DiskFault.{DiskFault}
use Rattle.disk_folder.specs.declared.disk_fault.DiskFault.TheVariants.{Failed, Memory}
use Rattle.disk_folder.proofs.Histories.{pending_leave, none_torn, MayLeave-next, MayLeave-settled, reads-push}

pub image_left : (v h : History) (k pattern : ℕ) (image : FolderFiles) → v ≡ h → k ≤ length h.calls → image ≡ image_after pattern v.start (take k v.calls) → LeftSince h k image
image_left v h k pattern image is within made =
    let made_of : image ≡ image_after pattern h.start (take k h.calls) = subst (λ (w : History). image ≡ image_after pattern w.start (take k w.calls)) is made in
    let calls = take k h.calls in
    (k, omega arith, within, subst (MayLeave h.start calls) (sym made_of) (inr (pending_leave pattern (durable h.start calls) (pending calls))))

since_call : (h : History) (request : Request) (is_done : Bool) (t k : ℕ) (image : FolderFiles) → t ≤ length h.calls → t ≤ k → k ≤ length h.calls + 1 → MayLeave h.start (take k (h.calls ++ record { request = request; done = is_done } ∷ [])) image
    → (length h.calls < k) ⊎ (k ≤ length h.calls) → LeftSince h t image ⊎ AfterStep (torn_by request) (MayLeave h.start h.calls) image
since_call h request is_done t k image early since within left (inl last) =
    let call : Call = record { request = request; done = is_done } in
    let whole : take k (h.calls ++ call ∷ []) ≡ h.calls ++ call ∷ [] = take_all k (h.calls ++ call ∷ []) (omega (arith, length-append h.calls (call ∷ []))) in
    inr (MayLeave-next h.start h.calls call image (subst (λ calls. MayLeave h.start calls image) whole left))
since_call h request is_done t k image early since within left (inr before) =
    let call : Call = record { request = request; done = is_done } in
    inl (k, since, before, subst (λ calls. MayLeave h.start calls image) (take-append-le k h.calls (call ∷ []) before) left)

pub one_more : (h : History) (request : Request) (is_done : Bool) → Passes (torn_by request) (in_memory h) (in_memory (with_call h request is_done))
one_more h request is_done =
    let call : Call = record { request = request; done = is_done } in
    let size : length (h.calls ++ call ∷ []) ≡ length h.calls + 1 = length-append h.calls (call ∷ []) in
    record {
      later = omega (arith, size);
      now = λ image left. MayLeave-next h.start h.calls call image left;
      since = λ t image early left. since_call h request is_done t left.0 image early left.1 (let within = left.2 in omega (arith, size)) left.3 (cases_lt (length h.calls) left.0);
      keeps = λ t image early left. (
        left.0,
        left.1,
        (let within = left.2 in omega (arith, size)),
        subst (λ calls. MayLeave h.start calls image) (sym (take-append-le left.0 h.calls (call ∷ []) left.2)) left.3,
      );
      wants = λ want. want;
    }

pub stays : (h : History) (step : FolderFiles → FolderFiles → Type 0) → ((files : FolderFiles) → step files files) → Passes step (in_memory h) (in_memory h)
stays h step none = record {
  later = omega arith;
  now = λ image left. (image, left, none image);
  since = λ t image early left. inl left;
  keeps = λ t image early left. left;
  wants = λ want. want;
}

pub stays_as : (h n : History) (step : FolderFiles → FolderFiles → Type 0) → ((files : FolderFiles) → step files files) → n ≡ h → Passes step (in_memory h) (in_memory n)
stays_as h n step none same = subst (λ (m : History). Passes step (in_memory h) (in_memory m)) (sym same) (stays h step none)

one_more_as : (h n : History) (request : Request) (is_done : Bool) → n ≡ with_call h request is_done → Passes (torn_by request) (in_memory h) (in_memory n)
one_more_as h n request is_done is = subst (λ (m : History). Passes (torn_by request) (in_memory h) (in_memory m)) (sym is) (one_more h request is_done)

-- a call, whatever it answers
pub passes : {A : Type 0} (request : Request) (h n : History) (r : Result A DiskFault) → Answers request h n r → Passes (torn_by request) (in_memory h) (in_memory n)
passes request h n (Ok value) answers = one_more_as h n request true answers.1
passes request h n (Err Failed) answers = one_more_as h n request false answers.1
passes request h n (Err Memory) answers = stays_as h n (torn_by request) (none_torn request) answers

memory_is : {A : Type 0} (request : Request) (h n : History) (r : Result A DiskFault) → Answers request h n r → r ≡ Err Memory → n ≡ h
memory_is {A} request h n r answers is = let P : Result A DiskFault → Type 0 = Answers request h n in subst P is answers

pub memory_passes : {A : Type 0} (request : Request) (h n : History) (r : Result A DiskFault) → Answers request h n r → r ≡ Err Memory → Passes Same (in_memory h) (in_memory n)
memory_passes request h n r answers is = stays_as h n Same (λ files. refl) (memory_is request h n r answers is)

-- a call that failed has changed nothing of what reads give
pub failed_reads : {A : Type 0} (request : Request) (h n : History) (r : Result A DiskFault) → Answers request h n r → r ≡ Err Failed → (in_memory n).files ≡ (in_memory h).files
failed_reads {A} request h n r answers is =
    let P : Result A DiskFault → Type 0 = Answers request h n in
    let failed = subst P is answers in
    ap (λ (m : History). (in_memory m).files) failed.1 ∙ ap Some (reads-push h.start h.calls (record { request = request; done = false }))

-- a sync that was done
pub settled_by : {A : Type 0} (h n : History) (r : Result A DiskFault) → Answers Sync h n r → OnOk r (IsSettled (in_memory n))
settled_by h n (Ok value) answers =
    subst (λ (m : History). IsSettled (in_memory m)) (sym answers.1) (λ image left. MayLeave-settled h.start h.calls (record { request = Sync; done = true }) image refl left)
settled_by h n (Err fault) answers = tt
