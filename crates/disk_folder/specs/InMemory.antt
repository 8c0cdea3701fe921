-- What is seen of a folder in memory. Its moments are the numbers of calls made.
--     LeftSince h t image           a crash right after some call from that moment on leaves this image
--     in_memory h                   what is seen of it after these calls
--     Answers request old new r     what a call answers and leaves
use Rattle.std.specs.Prelude.{◌≡◌, ℕ, ◌-◌, ◌^◌, ◌≤◌, min, true, false, not, length, take, count_by, Some, Result, Ok, Err, ⊤}
use Rattle.std.proofs.Common.{inl, refl, sym, subst}
use Rattle.std.proofs.Math.Nat.{le_refl}
use Rattle.std.proofs.lemmas.Option.{same_Some, none-some}
use Rattle.std.proofs.lemmas.List.{take_all}
use Rattle.disk_folder.specs.Files.{FolderFiles}
use Rattle.disk_folder.specs.SeenFolder.{SeenFolder}
use Rattle.disk_folder.specs.History.{History, reads_after, MayLeave, is_due, with_call}
use Rattle.disk_folder.specs.declared.request.Request.{Request}
use Rattle.disk_folder.specs.declared.disk_fault.DiskFault.{DiskFault}
use Rattle.disk_folder.specs.declared.disk_fault.DiskFault.TheVariants.{Failed, Memory}

abbrev pub LeftSince : History → ℕ → FolderFiles → Type 0
LeftSince h t image = (k : ℕ) × (t ≤ k) × (k ≤ length h.calls) × MayLeave h.start (take k h.calls) image

pub left_now : (h : History) (t : ℕ) (image : FolderFiles) → t ≤ length h.calls → MayLeave h.start h.calls image
    → LeftSince h t image
left_now h t image le left =
    let all = take_all (length h.calls) h.calls (le_refl (length h.calls)) in (
      length h.calls,
      le,
      le_refl (length h.calls),
      subst (λ calls. MayLeave h.start calls image)
          (sym all) left,
    )

pub only_left : (h : History) (image : FolderFiles) → LeftSince h (length h.calls) image
    → MayLeave h.start h.calls image
only_left h image (k, since, within, left) =
    subst (λ calls. MayLeave h.start calls image) (take_all k h.calls since) left

abbrev pub in_memory : History → SeenFolder
in_memory h = record {
  files = Some (reads_after h.start h.calls);
  may_leave = MayLeave h.start h.calls;
  moment = length h.calls;
  left_since = LeftSince h;
  faults = min (count_by (λ call. not call.done) h.calls) (2 ^ 64 - 1);
  may_want = ⊤;
  reads_left = λ image is. subst (MayLeave h.start h.calls) (same_Some _ _ is) (inl refl);
  untold = λ image is. absurd (none-some _ (sym is));
  counts_now = left_now h;
  only_now = only_left h;
}

-- the call was done, or it failed as it was to, or memory ran out and it was not made
abbrev pub Answers : {A : Type 0} → Request → History → History → Result A DiskFault → Type 0
Answers request old new (Ok value) = (is_due old ≡ false) × (new ≡ with_call old request true)
Answers request old new (Err Failed) = (is_due old ≡ true) × (new ≡ with_call old request false)
Answers request old new (Err Memory) = new ≡ old
