-- What one more call does to a folder in memory.
--     settled-push            how many calls are settled
--     durable-push, pending-push      after a call that settles nothing
--     durable-settled, pending-settled      after a sync that is done
--     Leaves-push             an image after one more call
--     reads_leave, filled_leave       what reads give, and the filled files, are images
use Rattle.std.proofs.Common.{◌≡◌, ℕ, zero, suc, ◌+◌, ◌<◌, ◌≤◌, get_or, add-one, Bool, true, false, List, [], ◌∷◌, ◌++◌, length, take, drop, replicate, inl, inr, refl, sym, ap, subst, ◌∙◌, arith, length-append}
use Rattle.std.specs.Prelude.{if◌then◌else◌, fold}
use Rattle.std.proofs.lemmas.List.{take-append-le, drop-append-le, take_all, length-take-le, length-replicate}
use Rattle.std.proofs.lemmas.List.Sums.{fold-append}
use Rattle.std.proofs.Math.ListN.{drop_of_length-le}
use Rattle.std.proofs.Math.Seq.{take-suc}
use Rattle.disk_folder.specs.Files.{FolderFiles}
use Rattle.disk_folder.specs.Crash.{AfterStep}
use Rattle.disk_folder.specs.History.{after_call, after_filled, filled_by, done, reads_after, settles, counted, settled_count, durable, pending, torn_by, Leaves, MayLeave, with_pending, FILLER}
use Rattle.disk_folder.specs.declared.request.Request.{Request}
use Rattle.disk_folder.specs.declared.request.Request.TheVariants.{Look, Write, Cut, Sync}
use Rattle.disk_folder.specs.declared.call.Call.{Call}
use Rattle.disk_folder.proofs.TornFiles.{same_torn, write_torn}

push_case : (b s : Bool) (m n : ℕ) → counted s (if b then suc m else n) ≡ (if b then suc (suc m) else counted s n)
push_case true s m n = refl
push_case false s m n = refl

pub settled-push : (calls : List Call) (call : Call) → settled_count (calls ++ call ∷ []) ≡ (if settles call then suc (length calls) else settled_count calls)
settled-push [] call = refl
settled-push (c ∷ calls) call = ap (counted (settles c)) (settled-push calls call) ∙ push_case (settles call) (settles c) (length calls) (settled_count calls)

counted_within : (s : Bool) (n m : ℕ) → n ≤ m → counted s n ≤ suc m
counted_within true zero m le = omega arith
counted_within false zero m le = omega arith
counted_within s (suc n) m le = omega arith

pub settled-within : (calls : List Call) → settled_count calls ≤ length calls
settled-within [] = omega arith
settled-within (c ∷ calls) = counted_within (settles c) (settled_count calls) (length calls) (settled-within calls)

done_torn : (request : Request) (is_done : Bool) (files : FolderFiles) → torn_by request files (if is_done then done request files else files)
done_torn Look true files = refl
done_torn Look false files = refl
done_torn (Write name at bytes) true files = write_torn name at (length bytes) bytes files refl
done_torn (Write name at bytes) false files = same_torn name at (length bytes) files
done_torn (Cut name len) true files = inr refl
done_torn (Cut name len) false files = inl refl
done_torn Sync true files = refl
done_torn Sync false files = refl

filled_torn : (request : Request) (is_done : Bool) (files : FolderFiles) → torn_by request files (filled_by request is_done files)
filled_torn Look is_done files = refl
filled_torn (Write name at bytes) is_done files = write_torn name at (length bytes) (replicate (length bytes) FILLER) files (length-replicate _ _)
filled_torn (Cut name len) true files = inr refl
filled_torn (Cut name len) false files = inl refl
filled_torn Sync is_done files = refl

pub reads_leave : (files : FolderFiles) (calls : List Call) → Leaves files calls (reads_after files calls)
reads_leave files [] = refl
reads_leave files (call ∷ later) = (after_call files call, done_torn call.request call.done files, reads_leave (after_call files call) later)

pub filled_leave : (files : FolderFiles) (calls : List Call) → Leaves files calls (fold after_filled files calls)
filled_leave files [] = refl
filled_leave files (call ∷ later) = (after_filled files call, filled_torn call.request call.done files, filled_leave (after_filled files call) later)

-- nothing was done
pub none_torn : (request : Request) (files : FolderFiles) → torn_by request files files
none_torn Look files = refl
none_torn (Write name at bytes) files = same_torn name at (length bytes) files
none_torn (Cut name len) files = inl refl
none_torn Sync files = refl

pub none_leave : (files : FolderFiles) (calls : List Call) → Leaves files calls files
none_leave files [] = refl
none_leave files (call ∷ later) = (files, none_torn call.request files, none_leave files later)

pub pending_leave : (pattern : ℕ) (files : FolderFiles) (calls : List Call) → Leaves files calls (with_pending pattern files calls)
pending_leave zero files calls = none_leave files calls
pending_leave (suc zero) files calls = reads_leave files calls
pending_leave (suc (suc n)) files calls = filled_leave files calls

pub Leaves-push : (files : FolderFiles) (calls : List Call) (call : Call) (image : FolderFiles) → Leaves files (calls ++ call ∷ []) image → AfterStep (torn_by call.request) (Leaves files calls) image
Leaves-push files [] call image (next, torn, is) = (files, refl, subst (torn_by call.request files) (sym is) torn)
Leaves-push files (c ∷ calls) call image (next, torn, rest) =
    let after = Leaves-push next calls call image rest in (after.0, (next, torn, after.1), after.2)

pub reads-push : (start : FolderFiles) (calls : List Call) (call : Call) → reads_after start (calls ++ call ∷ []) ≡ after_call (reads_after start calls) call
reads-push start calls call = fold-append after_call start calls (call ∷ [])

count_without : (calls : List Call) (call : Call) → settles call ≡ false → settled_count (calls ++ call ∷ []) ≡ settled_count calls
count_without calls call no_sync = settled-push calls call ∙ ap (λ b. if b then suc (length calls) else settled_count calls) no_sync

count_with : (calls : List Call) (call : Call) → settles call ≡ true → settled_count (calls ++ call ∷ []) ≡ suc (length calls)
count_with calls call sync = settled-push calls call ∙ ap (λ b. if b then suc (length calls) else settled_count calls) sync

pub durable-push : (start : FolderFiles) (calls : List Call) (call : Call) → settles call ≡ false → durable start (calls ++ call ∷ []) ≡ durable start calls
durable-push start calls call no_sync =
    ap (λ n. reads_after start (take n (calls ++ call ∷ []))) (count_without calls call no_sync)
    ∙ ap (reads_after start) (take-append-le (settled_count calls) calls (call ∷ []) (settled-within calls))

pub pending-push : (calls : List Call) (call : Call) → settles call ≡ false → pending (calls ++ call ∷ []) ≡ pending calls ++ call ∷ []
pending-push calls call no_sync =
    ap (λ n. drop n (calls ++ call ∷ [])) (count_without calls call no_sync) ∙ drop-append-le (settled_count calls) calls (call ∷ []) (settled-within calls)

pub durable-settled : (start : FolderFiles) (calls : List Call) (call : Call) → settles call ≡ true → durable start (calls ++ call ∷ []) ≡ reads_after start (calls ++ call ∷ [])
durable-settled start calls call sync =
    ap (λ n. reads_after start (take n (calls ++ call ∷ []))) (count_with calls call sync)
    ∙ ap (reads_after start) (take_all (suc (length calls)) (calls ++ call ∷ []) (omega (arith, length-append calls (call ∷ []))))

pub pending-settled : (calls : List Call) (call : Call) → settles call ≡ true → pending (calls ++ call ∷ []) ≡ []
pending-settled calls call sync =
    ap (λ n. drop n (calls ++ call ∷ [])) (count_with calls call sync) ∙ drop_of_length-le (calls ++ call ∷ []) {i = suc (length calls)} (omega (arith, length-append calls (call ∷ [])))

-- after a call that settles nothing, an image is one of before it that the call tore
pub MayLeave-push : (start : FolderFiles) (calls : List Call) (call : Call) (image : FolderFiles) → settles call ≡ false → MayLeave start (calls ++ call ∷ []) image → AfterStep (torn_by call.request) (MayLeave start calls) image
MayLeave-push start calls call image no_sync (inl read) =
    (reads_after start calls, inl refl, subst (torn_by call.request (reads_after start calls)) (sym (read ∙ reads-push start calls call)) (done_torn call.request call.done (reads_after start calls)))
MayLeave-push start calls call image no_sync (inr left) =
    let after = Leaves-push (durable start calls) (pending calls) call image
    (subst (λ files. Leaves files (pending calls ++ call ∷ []) image) (durable-push start calls call no_sync)
    (subst (λ later. Leaves (durable start (calls ++ call ∷ [])) later image) (pending-push calls call no_sync) left)) in
    (after.0, inr after.1, after.2)

-- after a sync that is done, only what reads give
pub MayLeave-settled : (start : FolderFiles) (calls : List Call) (call : Call) (image : FolderFiles) → settles call ≡ true → MayLeave start (calls ++ call ∷ []) image → image ≡ reads_after start (calls ++ call ∷ [])
MayLeave-settled start calls call image sync (inl read) = read
MayLeave-settled start calls call image sync (inr left) =
    let only : Leaves (durable start (calls ++ call ∷ [])) [] image = subst (λ later. Leaves (durable start (calls ++ call ∷ [])) later image) (pending-settled calls call sync) left in
    only ∙ durable-settled start calls call sync

-- after any call
pub MayLeave-next : (start : FolderFiles) (calls : List Call) (call : Call) (image : FolderFiles) → MayLeave start (calls ++ call ∷ []) image → AfterStep (torn_by call.request) (MayLeave start calls) image
MayLeave-next start calls call image left =
    elim (settles call) as (λ b. settles call ≡ b → AfterStep (torn_by call.request) (MayLeave start calls) image) [
      | true ↦ λ sync. (
        reads_after start calls,
        inl refl,
        subst (torn_by call.request (reads_after start calls)) (sym (MayLeave-settled start calls call image sync left ∙ reads-push start calls call)) (done_torn call.request call.done (reads_after start calls)),
      )
      | false ↦ λ no_sync. MayLeave-push start calls call image no_sync left
    ] refl

-- one more call of a list
pub next_settled : (calls : List Call) (call : Call) (i : ℕ) → i < length calls → call ≡ get_or calls i call → settled_count (take (i + 1) calls) ≡ (if settles call then suc i else settled_count (take i calls))
next_settled calls call i lt is =
    ap (λ n. settled_count (take n calls)) (add-one i) ∙ ap settled_count (take-suc calls i call lt) ∙ ap (λ x. settled_count (take i calls ++ x ∷ [])) (sym is)
    ∙ settled-push (take i calls) call ∙ ap (λ m. if settles call then suc m else settled_count (take i calls)) (length-take-le i calls (omega arith))
