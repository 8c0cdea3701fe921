-- The moments of a `put_set`, stage by stage, where the folder tells its content.
--     closing_leaves, filling_leaves, opening_leaves      what a crash leaves in each stage
use Rattle.std.proofs.Common.{◌≡◌, ℕ, ◌<◌, List, length, inl, inr, refl}
use Rattle.std.specs.Prelude.{Option, Some, slice_index}
use Rattle.disk_folder.specs.Files.{FolderFiles}
use Rattle.disk_folder.specs.Crash.{IsSettled, Torn}
use Rattle.disk_folder.specs.Moments.{Passes, LeavesOnly}
use Rattle.disk_folder.specs.SeenFolder.{SeenFolder}
use Rattle.image_store.specs.Slots.{manifest_name, manifest_of, gate_of}
use Rattle.image_store.specs.SlotWrites.{closing_step, KeepsGate}
use Rattle.image_store.specs.SlotImages.{IsBeforePut, IsInPut}
use Rattle.disk_folder.proofs.TornFiles.{same_torn}
use Rattle.image_store.proofs.SlotSteps.{gate_same}
use Rattle.image_store.proofs.Passing.{leaves_only, settled_at}
use Rattle.image_store.proofs.PutImages.{IsClosed, IsFilled, closing_image, filling_image, opening_image, others_same}

none_put : (slot : ℕ) (files : FolderFiles) → IsBeforePut slot files files
none_put slot files = record { others = others_same slot files; info = inr refl }

module _ (slot : ℕ) (files : FolderFiles) (text : List ℕ) (images : List (List ℕ)) where
  pub closing_leaves : {a b : SeenFolder} (gate : Option ℕ) → a.files ≡ Some files → IsSettled a → gate_of (manifest_of files slot) ≡ gate → Passes (closing_step slot gate) a b → LeavesOnly a b (IsInPut slot files text images)
  closing_leaves {a} gate is settled has stretch =
      leaves_only files (IsInPut slot files text images) stretch (settled_at a files settled is) (inl (none_put slot files)) (λ image step. inl (closing_image slot gate files image has step))

  pub filling_leaves : {a b : SeenFolder} (closed : FolderFiles) → a.files ≡ Some closed → IsSettled a → IsClosed slot files closed → Passes (KeepsGate slot) a b → LeavesOnly a b (IsInPut slot files text images)
  filling_leaves {a} closed is settled before stretch =
      leaves_only closed (IsInPut slot files text images) stretch (settled_at a closed settled is) (inl (filling_image slot files closed closed before (gate_same slot closed))) (λ image step. inl (filling_image slot files closed image before step))

  pub opening_leaves : {a b : SeenFolder} (filled : FolderFiles) → a.files ≡ Some filled → IsSettled a → IsFilled slot files text images filled → 0 < length text → slice_index text 0 ≡ 1 → Passes (Torn (manifest_name slot) 0 1) a b → LeavesOnly a b (IsInPut slot files text images)
  opening_leaves {a} filled is settled before some one stretch =
      leaves_only filled (IsInPut slot files text images) stretch (settled_at a filled settled is)
      (opening_image slot files text images filled before some one filled (same_torn (manifest_name slot) 0 1 filled))
      (λ image step. opening_image slot files text images filled before some one image step)
