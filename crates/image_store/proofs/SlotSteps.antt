-- What each step of a `put_set` may change.
--     only_torn, only_cut, only_then                one file
--     manifest_only, manifest_same, manifest_then   the files of a slot but its manifest
--     gate_manifest, gate_torn, gate_cut, gate_same, gate_then      the files of a slot but the first byte of its manifest
use Rattle.std.proofs.Common.{◌≡◌, ◌≢◌, ◌⊎◌, ℕ, ◌<◌, inl, inr, List, [], length, take, refl, ap, ◌∙◌, arith, length-take}
use Rattle.std.specs.Prelude.{unwrap_or}
use Rattle.std.specs.FinMap as files_by_name
use Rattle.std.proofs.lemmas.List.{take-take}
use Rattle.disk_folder.specs.Files.{FolderFiles}
use Rattle.disk_folder.specs.Crash.{CutOrNot, Torn}
use Rattle.disk_folder.specs.declared.file_name.FileName.{FileName}
use Rattle.disk_folder.proofs.FilesAfter.{contents-cut, get-cut_other}
use Rattle.disk_folder.proofs.TornFiles.{front_stays}
use Rattle.image_store.specs.Slots.{manifest_name, manifest_of}
use Rattle.image_store.specs.SlotWrites.{OnlyFile, KeepsManifest, KeepsGate}

pub only_torn : (name : FileName) (at n : ℕ) (old new : FolderFiles) → Torn name at n old new → OnlyFile name old new
only_torn name at n old new torn = record { others = torn.others }

pub only_cut : (name : FileName) (len : ℕ) (old new : FolderFiles) → CutOrNot name len old new → OnlyFile name old new
only_cut name len old new (inl same) = record { others = λ q differ. ap (λ files. files_by_name.get files q) same }
only_cut name len old new (inr cut) = record { others = λ q differ. ap (λ files. files_by_name.get files q) cut ∙ get-cut_other old name len q differ }

pub only_then : (name : FileName) (a b c : FolderFiles) → OnlyFile name a b → OnlyFile name b c → OnlyFile name a c
only_then name a b c first second = record { others = λ q differ. second.others q differ ∙ first.others q differ }

-- a file behind the manifest
pub manifest_only : (slot index : ℕ) (old new : FolderFiles) → 0 < index → OnlyFile (record { slot = slot; index = index }) old new → KeepsManifest slot old new
manifest_only slot index old new behind only = record { others = λ q other. only.others q (differs q other) }
  where
    differs : (q : FileName) → (q.slot ≢ slot) ⊎ (q.index ≡ 0) → q ≢ record { slot = slot; index = index }
    differs q (inl other) same = other (ap (λ n. n.slot) same)
    differs q (inr front) same = let i : q.index ≡ index = ap (λ n. n.index) same in absurd (omega arith)

pub manifest_same : (slot : ℕ) (files : FolderFiles) → KeepsManifest slot files files
manifest_same slot files = record { others = λ q other. refl }

pub manifest_then : (slot : ℕ) (a b c : FolderFiles) → KeepsManifest slot a b → KeepsManifest slot b c → KeepsManifest slot a c
manifest_then slot a b c first second = record { others = λ q other. second.others q other ∙ first.others q other }

pub kept_manifest : (slot : ℕ) (old new : FolderFiles) → KeepsManifest slot old new → manifest_of new slot ≡ manifest_of old slot
kept_manifest slot old new keeps = ap (λ found. unwrap_or found []) (keeps.others (manifest_name slot) (inr refl))

pub gate_manifest : (slot : ℕ) (old new : FolderFiles) → KeepsManifest slot old new → KeepsGate slot old new
gate_manifest slot old new keeps = record {
  others = λ q other. keeps.others q (inl other);
  gate = λ _. ap (take 1) (kept_manifest slot old new keeps);
}

pub other_name : (slot : ℕ) (q : FileName) → q.slot ≢ slot → q ≢ manifest_name slot
other_name slot q other same = other (ap (λ n. n.slot) same)

-- a write behind the gate
pub gate_torn : (slot n : ℕ) (old new : FolderFiles) → Torn (manifest_name slot) 1 n old new → KeepsGate slot old new
gate_torn slot n old new torn = record {
  others = λ q other. torn.others q (other_name slot q other);
  gate = λ some. front_stays 1 n (manifest_of old slot) (manifest_of new slot) 1 torn.bytes (omega arith) (omega arith);
}

pub gate_cut : (slot len : ℕ) (old new : FolderFiles) → 0 < len → CutOrNot (manifest_name slot) len old new → KeepsGate slot old new
gate_cut slot len old new some (inl same) = record {
  others = λ q other. ap (λ files. files_by_name.get files q) same;
  gate = λ _. ap (λ files. take 1 (manifest_of files slot)) same;
}
gate_cut slot len old new some (inr cut) = record {
  others = λ q other. ap (λ files. files_by_name.get files q) cut ∙ get-cut_other old (manifest_name slot) len q (other_name slot q other);
  gate = λ _. ap (λ files. take 1 (manifest_of files slot)) cut ∙ ap (take 1) (contents-cut old (manifest_name slot) len) ∙ take-take 1 len (manifest_of old slot) (omega arith);
}

pub gate_same : (slot : ℕ) (files : FolderFiles) → KeepsGate slot files files
gate_same slot files = record { others = λ q other. refl; gate = λ some. refl }

some_front : (old new : List ℕ) → 0 < length old → take 1 new ≡ take 1 old → 0 < length new
some_front old new some same = let l = ap length same in omega (arith, length-take 1 old, length-take 1 new)

pub gate_then : (slot : ℕ) (a b c : FolderFiles) → KeepsGate slot a b → KeepsGate slot b c → KeepsGate slot a c
gate_then slot a b c first second = record {
  others = λ q other. second.others q other ∙ first.others q other;
  gate = λ some. second.gate (some_front (manifest_of a slot) (manifest_of b slot) some (first.gate some)) ∙ first.gate some;
}
