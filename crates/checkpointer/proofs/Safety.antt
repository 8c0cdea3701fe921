-- What the folder of sets comes to: as the trace grows, as a store is opened again, and as a set is put.
use Rattle.std.proofs.Common.{◌≡◌, ℕ, zero, suc, ◌+◌, ◌^◌, ◌<◌, ◌≤◌, false, cond, List, [], ◌∷◌, ◌++◌, Option, Some, None, append_assoc, inl, inr, refl, sym, ap, subst, ◌∙◌, arith}
use Rattle.std.specs.Prelude.{◌⊎◌, is_some, IfSome, option_map}
use Rattle.std.specs.List.{count_by, Contains}
use Rattle.std.specs.Option.{ForSome, option_map_or}
use Rattle.std.proofs.lemmas.List.Elements.{Contains-append_cases}
use Rattle.std.proofs.lemmas.List.Sums.{sum_by-append}
use Rattle.views.specs.Faults.{Rose}
use Rattle.views.proofs.MapLaws.{true_false}
use Rattle.sys_abi.specs.declared.record.Record.{Record}
use Rattle.sys_abi.specs.declared.record.Record.TheVariants.{Complete, Refused}
use Rattle.sys_abi.specs.declared.record.Cause.TheVariants.{DiskFault}
use Rattle.disk_folder.specs.Files.{FolderFiles as Folder}
use Rattle.disk_folder.specs.Moments.{LeavesOnly}
use Rattle.disk_folder.proofs.Stretches.{joins, weakens, told_then}
use Rattle.disk_folder.specs.SeenFolder.{SeenFolder}
use Rattle.plain_machine.specs.declared.plain.Plain.{Plain}
use Rattle.trace_log.specs.Requests.{CutAt}
use Rattle.checkpointer.specs.Sets.{SpellsState, IsAtLeast}
use Rattle.image_store.specs.declared.set_info.SetInfo.{SetInfo}
use Rattle.image_store.specs.Slots.{last}
use Rattle.image_store.specs.FoundSets.{FoundSet, set_of, last_set, HasSet}
use Rattle.image_store.specs.StoreStates.{NoneAbove}
use Rattle.image_store.specs.StoreCrashes.{OldOrNew, ChangesNothing}
use Rattle.checkpointer.specs.Keeping.{IsGood, KeepsComplete, is_disk_fault, CountsFaults, IsSafe}

either : {A B P : Type 0} → A ⊎ B → (A → P) → (B → P) → P
either (inl a) f h = f a
either (inr b) f h = h b

pub cut_grows : (g state : Plain) (records : List Record) (r : Record) (generation : ℕ) → CutAt g records generation state → CutAt g (records ++ r ∷ []) generation state
cut_grows g state records r generation cut = record {
  front = cut.front;
  rest = cut.rest ++ r ∷ [];
  whole = ap (λ xs. xs ++ r ∷ []) cut.whole ∙ append_assoc cut.front _ (r ∷ []);
  there = cut.there;
}

good_grows : (before : Folder → Type 0) (g : Plain) (records : List Record) (r : Record) (image : Folder) → IsGood before g records image → IsGood before g (records ++ r ∷ []) image
good_grows before g records r image (inl opening) = inl opening
good_grows before g records r image (inr spells) = inr (record {
  generation = spells.generation;
  state = spells.state;
  cut = cut_grows g spells.state records r spells.generation spells.cut;
  set = spells.set;
})

-- only the set that counts matters
good_same : (before : Folder → Type 0) (g : Plain) (records : List Record) (files image : Folder) → last_set image ≡ last_set files → IsGood before g records files → IsGood before g records image
good_same before g records files image same (inl opening) = inl (record { old = opening.old; could = opening.could; same = same ∙ opening.same })
good_same before g records files image same (inr spells) = inr (record {
  generation = spells.generation;
  state = spells.state;
  cut = spells.cut;
  set = record {
    images = spells.set.images;
    counts = subst (λ found. HasSet found spells.generation spells.set.images) (sym same) spells.set.counts;
    state = spells.set.state;
  };
})

-- the generation of the set that counts
pub record CountsAs (files : Folder) (set : FoundSet) : Type 0 where
  pub info : SetInfo
  pub counts : last files ≡ Some info
  pub generation : info.generation ≡ set.generation

counted_by : (files : Folder) (set : FoundSet) (found : Option SetInfo) → last files ≡ found → option_map (set_of files) found ≡ Some set → CountsAs files set
unfolding set_of
counted_by files set None is same = absurd (cc)
counted_by files set (Some info) is same = record { info = info; counts = is; generation = generation_is (ap (λ (o : Option FoundSet). option_map_or (λ s. s.generation) o 0) same) }
  where
    generation_is : info.generation ≡ set.generation → info.generation ≡ set.generation
    generation_is e = e

counts_as : (files : Folder) (set : FoundSet) → last_set files ≡ Some set → CountsAs files set
unfolding last_set
counts_as files set is = counted_by files set (last files) refl is

found_of : (files : Folder) (info : SetInfo) → last files ≡ Some info → last_set files ≡ Some (set_of files info)
unfolding last_set
found_of files info is = ap (option_map (set_of files)) is

set_generation : (files : Folder) (info : SetInfo) → (set_of files info).generation ≡ info.generation
unfolding set_of
set_generation files info = refl

pub new_generation : (image : Folder) (generation : ℕ) (images : List (List ℕ)) → HasSet (last_set image) generation images → (info : SetInfo) × ((last image ≡ Some info) × (info.generation ≡ generation))
new_generation image generation images (set, is, whole) = let found = counts_as image set is in (found.info, (found.counts, found.generation ∙ whole.generation))

pub new_at_least : (image : Folder) (generation least : ℕ) (images : List (List ℕ)) → HasSet (last_set image) generation images → least ≤ generation → IsAtLeast least image
new_at_least image generation least images has enough =
    let found = new_generation image generation images has in
    record { info = found.0; counts = found.1.0; late = let is = found.1.1 in omega arith }

pub same_at_least : (files image : Folder) (least : ℕ) → last_set image ≡ last_set files → IsAtLeast least files → IsAtLeast least image
same_at_least files image least same at_least =
    let found = counts_as image (set_of files at_least.info) (same ∙ found_of files at_least.info at_least.counts) in
    record { info = found.info; counts = found.counts; late = let late = at_least.late in let is = found.generation in let own = set_generation files at_least.info in omega arith }

pub at_some : {A : Type 0} (P : A → Type 0) (o : Option A) (x : A) → o ≡ Some x → IfSome o P → P x
at_some P o x is holds = subst (λ q. IfSome q P) is holds

-- a bound on the generation of the set that counts
pub same_below : (files image : Folder) (most : ℕ) → last_set image ≡ last_set files → IfSome (last files) (λ info. info.generation ≤ most) → IfSome (last image) (λ info. info.generation ≤ most)
same_below files image most same below = told_then (last image) (λ info is.
    let found = counts_as files (set_of image info) (sym same ∙ found_of image info is) in
    let bound = at_some (λ info. info.generation ≤ most) (last files) found.info found.counts below in
    let own = set_generation image info in let equal = found.generation in omega arith)

pub new_below : (image : Folder) (generation most : ℕ) (images : List (List ℕ)) → HasSet (last_set image) generation images → generation ≤ most → IfSome (last image) (λ info. info.generation ≤ most)
new_below image generation most images has enough = told_then (last image) (λ info is.
    let found = new_generation image generation images has in
    let same : found.0 ≡ info = let first = found.1.0 in cc in
    let equal : info.generation ≡ generation = ap (λ (i : SetInfo). i.generation) (sym same) ∙ found.1.1 in omega arith)

-- a bound on the set that counts is one on its place
pub none_above : (told : Option Folder) (most : ℕ) → ForSome told (λ files. IfSome (last files) (λ info. info.generation ≤ most)) → ForSome told (NoneAbove most)
none_above told most above = λ files is some.
    told_then (last_set files) (λ set at.
    let found = counts_as files set at in
    let bound = at_some (λ info. info.generation ≤ most) (last files) found.info found.counts (above files is) in let same = found.generation in omega arith)

-- counts of faults
count_one : (records : List Record) (r : Record) → count_by is_disk_fault (records ++ r ∷ []) ≡ count_by is_disk_fault records + cond (is_disk_fault r) 1 0
count_one records r = let total = sum_by-append (λ x. cond (is_disk_fault x) 1 0) records (r ∷ []) in omega (arith, total)

pub counts_later : (records : List Record) (old mid new : ℕ) → CountsFaults records old mid → mid ≤ new → (mid < 2 ^ 64 → new < 2 ^ 64) → CountsFaults records old new
counts_later records old mid new (inl counted) later small = inl (omega arith)
counts_later records old mid new (inr full) later small = inr (let limit = small (omega arith) in omega arith)

plus_none : (n : ℕ) → n + 0 ≡ n
plus_none n = omega arith

pub counts_quiet : (records : List Record) (r : Record) (old new : ℕ) → is_disk_fault r ≡ false → CountsFaults records old new → CountsFaults (records ++ r ∷ []) old new
counts_quiet records r old new quiet (inl counted) =
    let none : cond (is_disk_fault r) 1 0 ≡ 0 = ap (λ b. cond b 1 0) quiet in
    inl (let one : count_by is_disk_fault (records ++ r ∷ []) ≡ count_by is_disk_fault records = count_one records r ∙ ap (λ n. count_by is_disk_fault records + n) none ∙ plus_none (count_by is_disk_fault records) in omega (arith, one))
counts_quiet records r old new quiet (inr full) = inr full

pub counts_fault : (records : List Record) (old mid new : ℕ) → CountsFaults records old mid → Rose mid new → mid ≤ new → (mid < 2 ^ 64 → new < 2 ^ 64) → CountsFaults (records ++ Refused DiskFault ∷ []) old new
counts_fault records old mid new (inl counted) (inl rose) later small = inl (let one = count_one records (Refused DiskFault) in omega arith)
counts_fault records old mid new (inl counted) (inr full) later small = inr full
counts_fault records old mid new (inr full) rose later small = inr (let limit = small (omega arith) in omega arith)

-- a mark that is no `Complete` adds no promise
complete_quiet : (records : List Record) (r : Record) (images : Folder → Type 0) → ((generation : ℕ) → Contains (r ∷ []) (Complete generation) → ⊥) → KeepsComplete records images → KeepsComplete (records ++ r ∷ []) images
complete_quiet records r images other complete generation image there left =
    either (Contains-append_cases records (r ∷ []) (Complete generation) there) (λ before. complete generation image before left) (λ now. absurd (other generation now))

pub some_there : {A : Type 0} (o p : Option A) (x : A) → is_some p ≡ is_some o → o ≡ Some x → (y : A) × (p ≡ Some y)
some_there o None x told is = absurd (true_false (sym (told ∙ ap is_some is)))
some_there o (Some y) x told is = (y, refl)

-- before any call of the folder
pub safe_start : (g : Plain) (disk : SeenFolder) → IsSafe g [] disk disk
safe_start g disk = record {
  told = refl;
  crash = λ files is. record {
    later = omega arith;
    each = λ image since. inl (record { old = image; could = disk.only_now image since; same = refl });
    before = λ t image le since. inl since;
  };
  complete = λ files is generation image there left. absurd (nothing_there generation there);
  counted = inl (omega arith);
  later = omega arith;
}
  where
    nothing_there : (generation : ℕ) → Contains {X = Record} [] (Complete generation) → ⊥
    nothing_there generation there = let below = there.1 in omega arith

-- the trace grows by a record that is no outcome of the store's
pub safe_quiet : (g : Plain) (records : List Record) (r : Record) (old new : SeenFolder) → ((generation : ℕ) → Contains (r ∷ []) (Complete generation) → ⊥) → is_disk_fault r ≡ false → IsSafe g records old new → IsSafe g (records ++ r ∷ []) old new
safe_quiet g records r old new other quiet safe = record {
  told = safe.told;
  crash = λ files is. weakens old new (IsGood old.may_leave g records) (IsGood old.may_leave g (records ++ r ∷ [])) (safe.crash files is) (good_grows old.may_leave g records r);
  complete = λ files is. complete_quiet records r new.may_leave other (safe.complete files is);
  counted = counts_quiet records r old.faults new.faults quiet safe.counted;
  later = safe.later;
}

-- each image that a crash may leave now is a good one
pub good_now : (g : Plain) (records : List Record) (old new : SeenFolder) (files image : Folder) → IsSafe g records old new → old.files ≡ Some files → new.may_leave image → IsGood old.may_leave g records image
good_now g records old new files image safe told left =
    let crash = safe.crash files told in crash.each image (new.counts_now old.moment image crash.later left)

-- calls that change nothing
pub safe_looked : (g : Plain) (records : List Record) (old mid new : SeenFolder) → IsSafe g records old mid
    → ChangesNothing mid new → LeavesOnly mid new mid.may_leave → mid.faults ≤ new.faults → (mid.faults < 2 ^ 64 → new.faults < 2 ^ 64) → IsSafe g records old new
safe_looked g records old mid new safe nothing leaves later small = record {
  told = ap is_some nothing.same ∙ safe.told;
  crash = λ files is. joins old mid new (IsGood old.may_leave g records) (safe.crash files is)
      (weakens mid new mid.may_leave (IsGood old.may_leave g records) leaves (λ image left. good_now g records old mid files image safe is left));
  complete = λ files is generation image there left. let before = nothing.crash.now image left in
      subst (IsAtLeast generation) (sym before.2) (safe.complete files is generation before.0 there before.1);
  counted = counts_later records old.faults mid.faults new.faults safe.counted later small;
  later = let first = safe.later in omega arith;
}

-- a set put: each image has the set that counted, or the new one, which spells the state of the run at its cut
pub safe_put : (g state : Plain) (records : List Record) (generation : ℕ) (images : List (List ℕ)) (old mid new : SeenFolder)
    → IsSafe g records old mid → CutAt g records generation state → SpellsState images state
    → ForSome mid.files (λ files. IfSome (last files) (λ info. info.generation ≤ generation))
    → ForSome mid.files (λ files. LeavesOnly mid new (OldOrNew (last_set files) generation images)) → is_some new.files ≡ is_some mid.files → mid.faults ≤ new.faults → (mid.faults < 2 ^ 64 → new.faults < 2 ^ 64)
    → IsSafe g records old new
safe_put g state records generation images old mid new safe cut spelled above put told later small = record {
  told = told ∙ safe.told;
  crash = λ files is.
      let here = some_there old.files mid.files files safe.told is in
      let good_here = good_now g records old mid files here.0 safe is (mid.reads_left here.0 here.1) in
      joins old mid new (IsGood old.may_leave g records) (safe.crash files is)
      (weakens mid new (OldOrNew (last_set here.0) generation images) (IsGood old.may_leave g records) (put here.0 here.1) (λ image either_way.
      either either_way (λ same. good_same old.may_leave g records here.0 image same good_here)
      (λ has. inr (record { generation = generation; state = state; cut = cut; set = record { images = images; counts = has; state = spelled } }))));
  complete = λ files is least image there left.
      let here = some_there old.files mid.files files safe.told is in
      let stretch = put here.0 here.1 in
      let at_least = safe.complete files is least here.0 there (mid.reads_left here.0 here.1) in
      let bound = at_some (λ info. info.generation ≤ generation) (last here.0) at_least.info at_least.counts (above here.0 here.1) in
      either (stretch.each image (new.counts_now mid.moment image stretch.later left)) (λ same. same_at_least here.0 image least same at_least)
      (λ has. new_at_least image generation least images has (let late = at_least.late in omega arith));
  counted = counts_later records old.faults mid.faults new.faults safe.counted later small;
  later = let first = safe.later in omega arith;
}

-- the outcome of a put: complete, or refused for the disk
pub safe_complete : (g : Plain) (records : List Record) (generation : ℕ) (images : List (List ℕ)) (old new : SeenFolder) → IsSafe g records old new
    → ForSome old.files (λ _. (image : Folder) → new.may_leave image → HasSet (last_set image) generation images) → IsSafe g (records ++ Complete generation ∷ []) old new
safe_complete g records generation images old new safe durable = record {
  told = safe.told;
  crash = λ files is. weakens old new (IsGood old.may_leave g records) (IsGood old.may_leave g (records ++ Complete generation ∷ [])) (safe.crash files is) (good_grows old.may_leave g records (Complete generation));
  complete = λ files is least image there left.
      either (Contains-append_cases records (Complete generation ∷ []) (Complete least) there) (λ before. safe.complete files is least image before left)
      (λ now. new_at_least image generation least images (durable files is image left) (same_generation least now));
  counted = counts_quiet records (Complete generation) old.faults new.faults refl safe.counted;
  later = safe.later;
}
  where
    same_generation : (least : ℕ) → Contains (Complete generation ∷ []) (Complete least) → least ≤ generation
    same_generation least (zero, below, is) = let same : generation ≡ least = cc in omega arith
    same_generation least (suc k, below, is) = absurd (omega arith)

pub safe_refused : (g : Plain) (records : List Record) (old new : SeenFolder) → IsSafe g records old new → CountsFaults (records ++ Refused DiskFault ∷ []) old.faults new.faults → IsSafe g (records ++ Refused DiskFault ∷ []) old new
safe_refused g records old new safe counted = record {
  told = safe.told;
  crash = λ files is. weakens old new (IsGood old.may_leave g records) (IsGood old.may_leave g (records ++ Refused DiskFault ∷ [])) (safe.crash files is) (good_grows old.may_leave g records (Refused DiskFault));
  complete = λ files is. complete_quiet records (Refused DiskFault) new.may_leave (λ generation there. no_complete generation there) (safe.complete files is);
  counted = counted;
  later = safe.later;
}
  where
    no_complete : (generation : ℕ) → Contains (Refused DiskFault ∷ []) (Complete generation) → ⊥
    no_complete generation (zero, below, is) = cc
    no_complete generation (suc k, below, is) = omega arith
