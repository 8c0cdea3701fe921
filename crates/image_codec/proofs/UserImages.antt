-- The part of a process has one image at most, and so have the parts of all processes.
--     image_of entry      what is made of a process's number and part
--     only_images      the images of a set are made of the parts for which they stand
use Rattle.std.proofs.Common.{◌≡◌, ℕ, zero, suc, ◌+◌, ◌-◌, Less, Bool, true, false, cond, IsTrue, List, [], ◌∷◌, drop, filter, map as mapped, refl, sym, ap, subst, ◌∙◌, arith}
use Rattle.std.specs.Prelude.{Option, Some, None, nat_lt, slice_get, if◌then◌else◌}
use Rattle.std.specs.Option.{option_map, option_map_or}
use Rattle.std.specs.List.{AllByRecursion}
use Rattle.std.specs.List.Sorted.{IsStrictlySortedBy}
use Rattle.std.specs.declared.cmp.Ordering.{Ordering}
use Rattle.std.specs.Ordering.{nat_cmp}
use Rattle.std.specs.Cmp.{nat_cmp_total}
use Rattle.std.specs.FinMap as map
use Rattle.std.proofs.lemmas.Bool.Decides.{nat_tests}
use Rattle.views.proofs.TreeMaps.{entries-from_entries}
use Rattle.sys_abi.specs.declared.identity.VPid.{VPid}
use Rattle.sys_abi.specs.Orders.{vpid_cmp}
use Rattle.sys_abi.proofs.OrderLaws.{vpid_total}
use Rattle.plain_process.specs.declared.memory.Frame.{Frame}
use Rattle.plain_process.specs.declared.user_part.ThreadPart.{ThreadPart}
use Rattle.plain_process.specs.declared.user_part.UserPart.{UserPart}
use Rattle.image_process.specs.declared.page_image.PageImage.{PageImage}
use Rattle.image_process.specs.declared.thread_image.ThreadImage.{ThreadImage}
use Rattle.image_process.specs.declared.process_image.ProcImage.{ProcImage}
use Rattle.shared_items.specs.declared.shared.ProcessEntry.{ProcessEntry}
use Rattle.shared_items.specs.declared.shared.Shared.{Shared}
use Rattle.image_format.specs.Texts.{EachFrom}
use Rattle.image_format.specs.Fields.{last_item}
use Rattle.shared_items.specs.SharedFits.{SharedFits, ProcessFits}
use Rattle.image_process.specs.ProcessTests.{is_above_page, is_page_number}
use Rattle.image_process.specs.ProcessImages.{process_at, pid_at, tids_at, tids_of, SpellsProcess}
use Rattle.sys_abi.specs.Lives.{lives}
use Rattle.image_process.specs.ProcessFits.{IsPage, IsImage}
use Rattle.image_process.specs.UserParts.{page_entry, thread_entry, user_of}
use Rattle.image_codec.specs.Sets.{SpellsImages, user_entry}
use Rattle.image_codec.proofs.KernelLaws.{pids_sorted}
use Rattle.image_codec.proofs.OrderedItems.{both_true, nat_below, tids_rise}
use Rattle.image_process.proofs.ProcessFiles.{image_of as image_facts}
use Rattle.image_process.proofs.Owners.{number-is, drop-at, same_tids}
use Rattle.image_format.proofs.Rising.{RisesFrom, IsAfter, each_rising, entries_made, undone, all_from, keys-mapped}

abbrev pub page_image : ℕ × Frame → PageImage
page_image entry = record { number = entry.0; frame = entry.1 }

abbrev pub thread_image : ℕ × ThreadPart → ThreadImage
thread_image entry = record { tid = entry.0; part = entry.1 }

abbrev pub image_of : VPid × UserPart → ProcImage
image_of entry = record {
  pid = entry.0;
  break_start = entry.1.break_start;
  break_end = entry.1.break_end;
  pages = mapped page_image (map.entries entry.1.memory);
  actions = entry.1.actions;
  waiters = entry.1.waiters;
  threads = mapped thread_image (map.entries entry.1.threads);
}

-- one image: its pages rise, and its threads do where those of the shared image do
after_page : (before : Option PageImage) (n : ℕ) → IsTrue (is_above_page before n) → IsAfter nat_cmp (option_map (λ (p : PageImage). p.number) before) n
after_page None n h = tt
after_page (Some before) n h = nat_below before.number n h

page_rises : (start end : ℕ) (front : List PageImage) (page : PageImage) → IsPage start end front page → IsAfter nat_cmp (option_map (λ (p : PageImage). p.number) (last_item front)) page.number
unfolding is_page_number
page_rises start end front page h = after_page (last_item front) page.number ((both_true _ _ ((both_true _ _ h.number).0)).0)

pages_back : (start end : ℕ) (pages : List PageImage) → EachFrom (IsPage start end) [] pages → mapped page_image (map.entries (map.from_entries {R = nat_cmp} (mapped page_entry pages))) ≡ pages
pages_back start end pages h =
    ap (mapped page_image) (entries_made nat_cmp_total page_entry pages (each_rising nat_cmp (λ (p : PageImage). p.number) (IsPage start end) (page_rises start end) [] pages h))
    ∙ undone page_entry page_image pages (all_from (IsPage start end) (λ p. page_image (page_entry p) ≡ p) (λ front p fits. refl) [] pages h)

same_threads : (threads : List ThreadImage) → AllByRecursion (λ t. thread_image (thread_entry t) ≡ t) threads
same_threads [] = tt
same_threads (t ∷ threads) = (refl, same_threads threads)

threads_back : (threads : List ThreadImage) → RisesFrom nat_cmp None (mapped (λ (t : ThreadImage). t.tid) threads) → mapped thread_image (map.entries (map.from_entries {R = nat_cmp} (mapped thread_entry threads))) ≡ threads
threads_back threads h = ap (mapped thread_image) (entries_made nat_cmp_total thread_entry threads h) ∙ undone thread_entry thread_image threads (same_threads threads)

image_back : (number : Option ℕ) (tids : List ℕ) (image : ProcImage) → RisesFrom nat_cmp None tids → IsImage number tids image → image_of (user_entry image) ≡ image
unfolding user_of
image_back number tids image rise is =
    let pages = pages_back image.break_start image.break_end image.pages is.fields.pages in
    let threads = threads_back image.threads (subst (RisesFrom nat_cmp None) (same_tids number tids image is) rise) in
    λ i. record image { pages = pages i; threads = threads i }

-- the live processes of the shared image, in order
module _ {X : Type 0} (f : X → Bool) where
  all_filter : (P : X → Type 0) (xs : List X) → AllByRecursion P xs → AllByRecursion P (filter f xs)
  all_filter P [] h = tt
  all_filter P (x ∷ xs) h = elim (f x) as (λ b. AllByRecursion P (cond b (x ∷ filter f xs) (filter f xs))) [ true ↦ (h.0, all_filter P xs h.1) | false ↦ all_filter P xs h.1 ]

  all_keys : {K : Type 0} (key : X → K) (P : K → Type 0) (xs : List X) → AllByRecursion P (mapped key xs) → AllByRecursion P (mapped key (filter f xs))
  all_keys key P [] h = tt
  all_keys key P (x ∷ xs) h = elim (f x) as (λ b. AllByRecursion P (mapped key (cond b (x ∷ filter f xs) (filter f xs)))) [ true ↦ (h.0, all_keys key P xs h.1) | false ↦ all_keys key P xs h.1 ]

  pub sorted_filter : {K : Type 0} (R : K → K → Ordering) (key : X → K) (xs : List X) → IsStrictlySortedBy R (mapped key xs) → IsStrictlySortedBy R (mapped key (filter f xs))
  unfolding IsStrictlySortedBy
  sorted_filter R key [] h = tt
  sorted_filter R key (x ∷ xs) h = elim (f x) as (λ b. IsStrictlySortedBy R (mapped key (cond b (x ∷ filter f xs) (filter f xs)))) [
    | true ↦ (all_keys key (λ q. R (key x) q ≡ Less) xs h.0, sorted_filter R key xs h.1)
    | false ↦ sorted_filter R key xs h.1
  ]

all_at : {X : Type 0} (P : X → Type 0) (xs : List X) (i : ℕ) (x : X) → AllByRecursion P xs → slice_get xs i ≡ Some x → P x
all_at P [] i x h at = absurd (cc)
all_at P (y ∷ xs) zero x h at = let same : y ≡ x = cc in subst P same h.0
all_at P (y ∷ xs) (suc i) x h at = all_at P xs i x h.1 at

abbrev pub pid_of : ProcessEntry → VPid
pid_of e = e.pid

abbrev pub image_pid : ProcImage → VPid
image_pid image = image.pid

abbrev HasRisingThreads : ProcessEntry → Type 0
HasRisingThreads e = RisesFrom nat_cmp None (tids_of e.threads)

module _ (shared : Shared) (fits : SharedFits shared) where
  abbrev pub living : List ProcessEntry
  living = filter (λ (e : ProcessEntry). lives e.life) shared.processes

  all_rise : AllByRecursion HasRisingThreads living
  all_rise = all_filter (λ (e : ProcessEntry). lives e.life) HasRisingThreads shared.processes
      (all_from (ProcessFits shared.next_id shared.channels shared.descriptions) HasRisingThreads (λ front e is. tids_rise shared.next_id front e.threads is.threads) [] shared.processes fits.processes)

  rises_at : (early : Bool) (i : ℕ) (o : Option ProcessEntry) → o ≡ (if early then None else slice_get living i) → RisesFrom nat_cmp None (option_map_or (λ (e : ProcessEntry). tids_of e.threads) o [])
  rises_at early i None is = tt
  rises_at true i (Some e) is = absurd (cc)
  rises_at false i (Some e) is = all_at HasRisingThreads living i e all_rise (sym is)

  tids_at_rise : (file : ℕ) → RisesFrom nat_cmp None (tids_at shared file)
  unfolding process_at
  tids_at_rise file = rises_at (nat_lt file 2) (file - 2) (process_at shared file) refl

  -- so each image is made of its part again
  images_back : (file : ℕ) (texts : List (List ℕ)) (images : List ProcImage) → SpellsImages shared file texts images → AllByRecursion (λ image. image_of (user_entry image) ≡ image) images
  unfolding SpellsImages
  images_back file [] [] h = tt
  images_back file [] (image ∷ images) h = absurd h
  images_back file (text ∷ texts) [] h = absurd h
  images_back file (text ∷ texts) (image ∷ images) h = (image_back (pid_at shared file) (tids_at shared file) image (tids_at_rise file) (image_facts (pid_at shared file) (tids_at shared file) text image h.0), images_back (file + 1) texts images h.1)

  -- and their numbers are those of the live processes
  pub at_place : (file i : ℕ) → file ≡ i + 2 → process_at shared file ≡ slice_get living i
  unfolding process_at
  at_place file i is =
      let late : nat_lt file 2 ≡ false = grind (arith, nat_tests) in
      let place : file - 2 ≡ i = omega arith in
      ap (λ (b : Bool). if b then None else slice_get living (file - 2)) late ∙ ap (slice_get living) place

  named : (o : Option ProcessEntry) (n : ℕ) → option_map (λ (e : ProcessEntry). e.pid.0) o ≡ Some n → (e : ProcessEntry) × (o ≡ Some e) × (e.pid.0 ≡ n)
  named None n is = absurd (cc)
  named (Some e) n is = (e, refl, cc)

  pub next_is : (file i : ℕ) (text : List ℕ) (image : ProcImage) → file ≡ i + 2 → SpellsProcess (pid_at shared file) (tids_at shared file) text image
      → (e : ProcessEntry) × (drop i living ≡ e ∷ drop (i + 1) living) × (e.pid ≡ image.pid)
  next_is file i text image is spells =
      let (e, found, number) = named (process_at shared file) image.pid.0 (number-is (pid_at shared file) image.pid.0 (image_facts (pid_at shared file) (tids_at shared file) text image spells).fields.number) in
      (e, drop-at living i e (sym (at_place file i is) ∙ found), λ j. record { 0 = number j })

  all_images : (P : VPid → Type 0) (file i : ℕ) (texts : List (List ℕ)) (images : List ProcImage) → file ≡ i + 2 → SpellsImages shared file texts images → AllByRecursion P (mapped pid_of (drop i living))
      → AllByRecursion P (mapped image_pid images)
  unfolding SpellsImages
  all_images P file i [] [] is h all = tt
  all_images P file i [] (image ∷ images) is h all = absurd h
  all_images P file i (text ∷ texts) [] is h all = tt
  all_images P file i (text ∷ texts) (image ∷ images) is h all =
      let (e, next, same) = next_is file i text image is h.0 in
      let here : AllByRecursion P (mapped pid_of (e ∷ drop (i + 1) living)) = subst (λ (es : List ProcessEntry). AllByRecursion P (mapped pid_of es)) next all in
      (subst P same here.0, all_images P (file + 1) (i + 1) texts images (omega arith) h.1 here.1)

  sorted_images : (file i : ℕ) (texts : List (List ℕ)) (images : List ProcImage) → file ≡ i + 2 → SpellsImages shared file texts images → IsStrictlySortedBy vpid_cmp (mapped pid_of (drop i living))
      → IsStrictlySortedBy vpid_cmp (mapped image_pid images)
  unfolding SpellsImages IsStrictlySortedBy
  sorted_images file i [] [] is h sorted = tt
  sorted_images file i [] (image ∷ images) is h sorted = absurd h
  sorted_images file i (text ∷ texts) [] is h sorted = tt
  sorted_images file i (text ∷ texts) (image ∷ images) is h sorted =
      let (e, next, same) = next_is file i text image is h.0 in
      let here : IsStrictlySortedBy vpid_cmp (mapped pid_of (e ∷ drop (i + 1) living)) = subst (λ (es : List ProcessEntry). IsStrictlySortedBy vpid_cmp (mapped pid_of es)) next sorted in
      let above = subst (λ (p : VPid). AllByRecursion (λ q. vpid_cmp p q ≡ Less) (mapped pid_of (drop (i + 1) living))) same here.0 in
      (all_images (λ q. vpid_cmp image.pid q ≡ Less) (file + 1) (i + 1) texts images (omega arith) h.1 above, sorted_images (file + 1) (i + 1) texts images (omega arith) h.1 here.1)

  pub only_images : (texts : List (List ℕ)) (images : List ProcImage) → SpellsImages shared 2 texts images → mapped image_of (map.entries (map.from_entries {R = vpid_cmp} (mapped user_entry images))) ≡ images
  only_images texts images h =
      let sorted : IsStrictlySortedBy vpid_cmp (mapped image_pid images) =
      sorted_images 2 0 texts images refl h (sorted_filter (λ (e : ProcessEntry). lives e.life) vpid_cmp pid_of shared.processes (pids_sorted shared fits)) in
      ap (mapped image_of) (entries-from_entries vpid_total (mapped user_entry images) (subst (IsStrictlySortedBy vpid_cmp) (sym (keys-mapped user_entry images)) sorted))
      ∙ undone user_entry image_of images (images_back 2 texts images h)
