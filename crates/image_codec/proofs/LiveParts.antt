-- The parts of the live processes that a shared image tells of have the files from 2 on, in the order of their numbers; and
-- what the images in those files stand for are such parts.
--     parts_have_places, images_are_parts      the two laws
--     image_at      the file of an image
use Rattle.std.proofs.Common.{◌≡◌, ℕ, zero, suc, ◌+◌, ◌||◌, ◌++◌, ⊎_elim, Ordering, Bool, true, false, cond, List, [], ◌∷◌, length, drop, filter, map as each, refl, sym, ap, subst, ◌∙◌, arith}
use Rattle.std.specs.Prelude.{Option, Some, None, is_some, slice_get}
use Rattle.std.specs.Option.{option_map, option_map_or}
use Rattle.std.specs.List.{AllByRecursion, list_any}
use Rattle.std.specs.List.Sorted.{IsStrictlySortedBy}
use Rattle.std.specs.Map.{keys_of}
use Rattle.std.specs.Ordering.{nat_cmp, eq_by_cmp}
use Rattle.std.specs.Cmp.{IsTotalOrder, nat_cmp_total}
use Rattle.std.specs.FinMap as map
use Rattle.std.specs.FinMap.{nat_cmp-IsAntisymmetric}
use Rattle.std.proofs.lemmas.List.{length-map}
use Rattle.std.proofs.lemmas.List.Sums.{length-filter}
use Rattle.views.specs.Maps.{map_values}
use Rattle.views.proofs.MapLaws.{true_false, key_tied, same_key}
use Rattle.views.proofs.MapValues.{get-map_values, keys-map_values, EachEntry, each_entry}
use Rattle.views.proofs.TreeMaps.{entries-from_entries}
use Rattle.sys_abi.specs.declared.identity.VPid.{VPid}
use Rattle.sys_abi.specs.Lives.{lives}
use Rattle.sys_abi.specs.Orders.{vpid_cmp}
use Rattle.sys_abi.proofs.OrderLaws.{vpid_total, vpid_exact}
use Rattle.plain_process.specs.declared.user_part.UserPart.{UserPart}
use Rattle.plain_tables.specs.declared.process.Process.{Process}
use Rattle.plain_tables.specs.Tables.{is_live_process}
use Rattle.plain_machine.specs.Kernel.{is_live}
use Rattle.plain_machine.proofs.ThreadKeys.{key_only}
use Rattle.shared_items.specs.declared.shared.ProcessEntry.{ProcessEntry}
use Rattle.shared_items.specs.declared.shared.ThreadEntry.{ThreadEntry}
use Rattle.shared_items.specs.declared.shared.Shared.{Shared}
use Rattle.shared_items.specs.SharedFits.{IsShared, SharedFits, ProcessFits}
use Rattle.image_format.proofs.Rising.{keys-mapped}
use Rattle.image_process.specs.declared.process_image.ProcImage.{ProcImage}
use Rattle.image_process.specs.ProcessTests.{is_listed}
use Rattle.image_process.specs.ProcessImages.{SpellsFileAt, pid_at, tids_at, tids_of}
use Rattle.image_process.specs.ProcessFits.{threads_of}
use Rattle.image_process.specs.UserParts.{user_of}
use Rattle.image_process.proofs.ProcessFiles.{image_of as image_facts}
use Rattle.image_process.proofs.ThreadKeys.{made_there, parts_there}
use Rattle.image_process.proofs.Owners.{same_tids}
use Rattle.image_codec.specs.KernelParts.{kernel_of, process_entry, signals_entry}
use Rattle.image_codec.specs.LiveImages.{Users, AreParts, HavePlaces, PartsHavePlaces, ImagesAreParts}
use Rattle.image_codec.specs.Sets.{SpellsImages, live_count, user_entry}
use Rattle.image_codec.proofs.Items.{IsItem, at_start, in_later, first_or_later, nothing_in, item_fits, some_item, which_item, each_item, item_of_each}
use Rattle.image_codec.proofs.DistinctItems.{each_found}
use Rattle.image_codec.proofs.KernelItems.{process_item, item_process, same_some}
use Rattle.image_codec.proofs.OrderedItems.{in_order}
use Rattle.image_codec.proofs.KernelLaws.{pids_sorted, thread_entries}
use Rattle.image_codec.proofs.UserImages.{pid_of, image_pid, living, at_place, next_is, sorted_filter}

-- the threads of a process that the image lists
signals_keys : (threads : List ThreadEntry) → each (λ (e : ℕ × ℕ). e.0) (each signals_entry threads) ≡ tids_of threads
signals_keys [] = refl
signals_keys (thread ∷ threads) = ap (λ (tids : List ℕ). thread.tid ∷ tids) (signals_keys threads)

threads_there : (threads : List ThreadEntry) (t : ℕ) → is_some (map.get (map.from_entries {R = nat_cmp} (each signals_entry threads)) t) ≡ is_listed (tids_of threads) t
threads_there threads t = made_there (each signals_entry threads) t ∙ ap (λ (tids : List ℕ). is_listed tids t) (signals_keys threads)

-- maps that have values at the same keys have the same keys
marks : {X Y : Type 0} (x : Option X) (y : Option Y) → is_some x ≡ is_some y → option_map key_only x ≡ option_map key_only y
marks None None is = refl
marks None (Some y) is = cc
marks (Some x) None is = cc
marks (Some x) (Some y) is = refl

same_keys : {K X Y : Type 0} {R : K → K → Ordering} (o : IsTotalOrder R) (exact : map.IsAntisymmetric R) (m : map.FinMap R X) (n : map.FinMap R Y) → ((q : K) → is_some (map.get m q) ≡ is_some (map.get n q))
    → map.keys m ≡ map.keys n
same_keys o exact m n same =
    sym (keys-map_values key_only m)
    ∙ ap map.keys (map.same_map o exact (map_values key_only m) (map_values key_only n) (λ q. get-map_values key_only m q ∙ marks (map.get m q) (map.get n q) (same q) ∙ sym (get-map_values key_only n q)))
    ∙ keys-map_values key_only n

-- a key is there where the list has it
there_by_keys : {K X : Type 0} (R : K → K → Ordering) (q : K) (es : List (K × X)) → is_some (map.find R q es) ≡ list_any (eq_by_cmp R q) (keys_of es)
there_by_keys R q [] = refl
there_by_keys R q (e ∷ es) = by_test (eq_by_cmp R q e.0) (there_by_keys R q es)
  where
    by_test : (b : Bool) → is_some (map.find R q es) ≡ list_any (eq_by_cmp R q) (keys_of es) → is_some (cond b (Some e.1) (map.find R q es)) ≡ (b || list_any (eq_by_cmp R q) (keys_of es))
    by_test true rest = refl
    by_test false rest = rest

-- items that pass a test
module _ {X : Type 0} (test : X → Bool) where
  kept_item : (xs : List X) (x : X) → IsItem (filter test xs) x → IsItem xs x × (test x ≡ true)
  kept_item [] x at = absurd (nothing_in x at)
  kept_item (y ∷ xs) x at = by_test (test y) refl (kept_item xs x) at
    where
      by_test : (b : Bool) → test y ≡ b → (IsItem (filter test xs) x → IsItem xs x × (test x ≡ true)) → IsItem (cond b (y ∷ filter test xs) (filter test xs)) x → IsItem (y ∷ xs) x × (test x ≡ true)
      by_test true is rest at = ⊎_elim
          (λ here. (subst (IsItem (y ∷ xs)) here (at_start y xs), ap test (sym here) ∙ is))
          (λ later. let (there, passes) = rest later in (in_later y x xs there, passes))
          (first_or_later y x (filter test xs) at)
      by_test false is rest at = let (there, passes) = rest at in (in_later y x xs there, passes)

  kept_of : (front rest : List X) (x : X) → test x ≡ true → IsItem (filter test (front ++ x ∷ rest)) x
  kept_of [] rest x passes = subst (λ b. IsItem (cond b (x ∷ filter test rest) (filter test rest)) x) (sym passes) (at_start x (filter test rest))
  kept_of (y ∷ front) rest x passes = behind (test y) (kept_of front rest x passes)
    where
      behind : (b : Bool) → IsItem (filter test (front ++ x ∷ rest)) x → IsItem (cond b (y ∷ filter test (front ++ x ∷ rest)) (filter test (front ++ x ∷ rest))) x
      behind true there = in_later y x (filter test (front ++ x ∷ rest)) there
      behind false there = there

  item_kept : (xs : List X) (x : X) → IsItem xs x → test x ≡ true → IsItem (filter test xs) x
  item_kept xs x at passes = subst (λ ys. IsItem (filter test ys) x) (sym at.whole) (kept_of at.front at.rest x passes)

same_truth : (a b : Bool) → (a ≡ true → b ≡ true) → (b ≡ true → a ≡ true) → a ≡ b
same_truth true b to back = sym (to refl)
same_truth false true to back = back refl
same_truth false false to back = refl

some_value : {X : Type 0} (found : Option X) → is_some found ≡ true → (x : X) × (found ≡ Some x)
some_value None is = true_false (sym is)
some_value (Some x) is = (x, refl)

pub live_value : (found : Option Process) → is_live_process found ≡ true → (process : Process) × (found ≡ Some process) × (lives process.life ≡ true)
live_value None is = true_false (sym is)
live_value (Some process) is = (process, refl, is)

-- places in a list
at_map : {X Y : Type 0} (f : X → Y) (xs : List X) (i : ℕ) → slice_get (each f xs) i ≡ option_map f (slice_get xs i)
at_map f [] zero = refl
at_map f [] (suc i) = refl
at_map f (x ∷ xs) zero = refl
at_map f (x ∷ xs) (suc i) = at_map f xs i

pub item_at : {X : Type 0} (xs : List X) (i : ℕ) (x : X) → slice_get xs i ≡ Some x → IsItem xs x
item_at [] zero x at = absurd (cc)
item_at [] (suc i) x at = absurd (cc)
item_at (y ∷ xs) zero x at = let same : y ≡ x = cc in subst (IsItem (y ∷ xs)) same (at_start y xs)
item_at (y ∷ xs) (suc i) x at = in_later y x xs (item_at xs i x at)

mapped_value : {X Y : Type 0} (f : X → Y) (found : Option X) (y : Y) → option_map f found ≡ Some y → (x : X) × (found ≡ Some x) × (f x ≡ y)
mapped_value f None y is = absurd (cc)
mapped_value f (Some x) y is = (x, refl, same_some (f x) y is)

-- what an item of a map's entries has is found there
pub entry_at : {K X : Type 0} {R : K → K → Ordering} (o : IsTotalOrder R) (exact : map.IsAntisymmetric R) (m : map.FinMap R X) (k : K) (v : X) → IsItem (map.entries m) (k, v) → map.get m k ≡ Some v
entry_at {K} {X} o exact m k v at = of_item (map.entries m) (each_entry o exact (λ q w. map.get m q ≡ Some w) m (λ q w is. is)) at
  where
    of_item : (es : List (K × X)) → EachEntry (λ q w. map.get m q ≡ Some w) es → IsItem es (k, v) → map.get m k ≡ Some v
    of_item es are at = by_front at.front (subst (EachEntry (λ q w. map.get m q ≡ Some w)) at.whole are)
      where
        by_front : (front : List (K × X)) → EachEntry (λ q w. map.get m q ≡ Some w) (front ++ (k, v) ∷ at.rest) → map.get m k ≡ Some v
        by_front [] are = are.0
        by_front (e ∷ front) are = by_front front are.1

module _ (s : Shared) (is : IsShared s) where
  abbrev fits : SharedFits s
  fits = is.fields

  abbrev live_list : List ProcessEntry
  live_list = living s fits

  abbrev live_pid : ProcessEntry → VPid × Unit {0}
  live_pid e = (e.pid, tt)

  -- the live processes of the image are those of the kernel part
  abbrev known : List VPid → VPid → Bool
  known pids p = list_any (eq_by_cmp vpid_cmp p) pids

  live_sorted : IsStrictlySortedBy vpid_cmp (each pid_of live_list)
  live_sorted = sorted_filter (λ (e : ProcessEntry). lives e.life) vpid_cmp pid_of s.processes (pids_sorted s fits)

  live_known : (p : VPid) → known (each pid_of live_list) p ≡ is_live (kernel_of s) p
  unfolding is_live
  live_known p = same_truth (known (each pid_of live_list) p) (is_live (kernel_of s) p)
      (λ some.
      let (q, at, tied) = which_item (eq_by_cmp vpid_cmp p) (each pid_of live_list) some in
      let (e, there, named) = item_of_each pid_of live_list q at in
      let (listed, alive) = kept_item (λ (d : ProcessEntry). lives d.life) s.processes e there in
      let same : e.pid ≡ p = named ∙ sym (same_key vpid_total vpid_exact p q tied) in
      ap (λ r. is_live_process (map.get (kernel_of s).processes r)) (sym same) ∙ ap is_live_process (item_process s (in_order s fits) e listed) ∙ alive)
      (λ alive.
      let (process, found, lives_too) = live_value (map.get (kernel_of s).processes p) alive in
      let (e, listed, entry) = process_item s p process found in
      let same : e.pid ≡ p = ap (λ (d : VPid × Process). d.0) entry in
      let live : lives e.life ≡ true = ap (λ (d : VPid × Process). lives d.1.life) entry ∙ lives_too in
      some_item (eq_by_cmp vpid_cmp p) (each pid_of live_list) e.pid
      (each_item pid_of live_list e (item_kept (λ (d : ProcessEntry). lives d.life) s.processes e listed live))
      (ap (λ q. eq_by_cmp vpid_cmp p q) same ∙ key_tied vpid_total vpid_exact p))

  live_keys : each (λ (d : VPid × Unit {0}). d.0) (each live_pid live_list) ≡ each pid_of live_list
  live_keys = keys-mapped live_pid live_list

  live_found : (p : VPid) → is_some (map.get (map.from_entries {R = vpid_cmp} (each live_pid live_list)) p) ≡ is_live (kernel_of s) p
  live_found p =
      ap is_some (map.get-from_entries vpid_total (each live_pid live_list) p) ∙ there_by_keys vpid_cmp p (each live_pid live_list)
      ∙ ap (λ pids. known pids p) live_keys ∙ live_known p

  -- parts of the live processes, in order
  pids_of_parts : (users : Users) → ((p : VPid) → is_some (map.get users p) ≡ is_live (kernel_of s) p) → map.keys users ≡ each pid_of live_list
  pids_of_parts users alive =
      same_keys vpid_total vpid_exact users (map.from_entries {R = vpid_cmp} (each live_pid live_list)) (λ p. alive p ∙ sym (live_found p))
      ∙ ap (each (λ (d : VPid × Unit {0}). d.0)) (entries-from_entries vpid_total (each live_pid live_list) (subst (IsStrictlySortedBy vpid_cmp) (sym live_keys) live_sorted))
      ∙ live_keys

  -- the process of the image at a place among the live ones
  tids_at_place : (i : ℕ) (e : ProcessEntry) → slice_get live_list i ≡ Some e → tids_at s (i + 2) ≡ tids_of e.threads
  tids_at_place i e at = ap (λ found. option_map_or (λ (d : ProcessEntry). tids_of d.threads) found []) (at_place s fits (i + 2) i refl ∙ at)

  pid_at_place : (i : ℕ) (e : ProcessEntry) → slice_get live_list i ≡ Some e → pid_at s (i + 2) ≡ Some e.pid.0
  pid_at_place i e at = ap (option_map (λ (d : ProcessEntry). d.pid.0)) (at_place s fits (i + 2) i refl ∙ at)

  listed_at : (i : ℕ) (e : ProcessEntry) → slice_get live_list i ≡ Some e → IsItem s.processes e
  listed_at i e at = (kept_item (λ (d : ProcessEntry). lives d.life) s.processes e (item_at live_list i e at)).0

  threads_listed : (e : ProcessEntry) → IsItem s.processes e → map.keys (process_entry e).1.threads ≡ tids_of e.threads
  threads_listed e at =
      let fit = item_fits (ProcessFits s.next_id s.channels s.descriptions) s.processes e fits.processes at in
      ap (each (λ (d : ℕ × ℕ). d.0)) (thread_entries s.next_id at.front e.threads fit.threads) ∙ signals_keys e.threads

  module _ (users : Users) (parts : AreParts s users) where
    entry_of_place : (i : ℕ) (p : VPid) (user : UserPart) → slice_get (map.entries users) i ≡ Some (p, user) → (e : ProcessEntry) × (slice_get live_list i ≡ Some e) × (e.pid ≡ p)
    entry_of_place i p user at =
        let key : option_map (λ (d : VPid × UserPart). d.0) (slice_get (map.entries users) i) ≡ Some p = ap (option_map (λ (d : VPid × UserPart). d.0)) at in
        let placed : slice_get (each pid_of live_list) i ≡ Some p =
        ap (λ pids. slice_get pids i) (sym (pids_of_parts users parts.alive)) ∙ at_map (λ (d : VPid × UserPart). d.0) (map.entries users) i ∙ key in
        mapped_value pid_of (slice_get live_list i) p (sym (at_map pid_of live_list i) ∙ placed)

    have_places : HavePlaces s users
    unfolding live_count
    have_places = record {
      count = map.len-entries users ∙ sym (length-map (map.entries users) (λ (d : VPid × UserPart). d.0)) ∙ ap length (pids_of_parts users parts.alive)
          ∙ length-map live_list pid_of ∙ length-filter (λ (d : ProcessEntry). lives d.life) s.processes;
      pids = λ i p user at.
          let (e, there, same) = entry_of_place i p user at in
          pid_at_place i e there ∙ ap (λ (q : VPid). Some q.0) same;
      tids = λ i p user at.
          let (e, there, same) = entry_of_place i p user at in
          let listed = listed_at i e there in
          let found : map.get (kernel_of s).processes p ≡ Some (process_entry e).1 = ap (map.get (kernel_of s).processes) (sym same) ∙ item_process s (in_order s fits) e listed in
          let user_found = entry_at vpid_total vpid_exact users p user (item_at (map.entries users) i (p, user) at) in
          tids_at_place i e there ∙ sym (threads_listed e listed)
          ∙ sym (same_keys nat_cmp_total nat_cmp-IsAntisymmetric user.threads (process_entry e).1.threads (parts.threads p (process_entry e).1 user found user_found));
    }

  -- the images in the files from a place on have the numbers of the live processes from that place on
  numbers_are : (file i : ℕ) (texts : List (List ℕ)) (images : List ProcImage) → file ≡ i + 2 → length texts ≡ length (drop i live_list) → SpellsImages s file texts images
      → each image_pid images ≡ each pid_of (drop i live_list)
  unfolding SpellsImages
  numbers_are file i [] [] at count h = ap (each pid_of) (sym (none_left (drop i live_list) (sym count)))
    where
      none_left : (es : List ProcessEntry) → length es ≡ 0 → es ≡ []
      none_left [] none = refl
      none_left (e ∷ es) none = absurd (omega arith)
  numbers_are file i [] (image ∷ images) at count h = absurd h
  numbers_are file i (text ∷ texts) [] at count h = absurd h
  numbers_are file i (text ∷ texts) (image ∷ images) at count h =
      let (e, next, same) = next_is s fits file i text image at h.0 in
      let fewer : length texts ≡ length (drop (i + 1) live_list) = let all = ap length next in omega (arith, all, count) in
      let rest = numbers_are (file + 1) (i + 1) texts images (omega arith) fewer h.1 in
      (λ j. sym same j ∷ rest j) ∙ ap (each pid_of) (sym next)

-- the file of an image, and what is so of all files
pub image_at : (P : List ℕ → Type 0) (s : Shared) (file i : ℕ) (texts : List (List ℕ)) (images : List ProcImage) (image : ProcImage) → file ≡ i + 2 → SpellsImages s file texts images → IsItem images image
    → AllByRecursion P texts → (j : ℕ) × (text : List ℕ) × SpellsFileAt s (j + 2) text image × P text
unfolding SpellsImages
image_at P s file i texts [] image at h there all = absurd (nothing_in image there)
image_at P s file i [] (first ∷ images) image at h there all = absurd h
image_at P s file i (text ∷ texts) (first ∷ images) image at h there all = ⊎_elim
    (λ here. (i, text, subst (λ (f : ℕ). SpellsFileAt s f text image) at (subst (SpellsFileAt s file text) here h.0), all.0))
    (λ later. image_at P s (file + 1) (i + 1) texts images image (omega arith) h.1 later all.1)
    (first_or_later first image images there)

-- what an image tells of its process
pub record IsOfProcess (s : Shared) (image : ProcImage) : Type 0 where
  pub entry : ProcessEntry
  pub listed : IsItem s.processes entry
  pub pid : entry.pid ≡ image.pid
  pub threads : threads_of image ≡ tids_of entry.threads

module _ (s : Shared) (is : IsShared s) where
  of_process : (j : ℕ) (text : List ℕ) (image : ProcImage) → SpellsFileAt s (j + 2) text image → IsOfProcess s image
  of_process j text image spells =
      let (e, next, same) = next_is s is.fields (j + 2) j text image refl spells in
      let there : slice_get (live_list s is) j ≡ Some e = first_dropped (live_list s is) j e (drop (j + 1) (live_list s is)) next in
      let facts = image_facts (pid_at s (j + 2)) (tids_at s (j + 2)) text image spells in
      record {
        entry = e;
        listed = listed_at s is j e there;
        pid = same;
        threads = sym (same_tids (pid_at s (j + 2)) (tids_at s (j + 2)) image facts) ∙ tids_at_place s is j e there;
      }
    where
      first_dropped : (es : List ProcessEntry) (i : ℕ) (e : ProcessEntry) (rest : List ProcessEntry) → drop i es ≡ e ∷ rest → slice_get es i ≡ Some e
      first_dropped [] zero e rest is = absurd (cc)
      first_dropped [] (suc i) e rest is = absurd (cc)
      first_dropped (x ∷ es) zero e rest is = let same : x ≡ e = cc in ap (λ y. Some y) same
      first_dropped (x ∷ es) (suc i) e rest is = first_dropped es i e rest is

  module _ (texts : List (List ℕ)) (images : List ProcImage) (count : length texts ≡ live_count s) (spelled : SpellsImages s 2 texts images) where
    abbrev users : Users
    users = map.from_entries (each user_entry images)

    image_numbers : each image_pid images ≡ each pid_of (live_list s is)
    unfolding live_count
    image_numbers = numbers_are s is 2 0 texts images refl (count ∙ sym (length-filter (λ (d : ProcessEntry). lives d.life) s.processes)) spelled

    image_parts : AreParts s users
    unfolding user_of
    image_parts = record {
      alive = λ p.
          ap is_some (map.get-from_entries vpid_total (each user_entry images) p) ∙ there_by_keys vpid_cmp p (each user_entry images)
          ∙ ap (λ pids. list_any (eq_by_cmp vpid_cmp p) pids) (keys-mapped user_entry images ∙ image_numbers) ∙ live_known s is p;
      threads = λ p process user known found t.
          let (image, there, entry) = each_found vpid_total vpid_exact user_entry images p user found in
          let (j, text, spells, any) = image_at (λ _. Unit {0}) s 2 0 texts images image refl spelled there (every_text texts) in
          let of = of_process j text image spells in
          let pid : of.entry.pid ≡ p = of.pid ∙ ap (λ (d : VPid × UserPart). d.0) entry in
          let mine : (process_entry of.entry).1 ≡ process =
          same_some (process_entry of.entry).1 process (sym (item_process s (in_order s is.fields) of.entry of.listed) ∙ ap (map.get (kernel_of s).processes) pid ∙ known) in
          ap (λ (d : VPid × UserPart). is_some (map.get d.1.threads t)) (sym entry)
          ∙ parts_there image.threads t ∙ ap (λ (tids : List ℕ). is_listed tids t) of.threads ∙ sym (threads_there of.entry.threads t)
          ∙ ap (λ (q : Process). is_some (map.get q.threads t)) mine;
    }
      where
        every_text : (items : List (List ℕ)) → AllByRecursion (λ _. Unit {0}) items
        every_text [] = tt
        every_text (text ∷ items) = (tt, every_text items)

pub parts_have_places : PartsHavePlaces
parts_have_places s users is parts = have_places s is users parts

pub images_are_parts : ImagesAreParts
images_are_parts s texts images is count spelled = image_parts s is texts images count spelled
