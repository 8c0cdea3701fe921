-- A valid plain state has a set of each generation, where no datagram end or event counter is open and all bytes have arrived:
-- the image of its kernel part, and those of the parts of its live processes in the order of their numbers.
use Rattle.std.proofs.Common.{◌≡◌, ℕ, suc, ◌+◌, ◌<◌, ◌≤◌, ◌^◌, true, IsTrue, List, [], ◌∷◌, length, map as each, refl, sym, ap, subst, ◌∙◌, arith}
use Rattle.std.specs.Prelude.{All, Option, Some, is_some, slice_get, nat_le}
use Rattle.std.specs.FinMap as map
use Rattle.std.proofs.lemmas.Bool.Decides.{nat_tests}
use Rattle.std.proofs.lemmas.List.{length-map}
use Rattle.std.proofs.lemmas.List.Elements.{All-nil, All-cons}
use Rattle.std.proofs.lemmas.List.Sums.{count_by-le-length}
use Rattle.sys_abi.specs.declared.identity.VPid.{VPid}
use Rattle.sys_abi.specs.declared.life.Life.{Life}
use Rattle.sys_abi.specs.declared.life.Life.TheVariants.{Live, Zombie}
use Rattle.sys_abi.specs.Lives.{lives}
use Rattle.sys_abi.specs.Orders.{vpid_cmp}
use Rattle.sys_abi.proofs.OrderLaws.{vpid_total, vpid_exact}
use Rattle.plain_process.specs.declared.user_part.UserPart.{UserPart}
use Rattle.plain_tables.specs.declared.process.Process.{Process}
use Rattle.plain_machine.specs.declared.kernel.PlainKernel.{PlainKernel}
use Rattle.plain_machine.specs.declared.plain.Plain.{Plain}
use Rattle.plain_machine.specs.Kernel.{is_live}
use Rattle.plain_machine.specs.Valid.{FitsLife}
use Rattle.plain_machine.proofs.ThreadKeys.{same_len}
use Rattle.shared_items.specs.declared.shared.ProcessEntry.{ProcessEntry}
use Rattle.shared_items.specs.declared.shared.Shared.{Shared}
use Rattle.shared_items.specs.SharedFormat.{SpellsShared}
use Rattle.shared_items.specs.SharedTexts.{shared_text}
use Rattle.shared_items.proofs.SharedLaws as shared
use Rattle.image_format.specs.declared.manifest.Manifest.{Manifest}
use Rattle.image_format.specs.Fields.{is_within}
use Rattle.image_format.specs.ManifestTexts.{manifest_text}
use Rattle.image_format.proofs.ManifestLaws as manifest
use Rattle.image_process.specs.declared.process_image.ProcImage.{ProcImage}
use Rattle.image_process.specs.declared.thread_image.ThreadImage.{ThreadImage}
use Rattle.image_process.specs.ProcessImages.{SpellsProcess, SpellsFileAt, tids_at}
use Rattle.image_process.specs.ProcessFits.{threads_of}
use Rattle.image_process.specs.ProcessTexts.{process_text}
use Rattle.image_process.proofs.ProcessFiles as process
use Rattle.image_codec.specs.KernelImages.{shared_of, IsImage}
use Rattle.image_codec.specs.LiveImages.{Users, AreParts, HavePlaces}
use Rattle.image_codec.specs.Sets.{SpellsFiles, SpellsImages, HasSet, MayBeSet, StateHasSet, live_count, user_entry}
use Rattle.image_codec.proofs.FittingKernels.{kernel_has_image}
use Rattle.image_codec.proofs.LiveParts.{parts_have_places, entry_at, item_at, live_value}
use Rattle.image_codec.proofs.SetLengths.{shared_short, process_short}
use Rattle.image_codec.proofs.SpelledParts.{own, part_back, part_spelled}
use Rattle.image_codec.proofs.UserImages.{image_of, thread_image}

abbrev Entries : Type 0
Entries = List (VPid × UserPart)

abbrev text_of : VPid × UserPart → List ℕ
text_of e = process_text (image_of e)

-- images that are spelled each at its place
places_spelled : (s : Shared) (file : ℕ) (es : Entries) → ((i : ℕ) (e : VPid × UserPart) → slice_get es i ≡ Some e → SpellsFileAt s (file + i) (text_of e) (image_of e))
    → SpellsImages s file (each text_of es) (each image_of es)
unfolding SpellsImages
places_spelled s file [] spelled = tt
places_spelled s file (e ∷ es) spelled = (
  subst (λ (f : ℕ). SpellsFileAt s f (text_of e) (image_of e)) (omega arith) (spelled 0 e refl),
  places_spelled s (file + 1) es (λ i d at.
      let next : file + suc i ≡ file + 1 + i = omega arith in
      subst (λ (f : ℕ). SpellsFileAt s f (text_of d) (image_of d)) next (spelled (suc i) d at)),
)

-- and short
places_short : (es : Entries) → ((i : ℕ) (e : VPid × UserPart) → slice_get es i ≡ Some e → length (text_of e) < 2 ^ 64) → All (λ size. size < 2 ^ 64) (each length (each text_of es))
places_short [] short = All-nil (λ size. size < 2 ^ 64)
places_short (e ∷ es) short = All-cons (λ size. size < 2 ^ 64) (length (text_of e)) (each length (each text_of es)) (short 0 e refl) (places_short es (λ i d at. short (suc i) d at))

-- the parts for which they stand
parts_back : (es : Entries) → each user_entry (each image_of es) ≡ es
parts_back [] = refl
parts_back (e ∷ es) =
    let here : user_entry (image_of e) ≡ e = λ i. (e.0, part_back e.0 e.1 i) in
    λ i. here i ∷ parts_back es i

users_back : (users : Users) → map.from_entries {R = vpid_cmp} (map.entries users) ≡ users
users_back users = map.same_map vpid_total vpid_exact (map.from_entries (map.entries users)) users (λ q. map.get-from_entries vpid_total (map.entries users) q ∙ sym (map.get-entries users q))

count_fits : (n : ℕ) → n ≤ 128 → IsTrue (is_within 1 129 (suc n))
count_fits n few = grind (arith, nat_tests)

few_by : (n : ℕ) → IsTrue (nat_le n 128) → n ≤ 128
few_by n is = grind (arith, nat_tests)

lives_as : (life : Life) → lives life ≡ true → life ≡ Live
lives_as Live is = refl
lives_as (Zombie status) is = absurd (cc)

module _ (state : Plain) (may : MayBeSet state) where
  abbrev k : PlainKernel
  k = state.kernel

  abbrev s : Shared
  s = shared_of k

  imaged : IsImage s k
  imaged = kernel_has_image k may.valid.kernel may.supported may.arrived

  parts : AreParts s state.users
  parts = record {
    alive = λ p. may.valid.alive p ∙ ap (λ (l : PlainKernel). is_live l p) (sym imaged.kernel);
    threads = λ p process user known found. may.valid.threads p process user (ap (λ (l : PlainKernel). map.get l.processes p) (sym imaged.kernel) ∙ known) found;
  }

  places : HavePlaces s state.users
  places = parts_have_places s state.users imaged.spelled parts

  module _ (i : ℕ) (p : VPid) (user : UserPart) (at : slice_get (map.entries state.users) i ≡ Some (p, user)) where
    found : map.get state.users p ≡ Some user
    found = entry_at vpid_total vpid_exact state.users p user (item_at (map.entries state.users) i (p, user) at)

    live : (process : Process) × (map.get k.processes p ≡ Some process) × (lives process.life ≡ true)
    unfolding is_live
    live = live_value (map.get k.processes p) (sym (may.valid.alive p) ∙ ap is_some found)

    some_threads : 1 ≤ map.len user.threads
    some_threads =
        let (process, known, alive) = live in
        let fits = subst (λ (l : Life). FitsLife l process.threads process.pending) (lives_as process.life alive) (may.valid.kernel.processes.each p process known).life in
        let as_many = same_len user.threads process.threads (may.valid.threads p process user known found) in
        omega (arith, as_many, fits.0)

    small : p.0 < 2 ^ 32
    small =
        let (process, known, alive) = live in
        let (least, most) = (may.valid.kernel.processes.each p process known).number in
        let limit = may.valid.kernel.numbers.last_id in
        omega (arith, most, limit)

    mine : SpellsProcess (Some p.0) (threads_of (own p user)) (process_text (own p user)) (own p user)
    mine = part_spelled p user (may.valid.users p user found) small some_threads

    tids_mine : threads_of (own p user) ≡ map.keys user.threads
    tids_mine = tids_of_images (map.entries user.threads)
      where
        tids_of_images : (es : List _) → each (λ (t : ThreadImage). t.tid) (each thread_image es) ≡ each (λ e. e.0) es
        tids_of_images [] = refl
        tids_of_images (e ∷ es) = ap (λ (ts : List ℕ). e.0 ∷ ts) (tids_of_images es)

    spelled_at : SpellsFileAt s (i + 2) (process_text (own p user)) (own p user)
    spelled_at =
        subst (λ (n : Option ℕ). SpellsProcess n (tids_at s (i + 2)) (process_text (own p user)) (own p user)) (sym (places.pids i p user at))
        (subst (λ (ts : List ℕ). SpellsProcess (Some p.0) ts (process_text (own p user)) (own p user)) (tids_mine ∙ sym (places.tids i p user at)) mine)

    short_at : length (process_text (own p user)) < 2 ^ 64
    short_at = process_short (Some p.0) (threads_of (own p user)) (own p user) (process.image_of (Some p.0) (threads_of (own p user)) (process_text (own p user)) (own p user) mine).fields

  abbrev texts : List (List ℕ)
  texts = each text_of (map.entries state.users)

  abbrev images : List ProcImage
  images = each image_of (map.entries state.users)

  files_spelled : SpellsFiles (shared_text s ∷ texts) s images
  unfolding SpellsFiles
  files_spelled =
      let first : SpellsShared (shared_text s) s = shared.of_text (shared_text s) s (record { keeps = imaged.spelled; text_is = refl }) in
      let count : length texts ≡ live_count s = length-map (map.entries state.users) text_of ∙ sym (map.len-entries state.users) ∙ places.count in
      let each_spelled = places_spelled s 2 (map.entries state.users) (λ i e at.
      let same : i + 2 ≡ 2 + i = omega arith in
      subst (λ (f : ℕ). SpellsFileAt s f (text_of e) (image_of e)) same (spelled_at i e.0 e.1 at)) in
      (first, count, each_spelled)

  abbrev files : List (List ℕ)
  files = shared_text s ∷ texts

  short : All (λ size. size < 2 ^ 64) (each length files)
  short = All-cons (λ size. size < 2 ^ 64) (length (shared_text s)) (each length texts) (shared_short s imaged.spelled) (places_short (map.entries state.users) (λ i e at. short_at i e.0 e.1 at))

  few : length (each length texts) ≤ 128
  unfolding live_count
  few =
      let listed = few_by (length s.processes) imaged.spelled.fields.process_count.1 in
      let alive = count_by-le-length (λ (e : ProcessEntry). lives e.life) s.processes in
      let same = places.count in
      let all = map.len-entries state.users in
      let images_as = length-map (map.entries state.users) text_of in
      let lengths_as = length-map texts length in
      omega (arith, listed, alive, same, all, images_as, lengths_as)

  has_set : (g : ℕ) → g < 2 ^ 64 → HasSet state g
  has_set g word =
      let m : Manifest = record { generation = g; lengths = each length files } in
      record {
        manifest = manifest_text m;
        files = files;
        spells = record {
          shared = s;
          images = images;
          named = manifest.of_text (manifest_text m) m (record { keeps = record { count = count_fits (length (each length texts)) few }; generation = word; lengths = short; text_is = refl });
          spelled = files_spelled;
          stands = record { kernel = sym imaged.kernel; users = sym (ap map.from_entries (parts_back (map.entries state.users)) ∙ users_back state.users) };
        };
      }

pub state_has_set : StateHasSet
state_has_set state g word may = has_set state may g word
