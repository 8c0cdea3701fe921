-- The files of a start's images spell its plain state: the shared image of the kernel part has a place for each process that lives, and each file that of its process.
use Rattle.std.proofs.Common.{◌≡◌, ℕ, suc, ◌+◌, ◌≤◌, List, [], ◌∷◌, length, Option, Some, refl, sym, ap, subst, ◌∙◌, arith}
use Rattle.std.specs.Prelude.{slice_get, map as each}
use Rattle.std.specs.FinMap as map
use Rattle.std.proofs.lemmas.List.{length-map}
use Rattle.std.proofs.lemmas.List.Sums.{count_by-le-length}
use Rattle.views.proofs.MapValues.{EachEntry, each_entry, entries-map_values}
use Rattle.sys_abi.specs.declared.identity.VPid.{VPid}
use Rattle.sys_abi.specs.Orders.{vpid_cmp}
use Rattle.sys_abi.proofs.OrderLaws.{vpid_total, vpid_exact}
use Rattle.plain_process.specs.declared.user_part.UserPart.{UserPart}
use Rattle.plain_machine.specs.declared.kernel.PlainKernel.{PlainKernel}
use Rattle.plain_machine.specs.Kernel.{is_live}
use Rattle.plain_machine.specs.Tests.{full_arrive}
use Rattle.sys_abi.specs.Lives.{lives}
use Rattle.shared_items.specs.declared.shared.ProcessEntry.{ProcessEntry}
use Rattle.trace_log.specs.Requests.{CanBeHeld}
use Rattle.staged_cut.specs.OfGuestProc.Guests.{GuestPart}
use Rattle.image_process.specs.declared.process_image.ProcImage.{ProcImage}
use Rattle.image_process.specs.ProcessImages.{SpellsProcess, pid_at, tids_at}
use Rattle.image_process.specs.UserParts.{user_of}
use Rattle.shared_items.specs.declared.shared.Shared.{Shared}
use Rattle.shared_items.specs.SharedFormat.{SpellsShared}
use Rattle.image_codec.specs.KernelImages.{IsImage, KernelHasImage, process_image, shared_of}
use Rattle.image_codec.specs.Sets.{SpellsFiles, SpellsImages, live_count, user_entry}
use Rattle.image_codec.specs.LiveImages.{HavePlaces, PartsHavePlaces}
use Rattle.staged_cut.specs.HandedOn.{Start, state_of, CanBegin}
use Rattle.checkpointer.specs.Images.{AreFilesOf}
use Rattle.checkpointer.specs.Sets.{SpellsState}
use Rattle.checkpointer.proofs.Supported.{has_arrived, is_supported}

abbrev part_entry : VPid × GuestPart → VPid × UserPart
part_entry e = (e.0, e.1.user)

module _ (s : Shared) where
  -- each part has its file, from this one on
  abbrev AreAt : ℕ → List (VPid × UserPart) → Type 0
  AreAt file [] = Unit {0}
  AreAt file (e ∷ es) = (pid_at s file ≡ Some e.0.0) × (tids_at s file ≡ map.keys e.1.threads) × AreAt (file + 1) es

  are_at : (file : ℕ) (es : List (VPid × UserPart)) → ((i : ℕ) (p : VPid) (user : UserPart) → slice_get es i ≡ Some (p, user) → pid_at s (file + i) ≡ Some p.0)
      → ((i : ℕ) (p : VPid) (user : UserPart) → slice_get es i ≡ Some (p, user) → tids_at s (file + i) ≡ map.keys user.threads) → AreAt file es
  are_at file [] pids tids = tt
  are_at file (e ∷ es) pids tids = (
    subst (λ n. pid_at s n ≡ Some e.0.0) (here file) (pids 0 e.0 e.1 refl),
    subst (λ n. tids_at s n ≡ map.keys e.1.threads) (here file) (tids 0 e.0 e.1 refl),
    are_at (file + 1) es (λ i p user at. subst (λ n. pid_at s n ≡ Some p.0) (later file i) (pids (suc i) p user at))
        (λ i p user at. subst (λ n. tids_at s n ≡ map.keys user.threads) (later file i) (tids (suc i) p user at)),
  )
    where
      here : (n : ℕ) → n + 0 ≡ n
      here n = omega arith

      later : (n i : ℕ) → n + suc i ≡ n + 1 + i
      later n i = omega arith

  record SpelledFrom (file : ℕ) (es : List (VPid × GuestPart)) (texts : List (List ℕ)) : Type 0 where
    images : List ProcImage
    spelled : SpellsImages s file texts images
    entries : each user_entry images ≡ each part_entry es
    count : length texts ≡ length es

  spelled_from : (file : ℕ) (es : List (VPid × GuestPart)) (texts : List (List ℕ)) → AreAt file (each part_entry es) → EachEntry (λ p guest. guest.pid ≡ p) es → AreFilesOf es texts → SpelledFrom file es texts
  unfolding SpellsImages AreFilesOf
  spelled_from file [] [] at numbered files = record { images = []; spelled = tt; entries = refl; count = refl }
  spelled_from file [] (text ∷ texts) at numbered files = absurd files
  spelled_from file (e ∷ es) [] at numbered files = absurd files
  spelled_from file (e ∷ es) (text ∷ texts) at numbered files =
      let own = files.0 in
      let rest = spelled_from (file + 1) es texts at.2 numbered.1 files.1 in
      let pid : Some e.1.pid.0 ≡ pid_at s file = ap (λ (p : VPid). Some p.0) numbered.0 ∙ sym at.0 in
      record {
        images = own.image ∷ rest.images;
        spelled = (subst (λ (ts : List ℕ). SpellsProcess (pid_at s file) ts text own.image) (sym at.1) (subst (λ (n : Option ℕ). SpellsProcess n (map.keys e.1.user.threads) text own.image) pid own.spelled), rest.spelled);
        entries = ap (λ (p : VPid). (p, user_of own.image) ∷ each user_entry rest.images) (own.pid ∙ numbered.0)
            ∙ ap (λ (u : UserPart). (e.0, u) ∷ each user_entry rest.images) own.user
            ∙ ap (λ (more : List (VPid × UserPart)). (e.0, e.1.user) ∷ more) rest.entries;
        count = ap suc rest.count;
      }

own_entries : (m : map.FinMap vpid_cmp UserPart) → map.from_entries (map.entries m) ≡ m
own_entries m = map.same_map vpid_total vpid_exact (map.from_entries (map.entries m)) m (λ q. map.get-from_entries vpid_total (map.entries m) q ∙ sym (map.get-entries m q))

pub imaged : (c : Start) → CanBegin c → CanBeHeld (state_of c) → full_arrive (state_of c) ≡ state_of c → KernelHasImage → IsImage (shared_of c.kernel) c.kernel
imaged c ready held arrived has_image = has_image c.kernel ready.valid.kernel (is_supported (state_of c) ready.valid.kernel held.supported) (has_arrived (state_of c) arrived)

module _ (c : Start) (ready : CanBegin c) (held : CanBeHeld (state_of c)) (arrived : full_arrive (state_of c) ≡ state_of c) (has_image : KernelHasImage) (have_places : PartsHavePlaces) where
  abbrev s : Shared
  s = shared_of c.kernel

  own : IsImage s c.kernel
  own = imaged c ready held arrived has_image

  places : HavePlaces s (state_of c).users
  places = have_places s (state_of c).users own.spelled (record {
    alive = λ p. ready.valid.alive p ∙ ap (λ (k : PlainKernel). is_live k p) (sym own.kernel);
    threads = λ p process user known. ready.valid.threads p process user (ap (λ (k : PlainKernel). map.get k.processes p) (sym own.kernel) ∙ known);
  })

  entries_are : map.entries (state_of c).users ≡ each part_entry (map.entries c.guests)
  entries_are = entries-map_values (λ guest. guest.user) c.guests

  numbered : EachEntry (λ p guest. guest.pid ≡ p) (map.entries c.guests)
  numbered = each_entry vpid_total vpid_exact (λ p guest. guest.pid ≡ p) c.guests ready.numbered

  all_at : AreAt s 2 (each part_entry (map.entries c.guests))
  all_at = subst (AreAt s 2) entries_are (are_at s 2 (map.entries (state_of c).users)
      (λ i p user at. subst (λ n. pid_at s n ≡ Some p.0) (turned i) (places.pids i p user at)) (λ i p user at. subst (λ n. tids_at s n ≡ map.keys user.threads) (turned i) (places.tids i p user at)))
    where
      turned : (i : ℕ) → i + 2 ≡ 2 + i
      turned i = omega arith

  pub set_spelled : (first : List ℕ) (texts : List (List ℕ)) → SpellsShared first s → AreFilesOf (map.entries c.guests) texts → SpellsState (first ∷ texts) (state_of c)
  unfolding SpellsFiles
  set_spelled first texts shared files =
      let all = spelled_from s 2 (map.entries c.guests) texts all_at numbered files in
      record {
        shared = s;
        processes = all.images;
        spelled = (shared, all.count ∙ sym (ap length entries_are ∙ length-map (map.entries c.guests) part_entry) ∙ sym (map.len-entries (state_of c).users) ∙ places.count, all.spelled);
        stands = record { kernel = sym own.kernel; users = sym (own_entries (state_of c).users) ∙ ap map.from_entries (entries_are ∙ sym all.entries) };
      }

  pub few_files : length (map.entries c.guests) ≤ 128
  unfolding live_count shared_of
  few_files =
      let count = places.count in
      let live = count_by-le-length (λ (process : ProcessEntry). lives process.life) s.processes in
      let all : length s.processes ≡ map.len c.kernel.processes = length-map (map.entries c.kernel.processes) (process_image c.kernel) ∙ sym (map.len-entries c.kernel.processes) in
      let most = ready.valid.kernel.processes.count in
      let size = map.len-entries (state_of c).users in
      let own : length (map.entries (state_of c).users) ≡ length (map.entries c.guests) = ap length entries_are ∙ length-map (map.entries c.guests) part_entry in
      omega arith
