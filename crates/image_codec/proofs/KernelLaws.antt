-- The kernel part of a shared image has that image, and no other.
--     shared_of-kernel_of      of an image that can be spelled
--     only_image      so an image of a kernel part is what is made of its entries
--     kernel_made     the kernel part of an image, map by map
use Rattle.std.proofs.Common.{◌≡◌, ℕ, Less, true, false, cond, ◌==◌, List, [], ◌∷◌, ◌++◌, filter, map as mapped, refl, sym, ap, subst, ◌∙◌, append-nil, arith}
use Rattle.std.specs.Prelude.{Some, None}
use Rattle.std.specs.List.{AllByRecursion, flat_map, filter_map}
use Rattle.std.specs.List.Sorted.{IsStrictlySortedBy}
use Rattle.std.specs.Ordering.{nat_cmp, is_eq, ordering_then}
use Rattle.std.specs.Cmp.{nat_cmp_total, tied_itself}
use Rattle.std.specs.Map.{keys_of}
use Rattle.std.specs.FinMap as map
use Rattle.std.proofs.lemmas.Bool.Decides.{nat_tests}
use Rattle.std.proofs.lemmas.List.Elements.{filter-append}
use Rattle.views.proofs.TreeMaps.{entries-from_entries}
use Rattle.sys_abi.specs.declared.identity.VPid.{VPid}
use Rattle.sys_abi.specs.declared.identity.Slot.{Slot}
use Rattle.sys_abi.specs.Orders.{vpid_cmp, slot_cmp}
use Rattle.sys_abi.proofs.OrderLaws.{vpid_total, slot_total}
use Rattle.plain_machine.specs.declared.kernel.PlainKernel.{PlainKernel}
use Rattle.shared_items.specs.declared.shared.ChannelImage.{ChannelImage}
use Rattle.shared_items.specs.declared.shared.DescriptionImage.{DescriptionImage}
use Rattle.shared_items.specs.declared.shared.ThreadEntry.{ThreadEntry}
use Rattle.shared_items.specs.declared.shared.DescriptorEntry.{DescriptorEntry}
use Rattle.shared_items.specs.declared.shared.ProcessEntry.{ProcessEntry}
use Rattle.shared_items.specs.declared.shared.Shared.{Shared}
use Rattle.image_format.specs.Texts.{EachFrom}
use Rattle.shared_items.specs.SharedFits.{SharedFits, ProcessFits, ThreadFits}
use Rattle.image_codec.specs.KernelParts.{kernel_of, process_entry, maker_entry, descriptor_entries, descriptor_entry, description_entry, signals_entry, listening_of, name_entry, file_entry, channel_entry, direction_entries}
use Rattle.image_codec.specs.KernelImages.{shared_of, IsImage, names_by_number, file_image, channel_image, description_image, thread_image, descriptor_image, process_image, is_of, maker_or}
use Rattle.image_codec.proofs.OrderedItems.{in_order, numbers_rise, conns_rise, ids_rise, pids_rise, tids_rise, fds_rise}
use Rattle.image_codec.proofs.ListsBack.{files_back, channels_back, descriptions_back}
use Rattle.image_format.proofs.Rising.{sorted_rising, sorted_append, entries_made, undone, all_from}

pub thread_entries : (next_id : ℕ) (earlier : List ProcessEntry) (threads : List ThreadEntry) → EachFrom (ThreadFits next_id earlier) [] threads
    → map.entries (map.from_entries {R = nat_cmp} (mapped signals_entry threads)) ≡ mapped signals_entry threads
thread_entries next_id earlier threads h = entries_made nat_cmp_total signals_entry threads (tids_rise next_id earlier threads h)

threads_back : (next_id : ℕ) (earlier : List ProcessEntry) (threads : List ThreadEntry) → EachFrom (ThreadFits next_id earlier) [] threads
    → mapped thread_image (map.entries (map.from_entries {R = nat_cmp} (mapped signals_entry threads))) ≡ threads
threads_back next_id earlier threads h =
    ap (mapped thread_image) (thread_entries next_id earlier threads h)
    ∙ undone signals_entry thread_image threads (all_from (ThreadFits next_id earlier) _ (λ front t fits. refl) [] threads h)

-- descriptors, all in one list
abbrev slots_of : VPid → List DescriptorEntry → List Slot
slots_of p descriptors = mapped (λ (d : DescriptorEntry). record { pid = p; fd = d.number }) descriptors

same_pid : (a b c : ℕ) → nat_cmp b c ≡ Less → ordering_then (nat_cmp a a) (nat_cmp b c) ≡ Less
same_pid a b c h = grind (arith, nat_tests)

other_pid : (a b c d : ℕ) → nat_cmp a c ≡ Less → ordering_then (nat_cmp a c) (nat_cmp b d) ≡ Less
other_pid a b c d h = rw h refl

slots_sorted : (p : VPid) (numbers : List DescriptorEntry) → IsStrictlySortedBy nat_cmp (mapped (λ (d : DescriptorEntry). d.number) numbers) → IsStrictlySortedBy slot_cmp (slots_of p numbers)
unfolding IsStrictlySortedBy
slots_sorted p [] h = tt
slots_sorted p (d ∷ numbers) h = (above numbers h.0, slots_sorted p numbers h.1)
  where
    above : (rest : List DescriptorEntry) → AllByRecursion (λ n. nat_cmp d.number n ≡ Less) (mapped (λ (d : DescriptorEntry). d.number) rest)
        → AllByRecursion (λ s. slot_cmp (record { pid = p; fd = d.number }) s ≡ Less) (slots_of p rest)
    above [] h = tt
    above (q ∷ rest) h = (same_pid p.0 d.number q.number h.0, above rest h.1)

-- the slots of processes, one after the other
abbrev all_slots : List ProcessEntry → List Slot
all_slots processes = flat_map (λ (e : ProcessEntry). slots_of e.pid e.descriptors) processes

abbrev pids : List ProcessEntry → List VPid
pids processes = mapped (λ (e : ProcessEntry). e.pid) processes

all_of_append : {X : Type 0} (P : X → Type 0) (xs ys : List X) → AllByRecursion P xs → AllByRecursion P ys → AllByRecursion P (xs ++ ys)
all_of_append P [] ys h g = g
all_of_append P (x ∷ xs) ys h g = (h.0, all_of_append P xs ys h.1 g)

slots_above : (s : Slot) (q : VPid) (descriptors : List DescriptorEntry) → vpid_cmp s.pid q ≡ Less → AllByRecursion (λ t. slot_cmp s t ≡ Less) (slots_of q descriptors)
slots_above s q [] h = tt
slots_above s q (d ∷ descriptors) h = (other_pid s.pid.0 s.fd q.0 d.number h, slots_above s q descriptors h)

all_slots_above : (s : Slot) (processes : List ProcessEntry) → AllByRecursion (λ q. vpid_cmp s.pid q ≡ Less) (pids processes) → AllByRecursion (λ t. slot_cmp s t ≡ Less) (all_slots processes)
all_slots_above s [] h = tt
all_slots_above s (e ∷ processes) h = all_of_append (λ t. slot_cmp s t ≡ Less) (slots_of e.pid e.descriptors) (all_slots processes) (slots_above s e.pid e.descriptors h.0) (all_slots_above s processes h.1)

each_slot_above : (p : VPid) (descriptors : List DescriptorEntry) (processes : List ProcessEntry) → AllByRecursion (λ q. vpid_cmp p q ≡ Less) (pids processes)
    → AllByRecursion (λ s. AllByRecursion (λ t. slot_cmp s t ≡ Less) (all_slots processes)) (slots_of p descriptors)
each_slot_above p [] processes h = tt
each_slot_above p (d ∷ descriptors) processes h = (all_slots_above (record { pid = p; fd = d.number }) processes h, each_slot_above p descriptors processes h)

-- what an item of the list keeps of its own, whatever stands before it
abbrev KeepsOwn : ProcessEntry → Type 0
KeepsOwn process = IsStrictlySortedBy nat_cmp (mapped (λ (d : DescriptorEntry). d.number) process.descriptors)

all_slots_sorted : (processes : List ProcessEntry) → IsStrictlySortedBy vpid_cmp (pids processes) → AllByRecursion KeepsOwn processes → IsStrictlySortedBy slot_cmp (all_slots processes)
unfolding IsStrictlySortedBy
all_slots_sorted [] h own = tt
all_slots_sorted (e ∷ processes) h own =
    sorted_append slot_cmp (slots_of e.pid e.descriptors) (all_slots processes) (slots_sorted e.pid e.descriptors own.0) (all_slots_sorted processes h.1 own.1) (each_slot_above e.pid e.descriptors processes h.0)

keys-append : {K V : Type 0} (es fs : List (K × V)) → keys_of (es ++ fs) ≡ keys_of es ++ keys_of fs
keys-append [] fs = refl
keys-append (e ∷ es) fs = ap (λ ks. e.0 ∷ ks) (keys-append es fs)

keys-slots : (p : VPid) (descriptors : List DescriptorEntry) → keys_of (mapped (descriptor_entry p) descriptors) ≡ slots_of p descriptors
keys-slots p [] = refl
keys-slots p (d ∷ descriptors) = ap (λ (ks : List Slot). record { pid = p; fd = d.number } ∷ ks) (keys-slots p descriptors)

keys-all_slots : (processes : List ProcessEntry) → keys_of (flat_map descriptor_entries processes) ≡ all_slots processes
keys-all_slots [] = refl
keys-all_slots (e ∷ processes) =
    keys-append (descriptor_entries e) (flat_map descriptor_entries processes) ∙ (λ i. keys-slots e.pid e.descriptors i ++ keys-all_slots processes i)

descriptors_entries : (processes : List ProcessEntry) → IsStrictlySortedBy vpid_cmp (pids processes) → AllByRecursion KeepsOwn processes
    → map.entries (map.from_entries {R = slot_cmp} (flat_map descriptor_entries processes)) ≡ flat_map descriptor_entries processes
descriptors_entries processes h own =
    entries-from_entries slot_total _ (subst (IsStrictlySortedBy slot_cmp) (sym (keys-all_slots processes)) (all_slots_sorted processes h own))

-- the descriptors of one process among those of all
own_slots : (p : VPid) (descriptors : List DescriptorEntry) → filter (is_of p) (mapped (descriptor_entry p) descriptors) ≡ mapped (descriptor_entry p) descriptors
own_slots p [] = refl
own_slots p (d ∷ descriptors) = rw (same_number p.0) (ap (λ es. descriptor_entry p d ∷ es) (own_slots p descriptors))
  where
    same_number : (n : ℕ) → (n == n) ≡ true
    same_number n = grind (arith, nat_tests)

no_slots : (p q : VPid) (descriptors : List DescriptorEntry) → (q.0 == p.0) ≡ false → filter (is_of p) (mapped (descriptor_entry q) descriptors) ≡ []
no_slots p q [] h = refl
no_slots p q (d ∷ descriptors) h = rw h (no_slots p q descriptors h)

none_of : (p : VPid) (processes : List ProcessEntry) → AllByRecursion (λ q. vpid_cmp p q ≡ Less) (pids processes) → filter (is_of p) (flat_map descriptor_entries processes) ≡ []
none_of p [] h = refl
none_of p (e ∷ processes) h =
    filter-append (is_of p) (descriptor_entries e) (flat_map descriptor_entries processes)
    ∙ (λ i. no_slots p e.pid e.descriptors (greater p.0 e.pid.0 h.0) i ++ none_of p processes h.1 i)
  where
    greater : (a b : ℕ) → nat_cmp a b ≡ Less → (b == a) ≡ false
    greater a b h = grind (arith, nat_tests)

-- what is found of a process among all: its place as a maker, and its descriptors
record IsFound (processes : List ProcessEntry) (process : ProcessEntry) : Type 0 where
  maker : map.find vpid_cmp process.pid (mapped maker_entry processes) ≡ Some (record { host = process.host; made = process.made })
  descriptors : filter (is_of process.pid) (flat_map descriptor_entries processes) ≡ descriptor_entries process

found_first : (e : ProcessEntry) (processes : List ProcessEntry) → AllByRecursion (λ q. vpid_cmp e.pid q ≡ Less) (pids processes) → IsFound (e ∷ processes) e
found_first e processes h = record {
  maker = ap (λ r. cond (is_eq r) (Some (record { host = e.host; made = e.made })) (map.find vpid_cmp e.pid (mapped maker_entry processes))) (tied_itself vpid_total e.pid);
  descriptors =
      filter-append (is_of e.pid) (descriptor_entries e) (flat_map descriptor_entries processes)
      ∙ (λ i. own_slots e.pid e.descriptors i ++ none_of e.pid processes h i)
      ∙ append-nil (descriptor_entries e);
}

apart_numbers : (a b : ℕ) → nat_cmp a b ≡ Less → (is_eq (nat_cmp b a) ≡ false) × ((a == b) ≡ false)
apart_numbers a b h = (grind (arith, nat_tests), grind (arith, nat_tests))

found_later : (x e : ProcessEntry) (processes : List ProcessEntry) → vpid_cmp x.pid e.pid ≡ Less → IsFound processes e → IsFound (x ∷ processes) e
found_later x e processes h found =
    let (other, differs) = apart_numbers x.pid.0 e.pid.0 h in
    record {
      maker = ap (λ b. cond b (Some (record { host = x.host; made = x.made })) (map.find vpid_cmp e.pid (mapped maker_entry processes))) other ∙ found.maker;
      descriptors =
          filter-append (is_of e.pid) (descriptor_entries x) (flat_map descriptor_entries processes)
          ∙ (λ i. no_slots e.pid x.pid x.descriptors differs i ++ found.descriptors i);
    }

all_found : (processes : List ProcessEntry) → IsStrictlySortedBy vpid_cmp (pids processes) → AllByRecursion (IsFound processes) processes
unfolding IsStrictlySortedBy
all_found [] h = tt
all_found (x ∷ processes) h = (found_first x processes h.0, later processes h.0 (all_found processes h.1))
  where
    later : (items : List ProcessEntry) → AllByRecursion (λ q. vpid_cmp x.pid q ≡ Less) (pids items) → AllByRecursion (IsFound processes) items → AllByRecursion (IsFound (x ∷ processes)) items
    later [] h g = tt
    later (e ∷ items) h g = (found_later x e processes h.0 g.0, later items h.1 g.1)

pub pids_sorted : (s : Shared) → SharedFits s → IsStrictlySortedBy vpid_cmp (mapped (λ (e : ProcessEntry). e.pid) s.processes)
pids_sorted s h = sorted_rising vpid_cmp vpid_total None (pids s.processes) (pids_rise s.next_id s.channels s.descriptions s.processes h.processes)

keeps_own : (next_id : ℕ) (channels : List ChannelImage) (descriptions : List DescriptionImage) (front : List ProcessEntry) (process : ProcessEntry) → ProcessFits next_id channels descriptions front process → KeepsOwn process
keeps_own next_id channels descriptions front process h =
    sorted_rising nat_cmp nat_cmp_total None _ (fds_rise descriptions process.descriptors h.descriptors)

descriptors_undone : (p : VPid) (descriptors : List DescriptorEntry) → mapped descriptor_image (mapped (descriptor_entry p) descriptors) ≡ descriptors
descriptors_undone p [] = refl
descriptors_undone p (d ∷ descriptors) = ap (λ (ds : List DescriptorEntry). d ∷ ds) (descriptors_undone p descriptors)

-- a process of the kernel part has the image that it was made of
process_back : (k : PlainKernel) (processes : List ProcessEntry) (process : ProcessEntry)
    → k.makers ≡ map.from_entries (mapped maker_entry processes) → map.entries k.descriptors ≡ flat_map descriptor_entries processes
    → mapped thread_image (map.entries (map.from_entries {R = nat_cmp} (mapped signals_entry process.threads))) ≡ process.threads
    → IsFound processes process → process_image k (process_entry process) ≡ process
process_back k processes process makers slots threads found =
    let maker : map.get k.makers process.pid ≡ Some (record { host = process.host; made = process.made }) =
    ap (λ m. map.get m process.pid) makers ∙ map.get-from_entries vpid_total (mapped maker_entry processes) process.pid ∙ found.maker in
    let own : mapped descriptor_image (filter (is_of process.pid) (map.entries k.descriptors)) ≡ process.descriptors =
    ap (λ es. mapped descriptor_image (filter (is_of process.pid) es)) slots ∙ ap (mapped descriptor_image) found.descriptors ∙ descriptors_undone process.pid process.descriptors in
    λ i. record process { host = (maker_or (maker i)).host; made = (maker_or (maker i)).made; threads = threads i; descriptors = own i }

abbrev HasThreads : ProcessEntry → Type 0
HasThreads e = mapped thread_image (map.entries (map.from_entries {R = nat_cmp} (mapped signals_entry e.threads))) ≡ e.threads

both_all : {X : Type 0} (P Q S : X → Type 0) → ((x : X) → P x → Q x → S x) → (items : List X) → AllByRecursion P items → AllByRecursion Q items → AllByRecursion S items
both_all P Q S to [] h g = tt
both_all P Q S to (x ∷ items) h g = (to x h.0 g.0, both_all P Q S to items h.1 g.1)

processes_back : (next_id : ℕ) (channels : List ChannelImage) (descriptions : List DescriptionImage) (k : PlainKernel) (processes : List ProcessEntry)
    → EachFrom (ProcessFits next_id channels descriptions) [] processes
    → k.processes ≡ map.from_entries (mapped process_entry processes) → k.makers ≡ map.from_entries (mapped maker_entry processes) → k.descriptors ≡ map.from_entries (flat_map descriptor_entries processes)
    → mapped (process_image k) (map.entries k.processes) ≡ processes
processes_back next_id channels descriptions k processes h of_processes makers of_descriptors =
    let rising = pids_rise next_id channels descriptions processes h in
    let sorted = sorted_rising vpid_cmp vpid_total None (pids processes) rising in
    let slots : map.entries k.descriptors ≡ flat_map descriptor_entries processes =
    ap map.entries of_descriptors ∙ descriptors_entries processes sorted (all_from (ProcessFits next_id channels descriptions) KeepsOwn (keeps_own next_id channels descriptions) [] processes h) in
    let threads = all_from (ProcessFits next_id channels descriptions) HasThreads (λ front e fits. threads_back next_id front e.threads fits.threads) [] processes h in
    ap (λ m. mapped (process_image k) (map.entries m)) of_processes
    ∙ ap (mapped (process_image k)) (entries_made vpid_total process_entry processes rising)
    ∙ undone process_entry (process_image k) processes
    (both_all HasThreads (IsFound processes) (λ e. process_image k (process_entry e) ≡ e) (λ e own found. process_back k processes e makers slots own found) processes threads (all_found processes sorted))

pub shared_of-kernel_of : (s : Shared) → SharedFits s → shared_of (kernel_of s) ≡ s
unfolding shared_of kernel_of
shared_of-kernel_of s h =
    let order = in_order s h in
    let files = files_back s order (numbers_rise s.next_file s.files h.files) in
    let channels = channels_back s order (conns_rise s.next_id s.channels h.channels) in
    let descriptions = descriptions_back s order (ids_rise s h) in
    let processes = processes_back s.next_id s.channels s.descriptions (kernel_of s) s.processes h.processes refl refl refl in
    λ i. record s { files = files i; channels = channels i; descriptions = descriptions i; processes = processes i }

pub only_image : (s : Shared) (k : PlainKernel) → IsImage s k → shared_of k ≡ s
only_image s k h = ap shared_of (sym h.kernel) ∙ shared_of-kernel_of s h.spelled.fields

pub image_made : (k : PlainKernel) (made : Shared) → made.next_id ≡ k.next_id → made.next_file ≡ k.next_file
    → made.files ≡ mapped (file_image (names_by_number k.names)) (map.entries k.files) → made.channels ≡ mapped (channel_image k.directions) (map.entries k.channels)
    → made.descriptions ≡ mapped (description_image k.listeners) (map.entries k.descriptions) → made.processes ≡ mapped (process_image k) (map.entries k.processes) → made ≡ shared_of k
unfolding shared_of
image_made k made next_id next_file files channels descriptions processes =
    λ i. record { next_id = next_id i; next_file = next_file i; files = files i; channels = channels i; descriptions = descriptions i; processes = processes i }

-- a kernel part whose maps are made of the image's lists
pub kernel_made : (s : Shared) (k : PlainKernel)
    → k.processes ≡ map.from_entries (mapped process_entry s.processes) → k.makers ≡ map.from_entries (mapped maker_entry s.processes)
    → k.descriptors ≡ map.from_entries (flat_map descriptor_entries s.processes) → k.descriptions ≡ map.from_entries (mapped description_entry s.descriptions)
    → k.names ≡ map.from_entries (filter_map name_entry s.files) → k.files ≡ map.from_entries (mapped file_entry s.files) → k.next_file ≡ s.next_file
    → k.channels ≡ map.from_entries (mapped (channel_entry s.descriptions) s.channels) → k.directions ≡ map.from_entries (flat_map direction_entries s.channels)
    → k.listeners ≡ map.from_entries (filter_map (λ (d : DescriptionImage). listening_of d.object) s.descriptions) → k.inboxes ≡ map.empty → k.next_id ≡ s.next_id
    → k ≡ kernel_of s
unfolding kernel_of
kernel_made s k processes makers descriptors descriptions names files next_file channels directions listeners inboxes next_id =
    λ i. record {
      processes = processes i;
      makers = makers i;
      descriptors = descriptors i;
      descriptions = descriptions i;
      names = names i;
      files = files i;
      next_file = next_file i;
      channels = channels i;
      directions = directions i;
      listeners = listeners i;
      inboxes = inboxes i;
      next_id = next_id i;
    }
