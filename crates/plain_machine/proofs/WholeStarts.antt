-- A start is whole.
--     whole_file, whole_process      a named file more, a process more with the console on 0, 1 and 2      start_is_whole
use Rattle.std.proofs.Common.{◌≡◌, ◌≢◌, ℕ, ◌+◌, ◌^◌, ◌<◌, ◌≤◌, Bool, true, false, List, [], ◌∷◌, length, refl, sym, ap, subst, ◌∙◌, inl, arith}
use Rattle.std.specs.Prelude.{◌&&◌, nat_lt, zero, suc, sum_by, Option, Some, None, is_some, All, AllPairs}
use Rattle.std.specs.Ordering.{nat_cmp}
use Rattle.std.specs.Cmp.{nat_cmp_total}
use Rattle.std.specs.FinMap as map
use Rattle.std.proofs.lemmas.List.Sums.{sum_by-cons}
use Rattle.std.proofs.lemmas.List.Elements.{All-head, All-tail}
use Rattle.plain_tables.proofs.OfViews.MapLaws.{get_insert_same, get_insert_other, same_key, true_false}
use Rattle.plain_tables.proofs.OfViews.MapValues.{none_among-values}
use Rattle.plain_tables.specs.OfSysAbi.declared.identity.VPid.{VPid}
use Rattle.plain_tables.specs.OfSysAbi.declared.identity.Slot.{Slot}
use Rattle.plain_tables.specs.OfSysAbi.declared.identity.DescId.{DescId}
use Rattle.plain_tables.specs.OfSysAbi.declared.flags.TheConstants.{O_RDWR}
use Rattle.plain_tables.specs.OfSysAbi.Orders.{vpid_cmp, desc_cmp, conn_cmp, dir_cmp, address_cmp}
use Rattle.plain_tables.specs.OfSysAbi.Names.{name_cmp}
use Rattle.plain_tables.proofs.OfSysAbi.OrderLaws.{vpid_total, vpid_exact, slot_total, slot_exact, desc_total, desc_exact, conn_total, conn_exact, dir_total, dir_exact, address_total, address_exact, name_total, name_exact}
use Rattle.plain_tables.specs.OfPlainProcess.Start.{Launched}
use Rattle.plain_tables.specs.OfPlainProcess.Launches.{IsLaunched}
use Rattle.plain_tables.specs.OfPlainProcess.Valid.{IsByte}
use Rattle.plain_machine.specs.declared.kernel.PlainKernel.{PlainKernel}
use Rattle.plain_tables.specs.declared.process.Process.{Process}
use Rattle.plain_tables.specs.OfSysAbi.declared.maker.Maker.{Maker}
use Rattle.plain_tables.specs.OfSysAbi.declared.descriptor.Descriptor.{Descriptor}
use Rattle.plain_tables.specs.declared.description.Description.{Description}
use Rattle.plain_tables.specs.declared.description.Object.{Object}
use Rattle.plain_tables.specs.declared.description.Object.TheVariants.{Console, Datagram}
use Rattle.plain_tables.specs.declared.channel.Channel.{Channel}
use Rattle.plain_tables.specs.Tables.{FIRST_PID, NOBODY, pid, slot, is_live_process, has_thread_in}
use Rattle.plain_tables.specs.Ends.{child_process}
use Rattle.plain_tables.specs.Objects.{is_end, is_listener_at, knows}
use Rattle.plain_tables.specs.Valid.Files.{IsName}
use Rattle.plain_tables.specs.Valid.Descriptions.{HasMadePeer}
use Rattle.plain_tables.specs.Valid.Datagrams.{is_datagram_in}
use Rattle.plain_machine.specs.Kernel.{is_live, with_descriptor, placed}
use Rattle.plain_machine.specs.Start.{NamedFile, console_of, console_description, console_descriptor, with_process, with_processes, with_file, with_files, empty_kernel, start_kernel}
use Rattle.plain_machine.specs.Kernels.{IsKernel, AreNamed}
use Rattle.plain_machine.specs.KernelLaws.{IsAlone, MayBePlaced, StartIsKernel}
use Rattle.plain_tables.proofs.Entries.{len_with, no_entry}
use Rattle.plain_tables.proofs.FileSums.{sum_with, sum_none}
use Rattle.plain_tables.proofs.NamedFiles.{named_files, named_open_files}
use Rattle.plain_tables.proofs.AddedProcesses.{live_below}
use Rattle.plain_machine.proofs.WholePlaced.{whole_again, whole_placed, whole_added}

pub whole_file : (k : PlainKernel) (file : NamedFile) → IsKernel k → IsName file.name → All IsByte file.bytes → map.get k.names file.name ≡ None → map.len k.files < 1024
    → sum_by length (map.values k.files) + length file.bytes ≤ 67108864 → k.next_file + 1 < 2 ^ 32 → IsKernel (with_file k file)
unfolding with_file
whole_file k file is named bytes free few fits last = record {
  numbers = record { first_id = is.numbers.first_id; last_id = is.numbers.last_id; first_file = omega arith; last_file = last };
  processes = is.processes;
  makers = is.makers;
  parents = is.parents;
  files = named_files k.next_file k.names k.files file.name file.bytes free named bytes few fits is.numbers.first_file is.files;
  open_files = named_open_files k.next_file k.names k.files file.name file.bytes free k.descriptions is.open_files;
  descriptors = is.descriptors;
  descriptions = is.descriptions;
  holders = is.holders;
  made = is.made;
  channels = is.channels;
  streams = is.streams;
  listeners = is.listeners;
  addresses = is.addresses;
  hosts = is.hosts;
  inboxes = is.inboxes;
  counters = is.counters;
}

abbrev bytes_in : PlainKernel → ℕ
bytes_in k = sum_by length (map.values k.files)

abbrev bytes_of : List NamedFile → ℕ
bytes_of files = sum_by (λ (file : NamedFile). length file.bytes) files

file_names : (k : PlainKernel) (file : NamedFile) (rest : List NamedFile) → All (λ f. map.get k.names f.name ≡ None) (file ∷ rest) → AllPairs (λ f later. f.name ≢ later.name) (file ∷ rest)
    → All (λ f. map.get (with_file k file).names f.name ≡ None) rest
unfolding with_file
file_names k file rest free apart i d below =
    get_insert_other name_total name_exact k.names file.name k.next_file _ (λ same. apart zero (suc i) d (omega arith) (omega arith) (sym same))
    ∙ All-tail (λ f. map.get k.names f.name ≡ None) file rest free i d below

file_count : (k : PlainKernel) (file : NamedFile) → map.len (with_file k file).files ≤ map.len k.files + 1
unfolding with_file
file_count k file = len_with nat_cmp_total k.files k.next_file file.bytes

file_bytes : (k : PlainKernel) (file : NamedFile) → bytes_in (with_file k file) ≤ bytes_in k + length file.bytes
unfolding with_file
file_bytes k file = sum_with k.files k.next_file file.bytes

file_next : (k : PlainKernel) (file : NamedFile) → ((with_file k file).next_file ≡ k.next_file + 1) × ((with_file k file).next_id ≡ k.next_id) × ((with_file k file).processes ≡ k.processes)
unfolding with_file
file_next k file = (refl, refl, refl)

pairs_tail : (file : NamedFile) (rest : List NamedFile) → AllPairs (λ f later. f.name ≢ later.name) (file ∷ rest) → AllPairs (λ f later. f.name ≢ later.name) rest
pairs_tail file rest pairs = λ i j d before below. pairs (suc i) (suc j) d (omega arith) (omega arith)

whole_files : (files : List NamedFile) (k : PlainKernel) → IsKernel k → All (λ f. IsName f.name) files → All (λ f. All IsByte f.bytes) files → All (λ f. map.get k.names f.name ≡ None) files
    → AllPairs (λ f later. f.name ≢ later.name) files → map.len k.files + length files ≤ 1024 → bytes_in k + bytes_of files ≤ 67108864 → k.next_file + length files < 2 ^ 32 → IsKernel (with_files k files)
unfolding with_files
whole_files [] k is named bytes free apart few fits last = is
whole_files (file ∷ rest) k is named bytes free apart few fits last =
    let sum = sum_by-cons (λ (f : NamedFile). length f.bytes) file rest in
    let count = file_count k file in
    let total = file_bytes k file in
    let next = (file_next k file).0 in
    whole_files rest (with_file k file)
    (whole_file k file is (All-head (λ f. IsName f.name) file rest named) (All-head (λ f. All IsByte f.bytes) file rest bytes) (All-head (λ f. map.get k.names f.name ≡ None) file rest free)
    (omega arith) (omega (arith, sum)) (omega arith))
    (All-tail (λ f. IsName f.name) file rest named) (All-tail (λ f. All IsByte f.bytes) file rest bytes) (file_names k file rest free apart) (pairs_tail file rest apart)
    (omega arith) (omega (arith, sum, total)) (omega (arith, next))

files_keep : (files : List NamedFile) (k : PlainKernel) → ((with_files k files).next_id ≡ k.next_id) × ((with_files k files).processes ≡ k.processes)
unfolding with_files
files_keep [] k = (refl, refl)
files_keep (file ∷ rest) k =
    let later = files_keep rest (with_file k file) in
    let here = file_next k file in
    (later.0 ∙ here.1, later.1 ∙ here.2)

-- processes
console_alone : IsAlone Console
console_alone = record { no_end = λ c s. refl; no_listener = λ a. refl; no_datagram = refl; knows_none = λ d. refl; unbound = refl }

module _ (k : PlainKernel) (host : ℕ) (is : IsKernel k) where
  no_slot : (fd : ℕ) → map.get k.descriptors (slot (pid k.next_id) fd) ≡ None
  no_slot fd = by_found (map.get k.descriptors (slot (pid k.next_id) fd)) refl
    where
      by_found : (found : Option Descriptor) → map.get k.descriptors (slot (pid k.next_id) fd) ≡ found → map.get k.descriptors (slot (pid k.next_id) fd) ≡ None
      by_found None none = none
      by_found (Some x) there = let low = live_below k.next_id k.processes is.processes 0 (pid k.next_id) (is.descriptors.alive (slot (pid k.next_id) fd) x there) in absurd (omega arith)

  no_description : map.get k.descriptions (console_of k.next_id) ≡ None
  no_description = by_found (map.get k.descriptions (console_of k.next_id)) refl
    where
      by_found : (found : Option Description) → map.get k.descriptions (console_of k.next_id) ≡ found → map.get k.descriptions (console_of k.next_id) ≡ None
      by_found None none = none
      by_found (Some x) there = let low = (is.made.opened (console_of k.next_id) x there).known in absurd (omega arith)

  no_peer : (e : DescId) (y : Description) → map.get k.descriptions e ≡ Some y → knows (console_of k.next_id) y.object ≡ false
  no_peer e y found = by_object y.object (is.made.peers e y found)
    where
      unknown : (peer : DescId) → peer.pid.0 < k.next_id → (b : Bool) → knows (console_of k.next_id) (Datagram peer) ≡ b → b ≡ false
      unknown peer low true same =
          let peer_is : console_of k.next_id ≡ peer = same_key desc_total desc_exact (console_of k.next_id) peer same in
          let number : k.next_id ≡ peer.pid.0 = ap (λ (d : DescId). d.pid.0) peer_is in
          absurd (omega arith)
      unknown peer low false other = refl

      by_object : (object : Object) → HasMadePeer k.next_id k.processes k.makers object → knows (console_of k.next_id) object ≡ false
      by_object (Datagram peer) made = unknown peer made.known (knows (console_of k.next_id) (Datagram peer)) refl
      by_object _ made = refl

  other_slot : (a b : ℕ) → a ≢ b → slot (pid k.next_id) a ≢ slot (pid k.next_id) b
  other_slot a b other same = other (ap (λ (s : Slot). s.fd) same)

  pub whole_process : map.len k.processes < 128 → host < 16 → k.next_id + 1 < 2 ^ 31 → IsKernel (with_process k k.next_id host)
  unfolding with_process is_live
  whole_process few low last =
      let new : Maker = record { host = host; made = 1 } in
      let k1 : PlainKernel = record k { processes = map.insert k.processes (pid k.next_id) (child_process NOBODY k.next_id); makers = map.insert k.makers (pid k.next_id) new; next_id = k.next_id + 1 } in
      let one = whole_added k NOBODY new is few last low (omega arith) (inl refl) in
      let first = console_descriptor k.next_id in
      let known = get_insert_same vpid_total vpid_exact k.makers (pid k.next_id) new in
      let alive = ap is_live_process (get_insert_same vpid_total vpid_exact k.processes (pid k.next_id) (child_process NOBODY k.next_id)) in
      let two = whole_placed k1 (pid k.next_id) 0 0 false Console O_RDWR new one alive (omega arith) (no_slot 0) known no_description (omega arith) no_peer
      (record { known = refl; mode = λ same. omega arith }) console_alone (record { opened = tt; addressed = tt; counts = tt; host = λ h none. cc }) in
      let k2 : PlainKernel = placed k1 (pid k.next_id) 0 (console_of k.next_id) false Console O_RDWR in
      let at_first = get_insert_same slot_total slot_exact k.descriptors (slot (pid k.next_id) 0) first in
      let three = whole_again k2 (pid k.next_id) 1 first two (omega arith)
      (get_insert_other slot_total slot_exact k.descriptors (slot (pid k.next_id) 0) first (slot (pid k.next_id) 1) (other_slot 1 0 (λ same. omega arith)) ∙ no_slot 1) 0 first at_first refl in
      let k3 : PlainKernel = with_descriptor k2 (pid k.next_id) 1 first in
      whole_again k3 (pid k.next_id) 2 first three (omega arith)
      (get_insert_other slot_total slot_exact (map.insert k.descriptors (slot (pid k.next_id) 0) first) (slot (pid k.next_id) 1) first (slot (pid k.next_id) 2) (other_slot 2 1 (λ same. omega arith))
      ∙ get_insert_other slot_total slot_exact k.descriptors (slot (pid k.next_id) 0) first (slot (pid k.next_id) 2) (other_slot 2 0 (λ same. omega arith)) ∙ no_slot 2)
      0 first
      (get_insert_other slot_total slot_exact (map.insert k.descriptors (slot (pid k.next_id) 0) first) (slot (pid k.next_id) 1) first (slot (pid k.next_id) 0) (other_slot 0 1 (λ same. omega arith)) ∙ at_first)
      refl

process_next : (k : PlainKernel) (p host : ℕ) → (with_process k p host).next_id ≡ p + 1
unfolding with_process
process_next k p host = refl

process_count : (k : PlainKernel) (p host : ℕ) → map.len (with_process k p host).processes ≤ map.len k.processes + 1
unfolding with_process
process_count k p host = len_with vpid_total k.processes (pid p) _

whole_processes : (jobs : List Launched) (k : PlainKernel) (p : ℕ) → k.next_id ≡ p → map.len k.processes + length jobs ≤ 128 → p + length jobs < 2 ^ 31 → All IsLaunched jobs → IsKernel k → IsKernel (with_processes k p jobs)
unfolding with_processes
whole_processes [] k p next fits last are is = is
whole_processes (launched ∷ rest) k p next fits last are is =
    let most = process_count k p launched.host in
    let one = whole_process k launched.host is (omega arith) (All-head IsLaunched launched rest are).host (omega arith) in
    whole_processes rest (with_process k p launched.host) (p + 1) (process_next k p launched.host) (omega arith) (omega arith) (All-tail IsLaunched launched rest are)
    (subst (λ n. IsKernel (with_process k n launched.host)) next one)

-- nothing is there
whole_empty : IsKernel empty_kernel
unfolding empty_kernel
whole_empty = record {
  numbers = record { first_id = omega arith; last_id = omega arith; first_file = omega arith; last_file = omega arith };
  processes = record {
    count = let none = map.len-empty vpid_cmp Process in omega arith;
    each = λ q process found. absurd (no_entry vpid_total vpid_exact q process found);
    threads_apart = λ p q t has too. true_false (sym has ∙ no_thread p t);
    own_number = λ p q has there. true_false (sym has ∙ no_thread p q.0);
  };
  makers = record {
    same = λ p. ap is_some (map.get-empty vpid_cmp p) ∙ sym (ap is_some (map.get-empty vpid_cmp p));
    hosts = λ q m found. absurd (no_entry vpid_total vpid_exact q m found);
    counts = λ q m found. absurd (no_entry vpid_total vpid_exact q m found);
  };
  parents = record { each = λ q process found. absurd (no_entry vpid_total vpid_exact q process found) };
  files = record {
    count = let none = map.len-empty nat_cmp (List ℕ) in omega arith;
    total = let none = sum_none in omega arith;
    numbers = λ n b found. absurd (no_file n b found);
    bytes = λ n b found. absurd (no_file n b found);
    named = λ a n found. absurd (no_entry name_total name_exact a n found);
    one_name = λ a b n found too. absurd (no_entry name_total name_exact a n found);
  };
  open_files = record { there = λ d x found. absurd (no_entry desc_total desc_exact d x found); kept = λ n b found. absurd (no_file n b found) };
  descriptors = record {
    number = λ at x found. absurd (no_entry slot_total slot_exact at x found);
    alive = λ at x found. absurd (no_entry slot_total slot_exact at x found);
    described = λ at x found. absurd (no_entry slot_total slot_exact at x found);
  };
  descriptions = record { held = λ d x found. absurd (no_entry desc_total desc_exact d x found); flags = λ d x found. absurd (no_entry desc_total desc_exact d x found) };
  holders = record {
    host = λ a b x y found too same. absurd (no_entry slot_total slot_exact a x found);
    owner = λ a x description found known. absurd (no_entry slot_total slot_exact a x found);
  };
  made = record {
    opened = λ d x found. absurd (no_entry desc_total desc_exact d x found);
    peers = λ d x found. absurd (no_entry desc_total desc_exact d x found);
    joined = λ c x found. absurd (no_entry conn_total conn_exact c x found);
  };
  channels = record {
    count = let none = map.len-empty conn_cmp Channel in omega arith;
    sides = λ at. ap is_some (map.get-empty dir_cmp at) ∙ sym (and_none (nat_lt at.side 2)) ∙ ap (λ found. nat_lt at.side 2 && is_some found) (sym (map.get-empty conn_cmp at.conn));
    addresses = λ c x found. absurd (no_entry conn_total conn_exact c x found);
    open_end = λ c x found. absurd (no_entry conn_total conn_exact c x found);
    each = λ at x found. absurd (no_entry dir_total dir_exact at x found);
    pipes = λ c x direction found pipe there. absurd (no_entry conn_total conn_exact c x found);
    closed = λ c side x found low shut. absurd (no_entry conn_total conn_exact c x found);
  };
  streams = record {
    each = λ d x found. absurd (no_entry desc_total desc_exact d x found);
    once = λ d e x y c side found too ends also. absurd (no_entry desc_total desc_exact d x found);
    apart = λ c has. true_false (sym has ∙ none_among-values desc_total desc_exact (λ (y : Description). is_end c 1 y.object) map.empty (λ d x found. absurd (no_entry desc_total desc_exact d x found)));
    opened = λ c x side found low. absurd (no_entry conn_total conn_exact c x found);
  };
  listeners = record {
    each = λ a x found. absurd (no_entry address_total address_exact a x found);
    described = λ a. ap is_some (map.get-empty address_cmp a)
        ∙ sym (none_among-values desc_total desc_exact (λ (y : Description). is_listener_at a y.object) map.empty (λ d x found. absurd (no_entry desc_total desc_exact d x found)));
    apart = λ a b x y c found too queued also. absurd (no_entry address_total address_exact a x found);
  };
  addresses = record {
    each = λ d x found. absurd (no_entry desc_total desc_exact d x found);
    apart = λ d e x y a found too at also. absurd (no_entry desc_total desc_exact d x found);
  };
  hosts = record {
    held = λ a x description host found known on. absurd (no_entry slot_total slot_exact a x found);
    pending = λ a x c host found queued on. absurd (no_entry address_total address_exact a x found);
  };
  inboxes = record {
    same = λ d. ap is_some (map.get-empty desc_cmp d) ∙ sym (ap is_datagram_in (map.get-empty desc_cmp d));
    other = λ d x found. absurd (no_entry desc_total desc_exact d x found);
    paired = λ d e x y found too knows. absurd (no_entry desc_total desc_exact d x found);
    once = λ d e peer x y found too knows also. absurd (no_entry desc_total desc_exact d x found);
    messages = λ d x found. absurd (no_entry desc_total desc_exact d x found);
  };
  counters = record { each = λ d x found. absurd (no_entry desc_total desc_exact d x found) };
}
  where
    no_thread : (q : VPid) (t : ℕ) → has_thread_in t (map.get (map.empty {X = Process} {R = vpid_cmp}) q) ≡ false
    no_thread q t = ap (has_thread_in t) (map.get-empty vpid_cmp q)

    no_file : (n : ℕ) (b : List ℕ) → map.get (map.empty {X = List ℕ} {R = nat_cmp}) n ≡ Some b → ⊥
    no_file n b found = no_entry nat_cmp_total map.nat_cmp-IsAntisymmetric n b found

    and_none : (b : Bool) → (b && false) ≡ false
    and_none true = refl
    and_none false = refl

empty_is : (map.len empty_kernel.processes ≡ 0) × (map.len empty_kernel.files ≡ 0) × (bytes_in empty_kernel ≡ 0) × (empty_kernel.next_file ≡ 1) × (empty_kernel.next_id ≡ FIRST_PID)
unfolding empty_kernel
empty_is = (map.len-empty vpid_cmp Process, map.len-empty nat_cmp (List ℕ), sum_none, refl, refl)

no_names : (files : List NamedFile) → All (λ f. map.get empty_kernel.names f.name ≡ None) files
unfolding empty_kernel
no_names files = λ i d below. map.get-empty name_cmp _

pub start_is_whole : StartIsKernel
unfolding start_kernel
start_is_whole jobs files few are named =
    let none = empty_is in
    let no_process = none.0 in
    let no_file = none.1 in
    let no_byte = none.2 in
    let first = none.3 in
    let kept = files_keep files empty_kernel in
    let count = named.count in
    let total = named.total in
    let same : map.len (with_files empty_kernel files).processes ≡ map.len empty_kernel.processes = ap map.len kept.1 in
    whole_processes jobs (with_files empty_kernel files) FIRST_PID (kept.0 ∙ none.4) (omega (arith, same, no_process)) (omega arith) are
    (whole_files files empty_kernel whole_empty named.names named.bytes (no_names files) named.apart (omega (arith, no_file, count)) (omega (arith, no_byte, total)) (omega (arith, first, count)))
