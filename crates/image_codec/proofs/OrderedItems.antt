-- The items of a shared image that can be spelled are in order.
--     numbers_rise, conns_rise, ids_rise, pids_rise, tids_rise      each list rises
--     in_order      so no two of its items have one number, nor one name, nor are they listeners at one address
use Rattle.std.proofs.Common.{◌≡◌, ℕ, ◌==◌, ◌&&◌, ◌||◌, Less, Bool, true, false, IsTrue, List, [], ◌∷◌, length, map as each, refl, sym, ap, subst, ◌∙◌, ⊎_elim, arith}
use Rattle.std.specs.Prelude.{Option, Some, None, not, nat_lt, nat_le, option_map}
use Rattle.std.specs.List.{list_any, list_all}
use Rattle.std.specs.Ordering.{nat_cmp, ordering_then}
use Rattle.std.specs.Cmp.{nat_cmp_total}
use Rattle.std.proofs.lemmas.Bool.Decides.{nat_tests}
use Rattle.std.proofs.lemmas.Slice.Eq.{bytes_eq-Decides}
use Rattle.views.specs.NumberMap.{is_above}
use Rattle.sys_abi.specs.declared.identity.VirtAddr.{VirtAddr}
use Rattle.sys_abi.specs.Orders.{vpid_cmp, desc_cmp, conn_cmp}
use Rattle.sys_abi.proofs.OrderLaws.{vpid_total, desc_total, conn_total}
use Rattle.plain_tables.specs.declared.channel.Listening.{Listening}
use Rattle.shared_items.specs.declared.shared.FileImage.{FileImage}
use Rattle.shared_items.specs.declared.shared.ChannelImage.{ChannelImage}
use Rattle.shared_items.specs.declared.shared.ObjectImage.{ObjectImage}
use Rattle.shared_items.specs.declared.shared.ObjectImage.TheVariants.{Console, File, Stream, Socket, Listener}
use Rattle.shared_items.specs.declared.shared.DescriptionImage.{DescriptionImage}
use Rattle.shared_items.specs.declared.shared.ThreadEntry.{ThreadEntry}
use Rattle.shared_items.specs.declared.shared.DescriptorEntry.{DescriptorEntry}
use Rattle.shared_items.specs.declared.shared.ProcessEntry.{ProcessEntry}
use Rattle.shared_items.specs.declared.shared.Shared.{Shared}
use Rattle.shared_items.specs.SharedTests as field
use Rattle.shared_items.specs.SharedFormat.{VERSION}
use Rattle.shared_items.specs.SharedFits.{SharedFits, FileFits, ChannelFits, DescriptionFits, ObjectFits, ListenerFits, ProcessFits, ThreadFits, DescriptorFits}
use Rattle.image_format.specs.Texts.{EachFrom}
use Rattle.image_format.specs.Fields.{is_within, last_item}
use Rattle.image_format.proofs.Rising.{RisesFrom, IsAfter, each_rising}
use Rattle.image_codec.specs.KernelParts.{name_entry, named_entry, listening_of}
use Rattle.image_codec.proofs.Items.{IsItem, item_fits, one_item, some_item}
use Rattle.image_codec.proofs.DistinctItems.{rising_items}
use Rattle.image_codec.proofs.KernelItems.{IsInOrder, same_some}
use Rattle.image_codec.proofs.ListsBack.{name_of}
use Rattle.image_codec.proofs.TestFacts.{and_true, or_either, refused, same_number, equal_numbers}

pub both_true : (a b : Bool) → IsTrue (a && b) → IsTrue a × IsTrue b
both_true true true h = (refl, refl)
both_true true false h = cc
both_true false b h = cc

pub nat_below : (a b : ℕ) → IsTrue (nat_lt a b) → nat_cmp a b ≡ Less
nat_below a b h = grind (arith, nat_tests)

-- a number, or a pair of numbers, above the one before
after_number : (before : Option ℕ) (n : ℕ) → IsTrue (is_above before n) → IsAfter nat_cmp before n
after_number None n h = tt
after_number (Some before) n h = nat_below before n h

pair_below : (a b c d : ℕ) → IsTrue (nat_lt a c || nat_lt b d) → IsTrue (nat_le a c) → ordering_then (nat_cmp a c) (nat_cmp b d) ≡ Less
pair_below a b c d h g = grind (arith, nat_tests)

-- files
file_rises : (next_file : ℕ) (front : List FileImage) (f : FileImage) → FileFits next_file front f → IsAfter nat_cmp (option_map (λ (g : FileImage). g.number) (last_item front)) f.number
file_rises next_file front f h = after_number _ _ ((both_true _ _ h.number.1).0)

pub numbers_rise : (next_file : ℕ) (files : List FileImage) → EachFrom (FileFits next_file) [] files → RisesFrom nat_cmp None (each (λ (f : FileImage). f.number) files)
numbers_rise next_file files h = each_rising nat_cmp (λ (f : FileImage). f.number) (FileFits next_file) (file_rises next_file) [] files h

record HaveOneName (f g : FileImage) : Type 0 where
  name : List ℕ
  m : ℕ
  n : ℕ
  first : name_entry f ≡ Some (name, m)
  second : name_entry g ≡ Some (name, n)

some_bytes : (given : List ℕ) (m : ℕ) (e : List ℕ × ℕ) → named_entry given m ≡ Some e → (length given == 0) ≡ true → ⊥
some_bytes [] m e is empty = cc
some_bytes (byte ∷ rest) m e is empty = let none : length (byte ∷ rest) ≡ 0 = equal_numbers (length (byte ∷ rest)) 0 empty in absurd (omega (arith, none))

never_twice : (next_file : ℕ) (front : List FileImage) (f g : FileImage) → FileFits next_file front f → IsItem front g → HaveOneName g f → ⊥
never_twice next_file front f g fits at one = ⊎_elim
    (λ empty. some_bytes f.name f.number (one.name, one.n) one.second empty)
    (λ new. refused (list_any (field.file_has_name f.name) front) new
    (some_item (field.file_has_name f.name) front g at ((bytes_eq-Decides g.name f.name).1 ((name_of g one.name one.m one.first).0 ∙ sym (name_of f one.name one.n one.second).0))))
    (or_either (length f.name == 0) (not (list_any (field.file_has_name f.name) front)) (and_true (list_all (is_within 1 255) f.name) (field.is_new_name front f.name) fits.name).1)

one_name : (next_file : ℕ) (files : List FileImage) → EachFrom (FileFits next_file) [] files → (f g : FileImage) (name : List ℕ) (m n : ℕ) → IsItem files f → IsItem files g
    → name_entry f ≡ Some (name, m) → name_entry g ≡ Some (name, n) → f ≡ g
one_name next_file files h f g name m n at by first second =
    one_item (FileFits next_file) HaveOneName (never_twice next_file) files f g h at by
    (record { name = name; m = m; n = n; first = first; second = second }) (record { name = name; m = n; n = m; first = second; second = first })

-- channels
conn_after : (before : Option ChannelImage) (p n : ℕ) → IsTrue (field.is_maker_after (option_map (λ (c : ChannelImage). (c.id.pid.0, c.id.num)) before) p)
    → IsTrue (field.is_number_after (option_map (λ (c : ChannelImage). (c.id.pid.0, c.id.num)) before) p n)
    → IsAfter conn_cmp (option_map (λ (c : ChannelImage). c.id) before) (record { pid = record { 0 = p }; num = n })
conn_after None p n h g = tt
conn_after (Some before) p n h g = pair_below before.id.pid.0 before.id.num p n g h

channel_rises : (next_id : ℕ) (front : List ChannelImage) (c : ChannelImage) → ChannelFits next_id front c → IsAfter conn_cmp (option_map (λ (d : ChannelImage). d.id) (last_item front)) c.id
channel_rises next_id front c h = conn_after (last_item front) c.id.pid.0 c.id.num ((both_true _ _ h.maker.1).0) h.number.1

pub conns_rise : (next_id : ℕ) (channels : List ChannelImage) → EachFrom (ChannelFits next_id) [] channels → RisesFrom conn_cmp None (each (λ (c : ChannelImage). c.id) channels)
conns_rise next_id channels h = each_rising conn_cmp (λ (c : ChannelImage). c.id) (ChannelFits next_id) (channel_rises next_id) [] channels h

-- descriptions
id_after : (before : Option DescriptionImage) (p n : ℕ) → IsTrue (field.is_maker_after (option_map (λ (d : DescriptionImage). (d.id.pid.0, d.id.num)) before) p)
    → IsTrue (field.is_number_after (option_map (λ (d : DescriptionImage). (d.id.pid.0, d.id.num)) before) p n)
    → IsAfter desc_cmp (option_map (λ (d : DescriptionImage). d.id) before) (record { pid = record { 0 = p }; num = n })
id_after None p n h g = tt
id_after (Some before) p n h g = pair_below before.id.pid.0 before.id.num p n g h

-- a description of the shared image, after those before it
abbrev pub IsListed : Shared → List DescriptionImage → DescriptionImage → Type 0
IsListed s = DescriptionFits VERSION s.next_id s.files s.channels

description_rises : (s : Shared) (front : List DescriptionImage) (description : DescriptionImage) → IsListed s front description
    → IsAfter desc_cmp (option_map (λ (d : DescriptionImage). d.id) (last_item front)) description.id
description_rises s front description h = id_after (last_item front) description.id.pid.0 description.id.num ((both_true _ _ h.maker.1).0) h.number.1

pub ids_rise : (s : Shared) → SharedFits s → RisesFrom desc_cmp None (each (λ (d : DescriptionImage). d.id) s.descriptions)
ids_rise s h = each_rising desc_cmp (λ (d : DescriptionImage). d.id) (IsListed s) (description_rises s) [] s.descriptions h.descriptions

-- listeners
pub is_listener : (o : ObjectImage) (address : VirtAddr) (x : Listening) → listening_of o ≡ Some (address, x) → o ≡ Listener address x.backlog x.queue
is_listener Console address x is = cc
is_listener (File number offset) address x is = cc
is_listener (Stream conn side) address x is = cc
is_listener (Socket other) address x is = cc
is_listener (Listener other backlog pending) address x is =
    let same : (other, record { backlog = backlog; queue = pending }) ≡ (address, x) = same_some _ (address, x) is in
    λ i. Listener (same i).0 (same i).1.backlog (same i).1.queue

record ListenAtOne (d e : DescriptionImage) : Type 0 where
  address : VirtAddr
  x : Listening
  y : Listening
  first : listening_of d.object ≡ Some (address, x)
  second : listening_of e.object ≡ Some (address, y)

never_both : (s : Shared) (front : List DescriptionImage) (d e : DescriptionImage) → IsListed s front d → IsItem front e → ListenAtOne e d → ⊥
never_both s front d e fits at one =
    let a = one.address in
    let mine : ListenerFits s.channels front one.address one.y.backlog one.y.queue = subst (ObjectFits s.files s.channels front d.flags) (is_listener d.object one.address one.y one.second) fits.what in
    refused (field.is_listed_port front a.host a.port) (and_true (is_within 1 65535 a.port) (not (field.is_listed_port front a.host a.port)) mine.port.1).1
    (some_item (λ (it : DescriptionImage). field.has_port a.host a.port it.object) front e at
    (ap (field.has_port a.host a.port) (is_listener e.object one.address one.x one.first) ∙ (λ i. same_number a.host i && same_number a.port i)))

one_listener : (s : Shared) → SharedFits s → (d e : DescriptionImage) (address : VirtAddr) (x y : Listening) → IsItem s.descriptions d → IsItem s.descriptions e
    → listening_of d.object ≡ Some (address, x) → listening_of e.object ≡ Some (address, y) → d ≡ e
one_listener s h d e address x y at by first second =
    one_item (IsListed s) ListenAtOne (never_both s) s.descriptions d e h.descriptions at by
    (record { address = address; x = x; y = y; first = first; second = second }) (record { address = address; x = y; y = x; first = second; second = first })

-- processes, with their threads and descriptors
process_rises : (next_id : ℕ) (channels : List ChannelImage) (descriptions : List DescriptionImage) (front : List ProcessEntry) (process : ProcessEntry) → ProcessFits next_id channels descriptions front process
    → IsAfter vpid_cmp (option_map (λ (e : ProcessEntry). e.pid) (last_item front)) process.pid
process_rises next_id channels descriptions front process h = after_pid (last_item front) ((both_true _ _ ((both_true _ _ h.number.1).0)).0)
  where
    after_pid : (before : Option ProcessEntry) → IsTrue (is_above (option_map (λ (e : ProcessEntry). e.pid.0) before) process.pid.0)
        → IsAfter vpid_cmp (option_map (λ (e : ProcessEntry). e.pid) before) process.pid
    after_pid None h = tt
    after_pid (Some before) h = nat_below before.pid.0 process.pid.0 h

pub pids_rise : (next_id : ℕ) (channels : List ChannelImage) (descriptions : List DescriptionImage) (processes : List ProcessEntry) → EachFrom (ProcessFits next_id channels descriptions) [] processes
    → RisesFrom vpid_cmp None (each (λ (e : ProcessEntry). e.pid) processes)
pids_rise next_id channels descriptions processes h =
    each_rising vpid_cmp (λ (e : ProcessEntry). e.pid) (ProcessFits next_id channels descriptions) (process_rises next_id channels descriptions) [] processes h

thread_rises : (next_id : ℕ) (earlier : List ProcessEntry) (front : List ThreadEntry) (thread : ThreadEntry) → ThreadFits next_id earlier front thread
    → IsAfter nat_cmp (option_map (λ (t : ThreadEntry). t.tid) (last_item front)) thread.tid
thread_rises next_id earlier front thread h = after_number _ _ ((both_true _ _ ((both_true _ _ h.number.1).0)).0)

pub tids_rise : (next_id : ℕ) (earlier : List ProcessEntry) (threads : List ThreadEntry) → EachFrom (ThreadFits next_id earlier) [] threads
    → RisesFrom nat_cmp None (each (λ (t : ThreadEntry). t.tid) threads)
tids_rise next_id earlier threads h = each_rising nat_cmp (λ (t : ThreadEntry). t.tid) (ThreadFits next_id earlier) (thread_rises next_id earlier) [] threads h

descriptor_rises : (descriptions : List DescriptionImage) (front : List DescriptorEntry) (descriptor : DescriptorEntry) → DescriptorFits descriptions front descriptor
    → IsAfter nat_cmp (option_map (λ (d : DescriptorEntry). d.number) (last_item front)) descriptor.number
descriptor_rises descriptions front descriptor h = after_number _ _ ((both_true _ _ h.number.1).0)

pub fds_rise : (descriptions : List DescriptionImage) (descriptors : List DescriptorEntry) → EachFrom (DescriptorFits descriptions) [] descriptors
    → RisesFrom nat_cmp None (each (λ (d : DescriptorEntry). d.number) descriptors)
fds_rise descriptions descriptors h = each_rising nat_cmp (λ (d : DescriptorEntry). d.number) (DescriptorFits descriptions) (descriptor_rises descriptions) [] descriptors h

-- all of it
pub in_order : (s : Shared) → SharedFits s → IsInOrder s
in_order s h = record {
  files = rising_items (λ (f : FileImage). f.number) nat_cmp_total (FileFits s.next_file) (file_rises s.next_file) s.files h.files;
  names = one_name s.next_file s.files h.files;
  channels = rising_items (λ (c : ChannelImage). c.id) conn_total (ChannelFits s.next_id) (channel_rises s.next_id) s.channels h.channels;
  descriptions = rising_items (λ (d : DescriptionImage). d.id) desc_total (IsListed s) (description_rises s) s.descriptions h.descriptions;
  listeners = one_listener s h;
  processes = rising_items (λ (e : ProcessEntry). e.pid) vpid_total (ProcessFits s.next_id s.channels s.descriptions) (process_rises s.next_id s.channels s.descriptions) s.processes h.processes;
  descriptors = λ p at. rising_items (λ (d : DescriptorEntry). d.number) nat_cmp_total (DescriptorFits s.descriptions) (descriptor_rises s.descriptions) p.descriptors
      (item_fits (ProcessFits s.next_id s.channels s.descriptions) s.processes p h.processes at).descriptors;
  threads = λ p at.
      rising_items (λ (t : ThreadEntry). t.tid) nat_cmp_total (ThreadFits s.next_id at.front) (thread_rises s.next_id at.front) p.threads (item_fits (ProcessFits s.next_id s.channels s.descriptions) s.processes p h.processes at).threads;
}
