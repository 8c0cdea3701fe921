-- The lists of a shared image that can be spelled rise, and so do those that are read.
--     file_rises .. descriptor_rises      an item is above the one before
--     numbers_rise, conns_rise, ids_rise, pids_rise, tids_rise, fds_rise      each list rises
--     files_rise, channels_rise, descriptions_rise, processes_rise      a list that was read
--     shared_rises      the channels and the processes of an image that was read
use Rattle.std.proofs.Common.{◌≡◌, ℕ, ◌&&◌, ◌||◌, Less, Bool, IsTrue, List, [], ◌∷◌, ◌++◌, Ok, map as each, sym, subst, append_assoc, append-nil, arith}
use Rattle.std.specs.Prelude.{Option, Some, None, nat_lt, nat_le, option_map}
use Rattle.std.specs.Ordering.{nat_cmp, ordering_then}
use Rattle.std.specs.Cmp.{nat_cmp_total}
use Rattle.std.proofs.lemmas.Bool.Decides.{nat_tests}
use Rattle.views.specs.NumberMap.{is_above}
use Rattle.sys_abi.specs.Orders.{vpid_cmp, desc_cmp, conn_cmp}
use Rattle.sys_abi.proofs.OrderLaws.{vpid_total, desc_total, conn_total}
use Rattle.shared_items.specs.declared.shared.FileImage.{FileImage}
use Rattle.shared_items.specs.declared.shared.ChannelImage.{ChannelImage}
use Rattle.shared_items.specs.declared.shared.DescriptionImage.{DescriptionImage}
use Rattle.shared_items.specs.declared.shared.ThreadEntry.{ThreadEntry}
use Rattle.shared_items.specs.declared.shared.DescriptorEntry.{DescriptorEntry}
use Rattle.shared_items.specs.declared.shared.ProcessEntry.{ProcessEntry}
use Rattle.shared_items.specs.declared.shared.Shared.{Shared}
use Rattle.shared_items.specs.SharedTests as field
use Rattle.shared_items.specs.SharedFormat as format
use Rattle.shared_items.specs.SharedFormat.{VERSION}
use Rattle.shared_items.specs.SharedFits.{SharedFits, FileFits, ChannelFits, DescriptionFits, ProcessFits, ThreadFits, DescriptorFits}
use Rattle.shared_items.specs.SharedTexts.{file_text, channel_text, description_text, process_text}
use Rattle.shared_items.specs.RisingLists.{FilesRise, ChannelsRise, DescriptionsRise, ProcessesRise}
use Rattle.image_format.specs.Format.{FormatOf, counted, any}
use Rattle.image_format.specs.Texts.{EachFrom}
use Rattle.image_format.specs.Fields.{is_within, last_item}
use Rattle.image_format.specs.Reading.{read}
use Rattle.image_format.proofs.Numerals.{AllBytes}
use Rattle.image_format.proofs.Laws.{spelled_read, AllBytes-back}
use Rattle.image_format.proofs.Texts.{Law, counted_law}
use Rattle.image_format.proofs.Rising.{RisesFrom, IsAfter, each_rising, sorted_rising}
use Rattle.shared_items.proofs.FieldLaws.{both_true}
use Rattle.shared_items.proofs.ItemLaws.{file_law, channel_law}
use Rattle.shared_items.proofs.ObjectLaws.{description_law}
use Rattle.shared_items.proofs.SharedLaws.{process_law, shared_law}

pub nat_below : (a b : ℕ) → IsTrue (nat_lt a b) → nat_cmp a b ≡ Less
nat_below a b h = grind (arith, nat_tests)

-- a number, or a pair of numbers, above the one before
after_number : (before : Option ℕ) (n : ℕ) → IsTrue (is_above before n) → IsAfter nat_cmp before n
after_number None n h = tt
after_number (Some before) n h = nat_below before n h

pair_below : (a b c d : ℕ) → IsTrue (nat_lt a c || nat_lt b d) → IsTrue (nat_le a c) → ordering_then (nat_cmp a c) (nat_cmp b d) ≡ Less
pair_below a b c d h g = grind (arith, nat_tests)

-- files
pub file_rises : (next_file : ℕ) (front : List FileImage) (f : FileImage) → FileFits next_file front f → IsAfter nat_cmp (option_map (λ (g : FileImage). g.number) (last_item front)) f.number
file_rises next_file front f h = after_number _ _ ((both_true _ _ h.number.1).0)

pub numbers_rise : (next_file : ℕ) (files : List FileImage) → EachFrom (FileFits next_file) [] files → RisesFrom nat_cmp None (each (λ (f : FileImage). f.number) files)
numbers_rise next_file files h = each_rising nat_cmp (λ (f : FileImage). f.number) (FileFits next_file) (file_rises next_file) [] files h

-- channels
conn_after : (before : Option ChannelImage) (p n : ℕ) → IsTrue (field.is_maker_after (option_map (λ (c : ChannelImage). (c.id.pid.0, c.id.num)) before) p)
    → IsTrue (field.is_number_after (option_map (λ (c : ChannelImage). (c.id.pid.0, c.id.num)) before) p n)
    → IsAfter conn_cmp (option_map (λ (c : ChannelImage). c.id) before) (record { pid = record { 0 = p }; num = n })
conn_after None p n h g = tt
conn_after (Some before) p n h g = pair_below before.id.pid.0 before.id.num p n g h

pub channel_rises : (next_id : ℕ) (front : List ChannelImage) (c : ChannelImage) → ChannelFits next_id front c → IsAfter conn_cmp (option_map (λ (d : ChannelImage). d.id) (last_item front)) c.id
channel_rises next_id front c h = conn_after (last_item front) c.id.pid.0 c.id.num ((both_true _ _ h.maker.1).0) h.number.1

pub conns_rise : (next_id : ℕ) (channels : List ChannelImage) → EachFrom (ChannelFits next_id) [] channels → RisesFrom conn_cmp None (each (λ (c : ChannelImage). c.id) channels)
conns_rise next_id channels h = each_rising conn_cmp (λ (c : ChannelImage). c.id) (ChannelFits next_id) (channel_rises next_id) [] channels h

-- descriptions
id_after : (before : Option DescriptionImage) (p n : ℕ) → IsTrue (field.is_maker_after (option_map (λ (d : DescriptionImage). (d.id.pid.0, d.id.num)) before) p)
    → IsTrue (field.is_number_after (option_map (λ (d : DescriptionImage). (d.id.pid.0, d.id.num)) before) p n)
    → IsAfter desc_cmp (option_map (λ (d : DescriptionImage). d.id) before) (record { pid = record { 0 = p }; num = n })
id_after None p n h g = tt
id_after (Some before) p n h g = pair_below before.id.pid.0 before.id.num p n g h

module _ (version next_id : ℕ) (files : List FileImage) (channels : List ChannelImage) where
  pub description_rises : (front : List DescriptionImage) (description : DescriptionImage) → DescriptionFits version next_id files channels front description
      → IsAfter desc_cmp (option_map (λ (d : DescriptionImage). d.id) (last_item front)) description.id
  description_rises front description h = id_after (last_item front) description.id.pid.0 description.id.num ((both_true _ _ h.maker.1).0) h.number.1

  pub ids_rise : (descriptions : List DescriptionImage) → EachFrom (DescriptionFits version next_id files channels) [] descriptions → RisesFrom desc_cmp None (each (λ (d : DescriptionImage). d.id) descriptions)
  ids_rise descriptions h = each_rising desc_cmp (λ (d : DescriptionImage). d.id) (DescriptionFits version next_id files channels) description_rises [] descriptions h

-- processes, with their threads and descriptors
pub process_rises : (next_id : ℕ) (channels : List ChannelImage) (descriptions : List DescriptionImage) (front : List ProcessEntry) (process : ProcessEntry) → ProcessFits next_id channels descriptions front process
    → IsAfter vpid_cmp (option_map (λ (e : ProcessEntry). e.pid) (last_item front)) process.pid
process_rises next_id channels descriptions front process h = after_pid (last_item front) ((both_true _ _ ((both_true _ _ h.number.1).0)).0)
  where
    after_pid : (before : Option ProcessEntry) → IsTrue (is_above (option_map (λ (e : ProcessEntry). e.pid.0) before) process.pid.0)
        → IsAfter vpid_cmp (option_map (λ (e : ProcessEntry). e.pid) before) process.pid
    after_pid None h = tt
    after_pid (Some before) h = nat_below before.pid.0 process.pid.0 h

pub pids_rise : (next_id : ℕ) (channels : List ChannelImage) (descriptions : List DescriptionImage) (processes : List ProcessEntry) → EachFrom (ProcessFits next_id channels descriptions) [] processes
    → RisesFrom vpid_cmp None (each (λ (e : ProcessEntry). e.pid) processes)
pids_rise next_id channels descriptions processes h =
    each_rising vpid_cmp (λ (e : ProcessEntry). e.pid) (ProcessFits next_id channels descriptions) (process_rises next_id channels descriptions) [] processes h

pub thread_rises : (next_id : ℕ) (earlier : List ProcessEntry) (front : List ThreadEntry) (thread : ThreadEntry) → ThreadFits next_id earlier front thread
    → IsAfter nat_cmp (option_map (λ (t : ThreadEntry). t.tid) (last_item front)) thread.tid
thread_rises next_id earlier front thread h = after_number _ _ ((both_true _ _ ((both_true _ _ h.number.1).0)).0)

pub tids_rise : (next_id : ℕ) (earlier : List ProcessEntry) (threads : List ThreadEntry) → EachFrom (ThreadFits next_id earlier) [] threads
    → RisesFrom nat_cmp None (each (λ (t : ThreadEntry). t.tid) threads)
tids_rise next_id earlier threads h = each_rising nat_cmp (λ (t : ThreadEntry). t.tid) (ThreadFits next_id earlier) (thread_rises next_id earlier) [] threads h

pub descriptor_rises : (descriptions : List DescriptionImage) (front : List DescriptorEntry) (descriptor : DescriptorEntry) → DescriptorFits descriptions front descriptor
    → IsAfter nat_cmp (option_map (λ (d : DescriptorEntry). d.number) (last_item front)) descriptor.number
descriptor_rises descriptions front descriptor h = after_number _ _ ((both_true _ _ h.number.1).0)

pub fds_rise : (descriptions : List DescriptionImage) (descriptors : List DescriptorEntry) → EachFrom (DescriptorFits descriptions) [] descriptors
    → RisesFrom nat_cmp None (each (λ (d : DescriptorEntry). d.number) descriptors)
fds_rise descriptions descriptors h = each_rising nat_cmp (λ (d : DescriptorEntry). d.number) (DescriptorFits descriptions) (descriptor_rises descriptions) [] descriptors h

-- lists that were read
module _ {X : Type 0} (ok : ℕ → Bool) (item : List X → FormatOf X) (text_of : X → List ℕ) (Fits : List X → X → Type 0) (law : (front : List X) → Law (item front) text_of (Fits front)) where
  read_items : (text rest : List ℕ) (items : List X) → AllBytes text → read (counted ok item) text ≡ Ok (items, rest) → EachFrom Fits [] items
  read_items text rest items bytes e =
      let front = spelled_read (counted ok item) text items rest bytes e in
      ((counted_law ok item text_of Fits law).only front.first items front.spells).1.1

pub files_rise : (next_file : ℕ) (text rest : List ℕ) (files : List FileImage) → AllBytes text → read (counted field.is_file_count (format.file next_file)) text ≡ Ok (files, rest) → FilesRise files
files_rise next_file text rest files bytes e =
    sorted_rising nat_cmp nat_cmp_total None _ (numbers_rise next_file files (read_items field.is_file_count (format.file next_file) file_text (FileFits next_file) (file_law next_file) text rest files bytes e))

pub channels_rise : (next_id : ℕ) (text rest : List ℕ) (channels : List ChannelImage) → AllBytes text → read (counted field.is_channel_count (format.channel next_id)) text ≡ Ok (channels, rest) → ChannelsRise channels
channels_rise next_id text rest channels bytes e =
    sorted_rising conn_cmp conn_total None _ (conns_rise next_id channels (read_items field.is_channel_count (format.channel next_id) channel_text (ChannelFits next_id) (channel_law next_id) text rest channels bytes e))

pub descriptions_rise : (version next_id : ℕ) (files : List FileImage) (channels : List ChannelImage) (text rest : List ℕ) (descriptions : List DescriptionImage) → AllBytes text
    → read (counted any (format.description version next_id files channels)) text ≡ Ok (descriptions, rest) → DescriptionsRise descriptions
descriptions_rise version next_id files channels text rest descriptions bytes e =
    sorted_rising desc_cmp desc_total None _
    (ids_rise version next_id files channels descriptions
    (read_items any (format.description version next_id files channels) description_text (DescriptionFits version next_id files channels) (description_law version next_id files channels) text rest descriptions bytes e))

each_pushed : {X : Type 0} (P : List X → X → Type 0) (front items : List X) (x : X) → EachFrom P front items → P (front ++ items) x → EachFrom P front (items ++ x ∷ [])
unfolding EachFrom
each_pushed P front [] x h last = (subst (λ ys. P ys x) (append-nil front) last, tt)
each_pushed P front (y ∷ items) x h last = (h.0, each_pushed P (front ++ y ∷ []) items x h.1 (subst (λ ys. P ys x) (sym (append_assoc front (y ∷ []) items)) last))

-- what stands behind a value that was read
pub bytes_behind : {A : Type 0} (f : FormatOf A) (text rest : List ℕ) (a : A) → AllBytes text → read f text ≡ Ok (a, rest) → AllBytes rest
bytes_behind f text rest a bytes e = let front = spelled_read f text a rest bytes e in AllBytes-back front.first rest (subst AllBytes front.whole bytes)

-- a process that was read behind others
module _ (next_id : ℕ) (channels : List ChannelImage) (descriptions : List DescriptionImage) where
  pub process_read : (front : List ProcessEntry) (process : ProcessEntry) (text rest : List ℕ) → AllBytes text → read (format.process next_id channels descriptions front) text ≡ Ok (process, rest)
      → EachFrom (ProcessFits next_id channels descriptions) [] front → EachFrom (ProcessFits next_id channels descriptions) [] (front ++ process ∷ [])
  process_read front process text rest bytes e fits =
      let read_front = spelled_read (format.process next_id channels descriptions front) text process rest bytes e in
      each_pushed (ProcessFits next_id channels descriptions) [] front process fits ((process_law next_id channels descriptions front).only read_front.first process read_front.spells).1

  pub processes_rise : (processes : List ProcessEntry) → EachFrom (ProcessFits next_id channels descriptions) [] processes → ProcessesRise processes
  processes_rise processes fits = sorted_rising vpid_cmp vpid_total None _ (pids_rise next_id channels descriptions processes fits)

-- all lists of a shared image that was read
pub shared_rises : (text rest : List ℕ) (s : Shared) → AllBytes text → read format.shared text ≡ Ok (s, rest) → ChannelsRise s.channels × ProcessesRise s.processes
shared_rises text rest s bytes e =
    let front = spelled_read format.shared text s rest bytes e in
    let fits : SharedFits s = (shared_law.only front.first s front.spells).1 in
    (sorted_rising conn_cmp conn_total None _ (conns_rise s.next_id s.channels fits.channels), processes_rise s.next_id s.channels s.descriptions s.processes fits.processes)
