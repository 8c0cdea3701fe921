-- The files of a set are no longer than its manifest can tell.
--     shared_short, process_short      the shared image and the image of a process are shorter than 2 ^ 64 bytes
use Rattle.std.proofs.Common.{◌≡◌, ℕ, ◌+◌, ◌*◌, ◌<◌, ◌≤◌, ◌^◌, ◌&&◌, Bool, IsTrue, List, [], ◌∷◌, ◌++◌, length, drop, refl, ap, ◌∙◌, arith, length-append, length-drop}
use Rattle.std.specs.Prelude.{All, Option, suc, nat_le, sum_by}
use Rattle.std.specs.List.{AllByRecursion, flat_map}
use Rattle.std.specs.FinMap as map
use Rattle.std.proofs.lemmas.Bool.Decides.{nat_tests}
use Rattle.std.proofs.lemmas.List.{length-map}
use Rattle.sys_abi.specs.declared.identity.ConnId.{ConnId}
use Rattle.sys_abi.specs.declared.identity.VirtAddr.{VirtAddr}
use Rattle.sys_abi.proofs.OrderLaws.{desc_total, slot_total, slot_exact}
use Rattle.plain_process.specs.declared.user_part.Context.{Context}
use Rattle.plain_process.specs.declared.user_part.SignalAction.{SignalAction}
use Rattle.plain_process.specs.declared.user_part.Waiter.{Waiter}
use Rattle.image_format.specs.Fields.{is_within}
use Rattle.image_format.specs.Format.{n8, n16, n32, number_text, byte_count}
use Rattle.image_format.proofs.Numerals.{length-number_text}
use Rattle.image_format.proofs.Rising.{all_from, entries_made}
use Rattle.shared_items.specs.declared.shared.FileImage.{FileImage}
use Rattle.shared_items.specs.declared.shared.SideImage.{SideImage}
use Rattle.shared_items.specs.declared.shared.ChannelImage.{ChannelImage}
use Rattle.shared_items.specs.declared.shared.ObjectImage.{ObjectImage}
use Rattle.shared_items.specs.declared.shared.ObjectImage.TheVariants.{Console, File, Stream, Socket, Listener}
use Rattle.shared_items.specs.declared.shared.DescriptionImage.{DescriptionImage}
use Rattle.shared_items.specs.declared.shared.ThreadEntry.{ThreadEntry}
use Rattle.shared_items.specs.declared.shared.DescriptorEntry.{DescriptorEntry}
use Rattle.shared_items.specs.declared.shared.ProcessEntry.{ProcessEntry}
use Rattle.shared_items.specs.declared.shared.Shared.{Shared}
use Rattle.shared_items.specs.SharedFits.{IsShared, FileFits, SideFits, ChannelFits, ObjectFits, DescriptionFits, ProcessFits, kind_of, state_of, status_of, flag, side_flags, number_of_kind, host_number, port_number}
use Rattle.shared_items.specs.SharedTexts as shared
use Rattle.shared_items.specs.SharedFormat.{SHARED_MAGIC, VERSION}
use Rattle.image_process.specs.declared.process_image.ProcImage.{ProcImage}
use Rattle.image_process.specs.declared.page_image.PageImage.{PageImage}
use Rattle.image_process.specs.declared.thread_image.ThreadImage.{ThreadImage}
use Rattle.image_process.specs.ProcessFits.{ImageFields, IsPage, IsThreadImage, IsRegisters}
use Rattle.image_process.specs.ProcessImages.{PROCESS_MAGIC}
use Rattle.image_process.specs.ProcessTests.{is_page_count, is_context_count, is_count_of_threads}
use Rattle.image_process.specs.ProcessTexts as process
use Rattle.image_process.proofs.ProcessFiles.{waiter_count-below}
use Rattle.image_codec.specs.KernelParts.{kernel_of, description_entry, descriptor_entry, descriptor_entries}
use Rattle.image_codec.proofs.FittingKernels.{no_more_descriptions}
use Rattle.image_codec.proofs.ImageKernels.{image_is_kernel}
use Rattle.image_codec.proofs.Listings.{len_flat, len_made}
use Rattle.image_codec.proofs.OrderedItems.{both_true, ids_rise}

-- a word and a byte
four : (n : ℕ) → length (number_text n32 n) ≡ 4
unfolding byte_count
four n = length-number_text n32 n

one : (n : ℕ) → length (number_text n8 n) ≡ 1
unfolding byte_count
one n = length-number_text n8 n

-- pieces that are joined
len3 : (a b c : List ℕ) → length (a ++ b ++ c) ≡ length a + length b + length c
len3 a b c = length-append (a ++ b) c ∙ ap (λ n. n + length c) (length-append a b)

len4 : (a b c d : List ℕ) → length (a ++ b ++ c ++ d) ≡ length a + length b + length c + length d
len4 a b c d = length-append (a ++ b ++ c) d ∙ ap (λ n. n + length d) (len3 a b c)

len5 : (a b c d e : List ℕ) → length (a ++ b ++ c ++ d ++ e) ≡ length a + length b + length c + length d + length e
len5 a b c d e = length-append (a ++ b ++ c ++ d) e ∙ ap (λ n. n + length e) (len4 a b c d)

len6 : (a b c d e f : List ℕ) → length (a ++ b ++ c ++ d ++ e ++ f) ≡ length a + length b + length c + length d + length e + length f
len6 a b c d e f = length-append (a ++ b ++ c ++ d ++ e) f ∙ ap (λ n. n + length f) (len5 a b c d e)

len7 : (a b c d e f g : List ℕ) → length (a ++ b ++ c ++ d ++ e ++ f ++ g) ≡ length a + length b + length c + length d + length e + length f + length g
len7 a b c d e f g = length-append (a ++ b ++ c ++ d ++ e ++ f) g ∙ ap (λ n. n + length g) (len6 a b c d e f)

len8 : (a b c d e f g h : List ℕ) → length (a ++ b ++ c ++ d ++ e ++ f ++ g ++ h) ≡ length a + length b + length c + length d + length e + length f + length g + length h
len8 a b c d e f g h = length-append (a ++ b ++ c ++ d ++ e ++ f ++ g) h ∙ ap (λ n. n + length h) (len7 a b c d e f g)

every : {X : Type 0} (P : X → Type 0) → ((x : X) → P x) → (xs : List X) → AllByRecursion P xs
every P is [] = tt
every P is (x ∷ xs) = (is x, every P is xs)

each_of_all : {X : Type 0} (P Q : X → Type 0) (xs : List X) → ((x : X) → P x → Q x) → All P xs → AllByRecursion Q xs
each_of_all P Q [] to are = tt
each_of_all P Q (x ∷ xs) to are = (to x (are 0 x (omega arith)), each_of_all P Q xs to (λ i d inside. are (suc i) d (omega (arith, inside))))

-- the pieces of the shared image
two : (n : ℕ) → length (number_text n16 n) ≡ 2
unfolding byte_count
two n = length-number_text n16 n

within : (least most n : ℕ) → IsTrue (is_within least most n) → n ≤ most
within least most n h = grind (arith, nat_tests)

at_most : (most n : ℕ) → IsTrue (nat_le n most) → n ≤ most
at_most most n h = grind (arith, nat_tests)

part_at_most : (front n most : ℕ) → IsTrue (nat_le (front + n) most) → n ≤ most
part_at_most front n most h = grind (arith, nat_tests)

first_at_most : (most n : ℕ) (rest : Bool) → IsTrue (nat_le n most && rest) → n ≤ most
first_at_most most n rest h = at_most most n ((both_true (nat_le n most) rest h).0)

abbrev FILE : ℕ
FILE = 67109129

file_long : (next_file : ℕ) (front : List FileImage) (f : FileImage) → FileFits next_file front f → length (shared.file_text f) ≤ FILE
unfolding shared.file_text
file_long next_file front f fits =
    let name = within 0 255 (length f.name) fits.name_size.1 in
    let bytes = part_at_most (sum_by (λ (g : FileImage). length g.bytes) front) (length f.bytes) 67108864 fits.size.1 in
    omega (arith, len5 (number_text n32 f.number) (number_text n16 (length f.name)) f.name (number_text n32 (length f.bytes)) f.bytes, four f.number, two (length f.name), four (length f.bytes), name, bytes)

address_long : (address : Option VirtAddr) → length (shared.address_text address) ≤ 8
address_long address =
    let joined = length-append (number_text n32 (host_number address)) (number_text n32 (port_number address)) in
    omega (arith, joined, four (host_number address), four (port_number address))

side_long : (kind number : ℕ) (side : SideImage) → SideFits kind number side → length (shared.side_text side) ≤ 65549
unfolding shared.side_text
side_long kind number side fits =
    let left = first_at_most 65536 (length side.left) _ fits.size.1 in
    let joined = len4 (number_text n8 (side_flags side)) (number_text n32 (length side.left)) side.left (shared.address_text side.address) in
    omega (arith, joined, one (side_flags side), four (length side.left), left, address_long side.address)

abbrev CHANNEL : ℕ
CHANNEL = 131107

channel_long : (next_id : ℕ) (front : List ChannelImage) (c : ChannelImage) → ChannelFits next_id front c → length (shared.channel_text c) ≤ CHANNEL
unfolding shared.channel_text
channel_long next_id front c fits =
    let joined = len5 (number_text n32 c.id.pid.0) (number_text n32 c.id.num) (number_text n8 (number_of_kind c.kind)) (shared.side_text c.first) (shared.side_text c.second) in
    omega (arith, joined, four c.id.pid.0, four c.id.num, one (number_of_kind c.kind), side_long (number_of_kind c.kind) 0 c.first fits.first, side_long (number_of_kind c.kind) 1 c.second fits.second)

connection_long : (conn : ConnId) → length (shared.connection_text conn) ≤ 8
unfolding shared.connection_text
connection_long conn = let joined = length-append (number_text n32 conn.pid.0) (number_text n32 conn.num) in omega (arith, joined, four conn.pid.0, four conn.num)

-- a list of at most so many items of at most so many bytes
list_long : {X : Type 0} (text : X → List ℕ) (size most : ℕ) (xs : List X) → AllByRecursion (λ x. length (text x) ≤ size) xs → length xs ≤ most → length (shared.list_text text xs) ≤ 4 + size * most
list_long text size most xs are few =
    let a = length-append (number_text n32 (length xs)) (flat_map text xs) in
    let b = len_flat text size xs are in
    let c = four (length xs) in
    let d : size * length xs ≤ size * most = grind arith in
    omega (arith, a, b, c, d)

abbrev OBJECT : ℕ
OBJECT = 16 + 8 * 2 ^ 32

object_long : (files : List FileImage) (channels : List ChannelImage) (front : List DescriptionImage) (flags : ℕ) (o : ObjectImage) → ObjectFits files channels front flags o → length (shared.object_text o) ≤ OBJECT
unfolding shared.object_text
object_long files channels front flags Console fits = omega arith
object_long files channels front flags (File number offset) fits =
    let joined = length-append (number_text n32 number) (number_text n32 offset) in
    omega (arith, joined, four number, four offset)
object_long files channels front flags (Stream conn side) fits =
    let joined = length-append (shared.connection_text conn) (number_text n8 side) in
    omega (arith, joined, connection_long conn, one side)
object_long files channels front flags (Socket address) fits =
    let joined = length-append (number_text n32 address.host) (number_text n32 address.port) in
    omega (arith, joined, four address.host, four address.port)
object_long files channels front flags (Listener address backlog pending) fits =
    let few : length pending ≤ 2 ^ 32 = let count = fits.count.0 in omega (arith, count) in
    let queue = list_long shared.connection_text 8 (2 ^ 32) pending (every (λ c. length (shared.connection_text c) ≤ 8) connection_long pending) few in
    let joined = len4 (number_text n32 address.host) (number_text n32 address.port) (number_text n32 backlog) (shared.list_text shared.connection_text pending) in
    omega (arith, joined, four address.host, four address.port, four backlog, queue)

abbrev DESCRIPTION : ℕ
DESCRIPTION = 33 + 8 * 2 ^ 32

description_long : (s : Shared) (front : List DescriptionImage) (d : DescriptionImage) → DescriptionFits VERSION s.next_id s.files s.channels front d → length (shared.description_text d) ≤ DESCRIPTION
unfolding shared.description_text
description_long s front d fits =
    omega (
      arith,
      len6 (number_text n32 d.id.pid.0) (number_text n32 d.id.num) (number_text n8 (kind_of d.object)) (number_text n32 d.flags) (number_text n32 d.owner) (shared.object_text d.object),
      four d.id.pid.0,
      four d.id.num,
      one (kind_of d.object),
      four d.flags,
      four d.owner,
      object_long s.files s.channels front d.flags d.object fits.what,
    )

thread_long : (t : ThreadEntry) → length (shared.thread_text t) ≤ 8
unfolding shared.thread_text
thread_long t = let a = length-append (number_text n32 t.tid) (number_text n32 t.pending) in omega (arith, a, four t.tid, four t.pending)

descriptor_long : (d : DescriptorEntry) → length (shared.descriptor_text d) ≤ 13
unfolding shared.descriptor_text
descriptor_long d =
    omega (arith, len4 (number_text n32 d.number) (number_text n32 d.desc.pid.0) (number_text n32 d.desc.num) (number_text n8 (flag d.cloexec)), four d.number, four d.desc.pid.0, four d.desc.num, one (flag d.cloexec))

life_long : (p : ProcessEntry) → length (shared.life_text p.life) ≤ 5
unfolding shared.life_text
life_long p =
    let a = length-append (number_text n8 (state_of p.life)) (number_text n32 (status_of p.life)) in
    omega (arith, a, one (state_of p.life), four (status_of p.life))

process_long : (next_id : ℕ) (s : Shared) (front : List ProcessEntry) (p : ProcessEntry) → ProcessFits next_id s.channels s.descriptions front p → length (shared.process_text p) ≤ 33 + 21 * 2 ^ 32
unfolding shared.process_text
process_long next_id s front p fits =
    let threads : length p.threads ≤ 2 ^ 32 = let few = fits.thread_count.0 in omega (arith, few) in
    let descriptors : length p.descriptors ≤ 2 ^ 32 = let few = fits.descriptor_count.0 in omega (arith, few) in
    let listed = list_long shared.thread_text 8 (2 ^ 32) p.threads (every (λ t. length (shared.thread_text t) ≤ 8) thread_long p.threads) threads in
    let held = list_long shared.descriptor_text 13 (2 ^ 32) p.descriptors (every (λ d. length (shared.descriptor_text d) ≤ 13) descriptor_long p.descriptors) descriptors in
    joined (number_text n32 p.pid.0) (number_text n32 p.parent) (number_text n32 p.host) (number_text n32 p.made) (shared.life_text p.life) (number_text n32 p.pending) (shared.list_text shared.thread_text p.threads) (shared.list_text shared.descriptor_text p.descriptors)
    (four p.pid.0) (four p.parent) (four p.host) (four p.made) (life_long p) (four p.pending) listed held
  where
    joined : (a b c d e f g h : List ℕ) → length a ≡ 4 → length b ≡ 4 → length c ≡ 4 → length d ≡ 4 → length e ≤ 5 → length f ≡ 4 → length g ≤ 4 + 8 * 2 ^ 32 → length h ≤ 4 + 13 * 2 ^ 32
        → length (a ++ b ++ c ++ d ++ e ++ f ++ g ++ h) ≤ 33 + 21 * 2 ^ 32
    joined a b c d e f g h la lb lc ld le lf lg lh = omega (arith, len8 a b c d e f g h, la, lb, lc, ld, le, lf, lg, lh)

-- a description is held by a descriptor, of which a process has at most 256
few_held : (e : ProcessEntry) (count : length e.descriptors ≤ 256) → length (descriptor_entries e) ≤ 256
few_held e count = let same = length-map e.descriptors (descriptor_entry e.pid) in omega (arith, same, count)

few_descriptions : (s : Shared) → IsShared s → length s.descriptions ≤ 32768
unfolding kernel_of
few_descriptions s is =
    let k = kernel_of s in
    let held = no_more_descriptions k (image_is_kernel s is) in
    let described : map.len k.descriptions ≡ length s.descriptions =
    map.len-entries k.descriptions ∙ ap length (entries_made desc_total description_entry s.descriptions (ids_rise s is.fields)) ∙ length-map s.descriptions description_entry in
    let listed = map.len-entries k.descriptors in
    let made = len_made slot_total slot_exact (flat_map descriptor_entries s.processes) in
    let few = len_flat descriptor_entries 256 s.processes (all_from (ProcessFits s.next_id s.channels s.descriptions) (λ e. length (descriptor_entries e) ≤ 256)
    (λ front e fits. few_held e (first_at_most 256 (length e.descriptors) _ fits.descriptor_count.1)) [] s.processes is.fields.processes) in
    let processes = at_most 128 (length s.processes) is.fields.process_count.1 in
    omega (arith, held, described, listed, made, few, processes)

pub shared_short : (s : Shared) → IsShared s → length (shared.shared_text s) < 2 ^ 64
unfolding shared.shared_text
shared_short s is =
    let fits = is.fields in
    let files = list_long shared.file_text FILE 1024 s.files (all_from (FileFits s.next_file) (λ f. length (shared.file_text f) ≤ FILE) (file_long s.next_file) [] s.files fits.files) (at_most 1024 (length s.files) fits.file_count.1) in
    let channels = list_long shared.channel_text CHANNEL 256 s.channels (all_from (ChannelFits s.next_id) (λ c. length (shared.channel_text c) ≤ CHANNEL) (channel_long s.next_id) [] s.channels fits.channels) (at_most 256 (length s.channels) fits.channel_count.1) in
    let described = list_long shared.description_text DESCRIPTION 32768 s.descriptions (all_from (DescriptionFits VERSION s.next_id s.files s.channels) (λ d. length (shared.description_text d) ≤ DESCRIPTION) (description_long s) [] s.descriptions fits.descriptions) (few_descriptions s is) in
    let processes = list_long shared.process_text (33 + 21 * 2 ^ 32) 128 s.processes (all_from (ProcessFits s.next_id s.channels s.descriptions) (λ p. length (shared.process_text p) ≤ 33 + 21 * 2 ^ 32) (process_long s.next_id s) [] s.processes fits.processes) (at_most 128 (length s.processes) fits.process_count.1) in
    joined SHARED_MAGIC (number_text n32 s.next_id) (number_text n32 s.next_file) (shared.list_text shared.file_text s.files) (shared.list_text shared.channel_text s.channels) (shared.list_text shared.description_text s.descriptions) (shared.list_text shared.process_text s.processes)
    refl (four s.next_id) (four s.next_file) files channels described processes
  where
    joined : (a b c d e f g : List ℕ) → length a ≡ 8 → length b ≡ 4 → length c ≡ 4 → length d ≤ 4 + FILE * 1024 → length e ≤ 4 + CHANNEL * 256 → length f ≤ 4 + DESCRIPTION * 32768 → length g ≤ 4 + (33 + 21 * 2 ^ 32) * 128
        → length (a ++ b ++ c ++ d ++ e ++ f ++ g) < 2 ^ 64
    joined a b c d e f g la lb lc ld le lf lg = omega (arith, len7 a b c d e f g, la, lb, lc, ld, le, lf, lg)

-- the pieces of a process's image
page_long : (start end : ℕ) (front : List PageImage) (p : PageImage) → IsPage start end front p → length (process.page_text p) ≤ 4101
unfolding process.page_text
page_long start end front p is = omega (arith, len3 (number_text n32 p.number) (number_text n8 p.frame.rights) p.frame.page, four p.number, one p.frame.rights, is.size)

action_long : (x : SignalAction) → length (process.action_text x) ≤ 12
unfolding process.action_text
action_long x = omega (arith, len3 (number_text n32 x.handler) (number_text n32 x.flags) (number_text n32 x.mask), four x.handler, four x.flags, four x.mask)

waiter_long : (w : Waiter) → length (process.waiter_text w) ≤ 8
unfolding process.waiter_text
waiter_long w = let a = length-append (number_text n32 w.tid) (number_text n32 w.address) in omega (arith, a, four w.tid, four w.address)

registers_long : (x : List ℕ) → IsRegisters x → length (process.registers_text x) ≤ 124
unfolding process.registers_text
registers_long x is =
    let listed = len_flat (number_text n32) 4 (drop 1 x) (every (λ n. length (number_text n32 n) ≤ 4) (λ n. omega (arith, four n)) (drop 1 x)) in
    let fewer = length-drop 1 x in
    omega (arith, listed, fewer, is.size)

context_long : (c : Context) → IsRegisters c.regs.x → length (process.context_text c) ≤ 132
unfolding process.context_text
context_long c is =
    omega (arith, len3 (process.registers_text c.regs.x) (number_text n32 c.regs.pc) (number_text n32 c.mask), registers_long c.regs.x is, four c.regs.pc, four c.mask)

-- a list as the image of a process has it
listed_long : {X : Type 0} (text : X → List ℕ) (size most : ℕ) (xs : List X) → AllByRecursion (λ x. length (text x) ≤ size) xs → length xs ≤ most → length (process.list_text text xs) ≤ 4 + size * most
unfolding process.list_text
listed_long text size most xs are few =
    let a = length-append (number_text n32 (length xs)) (flat_map text xs) in
    let b = len_flat text size xs are in
    let c = four (length xs) in
    let d : size * length xs ≤ size * most = grind arith in
    omega (arith, a, b, c, d)

context_count : (n : ℕ) → IsTrue (is_context_count n) → n ≤ 64
context_count n h = grind (arith, nat_tests)

page_count : (n : ℕ) → IsTrue (is_page_count n) → n ≤ 2048
page_count n h = grind (arith, nat_tests)

thread_in_long : (tids : List ℕ) (front : List ThreadImage) (t : ThreadImage) → IsThreadImage tids front t → length (process.thread_text t) ≤ 9000
unfolding process.thread_text
thread_in_long tids front t is =
    let contexts = listed_long process.context_text 132 64 t.part.contexts (each_of_all (λ (c : Context). IsRegisters c.regs.x) (λ c. length (process.context_text c) ≤ 132) t.part.contexts context_long is.contexts) (context_count (length t.part.contexts) is.context_count) in
    let joined = len6 (number_text n32 t.tid) (process.registers_text t.part.regs.x) (number_text n32 t.part.regs.pc) (number_text n32 t.part.mask) (number_text n32 t.part.clear_tid) (process.list_text process.context_text t.part.contexts) in
    omega (arith, joined, contexts, four t.tid, registers_long t.part.regs.x is.registers, four t.part.regs.pc, four t.part.mask, four t.part.clear_tid)

thread_count : (tids : List ℕ) (n : ℕ) → IsTrue (is_count_of_threads tids n) → n ≤ 64
thread_count tids n h = grind (arith, nat_tests)

pub process_short : (pid : Option ℕ) (tids : List ℕ) (p : ProcImage) → ImageFields pid tids p → length (process.process_text p) < 2 ^ 64
unfolding process.process_text
process_short pid tids p fits =
    let pages = listed_long process.page_text 4101 2048 p.pages (all_from (IsPage p.break_start p.break_end) (λ q. length (process.page_text q) ≤ 4101) (page_long p.break_start p.break_end) [] p.pages fits.pages) (page_count (length p.pages) fits.page_count) in
    let actions = len_flat process.action_text 12 p.actions (every (λ x. length (process.action_text x) ≤ 12) action_long p.actions) in
    let rows = fits.actions in
    let few = waiter_count-below pid tids p fits in
    let waiters = listed_long process.waiter_text 8 (2 ^ 32) p.waiters (every (λ w. length (process.waiter_text w) ≤ 8) waiter_long p.waiters) (omega (arith, few)) in
    let threads = listed_long process.thread_text 9000 64 p.threads (all_from (IsThreadImage tids) (λ t. length (process.thread_text t) ≤ 9000) (thread_in_long tids) [] p.threads fits.threads) (thread_count tids (length p.threads) fits.thread_count) in
    joined PROCESS_MAGIC (number_text n32 p.pid.0) (number_text n32 p.break_start) (number_text n32 p.break_end) (process.list_text process.page_text p.pages) (flat_map process.action_text p.actions) (process.list_text process.waiter_text p.waiters) (process.list_text process.thread_text p.threads)
    refl (four p.pid.0) (four p.break_start) (four p.break_end) pages (omega (arith, actions, rows)) waiters threads
  where
    joined : (a b c d e f g h : List ℕ) → length a ≡ 8 → length b ≡ 4 → length c ≡ 4 → length d ≡ 4 → length e ≤ 4 + 4101 * 2048 → length f ≤ 372 → length g ≤ 4 + 8 * 2 ^ 32 → length h ≤ 4 + 9000 * 64
        → length (a ++ b ++ c ++ d ++ e ++ f ++ g ++ h) < 2 ^ 64
    joined a b c d e f g h la lb lc ld le lf lg lh = omega (arith, len8 a b c d e f g h, la, lb, lc, ld, le, lf, lg, lh)
