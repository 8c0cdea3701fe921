-- The format of the shared image and its text say the same, and what a reading of it tells
use Rattle.std.proofs.Common.{◌≡◌, ◌==◌, ◌&&◌, ℕ, ◌<◌, ◌⊎◌, Bool, true, false, cond, IsTrue, List, [], ◌++◌, length, Ok, Err, refl, sym, ap, subst, ◌∙◌, append_assoc, append-nil, arith, lit<}
use Rattle.std.specs.Prelude.{All, nat_le}
use Rattle.std.specs.List.{flat_map}
use Rattle.std.proofs.lemmas.Bool.Decides.{nat_tests}
use Rattle.std.proofs.lemmas.Slice.Eq.{bytes_eq-Decides}
use Rattle.sys_abi.specs.declared.life.Life.{Life}
use Rattle.sys_abi.specs.declared.life.Life.TheVariants.{Live, Zombie}
use Rattle.shared_items.specs.declared.shared.FileImage.{FileImage}
use Rattle.shared_items.specs.declared.shared.ChannelImage.{ChannelImage}
use Rattle.shared_items.specs.declared.shared.ObjectImage.{ObjectImage}
use Rattle.shared_items.specs.declared.shared.ObjectImage.TheVariants.{Console, File, Stream, Socket, Listener}
use Rattle.shared_items.specs.declared.shared.DescriptionImage.{DescriptionImage}
use Rattle.shared_items.specs.declared.shared.ThreadEntry.{ThreadEntry}
use Rattle.shared_items.specs.declared.shared.DescriptorEntry.{DescriptorEntry}
use Rattle.shared_items.specs.declared.shared.ProcessEntry.{ProcessEntry}
use Rattle.shared_items.specs.declared.shared.Shared.{Shared}
use Rattle.image_format.specs.Fields.{is_bytes}
use Rattle.image_format.specs.Files.{FileLaws}
use Rattle.image_format.specs.Format.{FormatOf, n8, n32, any, number_text, counted, each, Spells, SpellsFile}
use Rattle.image_format.specs.Reading.{read}
use Rattle.image_format.specs.Texts.{FitsField}
use Rattle.shared_items.specs.SharedTests as field
use Rattle.shared_items.specs.WholeShared.{is_whole_shared}
use Rattle.shared_items.specs.SharedFits.{IsShared, SharedFits, FileFits, ChannelFits, DescriptionFits, ObjectFits, ThreadFits, DescriptorFits, LifeFits, ProcessFits, flag, state_of, status_of}
use Rattle.shared_items.specs.SharedTexts.{IsSharedText, HasCounts, HasFileCounts, HasSideCounts, HasQueueCount, file_text, channel_text, description_text, thread_text, descriptor_text, life_text, process_text, shared_text}
use Rattle.shared_items.specs.SharedFormat as format
use Rattle.shared_items.specs.SharedFormat.{SHARED_MAGIC, VERSION, SpellsShared, DamagedShared}
use Rattle.image_format.proofs.Numerals.{AllBytes}
use Rattle.image_format.proofs.Rising.{all_items}
use Rattle.image_format.proofs.Texts.{Law, in_words, next_law, unsigned_law, raw_law, counted_law, give_law}
use Rattle.shared_items.proofs.FieldLaws.{is_zero, both_true, flag_of_number, number_of_flag, flag_fits}
use Rattle.shared_items.proofs.ItemLaws.{file_law, channel_law}
use Rattle.shared_items.proofs.ObjectLaws.{description_law}
use Rattle.image_format.proofs.WholeFiles.{spells_whole, only_value, no_value, no_value_after, laws_of}

is-magic : (bytes wanted : List ℕ) → IsTrue (is_bytes wanted bytes) → bytes ≡ wanted
is-magic bytes wanted h = (bytes_eq-Decides bytes wanted).0 h

-- processes

pub thread_law : (next_id : ℕ) (earlier : List ProcessEntry) (front : List ThreadEntry) → Law (format.thread next_id earlier front) thread_text (ThreadFits next_id earlier front)
unfolding format.thread thread_text
thread_law next_id earlier front =
    in_words _ _ _ _ _
    (λ t h. simp append-nil)
    (λ t h. let (number, (pending, is)) = h in record { number = number; pending = pending })
    (λ t h. (h.number, (h.pending, refl)))
    (next_law _ _ _ _ _ _ (λ (t : ThreadEntry). t.tid) (unsigned_law n32 _) (λ b t h o. let (pending, is) = o in sym (ap (λ (t : ThreadEntry). t.tid) is)) (λ tid.
    next_law _ _ _ _ _ _ (λ (t : ThreadEntry). t.pending) (unsigned_law n32 _) (λ b t h o. sym (ap (λ (t : ThreadEntry). t.pending) o)) (λ pending.
    give_law _)))

pub descriptor_law : (descriptions : List DescriptionImage) (front : List DescriptorEntry) → Law (format.descriptor descriptions front) descriptor_text (DescriptorFits descriptions front)
unfolding format.descriptor descriptor_text
descriptor_law descriptions front =
    in_words _ _ _ _ _
    (λ d h. simp (append_assoc, append-nil))
    (λ d h. let (number, (maker, (described, (cloexec, is)))) = h in record { number = number; maker = maker; described = described })
    (λ d h. (h.number, (h.maker, (h.described, (flag_fits d.cloexec, λ i. record d { cloexec = sym (number_of_flag d.cloexec) i })))))
    (next_law _ _ _ _ _ _ (λ (d : DescriptorEntry). d.number) (unsigned_law n32 _) (λ b d h o. let (maker, (described, (cloexec, is))) = o in sym (ap (λ (d : DescriptorEntry). d.number) is)) (λ number.
    next_law _ _ _ _ _ _ (λ (d : DescriptorEntry). d.desc.pid.0) (unsigned_law n32 _) (λ b d h o. let (described, (cloexec, is)) = o in sym (ap (λ (d : DescriptorEntry). d.desc.pid.0) is)) (λ maker.
    next_law _ _ _ _ _ _ (λ (d : DescriptorEntry). d.desc.num) (unsigned_law n32 _) (λ b d h o. let (cloexec, is) = o in sym (ap (λ (d : DescriptorEntry). d.desc.num) is)) (λ described.
    next_law _ _ _ _ _ _ (λ (d : DescriptorEntry). flag d.cloexec) (unsigned_law n8 _) (λ b d h o. sym (flag_of_number b h.1) ∙ sym (ap (λ (d : DescriptorEntry). flag d.cloexec) o)) (λ cloexec.
    give_law _)))))

life_back : (life : Life) → life ≡ format.life_of (state_of life) (status_of life)
life_back Live = refl
life_back (Zombie status) = refl

-- a state that is allowed is 0 or 1
one_of_two : (state : ℕ) → IsTrue (nat_le state 1) → (state == 0) ≡ false → state ≡ 1
one_of_two state h other = grind (arith, nat_tests)

within_states : (state : ℕ) (rest : Bool) → IsTrue (nat_le state field.LAST_STATE && rest) → IsTrue (nat_le state 1)
within_states state rest h = let below = (both_true (nat_le state field.LAST_STATE) rest h).0 in grind (arith, nat_tests)

state_is : (channels : List ChannelImage) (descriptions : List DescriptionImage) (number parent made state status : ℕ) (fate : Life)
    → IsTrue (field.is_state channels descriptions number parent made state) → fate ≡ format.life_of state status → state ≡ state_of fate
state_is channels descriptions number parent made state status fate h is =
    elim (state == 0) as (λ b. (state == 0) ≡ b → state ≡ state_of fate) [
      | true ↦ λ e. is_zero state e ∙ sym (ap state_of (is ∙ ap (λ b. cond b Live (Zombie status)) e))
      | false ↦ λ e. one_of_two state (within_states state _ h) e ∙ sym (ap state_of (is ∙ ap (λ b. cond b Live (Zombie status)) e))
    ] refl

status_is : (state status : ℕ) (fate : Life) → IsTrue (field.is_exit_status state status) → fate ≡ format.life_of state status → status ≡ status_of fate
status_is state status fate h is =
    elim (state == 0) as (λ b. (state == 0) ≡ b → status ≡ status_of fate) [
      | true ↦ λ e.
          let none : status ≡ 0 = grind (arith, nat_tests) in
          none ∙ sym (ap status_of (is ∙ ap (λ b. cond b Live (Zombie status)) e))
      | false ↦ λ e. sym (ap status_of (is ∙ ap (λ b. cond b Live (Zombie status)) e))
    ] refl

pub life_law : (channels : List ChannelImage) (descriptions : List DescriptionImage) (number parent made : ℕ)
    → Law (format.life channels descriptions number parent made) life_text (LifeFits channels descriptions number parent made)
unfolding format.life life_text
life_law channels descriptions number parent made =
    in_words _ _ _ _ _
    (λ fate h. simp append-nil)
    (λ fate h. let (state, (status, is)) = h in record { state = state; status = status })
    (λ fate h. (h.state, (h.status, life_back fate)))
    (next_law _ _ _ _ _ _ state_of (unsigned_law n8 _) (λ b fate h o. state_is channels descriptions number parent made b (status_of fate) fate h.1 o.1) (λ state.
    next_law _ _ _ _ _ _ status_of (unsigned_law n32 _) (λ b fate h o. status_is _ b fate h.1 o) (λ status.
    give_law _)))

pub process_law : (next_id : ℕ) (channels : List ChannelImage) (descriptions : List DescriptionImage) (front : List ProcessEntry) → Law (format.process next_id channels descriptions front) process_text (ProcessFits next_id channels descriptions front)
unfolding format.process process_text
process_law next_id channels descriptions front =
    in_words _ _ _ _ _
    (λ p h. simp (append_assoc, append-nil))
    (λ p h.
    let (number, (parent, (host, (made, (fate, (pending, (threads, (descriptors, is)))))))) = h in
    record {
      number = number;
      parent = parent;
      host = host;
      made = made;
      life = fate;
      pending = pending;
      thread_count = threads.0;
      threads = threads.1;
      descriptor_count = descriptors.0;
      descriptors = descriptors.1;
    })
    (λ p h. (h.number, (h.parent, (h.host, (h.made, (h.life, (h.pending, ((h.thread_count, h.threads), ((h.descriptor_count, h.descriptors), refl)))))))))
    (next_law _ _ _ _ _ _ (λ (p : ProcessEntry). p.pid.0) (unsigned_law n32 _) (λ b p h o. let (parent, (host, (made, (fate, (pending, (threads, (descriptors, is))))))) = o in sym (ap (λ (p : ProcessEntry). p.pid.0) is)) (λ number.
    next_law _ _ _ _ _ _ (λ (p : ProcessEntry). p.parent) (unsigned_law n32 _) (λ b p h o. let (host, (made, (fate, (pending, (threads, (descriptors, is)))))) = o in sym (ap (λ (p : ProcessEntry). p.parent) is)) (λ parent.
    next_law _ _ _ _ _ _ (λ (p : ProcessEntry). p.host) (unsigned_law n32 _) (λ b p h o. let (made, (fate, (pending, (threads, (descriptors, is))))) = o in sym (ap (λ (p : ProcessEntry). p.host) is)) (λ host.
    next_law _ _ _ _ _ _ (λ (p : ProcessEntry). p.made) (unsigned_law n32 _) (λ b p h o. let (fate, (pending, (threads, (descriptors, is)))) = o in sym (ap (λ (p : ProcessEntry). p.made) is)) (λ made.
    next_law _ _ _ _ _ _ (λ (p : ProcessEntry). p.life) (life_law channels descriptions number parent made) (λ b p h o. let (pending, (threads, (descriptors, is))) = o in sym (ap (λ (p : ProcessEntry). p.life) is)) (λ fate.
    next_law _ _ _ _ _ _ (λ (p : ProcessEntry). p.pending) (unsigned_law n32 _) (λ b p h o. let (threads, (descriptors, is)) = o in sym (ap (λ (p : ProcessEntry). p.pending) is)) (λ pending.
    next_law _ _ _ _ _ _ (λ (p : ProcessEntry). p.threads) (counted_law _ _ thread_text (ThreadFits next_id front) (thread_law next_id front)) (λ b p h o. let (descriptors, is) = o in sym (ap (λ (p : ProcessEntry). p.threads) is)) (λ threads.
    next_law _ _ _ _ _ _ (λ (p : ProcessEntry). p.descriptors) (counted_law _ _ descriptor_text (DescriptorFits descriptions) (descriptor_law descriptions)) (λ b p h o. sym (ap (λ (p : ProcessEntry). p.descriptors) o)) (λ descriptors.
    give_law _)))))))))

-- the whole

regrouped : (m a b c1 c2 d1 d2 e1 e2 f1 f2 : List ℕ)
    → m ++ (a ++ (b ++ ((c1 ++ c2) ++ ((d1 ++ d2) ++ ((e1 ++ e2) ++ ((f1 ++ f2) ++ [])))))) ≡ m ++ a ++ b ++ (c1 ++ c2) ++ (d1 ++ d2) ++ (e1 ++ e2) ++ (f1 ++ f2)
regrouped m a b c1 c2 d1 d2 e1 e2 f1 f2 = simp (append_assoc, append-nil)

pub shared_law : Law format.shared shared_text SharedFits
unfolding format.shared shared_text
shared_law =
    in_words _ _ _ _ _
    (λ s h.
    regrouped SHARED_MAGIC (number_text n32 s.next_id) (number_text n32 s.next_file)
    (number_text n32 (length s.files)) (flat_map file_text s.files) (number_text n32 (length s.channels)) (flat_map channel_text s.channels)
    (number_text n32 (length s.descriptions)) (flat_map description_text s.descriptions) (number_text n32 (length s.processes)) (flat_map process_text s.processes))
    (λ s h.
    let (magic, (next_id, (next_file, (files, (channels, (descriptions, (processes, is))))))) = h in
    record {
      next_id = next_id;
      next_file = next_file;
      file_count = files.0;
      files = files.1;
      channel_count = channels.0;
      channels = channels.1;
      description_count = descriptions.0;
      descriptions = descriptions.1;
      process_count = processes.0;
      processes = processes.1;
    })
    (λ s h. ((refl, refl), (h.next_id, (h.next_file, ((h.file_count, h.files), ((h.channel_count, h.channels), ((h.description_count, h.descriptions), ((h.process_count, h.processes), refl))))))))
    (next_law _ _ _ _ _ _ (λ (s : Shared). SHARED_MAGIC) (raw_law 8 (is_bytes SHARED_MAGIC)) (λ b s h o. is-magic b _ h.1) (λ _.
    next_law _ _ _ _ _ _ (λ (s : Shared). s.next_id) (unsigned_law n32 _) (λ b s h o. let (next_file, (files, (channels, (descriptions, (processes, is))))) = o in sym (ap (λ (s : Shared). s.next_id) is)) (λ next_id.
    next_law _ _ _ _ _ _ (λ (s : Shared). s.next_file) (unsigned_law n32 _) (λ b s h o. let (files, (channels, (descriptions, (processes, is)))) = o in sym (ap (λ (s : Shared). s.next_file) is)) (λ next_file.
    next_law _ _ _ _ _ _ (λ (s : Shared). s.files) (counted_law field.is_file_count (format.file next_file) file_text (FileFits next_file) (file_law next_file)) (λ b s h o. let (channels, (descriptions, (processes, is))) = o in sym (ap (λ (s : Shared). s.files) is)) (λ files.
    next_law _ _ _ _ _ _ (λ (s : Shared). s.channels) (counted_law field.is_channel_count (format.channel next_id) channel_text (ChannelFits next_id) (channel_law next_id)) (λ b s h o. let (descriptions, (processes, is)) = o in sym (ap (λ (s : Shared). s.channels) is)) (λ channels.
    next_law _ _ _ _ _ _ (λ (s : Shared). s.descriptions) (counted_law any (format.description VERSION next_id files channels) description_text (DescriptionFits VERSION next_id files channels) (description_law VERSION next_id files channels)) (λ b s h o. let (processes, is) = o in sym (ap (λ (s : Shared). s.descriptions) is)) (λ descriptions.
    next_law _ _ _ _ _ _ (λ (s : Shared). s.processes) (counted_law field.is_process_count (format.process next_id channels descriptions) process_text (ProcessFits next_id channels descriptions) (process_law next_id channels descriptions)) (λ b s h o. sym (ap (λ (s : Shared). s.processes) o)) (λ processes.
    give_law _))))))))

-- in the words of the writer

pub text_of : (text : List ℕ) (s : Shared) → SpellsShared text s → IsSharedText text s
unfolding SpellsFile
text_of text s h =
    let (text_is, fields) = shared_law.only text s h.0 in
    record { keeps = record { fields = fields; whole = h.1 }; text_is = text_is }

pub of_text : (text : List ℕ) (s : Shared) → IsSharedText text s → SpellsShared text s
unfolding SpellsFile
of_text text s h = (subst (λ (t : List ℕ). Spells format.shared t s) (sym h.text_is) (shared_law.again s h.keeps.fields), h.keeps.whole)

pub laws : FileLaws SpellsShared DamagedShared
laws = laws_of format.shared is_whole_shared shared_text SharedFits shared_law

pub found : (text : List ℕ) (s : Shared) (rest : List ℕ) → AllBytes text → read format.shared text ≡ Ok (s, rest) → rest ≡ [] → IsTrue (is_whole_shared s) → SpellsShared text s
found text s rest bytes e none whole = spells_whole format.shared is_whole_shared text s rest bytes e none whole

pub only : (text : List ℕ) (s : Shared) (rest : List ℕ) → read format.shared text ≡ Ok (s, rest) → (k : Shared) → SpellsShared text k → s ≡ k
only text s rest e k h = only_value format.shared is_whole_shared text s k rest e h

pub none_left : (text : List ℕ) (left : ℕ) → read format.shared text ≡ Err left → (k : Shared) → SpellsShared text k → ⊥
none_left text left e k h = no_value format.shared is_whole_shared text left k e h

pub none_after : (text : List ℕ) (s : Shared) (rest : List ℕ) → read format.shared text ≡ Ok (s, rest) → (0 < length rest) ⊎ (is_whole_shared s ≡ false) → (k : Shared) → SpellsShared text k → ⊥
none_after text s rest e why k h = no_value_after format.shared is_whole_shared text s rest k e why h

-- the lists of items have counts that are written

pub counts : (s : Shared) → IsShared s → All HasCounts s.processes
counts s h =
    all_items (ProcessFits s.next_id s.channels s.descriptions) HasCounts (λ front p fits. record { threads = fits.thread_count.0; descriptors = fits.descriptor_count.0 }) [] s.processes h.fields.processes

pub file_counts : (s : Shared) → IsShared s → All HasFileCounts s.files
file_counts s h =
    all_items (FileFits s.next_file) HasFileCounts (λ front f fits. record { name = fits.name_size.0; bytes = fits.size.0 }) [] s.files h.fields.files

pub side_counts : (s : Shared) → IsShared s → All HasSideCounts s.channels
side_counts s h =
    all_items (ChannelFits s.next_id) HasSideCounts (λ front c fits. record { first = fits.first.size.0; second = fits.second.size.0 }) [] s.channels h.fields.channels

queue_count : (files : List FileImage) (channels : List ChannelImage) (front : List DescriptionImage) (flags : ℕ) (object : ObjectImage)
    → ObjectFits files channels front flags object → HasQueueCount object
queue_count files channels front flags Console h = tt
queue_count files channels front flags (File number offset) h = tt
queue_count files channels front flags (Stream conn side) h = tt
queue_count files channels front flags (Socket address) h = tt
queue_count files channels front flags (Listener address backlog pending) h = h.count.0

pub queue_counts : (s : Shared) → IsShared s → All (λ (d : DescriptionImage). HasQueueCount d.object) s.descriptions
queue_counts s h =
    all_items (DescriptionFits VERSION s.next_id s.files s.channels) (λ (d : DescriptionImage). HasQueueCount d.object)
    (λ front d fits. queue_count s.files s.channels front d.flags d.object fits.what) [] s.descriptions h.fields.descriptions
