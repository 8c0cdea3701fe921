-- A valid kernel part in which no datagram end and no event counter is open, and where all bytes have arrived, has an
-- image: what is made of its entries.
--     few_descriptions      no kernel part has more descriptions than a count can tell
--     kernel_has_image      the law
use Rattle.std.proofs.Common.{◌≡◌, ◌*◌, ◌<◌, ◌≤◌, ◌^◌, ◌&&◌, true, List, [], ◌∷◌, length, map as each, refl, sym, ap, subst, ◌∙◌, arith}
use Rattle.std.specs.Prelude.{Option, Some, None, is_some, nat_le, option_map}
use Rattle.std.specs.List.{AllByRecursion, flat_map, cons_option}
use Rattle.std.specs.Cmp.{nat_cmp_total}
use Rattle.std.specs.FinMap as map
use Rattle.std.specs.FinMap.{nat_cmp-IsAntisymmetric}
use Rattle.std.proofs.lemmas.List.{length-map}
use Rattle.views.proofs.MapValues.{EachEntry}
use Rattle.sys_abi.specs.declared.identity.Slot.{Slot}
use Rattle.sys_abi.specs.declared.identity.DescId.{DescId}
use Rattle.sys_abi.specs.Orders.{desc_cmp}
use Rattle.sys_abi.proofs.OrderLaws.{vpid_total, vpid_exact, slot_total, slot_exact, desc_total, desc_exact, conn_total, conn_exact}
use Rattle.plain_machine.specs.declared.kernel.PlainKernel.{PlainKernel}
use Rattle.plain_machine.specs.Kernels.{IsKernel}
use Rattle.sys_abi.specs.declared.descriptor.Descriptor.{Descriptor}
use Rattle.plain_tables.specs.declared.description.Description.{Description}
use Rattle.shared_items.specs.declared.shared.FileImage.{FileImage}
use Rattle.shared_items.specs.declared.shared.ChannelImage.{ChannelImage}
use Rattle.shared_items.specs.declared.shared.DescriptionImage.{DescriptionImage}
use Rattle.shared_items.specs.declared.shared.ProcessEntry.{ProcessEntry}
use Rattle.shared_items.specs.SharedFormat.{VERSION}
use Rattle.shared_items.specs.SharedFits.{IsShared, FileFits, ChannelFits, DescriptionFits, ProcessFits}
use Rattle.shared_items.specs.WholeShared.{is_whole_shared}
use Rattle.image_format.specs.Texts.{EachFrom}
use Rattle.image_format.proofs.Rising.{all_from}
use Rattle.image_codec.specs.KernelParts.{descriptor_entries, descriptor_entry}
use Rattle.image_codec.specs.KernelImages.{shared_of, process_image, description_image, file_image, names_by_number, channel_image, KernelHasImage}
use Rattle.image_codec.proofs.FittingChannels.{channel_count_fits, channel_fits}
use Rattle.image_codec.proofs.FittingDescriptions.{description_fits}
use Rattle.image_codec.proofs.FittingFiles.{file_count_fits, file_fits}
use Rattle.image_codec.proofs.FittingProcesses.{process_fits}
use Rattle.image_codec.proofs.HeldImages.{holder_of, process_images, all_rightly_held, all_near_parents}
use Rattle.image_codec.proofs.KeptImages.{all_kept, all_rightly_named}
use Rattle.image_codec.proofs.KernelBack.{kernel_comes_back}
use Rattle.image_codec.proofs.Listings.{each_split, len_made, len_flat}
use Rattle.image_codec.proofs.MadeMaps.{flat_map_back, there_at}
use Rattle.image_codec.proofs.ProcessesBack.{descriptors_back}
use Rattle.image_codec.proofs.TestFacts.{and_true, both_true, is_below, is_at_most, at_most}

-- an entry for each descriptor, of the description to which it refers
module _ (k : PlainKernel) (is : IsKernel k) where
  described : Slot × Descriptor → List (DescId × Description)
  described e = cons_option (option_map (λ (x : Description). let entry : DescId × Description = (e.1.desc, x) in entry) (map.get k.descriptions e.1.desc)) []

  one_each : (es : List (Slot × Descriptor)) → AllByRecursion (λ e. length (described e) ≤ 1) es
  unfolding described
  one_each [] = tt
  one_each (e ∷ es) = (by_found (map.get k.descriptions e.1.desc), one_each es)
    where
      by_found : (found : Option Description) → length (cons_option (option_map (λ (x : Description). let entry : DescId × Description = (e.1.desc, x) in entry) found) []) ≤ 1
      by_found None = omega arith
      by_found (Some x) = omega arith

  described_back : map.from_entries (flat_map described (map.entries k.descriptors)) ≡ k.descriptions
  unfolding described
  described_back = flat_map_back desc_total desc_exact slot_total slot_exact k.descriptions k.descriptors described
      (λ at y there. are at y (map.get k.descriptions y.desc) refl)
      (λ d x there.
      let (at, y, found, refers) = holder_of k is d x there in
      let known : map.get k.descriptions y.desc ≡ Some x = ap (map.get k.descriptions) refers ∙ there in (
        at,
        y,
        found,
        subst (λ o. is_some (map.find desc_cmp d (cons_option (option_map (λ (z : Description). let entry : DescId × Description = (y.desc, z) in entry) o) [])) ≡ true) (sym known)
            (subst (λ q. is_some (map.find desc_cmp d ((q, x) ∷ [])) ≡ true) (sym refers) (there_at desc_total desc_exact d x [])),
      ))
    where
      are : (at : Slot) (y : Descriptor) (found : Option Description) → map.get k.descriptions y.desc ≡ found
          → EachEntry (λ q v. map.get k.descriptions q ≡ Some v) (cons_option (option_map (λ (x : Description). let entry : DescId × Description = (y.desc, x) in entry) found) [])
      are at y None known = tt
      are at y (Some x) known = (known, tt)

  pub no_more_descriptions : map.len k.descriptions ≤ length (map.entries k.descriptors)
  no_more_descriptions =
      let made = len_made desc_total desc_exact (flat_map described (map.entries k.descriptors)) in
      let listed = len_flat described 1 (map.entries k.descriptors) (one_each (map.entries k.descriptors)) in
      let same = ap map.len described_back in
      omega arith

  -- at most 256 descriptors a process
  few_descriptors : AllByRecursion (λ (e : ProcessEntry). length (descriptor_entries e) ≤ 256) (each (process_image k) (map.entries k.processes)) → map.len k.descriptors ≤ 256 * map.len k.processes
  few_descriptors few =
      let made = len_made slot_total slot_exact (flat_map descriptor_entries (each (process_image k) (map.entries k.processes))) in
      let listed = len_flat descriptor_entries 256 (each (process_image k) (map.entries k.processes)) few in
      let same = ap map.len (descriptors_back k is) in
      let images : length (each (process_image k) (map.entries k.processes)) ≡ map.len k.processes = length-map (map.entries k.processes) (process_image k) ∙ sym (map.len-entries k.processes) in
      omega arith

  abbrev files : List FileImage
  files = each (file_image (names_by_number k.names)) (map.entries k.files)

  abbrev channels : List ChannelImage
  channels = each (channel_image k.directions) (map.entries k.channels)

  abbrev descriptions : List DescriptionImage
  descriptions = each (description_image k.listeners) (map.entries k.descriptions)

  abbrev processes : List ProcessEntry
  processes = each (process_image k) (map.entries k.processes)

  files_fit : EachFrom (FileFits k.next_file) [] files
  files_fit = each_split nat_cmp_total nat_cmp-IsAntisymmetric (file_image (names_by_number k.names)) k.files (FileFits k.next_file) (λ xs e split. file_fits k is e.0 e.1 xs split)

  channels_fit : EachFrom (ChannelFits k.next_id) [] channels
  channels_fit = each_split conn_total conn_exact (channel_image k.directions) k.channels (ChannelFits k.next_id) (λ xs e split. channel_fits k is e.0 e.1 xs split)

  descriptions_fit : EachFrom (DescriptionFits VERSION k.next_id files channels) [] descriptions
  descriptions_fit = each_split desc_total desc_exact (description_image k.listeners) k.descriptions (DescriptionFits VERSION k.next_id files channels) (description_fits k is)

  processes_fit : EachFrom (ProcessFits k.next_id channels descriptions) [] processes
  processes_fit = each_split vpid_total vpid_exact (process_image k) k.processes (ProcessFits k.next_id channels descriptions) (λ xs e split. process_fits k is e.0 e.1 xs split)

  -- how many there are
  process_count : length processes ≤ 128
  process_count =
      let few : map.len k.processes ≤ 128 = is.processes.count in
      let listed = length-map (map.entries k.processes) (process_image k) in
      let all = map.len-entries k.processes in
      omega (arith, few, listed, all)

  few_each : AllByRecursion (λ (e : ProcessEntry). length (descriptor_entries e) ≤ 256) processes
  few_each = all_from (ProcessFits k.next_id channels descriptions) (λ e. length (descriptor_entries e) ≤ 256) (λ front e fits.
      let few = at_most (length e.descriptors) 256 (and_true (nat_le (length e.descriptors) 256) _ fits.descriptor_count.1).0 in
      let same = length-map e.descriptors (descriptor_entry e.pid) in
      omega (arith, few, same)) [] processes processes_fit

  few_descriptions : length descriptions < 2 ^ 32
  few_descriptions =
      let listed = length-map (map.entries k.descriptions) (description_image k.listeners) in
      let all = map.len-entries k.descriptions in
      let slots = map.len-entries k.descriptors in
      let few = few_descriptors few_each in
      let less = no_more_descriptions in
      let most : map.len k.processes ≤ 128 = is.processes.count in
      omega arith

  is_shared : IsShared (shared_of k)
  unfolding shared_of is_whole_shared process_images
  is_shared =
      let ids : k.next_id < 2 ^ 31 = is.numbers.last_id in
      let last : k.next_file < 2 ^ 32 = is.numbers.last_file in
      let count = process_count in
      let kept = all_kept k is in
      let named = all_rightly_named k is in
      let held = all_rightly_held k is in
      let near = all_near_parents k is in
      record {
        fields = record {
          next_id = (omega (arith, ids), both_true (nat_le 40000 k.next_id) _ (is_at_most 40000 k.next_id is.numbers.first_id) (is_below k.next_id (2 ^ 31) ids));
          next_file = (last, is_at_most 1 k.next_file is.numbers.first_file);
          file_count = file_count_fits k is;
          files = files_fit;
          channel_count = channel_count_fits k is;
          channels = channels_fit;
          description_count = (few_descriptions, refl);
          descriptions = descriptions_fit;
          process_count = (omega (arith, count), is_at_most (length processes) 128 count);
          processes = processes_fit;
        };
        whole = λ i. kept i && named i && held i && near i;
      }

pub kernel_has_image : KernelHasImage
kernel_has_image k is supported arrived = record { spelled = is_shared k is; kernel = kernel_comes_back k is supported arrived }
