-- The kernel part stays whole where a description has another object of the same shape, other flags or another owner, and where the bytes of a file are others.
--     whole_described      another description in the place of one      whole_object, whole_offset      another object, another offset of an open file
--     whole_bytes          other bytes of a file, within the sum        whole_rewritten, whole_emptied      where there is room, none at all
use Rattle.std.proofs.Common.{◌≡◌, ℕ, ◌+◌, ◌^◌, ◌<◌, ◌≤◌, ◌%◌, true, List, [], length, refl, sym, ap, subst, ◌∙◌, arith}
use Rattle.std.specs.Prelude.{sum_by, Some, is_some, All}
use Rattle.std.specs.Cmp.{nat_cmp_total}
use Rattle.std.specs.FinMap as map
use Rattle.std.proofs.lemmas.List.Elements.{All-nil}
use Rattle.plain_tables.specs.OfSysAbi.declared.identity.Slot.{Slot}
use Rattle.plain_tables.specs.OfSysAbi.declared.identity.DescId.{DescId}
use Rattle.plain_tables.specs.OfPlainProcess.Valid.{IsByte}
use Rattle.plain_machine.specs.declared.kernel.PlainKernel.{PlainKernel}
use Rattle.plain_tables.specs.OfSysAbi.declared.descriptor.Descriptor.{Descriptor}
use Rattle.plain_tables.specs.declared.description.Description.{Description}
use Rattle.plain_tables.specs.declared.description.Object.{Object}
use Rattle.plain_tables.specs.declared.description.Object.TheVariants.{File}
use Rattle.plain_tables.specs.Tables.{Names, Files, Descriptions}
use Rattle.plain_tables.specs.Objects.{is_kept}
use Rattle.plain_tables.specs.Valid.Files.{AreFiles, AreOpenFiles, IsOpenFile}
use Rattle.plain_tables.specs.Valid.Descriptions.{AreFlags, IsOwner}
use Rattle.plain_tables.specs.Valid.Datagrams.{IsCounter}
use Rattle.plain_machine.specs.Kernel.{Held, with_description, with_object}
use Rattle.plain_machine.specs.FileLaws.{shape}
use Rattle.plain_machine.specs.Kernels.{IsKernel}
use Rattle.plain_machine.specs.Rows.Files.{with_file_bytes}
use Rattle.plain_tables.proofs.Entries.{each_with, there_with, found_at, as_many}
use Rattle.plain_tables.proofs.FileSums.{sum_replaced}
use Rattle.plain_machine.proofs.LikeObjects.{like_open_files, like_described, like_descriptions, like_holders, like_made, like_streams, like_listeners, like_addresses, like_hosts, like_inboxes, like_counters}

-- another description in the place of one, of the same shape and access mode
pub whole_described : (k : PlainKernel) (d : DescId) (x y : Description) → IsKernel k → map.get k.descriptions d ≡ Some x → shape y.object ≡ shape x.object → y.flags % 4 ≡ x.flags % 4
    → AreFlags y.flags → IsOpenFile k.files y.object → IsCounter y.object
    → ((a : Slot) (z : Descriptor) → map.get k.descriptors a ≡ Some z → z.desc ≡ d → IsOwner k.processes k.makers a.pid y.owner) → IsKernel (with_description k d y)
whole_described k d x y is known like mode sound opened counts owned = record {
  numbers = is.numbers;
  processes = is.processes;
  makers = is.makers;
  parents = is.parents;
  files = is.files;
  open_files = like_open_files k.descriptions d x y known like mode k.names k.files opened is.open_files;
  descriptors = like_described k.descriptions d x y known like mode k.processes k.descriptors is.descriptors;
  descriptions = like_descriptions k.descriptions d x y known like mode k.descriptors sound is.descriptions;
  holders = like_holders k.descriptions d x y known like mode k.processes k.makers k.descriptors owned is.holders;
  made = like_made k.descriptions d x y known like mode k.next_id k.processes k.makers k.channels is.made;
  channels = is.channels;
  streams = like_streams k.descriptions d x y known like mode k.listeners k.channels is.streams;
  listeners = like_listeners k.descriptions d x y known like mode k.listeners k.channels is.listeners;
  addresses = like_addresses k.descriptions d x y known like mode is.addresses;
  hosts = like_hosts k.descriptions d x y known like mode k.makers k.descriptors k.listeners k.channels is.hosts;
  inboxes = like_inboxes k.descriptions d x y known like mode k.inboxes is.inboxes;
  counters = like_counters k.descriptions d x y known like mode counts is.counters;
}

-- those that hold a description may go on being owned as they are
pub owned_still : (k : PlainKernel) (d : DescId) (x : Description) → IsKernel k → map.get k.descriptions d ≡ Some x
    → (a : Slot) (z : Descriptor) → map.get k.descriptors a ≡ Some z → z.desc ≡ d → IsOwner k.processes k.makers a.pid x.owner
owned_still k d x is known a z found here = is.holders.owner a z x found (ap (map.get k.descriptions) here ∙ known)

-- another object of the same shape: a file at another offset, a counter of another value
pub whole_object : (k : PlainKernel) (h : Held) (object : Object) → IsKernel k → map.get k.descriptions h.desc ≡ Some h.description → shape object ≡ shape h.description.object
    → IsOpenFile k.files object → IsCounter object → IsKernel (with_object k h object)
whole_object k h object is known like opened counts =
    whole_described k h.desc h.description (record h.description { object = object }) is known like refl (is.descriptions.flags h.desc h.description known) opened counts
    (owned_still k h.desc h.description is known)

pub whole_offset : (k : PlainKernel) (h : Held) (number at place : ℕ) → IsKernel k → map.get k.descriptions h.desc ≡ Some h.description → h.description.object ≡ File number at → place < 2 ^ 32
    → IsKernel (with_object k h (File number place))
whole_offset k h number at place is known object fits =
    let opened : IsOpenFile k.files (File number at) = subst (IsOpenFile k.files) object (is.open_files.there h.desc h.description known) in
    whole_object k h (File number place) is known (ap shape (sym object)) (opened.0, fits) tt

-- other bytes of a file that is there
module _ (names : Names) (files : Files) (number : ℕ) (bytes : List ℕ) (there : is_some (map.get files number) ≡ true) where
  number_fits : (next_file : ℕ) → AreFiles next_file names files → (1 ≤ number) × (number < next_file)
  number_fits next_file is = is.numbers number (known_bytes.0) (known_bytes.1)
    where
      known_bytes : (old : List ℕ) × (map.get files number ≡ Some old)
      known_bytes = found_at nat_cmp_total map.nat_cmp-IsAntisymmetric files number there

  files_with_bytes : (next_file : ℕ) → All IsByte bytes → sum_by length (map.values (map.insert files number bytes)) ≤ 67108864 → AreFiles next_file names files → AreFiles next_file names (map.insert files number bytes)
  files_with_bytes next_file are fits is = record {
    count = let same = as_many nat_cmp_total map.nat_cmp-IsAntisymmetric files number bytes there in let few = is.count in omega arith;
    total = fits;
    numbers = each_with nat_cmp_total map.nat_cmp-IsAntisymmetric (λ n b. (1 ≤ n) × (n < next_file)) files number bytes (number_fits next_file is) (λ n b other found. is.numbers n b found);
    bytes = each_with nat_cmp_total map.nat_cmp-IsAntisymmetric (λ n b. All IsByte b) files number bytes are (λ n b other found. is.bytes n b found);
    named = λ name n found. let was = is.named name n found in (was.0, there_with nat_cmp_total map.nat_cmp-IsAntisymmetric files number bytes n was.1);
    one_name = is.one_name;
  }

  opened_still : (object : Object) → IsOpenFile files object → IsOpenFile (map.insert files number bytes) object
  opened_still (File n offset) is = (there_with nat_cmp_total map.nat_cmp-IsAntisymmetric files number bytes n is.0, is.1)
  opened_still _ is = tt

  open_with_bytes : (descriptions : Descriptions) → AreOpenFiles names files descriptions → AreOpenFiles names (map.insert files number bytes) descriptions
  open_with_bytes descriptions is = record {
    there = λ d x found. opened_still x.object (is.there d x found);
    kept = each_with nat_cmp_total map.nat_cmp-IsAntisymmetric (λ n b. is_kept names descriptions n ≡ true) files number bytes
        (let old = found_at nat_cmp_total map.nat_cmp-IsAntisymmetric files number there in is.kept number old.0 old.1) (λ n b other found. is.kept n b found);
  }

pub whole_bytes : (k : PlainKernel) (number : ℕ) (bytes : List ℕ) → IsKernel k → is_some (map.get k.files number) ≡ true → All IsByte bytes
    → sum_by length (map.values (map.insert k.files number bytes)) ≤ 67108864 → IsKernel (with_file_bytes k number bytes)
whole_bytes k number bytes is there are fits = record {
  numbers = is.numbers;
  processes = is.processes;
  makers = is.makers;
  parents = is.parents;
  files = files_with_bytes k.names k.files number bytes there k.next_file are fits is.files;
  open_files = open_with_bytes k.names k.files number bytes there k.descriptions is.open_files;
  descriptors = is.descriptors;
  descriptions = is.descriptions;
  holders = is.holders;
  made = is.made;
  channels = is.channels;
  streams = is.streams;
  listeners = is.listeners;
  addresses = is.addresses;
  hosts = is.hosts;
  inboxes = is.inboxes;
  counters = is.counters;
}

-- the same where all files together have room for them
pub whole_rewritten : (k : PlainKernel) (number : ℕ) (old bytes : List ℕ) → IsKernel k → map.get k.files number ≡ Some old → All IsByte bytes
    → sum_by length (map.values k.files) + length bytes ≤ 67108864 + length old → IsKernel (with_file_bytes k number bytes)
whole_rewritten k number old bytes is known are fits =
    whole_bytes k number bytes is (ap is_some known) are (let sum = sum_replaced k.files number old bytes known in omega (arith, sum))

pub whole_emptied : (k : PlainKernel) (number : ℕ) → IsKernel k → is_some (map.get k.files number) ≡ true → IsKernel (with_file_bytes k number [])
whole_emptied k number is there =
    let old = found_at nat_cmp_total map.nat_cmp-IsAntisymmetric k.files number there in
    whole_rewritten k number old.0 [] is old.1 (All-nil IsByte) (let few = is.files.total in omega arith)
