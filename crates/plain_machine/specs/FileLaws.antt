-- What each word of change on descriptors, open files and names keeps, and what it needs for that: the
-- contract of `file_laws`.
--     shape object      what all tables but the files see of an object
use Rattle.std.specs.Prelude.{◌≡◌, ℕ, ◌+◌, ◌%◌, ◌^◌, ◌<◌, ◌≤◌, Bool, true, List, length, sum_by, Some, None, All}
use Rattle.std.specs.FinMap as map
use Rattle.plain_tables.specs.OfViews.Limits.{ALL_FILES_LIMIT, DESCRIPTOR_LIMIT}
use Rattle.plain_tables.specs.OfSysAbi.declared.identity.VPid.{VPid}
use Rattle.plain_tables.specs.OfSysAbi.declared.identity.Slot.{Slot}
use Rattle.plain_tables.specs.OfSysAbi.declared.identity.DescId.{DescId}
use Rattle.plain_tables.specs.OfPlainProcess.Valid.{IsByte}
use Rattle.plain_machine.specs.declared.kernel.PlainKernel.{PlainKernel}
use Rattle.plain_tables.specs.OfSysAbi.declared.descriptor.Descriptor.{Descriptor}
use Rattle.plain_tables.specs.declared.description.Description.{Description}
use Rattle.plain_tables.specs.declared.description.Object.{Object}
use Rattle.plain_tables.specs.declared.description.Object.TheVariants.{File, Counter}
use Rattle.plain_tables.specs.Tables.{slot}
use Rattle.plain_tables.specs.Valid.Files.{IsOpenFile}
use Rattle.plain_tables.specs.Valid.Descriptions.{AreFlags, IsOwner}
use Rattle.plain_tables.specs.Valid.Datagrams.{IsCounter}
use Rattle.plain_machine.specs.Kernel.{Held, is_live, has_numbers, made_of, numbered, placed, with_descriptor, with_description, with_object}
use Rattle.plain_machine.specs.Kernels.{IsKernel}
use Rattle.plain_machine.specs.KernelLaws.{IsAlone, MayBePlaced}
use Rattle.plain_machine.specs.Rows.Files.{without_name, with_file_bytes}

-- a file's offset and a counter's value are seen by nobody else
abbrev pub shape : Object → Object
shape (File number offset) = File number 0
shape (Counter value) = Counter 0
shape object = object

-- a description that a process makes, with its running number
abbrev pub MadeKeeps : Type 0
MadeKeeps = (k : PlainKernel) (p : VPid) (fd : ℕ) (cloexec : Bool) (object : Object) (flags : ℕ) → IsKernel k
    → is_live k p ≡ true → has_numbers k p ≡ true → fd < DESCRIPTOR_LIMIT → map.get k.descriptors (slot p fd) ≡ None
    → AreFlags flags → IsAlone object → MayBePlaced k.files k.channels k.makers p object
    → IsKernel
    (placed (numbered k p 1) p fd (record { pid = p; num = made_of k p }) cloexec object flags)

-- another descriptor of the same description in the place of one
abbrev pub MarkKeeps : Type 0
MarkKeeps = (k : PlainKernel) (p : VPid) (fd : ℕ) (old new : Descriptor) → IsKernel k
    → map.get k.descriptors (slot p fd) ≡ Some old → new.desc ≡ old.desc
    → IsKernel (with_descriptor k p fd new)

-- who may own a description
abbrev pub MayOwn : PlainKernel → DescId → ℕ → Type 0
MayOwn k d owner = (a : Slot) (z : Descriptor) → map.get k.descriptors a ≡ Some z → z.desc ≡ d
    → IsOwner k.processes k.makers a.pid owner

-- another description in the place of one, of the same shape and access mode
abbrev pub DescriptionKeeps : Type 0
DescriptionKeeps = (k : PlainKernel) (d : DescId) (x y : Description) → IsKernel k
    → map.get k.descriptions d ≡ Some x → shape y.object ≡ shape x.object → y.flags % 4 ≡ x.flags % 4
    → AreFlags y.flags → IsOpenFile k.files y.object → IsCounter y.object → MayOwn k d y.owner
    → IsKernel (with_description k d y)

-- another object of the same shape
abbrev pub ObjectKeeps : Type 0
ObjectKeeps = (k : PlainKernel) (h : Held) (object : Object) → IsKernel k
    → map.get k.descriptions h.desc ≡ Some h.description → shape object ≡ shape h.description.object
    → IsOpenFile k.files object → IsCounter object → IsKernel (with_object k h object)

-- other bytes of a file, for which there is room
abbrev pub BytesKeep : Type 0
BytesKeep = (k : PlainKernel) (number : ℕ) (old bytes : List ℕ) → IsKernel k
    → map.get k.files number ≡ Some old → All IsByte bytes
    → sum_by length (map.values k.files) + length bytes ≤ ALL_FILES_LIMIT + length old
    → IsKernel (with_file_bytes k number bytes)

-- a file loses its name
abbrev pub UnlinkKeeps : Type 0
UnlinkKeeps = (k : PlainKernel) (name : List ℕ) (number : ℕ) → IsKernel k
    → map.get k.names name ≡ Some number → IsKernel (without_name k name number)
