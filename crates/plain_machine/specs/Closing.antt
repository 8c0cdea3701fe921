-- A descriptor closes: the last one of a description takes with it what the description stands for.
-- Source: `man 2 close`.
use Rattle.std.specs.Prelude.{ℕ, Option, Some, None, if◌then◌else◌}
use Rattle.std.specs.FinMap as map
use Rattle.plain_tables.specs.OfSysAbi.declared.identity.VPid.{VPid}
use Rattle.plain_tables.specs.OfSysAbi.declared.identity.Slot.{Slot}
use Rattle.plain_tables.specs.OfSysAbi.declared.identity.DescId.{DescId}
use Rattle.plain_machine.specs.declared.kernel.PlainKernel.{PlainKernel}
use Rattle.plain_tables.specs.OfSysAbi.declared.descriptor.Descriptor.{Descriptor}
use Rattle.plain_tables.specs.declared.description.Description.{Description}
use Rattle.plain_tables.specs.declared.description.Object.{Object}
use Rattle.plain_tables.specs.declared.description.Object.TheVariants.{Console, File, Stream, Socket, Listener, Datagram, Counter}
use Rattle.plain_tables.specs.Tables.{slot, is_held}
use Rattle.plain_tables.specs.Closing.{without_unkept}
use Rattle.plain_machine.specs.Channels.{close_side, close_listener}

-- what goes with a description that is gone
abbrev pub let_go : PlainKernel → DescId → Object → PlainKernel
let_go k d Console = k
let_go k d (File number offset) = record k { files = without_unkept k.names k.descriptions k.files number }
let_go k d (Stream conn side) = close_side k conn side
let_go k d (Socket address) = k
let_go k d (Listener address) = close_listener k address
let_go k d (Datagram peer) = record k { inboxes = map.remove k.inboxes d }
let_go k d (Counter value) = k

abbrev pub without_description : PlainKernel → DescId → PlainKernel
without_description k d = record k { descriptions = map.remove k.descriptions d }

abbrev pub released_by : PlainKernel → DescId → Option Description → PlainKernel
released_by k d None = k
released_by k d (Some description) = let_go (without_description k d) d description.object

-- a description is gone where no descriptor refers to it
unfoldable pub released : PlainKernel → DescId → PlainKernel
released k d = if is_held k.descriptors d then k else released_by k d (map.get k.descriptions d)

abbrev pub without_descriptor : PlainKernel → Slot → PlainKernel
without_descriptor k at = record k { descriptors = map.remove k.descriptors at }

abbrev pub closed_by : PlainKernel → Slot → Option Descriptor → PlainKernel
closed_by k at None = k
closed_by k at (Some descriptor) = released (without_descriptor k at) descriptor.desc

unfoldable pub close_fd : PlainKernel → VPid → ℕ → PlainKernel
close_fd k p fd = closed_by k (slot p fd) (map.get k.descriptors (slot p fd))
