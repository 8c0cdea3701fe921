-- The listeners at the virtual addresses of descriptions, as a kernel part has them.
-- Source: `man 2 listen`, `man 2 accept`.
--     listening_at listeners addresses a       what listens at the port of a virtual address
--     with_object, with_descriptions           and that of this object, if it is one that listens, or of these
--                                              descriptions
use Rattle.std.specs.Prelude.{List, [], ◌∷◌, take, Option, option_map, option_and_then}
use Rattle.std.specs.Option.{option_map_or}
use Rattle.std.specs.FinMap as map
use Rattle.sys_abi.specs.declared.identity.VirtAddr.{VirtAddr}
use Rattle.sys_abi.specs.declared.identity.RealAddr.{RealAddr}
use Rattle.plain_tables.specs.declared.channel.Listening.{Listening}
use Rattle.plain_tables.specs.declared.description.Description.{Description}
use Rattle.plain_tables.specs.declared.description.Object.{Object}
use Rattle.plain_tables.specs.declared.description.Object.TheVariants as object
use Rattle.plain_tables.specs.Tables as plain
use Rattle.wire_channels.specs.declared.listener.Listener.{Listener}
use Rattle.wire_channels.specs.Listeners.{Listeners}
use Rattle.host_tables.specs.Descriptions.{Addresses}

-- no more connections wait than the backlog has places
abbrev pub listening_of : Listener → Listening
listening_of listener = record {
  backlog = listener.backlog;
  queue = take listener.backlog listener.queue;
}

abbrev pub found_at : Listeners → RealAddr → Option Listening
found_at listeners at = option_map listening_of (map.get listeners at)

abbrev pub listening_at : Listeners → Addresses → VirtAddr → Option Listening
listening_at listeners addresses a = option_and_then (found_at listeners) (map.get addresses a)

abbrev pub with_listener : Listeners → Addresses → plain.Listeners → VirtAddr → plain.Listeners
with_listener listeners addresses seen a =
    option_map_or (λ (x : Listening). map.insert seen a x) (listening_at listeners addresses a) seen

abbrev pub with_object : Listeners → Addresses → plain.Listeners → Object → plain.Listeners
with_object listeners addresses seen (object.Listener a) = with_listener listeners addresses seen a
with_object listeners addresses seen _ = seen

unfoldable pub with_descriptions : Listeners → Addresses → plain.Listeners → List Description
    → plain.Listeners
with_descriptions listeners addresses seen [] = seen
with_descriptions listeners addresses seen (x ∷ rest) =
    with_descriptions listeners addresses (with_object listeners addresses seen x.object) rest
