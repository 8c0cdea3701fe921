-- Open descriptions that those of a system stand for, with the owners that were noted of them.
-- Source: `man 2 open` (open descriptions), `man 2 fcntl` (F_SETOWN); DMTCP elects leaders by F_SETOWN.
--     HasNoDatagrams ks                               none is an end of a datagram pair
--     StandForDescriptions ids names b owners ks      they stand for these, none of which is one, and whose
--                                                     owners are those noted, also where a stage of a
--                                                     checkpoint holds them
--     kept_owner owners id                            the owner that was noted of one
--     object_of, description_of                       an object and a description by virtual addresses and
--                                                     numbers; none for an end of a datagram pair
use Rattle.std.specs.Prelude.{◌≡◌, false, Option, Some, None, option_map, option_and_then}
use Rattle.std.specs.FinMap as map
use Rattle.std.specs.FinMap.{FinMap}
use Rattle.sys_abi.specs.declared.identity.DescId.{DescId}
use Rattle.sys_abi.specs.declared.identity.RealPid.{RealPid}
use Rattle.sys_abi.specs.Orders.{desc_cmp}
use Rattle.virt_ids.specs.Pairs as ids
use Rattle.fd_tables.specs.declared.description.Desc.{Desc}
use Rattle.fd_tables.specs.declared.description.Object.{Object}
use Rattle.fd_tables.specs.declared.description.Object.TheVariants as real_object
use Rattle.fd_book.specs.Books.{Books}
use Rattle.conn_table.specs.Pairs.{Pairs}
use Rattle.plain_tables.specs.declared.description.Description.{Description}
use Rattle.plain_tables.specs.declared.description.Object as plain
use Rattle.plain_tables.specs.declared.description.Object.TheVariants.{Console, File, Stream, Socket, Listener, Counter}
use Rattle.plain_tables.specs.Objects.{is_datagram}
use Rattle.plain_tables.specs.Tables.{Descriptions}
use Rattle.host_tables.specs.Numbers.{Virts, number_of}
use Rattle.host_tables.specs.Descriptions.{Stage, Names, SameDescriptions, address_of, owner_of}

abbrev pub Owners : Type 0
Owners = FinMap desc_cmp (Option RealPid)

abbrev pub kept_owner : Owners → DescId → Option RealPid
kept_owner owners id = option_and_then (λ owner. owner) (map.get owners id)

abbrev pub HasNoDatagrams : Descriptions → Type 0
HasNoDatagrams ks = (id : DescId) (d : Description) → map.get ks id ≡ Some d → is_datagram d.object ≡ false

pub record StandForDescriptions (p : ids.Pairs) (names : Names) (b : Books) (owners : Owners)
    (ks : Descriptions) : Type 0 where
  pub pairs : Pairs
  pub held : Option Stage
  pub kept : (id : DescId) (d : Desc) → map.get b.descriptions id ≡ Some d
      → owner_of held id d ≡ kept_owner owners id
  pub same : SameDescriptions p.virts names p.addresses pairs held ks b.descriptions
  pub no_datagram : HasNoDatagrams ks

abbrev pub object_of : Names → DescId → Object → Option plain.Object
object_of names id real_object.Console = Some Console
object_of names id (real_object.File number offset) = Some (File number offset)
object_of names id (real_object.Stream conn side) = Some (Stream conn side)
object_of names id real_object.Socket = Some (Socket (address_of names id))
object_of names id (real_object.Listener at) = Some (Listener (address_of names id))
object_of names id (real_object.Datagram queue side) = None
object_of names id (real_object.Counter value) = Some (Counter value)

abbrev pub description_of : Virts → Names → Owners → DescId → Desc → Option Description
description_of virts names owners id d =
    option_map (λ object. record {
      object = object;
      flags = d.flags;
      owner = number_of virts 0 (kept_owner owners id);
    }) (object_of names id d.object)
