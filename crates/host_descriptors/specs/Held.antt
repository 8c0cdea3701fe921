-- What a descriptor leads to over real numbers, and the plain machine's word for it.
--     Held, held_in b at      a descriptor that is there, with its description
--     seen_held g real h      the same as the plain look-up gives it
--     owner_value owner       the number that tells an owner, 0 for nobody
use Rattle.std.specs.Prelude.{ℕ, Option, Some, None, option_map, option_and_then}
use Rattle.std.specs.FinMap as map
use Rattle.sys_abi.specs.declared.identity.RealPid.{RealPid}
use Rattle.fd_tables.specs.declared.real_slot.RealSlot.{RealSlot}
use Rattle.fd_book.specs.Books.{Books}
use Rattle.host_tables.specs.OfPlainMachine.Kernel as plain
use Rattle.host_tables.specs.declared.kernel.Kernel.{Kernel}
use Rattle.host_tables.specs.Descriptions.{seen_desc}
use Rattle.host_tables.specs.Stands.{Given}
use Rattle.host_descriptors.specs.declared.held.Held.{Held}

abbrev pub held_in : Books → RealSlot → Option Held
held_in b at =
    option_and_then (λ descriptor. option_map (λ desc. record {
      desc = descriptor.desc;
      cloexec = descriptor.cloexec;
      description = desc;
    }) (map.get b.descriptions descriptor.desc)) (map.get b.descriptors at)

abbrev pub seen_held : Given → Kernel → Held → plain.Held
seen_held g real h = record {
  desc = h.desc;
  cloexec = h.cloexec;
  description = seen_desc g.virts g.names real.datagrams None h.desc h.description;
}

abbrev pub owner_value : Option RealPid → ℕ
owner_value None = 0
owner_value (Some owner) = owner.pid
