-- Who holds side 0 of a channel, and on which host.
-- Source: `man 2 open` (descriptors of several processes refer to one description).
--     is_first_in descriptions id desc      the description is that of side 0 of the channel
--     FindsHolder k id found                a process with a descriptor of it, or none has one
--     IsHoldersHost k id host               all that have one are of this host
use Rattle.std.specs.Prelude.{◌≡◌, ℕ, Bool, true, false, Option, Some, None}
use Rattle.std.specs.Option.{option_map_or}
use Rattle.std.specs.FinMap as map
use Rattle.sys_abi.specs.declared.identity.VPid.{VPid}
use Rattle.sys_abi.specs.declared.identity.ConnId.{ConnId}
use Rattle.sys_abi.specs.declared.identity.DescId.{DescId}
use Rattle.sys_abi.specs.declared.identity.Slot.{Slot}
use Rattle.sys_abi.specs.declared.descriptor.Descriptor.{Descriptor}
use Rattle.plain_tables.specs.declared.description.Description.{Description}
use Rattle.plain_tables.specs.Objects.{is_end}
use Rattle.plain_tables.specs.Tables.{Makers, Descriptions}
use Rattle.plain_machine.specs.declared.kernel.PlainKernel.{PlainKernel}
use Rattle.rebuild_system.specs.Nets.{IsHolder}

abbrev pub is_first_of : ConnId → Description → Bool
is_first_of id description = is_end id 0 description.object

abbrev pub is_first_in : Descriptions → ConnId → DescId → Bool
is_first_in descriptions id desc = option_map_or (is_first_of id) (map.get descriptions desc) false

abbrev pub host_in : Makers → VPid → ℕ
host_in makers p = option_map_or (λ maker. maker.host) (map.get makers p) 0

pub record HasFirst (k : PlainKernel) (id : ConnId) (p : VPid) : Type 0 where
  pub at : Slot
  pub descriptor : Descriptor
  pub held : map.get k.descriptors at ≡ Some descriptor
  pub first : is_first_in k.descriptions id descriptor.desc ≡ true
  pub own : at.pid ≡ p

abbrev pub FindsHolder : PlainKernel → ConnId → Option VPid → Type 0
FindsHolder k id None = (at : Slot) (descriptor : Descriptor) → map.get k.descriptors at ≡ Some descriptor
    → is_first_in k.descriptions id descriptor.desc ≡ false
FindsHolder k id (Some p) = HasFirst k id p

abbrev pub IsHoldersHost : PlainKernel → ConnId → ℕ → Type 0
IsHoldersHost k id host = (at : Slot) (other : ℕ) → IsHolder k id at other → other ≡ host
