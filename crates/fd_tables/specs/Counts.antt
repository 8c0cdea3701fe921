-- Descriptions with the number of descriptors that refer to them.
--     holders_of found        the number of a description that is there, 0 of none
--     after_retain, after_release      one descriptor more, one less; at none the description is gone
--     lost_by_release         the description whose last descriptor that was
--     after_place, after_retains       one descriptor more, where one stands at the place;  at each place
--     disowned_open p o       with the description disowned
use Rattle.std.specs.Prelude.{ℕ, ◌+◌, ◌-◌, ◌==◌, cond, List, Option, Some, None, fold}
use Rattle.std.specs.FinMap as map
use Rattle.std.specs.FinMap.{FinMap}
use Rattle.sys_abi.specs.declared.identity.DescId.{DescId}
use Rattle.sys_abi.specs.declared.identity.RealPid.{RealPid}
use Rattle.sys_abi.specs.Orders.{desc_cmp}
use Rattle.sys_abi.specs.declared.descriptor.Descriptor.{Descriptor}
use Rattle.fd_tables.specs.declared.open.Open.{Open}
use Rattle.fd_tables.specs.Parts.{disowned}

abbrev pub holders_of : Option Open → ℕ
holders_of None = 0
holders_of (Some o) = o.holders

abbrev pub with_holders : Open → ℕ → Open
with_holders o n = record { desc = o.desc; holders = n }

abbrev pub retained : FinMap desc_cmp Open → DescId → Option Open → FinMap desc_cmp Open
retained m id None = m
retained m id (Some o) = map.insert m id (with_holders o (o.holders + 1))

unfoldable pub after_retain : FinMap desc_cmp Open → DescId → FinMap desc_cmp Open
after_retain m id = retained m id (map.get m id)

abbrev pub released : FinMap desc_cmp Open → DescId → Option Open → FinMap desc_cmp Open
released m id None = m
released m id (Some o) = cond (o.holders == 1) (map.remove m id) (map.insert m id (with_holders o (o.holders - 1)))

unfoldable pub after_release : FinMap desc_cmp Open → DescId → FinMap desc_cmp Open
after_release m id = released m id (map.get m id)

abbrev pub lost_of : DescId → Option Open → Option DescId
lost_of id None = None
lost_of id (Some o) = cond (o.holders == 1) (Some id) None

unfoldable pub lost_by_release : FinMap desc_cmp Open → DescId → Option DescId
lost_by_release m id = lost_of id (map.get m id)

abbrev pub after_place : FinMap desc_cmp Open → Option Descriptor → FinMap desc_cmp Open
after_place m None = m
after_place m (Some d) = after_retain m d.desc

abbrev pub after_retains : FinMap desc_cmp Open → List (Option Descriptor) → FinMap desc_cmp Open
after_retains m places = fold after_place m places

-- with the description disowned
unfoldable pub disowned_open : RealPid → Open → Open
disowned_open p o = record { desc = disowned p o.desc; holders = o.holders }
