-- Channels by their names, and the addresses of their ends and of named descriptions.
-- Source: `man 7 ip` (an address is a host and a port), `man 2 bind` (EADDRINUSE), `man 2 close`.
--     is_above above id            the channel comes after this one; each comes after none (of `conn_maps`)
--     is_open conn                 a side is open
--     has_address a conn           a side, open or closed, has the address
--     without_end side conn        the channel with the side closed
--     after_end side conns id      the channels after a side of that one was closed: it is gone where no side of it is open then
--     is_used a conns names        an end of a channel or a named description has the address
use Rattle.std.specs.Prelude.{ℕ, Bool, true, false, ◌||◌, slice_set, Option, Some, None, if◌then◌else◌}
use Rattle.std.specs.Option.{option_map, option_map_or}
use Rattle.std.specs.List.{list_any}
use Rattle.std.specs.Ordering.{eq_by_cmp}
use Rattle.std.specs.FinMap as map
use Rattle.id_maps.specs.OfSysAbi.declared.identity.ConnId.{ConnId}
use Rattle.id_maps.specs.OfSysAbi.declared.identity.VirtAddr.{VirtAddr}
use Rattle.id_maps.specs.OfSysAbi.Orders.{conn_cmp, desc_cmp, address_cmp}
pub use Rattle.id_maps.specs.HandedOn.{is_above}
use Rattle.conn_table.specs.declared.conn.Conn.{Conn}

abbrev pub is_open : Conn → Bool
is_open conn = list_any (λ open_end. open_end) conn.open_ends

abbrev pub is_at : VirtAddr → Option VirtAddr → Bool
is_at a None = false
is_at a (Some own) = eq_by_cmp address_cmp a own

abbrev pub has_address : VirtAddr → Conn → Bool
has_address a conn = list_any (is_at a) conn.addr

abbrev pub without_end : ℕ → Conn → Conn
without_end side conn = record conn { open_ends = slice_set conn.open_ends side false }

abbrev pub put_back : map.FinMap conn_cmp Conn → ConnId → Option Conn → map.FinMap conn_cmp Conn
put_back conns id None = conns
put_back conns id (Some conn) = if is_open conn then map.insert conns id conn else map.remove conns id

abbrev pub after_end : ℕ → map.FinMap conn_cmp Conn → ConnId → map.FinMap conn_cmp Conn
after_end side conns id = put_back conns id (option_map (without_end side) (map.get conns id))

abbrev pub is_used : VirtAddr → map.FinMap conn_cmp Conn → map.FinMap desc_cmp VirtAddr → Bool
is_used a conns names = list_any (has_address a) (map.values conns) || list_any (eq_by_cmp address_cmp a) (map.values names)

-- the channels with a side of this one closed, and whether it is not there or has an open side then
abbrev pub with_closed : ℕ → map.FinMap conn_cmp Conn → ConnId → map.FinMap conn_cmp Conn
with_closed side conns id = option_map_or (λ conn. map.insert conns id (without_end side conn)) (map.get conns id) conns

abbrev pub stays_open : ℕ → Option Conn → Bool
stays_open side found = option_map_or (λ conn. is_open (without_end side conn)) found true
