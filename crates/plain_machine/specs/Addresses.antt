-- Internet addresses as processes read and write them, and the ports that are used on a host.
-- Source: `man 7 ip`, `man 2 bind`, `man 2 getsockname`.
--     endpoint_of bytes, named_host own endpoint      what the bytes of an address say
--     address_bytes address, cut_to given name        an address as bytes, and as it is written for a process
--     is_port_used k address, automatic_port k host   the ports of a host
use Rattle.std.specs.Prelude.{◌==◌, ◌&&◌, ◌||◌, ℕ, zero, suc, ◌+◌, ◌-◌, ◌*◌, ◌/◌, ◌%◌, nat_le, Bool, false, List, [], ◌∷◌, ◌++◌, length, take, replicate, slice_index, Option, Some, None, if◌then◌else◌}
use Rattle.std.specs.List.{list_any}
use Rattle.std.specs.Ordering.{eq_by_cmp}
use Rattle.std.specs.FinMap as map
use Rattle.plain_tables.specs.OfViews.Numbers.{Byte}
use Rattle.plain_tables.specs.OfSysAbi.declared.identity.VirtAddr.{VirtAddr}
use Rattle.plain_tables.specs.OfSysAbi.Orders.{address_cmp}
use Rattle.plain_tables.specs.OfPlainProcess.Memory.{little_endian, low_bytes}
use Rattle.plain_machine.specs.declared.kernel.PlainKernel.{PlainKernel}
use Rattle.plain_tables.specs.declared.description.Description.{Description}
use Rattle.plain_tables.specs.declared.channel.Channel.{Channel}
use Rattle.plain_tables.specs.Objects.{bound_at}

-- the family of internet addresses
abbrev pub AF_INET : ℕ
AF_INET = 2

-- how many bytes an internet address has
abbrev pub ADDRESS_SIZE : ℕ
ADDRESS_SIZE = 16

-- what the bytes of an address name: its family, and a port of a host, both with the highest byte first
pub record Endpoint : Type 0 where
  pub family : ℕ
  pub port : ℕ
  pub host : ℕ

abbrev pub endpoint_of : List Byte → Endpoint
endpoint_of bytes = record {
  family = slice_index bytes 0 + 256 * slice_index bytes 1;
  port = 256 * slice_index bytes 2 + slice_index bytes 3;
  host = 256 * (256 * (256 * slice_index bytes 4 + slice_index bytes 5) + slice_index bytes 6)
      + slice_index bytes 7;
}

-- 0.0.0.0 and 127.0.0.1, which name the own host
abbrev pub is_own_name : ℕ → Bool
is_own_name host = (host == 0) || (host == 0x7F000001)

-- host h is 10.0.0.(h + 1)
abbrev pub is_host_name : ℕ → Bool
is_host_name host = nat_le 0x0A000001 host && nat_le host 0x0A000010

unfoldable pub named_host : ℕ → Endpoint → Option ℕ
named_host own endpoint =
    if is_own_name endpoint.host then Some own else
    if is_host_name endpoint.host then Some (endpoint.host - 0x0A000001) else None

abbrev pub address_at : ℕ → ℕ → VirtAddr
address_at host port = record { host = host; port = port }

-- an address as bytes

abbrev pub address_bytes : VirtAddr → List Byte
address_bytes address =
    2 ∷ 0 ∷ (address.port / 256 % 256) ∷ (address.port % 256)
    ∷ 10 ∷ 0 ∷ 0 ∷ ((address.host + 1) % 256) ∷ replicate 8 0

-- of a socket that isn't bound
abbrev pub unbound_bytes : List Byte
unbound_bytes = 2 ∷ replicate 15 0

-- of an end of a pair
abbrev pub pair_bytes : List Byte
pair_bytes = 1 ∷ 0 ∷ []

-- a name cut to the room that a process has for it, which the bytes tell, and then its true length
abbrev pub cut_to : List Byte → List Byte → List Byte
cut_to given name = take (little_endian (take 4 given)) name ++ low_bytes 4 (length name)

-- ports

abbrev pub is_at : VirtAddr → Option VirtAddr → Bool
is_at address None = false
is_at address (Some other) = eq_by_cmp address_cmp address other

abbrev pub has_end_at : VirtAddr → Channel → Bool
has_end_at address channel = is_at address channel.first.address || is_at address channel.second.address

-- a socket is bound to the port, a listener has it, or an end of a channel
unfoldable pub is_port_used : PlainKernel → VirtAddr → Bool
is_port_used k address =
    list_any (λ (x : Description). is_at address (bound_at x.object)) (map.values k.descriptions)
    || list_any (has_end_at address) (map.values k.channels)

abbrev pub FIRST_AUTOMATIC : ℕ
FIRST_AUTOMATIC = 32768

abbrev pub AUTOMATIC_COUNT : ℕ
AUTOMATIC_COUNT = 28232

-- the least port from this one on that is not used, among the next n
unfoldable pub unused_among : PlainKernel → ℕ → ℕ → ℕ → Option ℕ
unused_among k host from zero = None
unused_among k host from (suc n) =
    if is_port_used k (address_at host from) then unused_among k host (from + 1) n else Some from

-- the least unused one of 32768 to 60999
unfoldable pub automatic_port : PlainKernel → ℕ → Option ℕ
automatic_port k host = unused_among k host FIRST_AUTOMATIC AUTOMATIC_COUNT
