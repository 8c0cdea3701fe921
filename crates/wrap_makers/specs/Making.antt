-- What a guest's call makes: its call over real numbers, its entry in the table of channels, and how many
-- numbers of its process it takes.
-- Source: `man 2 socket`, `man 2 pipe`, `man 2 socketpair`.
--     makes_ends q                  the calls that make sockets, pipes and pairs of sockets
--     making_in makers p q          what such a call of the process makes
--     channel_in, pair_in, host_in  the next numbers of a process, and its host
use Rattle.std.specs.Prelude.{ℕ, ◌==◌, ◌+◌, ◌-◌, ◌%◌, ◌^◌, nat_lt, Bool, true, false, Option, Some, None, if◌then◌else◌}
use Rattle.std.specs.Option.{option_map_or}
use Rattle.std.specs.FinMap as map
use Rattle.views.specs.Numbers.{Flags}
use Rattle.sys_abi.specs.declared.identity.VPid.{VPid}
use Rattle.sys_abi.specs.declared.identity.DescId.{DescId}
use Rattle.call_table.specs.declared.request.Request.{Request}
use Rattle.call_table.specs.declared.request.Request.TheVariants.{Pipe2, Socket, Socketpair}
use Rattle.plain_tables.specs.Tables.{Makers}
use Rattle.plain_machine.specs.Addresses.{address_at}
use Rattle.plain_machine.specs.Making.{desc_id, conn_id}
use Rattle.plain_machine.specs.Rows.Channels.{STREAMS}
use Rattle.host_tables.specs.declared.request.ChannelIds.{ChannelIds}
use Rattle.host_tables.specs.declared.request.PairIds.{PairIds}
use Rattle.host_tables.specs.declared.request.RealRequest.TheVariants as over
use Rattle.host_tables.specs.Serves.{PAIR, PIPE}
use Rattle.wrap_names.specs.Naming.{made_in, desc_in}
use Rattle.wrap_makers.specs.declared.entries.Entry.{Entry}
use Rattle.wrap_makers.specs.declared.entries.Entry.TheVariants.{Nothing, Name, Channel}
use Rattle.wrap_makers.specs.declared.making.Making.{Making}

unfoldable pub makes_ends : Request → Bool
makes_ends (Socket domain socket_type protocol) = true
makes_ends (Pipe2 fds flags) = true
makes_ends (Socketpair domain socket_type protocol fds) = true
makes_ends _ = false

-- numbers

abbrev pub has_left : Makers → VPid → Bool
has_left makers p = nat_lt (made_in makers p) (2 ^ 32 - 4)

abbrev pub three_ids : VPid → ℕ → ChannelIds
three_ids p made =
    record { channel = conn_id p made; first = desc_id p (made + 1); second = desc_id p (made + 2) }

abbrev pub two_ids : VPid → ℕ → PairIds
two_ids p made = record { first = desc_id p made; second = desc_id p (made + 1) }

abbrev pub channel_in : Makers → VPid → Option ChannelIds
channel_in makers p = if has_left makers p then Some (three_ids p (made_in makers p)) else None

abbrev pub pair_in : Makers → VPid → Option PairIds
pair_in makers p = if has_left makers p then Some (two_ids p (made_in makers p)) else None

abbrev pub host_in : Makers → VPid → ℕ
host_in makers p = option_map_or (λ maker. maker.host) (map.get makers p) 0

-- entries

-- a socket that is not bound has the port 0 of its host
abbrev pub name_of : Option DescId → ℕ → Entry
name_of None host = Nothing
name_of (Some id) host = Name id (address_at host 0)

abbrev pub channel_of : Option ChannelIds → ℕ → Entry
channel_of None kind = Nothing
channel_of (Some ids) kind = Channel ids.channel kind

-- calls

abbrev pub making_socket : Makers → VPid → ℕ → ℕ → ℕ → Making
making_socket makers p domain socket_type protocol = record {
  call = over.Socket domain socket_type protocol (desc_in makers p);
  entry = name_of (desc_in makers p) (host_in makers p);
  count = 1;
}

abbrev pub making_pipe : Makers → VPid → Flags → Making
making_pipe makers p flags = record {
  call = over.Pipe2 flags (channel_in makers p);
  entry = channel_of (channel_in makers p) PIPE;
  count = 3;
}

abbrev pub making_two : Bool → Makers → VPid → ℕ → ℕ → ℕ → Making
making_two streams makers p domain socket_type protocol = record {
  call = over.Socketpair domain socket_type protocol (channel_in makers p) (pair_in makers p);
  entry = if streams then channel_of (channel_in makers p) PAIR else Nothing;
  count = if streams then 3 else 2;
}

abbrev pub making_pair : Makers → VPid → ℕ → ℕ → ℕ → Making
making_pair makers p domain socket_type protocol =
    making_two (socket_type % 16 == STREAMS) makers p domain socket_type protocol

unfoldable pub making_in : Makers → VPid → Request → Making
making_in makers p (Socket domain socket_type protocol) =
    making_socket makers p domain socket_type protocol
making_in makers p (Pipe2 fds flags) = making_pipe makers p flags
making_in makers p (Socketpair domain socket_type protocol fds) =
    making_pair makers p domain socket_type protocol
making_in makers p _ = record { call = over.Unknown 0; entry = Nothing; count = 0 }
