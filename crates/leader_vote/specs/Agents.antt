-- Who acts for the ends of channels: the leaders of what names them.
-- Source: DMTCP's leaders drain and refill what they lead; `man 2 accept`.
--     waits_in conn listener            the connection waits there
--     names_end listeners conn side     the object is that end, or a listener at which it waits
--     leads_end                         the leader of a description that names the end
--     IsAgent b listeners conn side p   p leads one of those that name the end, or nobody leads one
--     IsAgentAfter                      the same, where nobody leads one of those after a description
--     place_of e, IsActedFor            the direction that an end sends;  its agent is such a leader
use Rattle.std.specs.Prelude.{◌≡◌, ◌==◌, ◌&&◌, ℕ, Bool, true, false, take, Option, Some, None, if◌then◌else◌}
use Rattle.std.specs.Option.{option_map_or}
use Rattle.std.specs.List.{list_any}
use Rattle.std.specs.Ordering.{eq_by_cmp}
use Rattle.std.specs.FinMap as map
use Rattle.sys_abi.specs.declared.identity.ConnId.{ConnId}
use Rattle.sys_abi.specs.declared.identity.DescId.{DescId}
use Rattle.sys_abi.specs.declared.identity.Dir.{Dir}
use Rattle.sys_abi.specs.declared.identity.RealPid.{RealPid}
use Rattle.sys_abi.specs.Orders.{conn_cmp}
use Rattle.fd_tables.specs.declared.description.Desc.{Desc}
use Rattle.fd_tables.specs.declared.description.Object.{Object}
use Rattle.fd_tables.specs.declared.description.Object.TheVariants.{Stream, Listener as ListenerObject}
use Rattle.fd_tables.specs.Parts.{is_after}
use Rattle.fd_book.specs.Books.{Books}
use Rattle.wire_channels.specs.declared.listener.Listener.{Listener}
use Rattle.wire_channels.specs.Listeners.{Listeners}
use Rattle.wire_net.specs.declared.agents.AgentEnd.{AgentEnd}

-- no more connections wait than the backlog has places
abbrev pub waits_in : ConnId → Listener → Bool
waits_in conn listener = list_any (eq_by_cmp conn_cmp conn) (take listener.backlog listener.queue)

abbrev pub names_end : Listeners → ConnId → ℕ → Object → Bool
names_end listeners conn side (Stream own at) = eq_by_cmp conn_cmp conn own && (side == at)
names_end listeners conn side (ListenerObject at) =
    (side == 1) && option_map_or (waits_in conn) (map.get listeners at) false
names_end listeners conn side _ = false

abbrev pub leads_end : Listeners → ConnId → ℕ → Desc → Option RealPid
leads_end listeners conn side d = if names_end listeners conn side d.object then d.owner else None

abbrev pub IsAgent : Books → Listeners → ConnId → ℕ → Option RealPid → Type 0
IsAgent b listeners conn side None =
    (id : DescId) (d : Desc) → map.get b.descriptions id ≡ Some d → leads_end listeners conn side d ≡ None
IsAgent b listeners conn side (Some p) =
    (id : DescId) × ((d : Desc)
    × ((map.get b.descriptions id ≡ Some d) × (leads_end listeners conn side d ≡ Some p)))

abbrev pub IsAgentAfter : Books → Listeners → Option DescId → ConnId → ℕ → Option RealPid → Type 0
IsAgentAfter b listeners above conn side None =
    (id : DescId) (d : Desc) → map.get b.descriptions id ≡ Some d → is_after above id ≡ true
    → leads_end listeners conn side d ≡ None
IsAgentAfter b listeners above conn side (Some p) = IsAgent b listeners conn side (Some p)

abbrev pub place_of : AgentEnd → Dir
place_of e = record { conn = e.conn; side = e.side }

abbrev pub IsActedFor : Books → Listeners → AgentEnd → Type 0
IsActedFor b listeners e = IsAgent b listeners e.conn e.side e.agent
