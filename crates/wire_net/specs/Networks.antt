-- The whole network, and what its calls answer.
-- Source: `man 2 connect`, `man 2 accept`.
--     connect_refusal t to           why nobody can connect there now, if so
--     accept_answer listener         the oldest connection that waits, or that none does
use Rattle.std.specs.Prelude.{ℕ, nat_le, length, List, [], slice_get, Option, Some, None, Result, Err, refl, if◌then◌else◌}
use Rattle.std.specs.Option.{ok_or}
use Rattle.std.specs.Coded.{Coded, code_by, coded×, coded_ℕ}
use Rattle.std.specs.FinMap as map
use Rattle.sys_abi.specs.declared.identity.ConnId.{ConnId}
use Rattle.sys_abi.specs.declared.identity.RealAddr.{RealAddr}
use Rattle.sys_abi.specs.Orders.{coded_conn, coded_real_address}
use Rattle.wire_channels.specs.declared.limits.TheConstants.{CHANNEL_LIMIT}
use Rattle.wire_channels.specs.declared.net_fault.NetFault.{NetFault}
use Rattle.wire_channels.specs.declared.net_fault.NetFault.TheVariants as fault
use Rattle.wire_channels.specs.declared.listener.Listener.{Listener}
use Rattle.wire_channels.specs.contracts.listener.Listener as listener
use Rattle.wire_channels.specs.contracts.channel.Channel as channel
use Rattle.wire_channels.specs.Listeners.{Listeners}
use Rattle.wire_channels.specs.Channels.{Channels}

pub record Network : Type 0 where
  pub nodes : ℕ
  pub port_base : ℕ
  pub listeners : Listeners
  pub channels : Channels

abbrev pub connect_refusal_at : Option Listener → ℕ → Option NetFault
connect_refusal_at None count = Some fault.Refused
connect_refusal_at (Some listener) count =
    if nat_le CHANNEL_LIMIT count then Some fault.TooMany else
    if nat_le listener.backlog (length listener.queue) then Some fault.NotReady else
    None

abbrev pub connect_refusal : Network → RealAddr → Option NetFault
connect_refusal t to = connect_refusal_at (map.get t.listeners to) (map.len t.channels)

abbrev pub accept_answer : Option Listener → Result ConnId NetFault
accept_answer None = Err fault.NotReady
accept_answer (Some listener) = ok_or (slice_get listener.queue 0) fault.NotReady

-- the connections that wait at a listener, if it is there
abbrev pub waiting_at : Option Listener → List ConnId
waiting_at None = []
waiting_at (Some listener) = listener.queue

abbrev pub coded_network : Coded Network
coded_network =
    code_by ((ℕ × ℕ) × (Listeners × Channels))
    (coded× (coded× coded_ℕ coded_ℕ) (coded× (map.code coded_real_address listener.the_row.coded) (map.code coded_conn channel.the_row.coded)))
    (λ t. ((t.nodes, t.port_base), (t.listeners, t.channels))) (λ p. record { nodes = p.0.0; port_base = p.0.1; listeners = p.1.0; channels = p.1.1 }) (λ _. refl)
