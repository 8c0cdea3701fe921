-- What holds of the sockets and listeners of every kernel part, of their addresses, and of the hosts of what
-- is held.
-- Source: the limits of docs/MACHINE.md; `man 2 bind`, `man 2 listen`.
--     AreListeners, AreAddresses, AreHosts      a topic each, over the tables that it speaks of
use Rattle.std.specs.Prelude.{◌≡◌, ◌≢◌, ℕ, ◌^◌, ◌==◌, ◌<◌, ◌≤◌, Bool, true, false, length, Option, Some, None, is_some, All, AllPairs}
use Rattle.std.specs.List.{list_any}
use Rattle.std.specs.FinMap as map
use Rattle.plain_process.specs.OfViews.Limits.{HOST_LIMIT}
use Rattle.id_maps.specs.OfSysAbi.declared.identity.Slot.{Slot}
use Rattle.id_maps.specs.OfSysAbi.declared.identity.DescId.{DescId}
use Rattle.id_maps.specs.OfSysAbi.declared.identity.ConnId.{ConnId}
use Rattle.id_maps.specs.OfSysAbi.declared.identity.VirtAddr.{VirtAddr}
use Rattle.plain_process.specs.Valid.{Each}
use Rattle.id_maps.specs.OfSysAbi.declared.maker.Maker.{Maker}
use Rattle.id_maps.specs.OfSysAbi.declared.descriptor.Descriptor.{Descriptor}
use Rattle.plain_tables.specs.declared.description.Description.{Description}
use Rattle.plain_tables.specs.declared.description.Object.{Object}
use Rattle.plain_tables.specs.declared.description.Object.TheVariants.{Socket, Listener}
use Rattle.plain_tables.specs.declared.channel.Channel.{Channel}
use Rattle.plain_tables.specs.declared.channel.ChannelKind.TheVariants.{Internet}
use Rattle.plain_tables.specs.declared.channel.Listening.{Listening}
use Rattle.plain_tables.specs.Tables.{Makers, Descriptors, Descriptions, Channels, Listeners}
use Rattle.plain_tables.specs.Objects.{is_listener_at, is_queued, bound_at, host_of_end, host_of_object}

abbrev pub IsConnection : Channels → ConnId → Type 0
IsConnection channels conn =
    (channel : Channel) × (map.get channels conn ≡ Some channel) × (channel.kind ≡ Internet)

-- a queue is no longer than the backlog, and holds internet connections, each once
pub record IsListening (channels : Channels) (listening : Listening) : Type 0 where
  pub room : length listening.queue ≤ listening.backlog
  pub backlog : listening.backlog < 2 ^ 32
  pub connections : All (IsConnection channels) listening.queue
  pub once : AllPairs (λ conn later. conn ≢ later) listening.queue

-- a listener's description and its queue are there together; no connection waits in two queues
pub record AreListeners (descriptions : Descriptions) (listeners : Listeners)
    (channels : Channels) : Type 0 where
  pub each : Each listeners (λ address listening. IsListening channels listening)
  pub described : (address : VirtAddr) → is_some (map.get listeners address)
      ≡ list_any (λ (x : Description). is_listener_at address x.object) (map.values descriptions)
  pub apart : (a b : VirtAddr) (x y : Listening) (conn : ConnId) → map.get listeners a ≡ Some x
      → map.get listeners b ≡ Some y → is_queued conn x ≡ true → is_queued conn y ≡ true → a ≡ b

-- a socket's port is 0 while it is unbound
abbrev pub IsAddressed : Object → Type 0
IsAddressed (Socket address) = (address.host < HOST_LIMIT) × (address.port < 65536)
IsAddressed (Listener address) = (address.host < HOST_LIMIT) × (1 ≤ address.port) × (address.port < 65536)
IsAddressed _ = Unit {0}

-- no two sockets or listeners of a host have one port
pub record AreAddresses (descriptions : Descriptions) : Type 0 where
  pub each : Each descriptions (λ d description. IsAddressed description.object)
  pub apart : (d e : DescId) (x y : Description) (address : VirtAddr) → map.get descriptions d ≡ Some x
      → map.get descriptions e ≡ Some y → bound_at x.object ≡ Some address → bound_at y.object ≡ Some address
      → d ≡ e

abbrev pub has_host : Option Maker → ℕ → Bool
has_host None host = false
has_host (Some maker) host = maker.host == host

-- what is held has its holders' host, and a connection that waits has its listener's
pub record AreHosts (makers : Makers) (descriptors : Descriptors) (descriptions : Descriptions)
    (listeners : Listeners) (channels : Channels) : Type 0 where
  pub held : (a : Slot) (x : Descriptor) (description : Description) (host : ℕ)
      → map.get descriptors a ≡ Some x → map.get descriptions x.desc ≡ Some description
      → host_of_object channels description.object ≡ Some host → has_host (map.get makers a.pid) host ≡ true
  pub pending : (address : VirtAddr) (listening : Listening) (conn : ConnId) (host : ℕ)
      → map.get listeners address ≡ Some listening → is_queued conn listening ≡ true
      → host_of_end channels conn 1 ≡ Some host → host ≡ address.host
