-- What holds of the datagram ends and event counters of every kernel part.
-- Source: the limits of docs/MACHINE.md; `man 2 socketpair`, `man 2 eventfd`.
--     AreInboxes, AreCounters      a topic each, over the tables that it speaks of
use Rattle.std.specs.Prelude.{◌≡◌, ◌-◌, ◌^◌, ◌<◌, ◌≤◌, Bool, true, false, List, length, Option, Some, None, is_some, All}
use Rattle.std.specs.FinMap as map
use Rattle.plain_process.specs.OfViews.Numbers.{Byte}
use Rattle.plain_process.specs.OfViews.Limits.{INBOX_LIMIT, MESSAGE_LIMIT}
use Rattle.id_maps.specs.OfSysAbi.declared.identity.DescId.{DescId}
use Rattle.plain_process.specs.Valid.{IsByte, Each}
use Rattle.plain_tables.specs.declared.description.Description.{Description}
use Rattle.plain_tables.specs.declared.description.Object.{Object}
use Rattle.plain_tables.specs.declared.description.Object.TheVariants.{Counter}
use Rattle.plain_tables.specs.Tables.{Descriptions, Inboxes}
use Rattle.plain_tables.specs.Objects.{is_datagram, knows}

abbrev pub is_datagram_in : Option Description → Bool
is_datagram_in None = false
is_datagram_in (Some description) = is_datagram description.object

-- at most 64 messages of 4,096 bytes
pub record IsInbox (messages : List (List Byte)) : Type 0 where
  pub count : length messages ≤ INBOX_LIMIT
  pub sizes : All (λ message. length message ≤ MESSAGE_LIMIT) messages
  pub bytes : All (All IsByte) messages

-- each datagram end has an inbox and nothing else has one; the ends of a pair know each other, and no third
-- end knows one of them, open or closed
pub record AreInboxes (descriptions : Descriptions) (inboxes : Inboxes) : Type 0 where
  pub same : (d : DescId) → is_some (map.get inboxes d) ≡ is_datagram_in (map.get descriptions d)
  pub other : Each descriptions (λ d description. knows d description.object ≡ false)
  pub paired : (d e : DescId) (x y : Description) → map.get descriptions d ≡ Some x
      → map.get descriptions e ≡ Some y
      → knows e x.object ≡ true → knows d y.object ≡ true
  pub once : (d e peer : DescId) (x y : Description) → map.get descriptions d ≡ Some x
      → map.get descriptions e ≡ Some y
      → knows peer x.object ≡ true → knows peer y.object ≡ true → d ≡ e
  pub messages : Each inboxes (λ d messages. IsInbox messages)

abbrev pub IsCounter : Object → Type 0
IsCounter (Counter value) = value < 2 ^ 64 - 1
IsCounter _ = Unit {0}

pub record AreCounters (descriptions : Descriptions) : Type 0 where
  pub each : Each descriptions (λ d description. IsCounter description.object)
