-- Words on the tables of a kernel part, and on what stands in them: look-ups, and changes.
-- Source: `man 2 open` (descriptors and open descriptions), `man 2 credentials` (processes), `man 7 signal`
-- (pending signals).
use Rattle.std.specs.Prelude.{◌==◌, ℕ, ◌+◌, Bool, false, ◌||◌, ◌%◌, bit_or, List, Option, Some, None, is_some, unwrap_or, if◌then◌else◌}
use Rattle.std.specs.List.{list_any}
use Rattle.std.specs.Ordering.{nat_cmp, eq_by_cmp}
use Rattle.std.specs.declared.cmp.Ordering.{Ordering}
use Rattle.std.specs.FinMap as map
use Rattle.plain_process.specs.OfViews.Numbers.{ThreadNumber, SignalNumber, Flags}
use Rattle.id_maps.specs.OfSysAbi.declared.identity.VPid.{VPid}
use Rattle.id_maps.specs.OfSysAbi.declared.identity.DescId.{DescId}
use Rattle.id_maps.specs.OfSysAbi.declared.identity.Slot.{Slot}
use Rattle.id_maps.specs.OfSysAbi.Orders.{vpid_cmp, desc_cmp, slot_cmp, conn_cmp, dir_cmp, address_cmp}
use Rattle.id_maps.specs.OfSysAbi.Names.{name_cmp}
use Rattle.id_maps.specs.OfSysAbi.Signals.{has_signal, with_signal, without_signal}
use Rattle.plain_tables.specs.declared.process.Process.{Process}
use Rattle.id_maps.specs.OfSysAbi.declared.maker.Maker.{Maker}
use Rattle.id_maps.specs.OfSysAbi.declared.descriptor.Descriptor.{Descriptor}
use Rattle.plain_tables.specs.declared.description.Description.{Description}
use Rattle.plain_tables.specs.declared.channel.Channel.{Channel}
use Rattle.plain_tables.specs.declared.channel.Direction.{Direction}
use Rattle.plain_tables.specs.declared.channel.Listening.{Listening}
use Rattle.id_maps.specs.OfSysAbi.Lives.{lives}

-- processes are numbered from here on
abbrev pub FIRST_PID : ℕ
FIRST_PID = 40000

-- the parent of a process that nobody waits for
abbrev pub NOBODY : ℕ
NOBODY = 1

abbrev pub pid : ℕ → VPid
pid number = record { 0 = number }

abbrev pub slot : VPid → ℕ → Slot
slot p fd = record { pid = p; fd = fd }

abbrev pub is_live_process : Option Process → Bool
is_live_process None = false
is_live_process (Some process) = lives process.life

-- access modes: 0 reads, 1 writes, 2 both
abbrev pub may_write : Flags → Bool
may_write flags = (flags % 4 == 1) || (flags % 4 == 2)

abbrev pub refers_to : DescId → Descriptor → Bool
refers_to d descriptor = eq_by_cmp desc_cmp d descriptor.desc

-- some descriptor refers to the description
unfoldable pub is_held : map.FinMap slot_cmp Descriptor → DescId → Bool
is_held descriptors d = list_any (refers_to d) (map.values descriptors)

abbrev pub is_slot_of : VPid → Slot → Bool
is_slot_of p at = at.pid.0 == p.0

-- pending signals: those of a thread are taken before those of its process

abbrev pub signals_of : ThreadNumber → Process → ℕ
signals_of t process = unwrap_or (map.get process.threads t) 0

abbrev pub pending_in : ThreadNumber → Option Process → ℕ
pending_in t None = 0
pending_in t (Some process) = bit_or (signals_of t process) process.pending

abbrev pub with_signals : Process → ThreadNumber → ℕ → Process
with_signals process t signals = record process { threads = map.insert process.threads t signals }

abbrev pub taken_from : ThreadNumber → SignalNumber → Process → Process
taken_from t s process =
    if has_signal (signals_of t process) s
    then with_signals process t (without_signal (signals_of t process) s) else
    record process { pending = without_signal process.pending s }

abbrev pub raised_at : ThreadNumber → SignalNumber → Process → Process
raised_at t s process = with_signals process t (with_signal (signals_of t process) s)

-- for all threads of the process
abbrev pub raised_for_all : SignalNumber → Process → Process
raised_for_all s process = record process { pending = with_signal process.pending s }

abbrev pub Processes : Type 0
Processes = map.FinMap vpid_cmp Process

abbrev pub Makers : Type 0
Makers = map.FinMap vpid_cmp Maker

abbrev pub Descriptors : Type 0
Descriptors = map.FinMap slot_cmp Descriptor

abbrev pub Descriptions : Type 0
Descriptions = map.FinMap desc_cmp Description

-- the number of the file of each name
abbrev pub Names : Type 0
Names = map.FinMap name_cmp ℕ

abbrev pub Files : Type 0
Files = map.FinMap nat_cmp (List ℕ)

abbrev pub Channels : Type 0
Channels = map.FinMap conn_cmp Channel

abbrev pub Directions : Type 0
Directions = map.FinMap dir_cmp Direction

abbrev pub Listeners : Type 0
Listeners = map.FinMap address_cmp Listening

-- the messages that wait at each open end of a datagram pair
abbrev pub Inboxes : Type 0
Inboxes = map.FinMap desc_cmp (List (List ℕ))

-- a map with a change of what stands at one key, if anything does
abbrev pub changed_by : {K X : Type 0} {R : K → K → Ordering} → map.FinMap R X → K → (X → X) → Option X
    → map.FinMap R X
changed_by m k change None = m
changed_by m k change (Some v) = map.insert m k (change v)

abbrev pub changed_at : {K X : Type 0} {R : K → K → Ordering} → map.FinMap R X → K → (X → X) → map.FinMap R X
changed_at m k change = changed_by m k change (map.get m k)

-- the process is there and has not ended
abbrev pub lives_in : Processes → VPid → Bool
lives_in processes p = is_live_process (map.get processes p)

-- threads

abbrev pub thread_count_in : Option Process → ℕ
thread_count_in None = 0
thread_count_in (Some process) = map.len process.threads

abbrev pub has_thread_in : ThreadNumber → Option Process → Bool
has_thread_in t None = false
has_thread_in t (Some process) = is_some (map.get process.threads t)

abbrev pub without_thread_entry : ThreadNumber → Process → Process
without_thread_entry t process = record process { threads = map.remove process.threads t }

abbrev pub with_thread_entry : ThreadNumber → Process → Process
with_thread_entry t process = with_signals process t 0

-- both are there, and on one host (`man 2 kill`)
abbrev pub same_host : Option Maker → Option Maker → Bool
same_host (Some a) (Some b) = a.host == b.host
same_host _ _ = false

-- a process that has made n things more
abbrev pub made_more : ℕ → Maker → Maker
made_more n maker = record { host = maker.host; made = maker.made + n }
