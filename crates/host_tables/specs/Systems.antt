-- A kernel with its pairs and its table of channels, and what it stands for.
--     given_of s                what its tables give
--     StandsFor s held k        it stands for the kernel part by what they give, and they have nothing else
--     HasKernel s next_id       it stands for some kernel part with this next number
--     Calls                     what a wrapped call does
use Rattle.std.specs.Prelude.{◌≡◌, ◌⊎◌, ℕ, Bool, true, false, List, length, Option, Some, None, IsSome, option_map}
use Rattle.std.specs.FinMap as map
use Rattle.views.specs.Numbers.{Byte}
use Rattle.sys_abi.specs.declared.identity.VPid.{VPid}
use Rattle.sys_abi.specs.declared.identity.DescId.{DescId}
use Rattle.sys_abi.specs.declared.identity.ConnId.{ConnId}
use Rattle.sys_abi.specs.declared.identity.RealPid.{RealPid}
use Rattle.sys_abi.specs.declared.identity.RealAddr.{RealAddr}
use Rattle.sys_abi.specs.declared.identity.VirtAddr.{VirtAddr}
use Rattle.conn_table.specs.declared.conn.Conn.{Conn}
use Rattle.plain_machine.specs.OfPlainTables.declared.description.Description.{Description}
use Rattle.plain_machine.specs.OfPlainTables.declared.description.Object.{Object}
use Rattle.plain_machine.specs.OfPlainTables.declared.description.Object.TheVariants.{Socket, Listener}
use Rattle.plain_machine.specs.OfPlainTables.Tables.{pid, has_thread_in}
use Rattle.plain_machine.specs.OfPlainProcess.Attempts.{Try, Fails, NotReady, Gives}
use Rattle.plain_machine.specs.declared.kernel.PlainKernel.{PlainKernel}
use Rattle.plain_machine.specs.Attempts.{Served}
use Rattle.plain_machine.specs.Kernels.{IsKernel}
use Rattle.host_tables.specs.declared.attempt.Attempt.{Attempt}
use Rattle.host_tables.specs.declared.attempt.Attempt.TheVariants as answer
use Rattle.host_tables.specs.declared.system.System.{System}
use Rattle.host_tables.specs.Descriptions.{Stage}
use Rattle.host_tables.specs.Numbers.{HasRoom}
use Rattle.host_tables.specs.Serves.{IsReply, bytes_or}
use Rattle.host_tables.specs.Stands.{Given, Stands}

abbrev pub given_of : System → Given
given_of s = record {
  pids = s.ids.pids;
  virts = s.ids.virts;
  next = s.kernel.procs.next;
  addresses = s.ids.addresses;
  ports = s.ids.ports;
  conns = s.conns.conns;
  names = s.conns.names;
}

-- the number of a process, or of a thread of one
abbrev pub IsNumber : PlainKernel → ℕ → Type 0
IsNumber k v =
    IsSome (map.get k.processes (pid v)) ⊎ ((p : VPid) × (has_thread_in v (map.get k.processes p) ≡ true))

-- a socket, bound or not, and a listener
abbrev pub has_own_name : Object → Bool
has_own_name (Socket address) = true
has_own_name (Listener address) = true
has_own_name _ = false

abbrev pub is_named_in : Option Description → Bool
is_named_in None = false
is_named_in (Some description) = has_own_name description.object

pub record IsEntry (id : ConnId) (conn : Conn) : Type 0 where
  pub own : conn.id ≡ id
  pub addresses : length conn.addr ≡ 2
  pub sides : length conn.open_ends ≡ 2

-- the tables have what the kernel part has, and nothing else
pub record AreExact (s : System) (k : PlainKernel) : Type 0 where
  pub makers : k.makers ≡ s.conns.makers
  pub numbers : (v : ℕ) (r : RealPid) → map.get s.ids.pids v ≡ Some r → IsNumber k v
  pub places : (a : VirtAddr) (at : RealAddr) → map.get s.ids.addresses a ≡ Some at
      → IsSome (map.get k.listeners a)
  pub names : (id : DescId) (a : VirtAddr) → map.get s.conns.names id ≡ Some a
      → is_named_in (map.get k.descriptions id) ≡ true
  pub open_ends : (id : ConnId) → option_map (λ conn. conn.open_ends) (map.get s.conns.conns id)
      ≡ option_map (λ channel. channel.open_ends) (map.get s.kernel.net.channels id)
  pub entries : (id : ConnId) (conn : Conn) → map.get s.conns.conns id ≡ Some conn → IsEntry id conn

pub record StandsFor (s : System) (held : Option Stage) (k : PlainKernel) : Type 0 where
  pub kernel : IsKernel k
  pub tables : Stands (given_of s) held s.kernel k
  pub exact : AreExact s k
  pub room : HasRoom k.next_id s.kernel.procs.next

pub record HasKernel (s : System) (next_id : ℕ) : Type 0 where
  pub kernel : PlainKernel
  pub stands : StandsFor s None kernel
  pub next : kernel.next_id ≡ next_id

-- a system with the next number, before a call and after it
pub record Turn : Type 0 where
  pub old : System
  pub new : System
  pub next_old : ℕ
  pub next_new : ℕ

pub record StaysAs (turn : Turn) (before now : List Byte) (a said : Attempt) : Type 0 where
  pub answer : a ≡ said
  pub system : turn.new ≡ turn.old
  pub next : turn.next_new ≡ turn.next_old
  pub bytes : now ≡ before

pub record GoesOn (turn : Turn) (before now : List Byte) (a : Attempt) (s : Served) : Type 0 where
  pub reply : IsReply (λ n m. n ≡ m) a s.reply
  pub bytes : now ≡ bytes_or before s.bytes
  pub stands : StandsFor turn.new None s.kernel
  pub next : s.kernel.next_id ≡ turn.next_new

-- by cases on the plain row, with the guest's numbers
abbrev pub Calls : Turn → List Byte → List Byte → Attempt → Try Served → Type 0
Calls turn before now a (Fails e) = StaysAs turn before now a (answer.Fails (record { 0 = e }))
Calls turn before now a NotReady = StaysAs turn before now a answer.NotReady
Calls turn before now a (Gives s) = GoesOn turn before now a s
