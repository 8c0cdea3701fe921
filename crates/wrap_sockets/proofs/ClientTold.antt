-- The client's address of the connection that a descriptor leads to.
--     never_held          a descriptor that is not there
--     stream_seen, stream_is      what is seen as a stream is one, of that connection
--     client_told         the bytes that name it
use Rattle.std.proofs.Common.{◌≡◌, ◌≢◌, ℕ, Bool, true, false, cond, List, [], ◌∷◌, ◌++◌, refl, sym, ◌∙◌}
use Rattle.std.specs.Prelude.{◌==◌, length, take}
use Rattle.std.specs.FinMap as map
use Rattle.std.proofs.lemmas.Bool.{eqb-true}
use Rattle.views.specs.Numbers.{Byte}
use Rattle.sys_abi.specs.declared.errors.TheConstants.{EBADF}
use Rattle.sys_abi.specs.declared.identity.DescId.{DescId}
use Rattle.sys_abi.specs.declared.identity.ConnId.{ConnId}
use Rattle.conn_table.specs.Pairs.{Pairs}
use Rattle.fd_tables.specs.declared.description.Object.{Object}
use Rattle.fd_tables.specs.declared.description.Object.TheVariants.{Console, File, Stream, Socket, Listener, Datagram, Counter}
use Rattle.plain_tables.specs.declared.description.Object.TheVariants as plain_object
use Rattle.plain_process.specs.Attempts.{Try, Fails, Gives}
use Rattle.plain_process.specs.Memory.{little_endian, low_bytes}
use Rattle.plain_machine.specs.declared.kernel.PlainKernel.{PlainKernel}
use Rattle.plain_machine.specs.Addresses.{cut_to}
use Rattle.plain_machine.specs.Kernel.{Held}
use Rattle.plain_machine.specs.Rows.Connections.{client_name}
use Rattle.plain_machine.specs.SocketWords.{end_name}
use Rattle.host_tables.specs.Descriptions.{Names, seen_object}
use Rattle.host_tables.specs.Serves.{bytes_or}

pub never_held : {A : Type 0} (m : Try Held) (h : Held) → m ≡ Fails EBADF → m ≡ Gives h → A
never_held m h fails gives = absurd (never (sym fails ∙ gives))
  where
    never : Fails EBADF ≡ Gives h → ⊥
    never e = cc

pub same_held : (m : Try Held) (x y : Held) → m ≡ Gives x → m ≡ Gives y → x ≡ y
same_held m x y is also = same (sym is ∙ also)
  where
    same : Gives x ≡ Gives y → x ≡ y
    same e = cc

pub stream_is : (conn other : ConnId) (side end : ℕ) → Stream conn side ≡ Stream other end → conn ≡ other
stream_is conn other side end e = cc

pub stream_seen : (names : Names) (pairs : Pairs) (id : DescId) (o : Object) (conn : ConnId) (side : ℕ)
    → seen_object names pairs id o ≡ plain_object.Stream conn side → o ≡ Stream conn side
stream_seen names pairs id (Stream c s) conn side e = cc
stream_seen names pairs id Console conn side e = cc
stream_seen names pairs id (File number offset) conn side e = cc
stream_seen names pairs id Socket conn side e = cc
stream_seen names pairs id (Listener at) conn side e = cc
stream_seen names pairs id (Datagram queue end) conn side e = cc
stream_seen names pairs id (Counter value) conn side e = cc

-- the length of a name is among the bytes
some_bytes : (before xs : List Byte) (n : ℕ) → bytes_or before (xs ++ low_bytes 4 n) ≡ xs ++ low_bytes 4 n
some_bytes before [] n = refl
some_bytes before (x ∷ xs) n = refl

module _ (k : PlainKernel) (address : ℕ) (before : List Byte) (conn : ConnId) (asked : address ≢ 0) where
  abbrev name : List Byte
  name = end_name (map.get k.channels conn) 0

  by_place : (b : Bool) → (address == 0) ≡ b
      → bytes_or before (cond b [] (cut_to before name)) ≡ cut_to before name
  by_place true is = absurd (asked (eqb-true address 0 is))
  by_place false is = some_bytes before (take (little_endian (take 4 before)) name) (length name)

  pub client_told : bytes_or before (client_name k address before conn) ≡ cut_to before name
  client_told = by_place (address == 0) refl
