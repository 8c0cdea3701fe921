-- connect answers as the plain row.
--     unable_connects, waiting_connects      where its tests fail, or wait
--     serves_connected                       where the socket connects
--     ready_connects                         whether it waits
use Rattle.std.proofs.Common.{◌≡◌, ℕ, List, Bool, Option, Some, None, refl, sym, ◌∙◌, subst}
use Rattle.std.specs.Prelude.{Result}
use Rattle.std.specs.FinMap as map
use Rattle.views.specs.Numbers.{Byte}
use Rattle.sys_abi.specs.declared.identity.ConnId.{ConnId}
use Rattle.sys_abi.specs.declared.identity.VPid.{VPid}
use Rattle.sys_abi.specs.declared.identity.RealPid.{RealPid}
use Rattle.sys_abi.specs.declared.identity.RealAddr.{RealAddr}
use Rattle.sys_abi.specs.declared.reply.Errno.{Errno}
use Rattle.fd_book.specs.Books.{IsWhole}
use Rattle.plain_process.specs.Attempts.{Try, Fails, NotReady, Gives, and_then}
use Rattle.plain_machine.specs.declared.kernel.PlainKernel.{PlainKernel}
use Rattle.plain_machine.specs.Addresses.{endpoint_of}
use Rattle.plain_machine.specs.Attempts.{Served, replied}
use Rattle.plain_machine.specs.Kernel as plain
use Rattle.plain_machine.specs.Rows.Connections as rows
use Rattle.plain_machine.specs.SocketWords.{is_settled}
use Rattle.host_descriptors.specs.OfHostTables.declared.attempt.Attempt.{Attempt}
use Rattle.host_descriptors.specs.OfHostTables.declared.attempt.Attempt.TheVariants as answer
use Rattle.host_descriptors.specs.OfHostTables.declared.kernel.Kernel.{Kernel}
use Rattle.host_descriptors.specs.OfHostTables.Requests.{next_conn, leads_to_pipe, IfHeld, ConnectNames}
use Rattle.host_descriptors.specs.OfHostTables.Serves.{After, Serves, ByNumber, with_connection}
use Rattle.host_descriptors.specs.OfHostTables.Stands.{Given, Stands}
use Rattle.host_sockets.specs.declared.connecting.Connecting.{Connecting}
use Rattle.host_sockets.specs.Changes.{with_connected}
use Rattle.host_sockets.specs.Tests.{connecting_in}
use Rattle.host_sockets.proofs.Tries.{SameTry, as_gives, as_settled}
use Rattle.host_sockets.proofs.Rows.{row_fails, row_waits}
use Rattle.host_sockets.proofs.ConnectTests.{IsConnecting, same_connecting}
use Rattle.host_sockets.proofs.Connects.{connects}

module _ (g : Given) (real : Kernel) (k : PlainKernel) (st : Stands g None real k) (p : VPid) (who : RealPid)
    (paired : map.get g.pids p.0 ≡ Some who) (fd : ℕ) (whole_book : IsWhole real.book) (of_pipe : Bool)
    (length : ℕ) (bytes : List Byte) (to : Result (Option RealAddr) Errno) (channel : Option ConnId)
    (port_free : Bool)
    (named : (of_pipe ≡ leads_to_pipe k p fd)
    × ((channel ≡ next_conn k p) × IfHeld (plain.held k p fd)
    (ConnectNames g k length bytes to port_free))) where
  abbrev told_of : Try rows.Connecting
  told_of = rows.connecting_of k p fd length (endpoint_of bytes)

  abbrev found : Try Connecting
  found = connecting_in real who fd to channel port_free of_pipe

  abbrev Is : rows.Connecting → Connecting → Type 0
  Is = IsConnecting g real k p who fd

  same : SameTry Is told_of found
  same =
      same_connecting g real k st p who fd paired whole_book of_pipe named.0 length bytes to channel port_free
      named.1.0 named.1.1

  pub ready_connects : (b : Bool) → is_settled found ≡ b → b ≡ rows.is_connect_ready k p fd length bytes
  unfolding rows.is_connect_ready
  ready_connects b is = sym (as_settled Is told_of found same ∙ is)

  abbrev after_connect : After
  after_connect n m g' = with_connection g' channel told_of

  abbrev Says : Kernel → Attempt → Type 0
  Says new a = Serves ByNumber after_connect g real new bytes bytes a (rows.connect_row k p fd length bytes)

  abbrev then_connects : rows.Connecting → Try Served
  then_connects c = replied (rows.connected k p c) 0

  pub unable_connects : (error : Errno) → found ≡ Fails error.0 → Says real (answer.Fails error)
  unfolding rows.connect_row
  unable_connects error is =
      row_fails ByNumber after_connect g real bytes Is told_of found then_connects same error is

  pub waiting_connects : found ≡ NotReady → Says real answer.NotReady
  unfolding rows.connect_row
  waiting_connects is = row_waits ByNumber after_connect g real bytes Is told_of found then_connects same is

  module _ (y : Connecting) (found_is : found ≡ Gives y) (channel_is : channel ≡ Some y.conn)
      (new_conn : map.get real.net.channels y.conn ≡ None) (new : Kernel)
      (new_is : new ≡ with_connected real y) where
    pub serves_connected : Says new (answer.Gives 0)
    unfolding rows.connect_row and_then
    serves_connected =
        let told = as_gives Is told_of found y same found_is in
        subst (λ m. Serves ByNumber (λ n m' g'. with_connection g' channel m) g real new bytes bytes
        (answer.Gives 0) (and_then m then_connects)) (sym told.1.0)
        (subst (λ o. Serves ByNumber (λ n m' g'. with_connection g' o (Gives told.0)) g real new bytes bytes
        (answer.Gives 0) (then_connects told.0)) (sym channel_is)
        (record {
          reply = refl;
          bytes = refl;
          stands = subst (λ (w : Kernel). Stands (with_connection g (Some y.conn) (Gives told.0)) None w
              (rows.connected k p told.0)) (sym new_is)
              (connects g real k st p who fd told.0 y told.1.1 new_conn);
        }))
