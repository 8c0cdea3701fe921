-- accept answers as the plain row.
--     unable_accepts, waiting_accepts      where its tests fail, or wait
--     taken_accepts                        where a connection is taken
--     ready_accepts                        whether it waits
use Rattle.std.proofs.Common.{◌≡◌, ℕ, List, Bool, Option, Some, None, sym, ◌∙◌, subst}
use Rattle.std.specs.Prelude.{IsSome}
use Rattle.std.specs.FinMap as map
use Rattle.views.specs.Numbers.{Byte}
use Rattle.sys_abi.specs.declared.identity.DescId.{DescId}
use Rattle.sys_abi.specs.declared.identity.VPid.{VPid}
use Rattle.sys_abi.specs.declared.identity.RealPid.{RealPid}
use Rattle.sys_abi.specs.declared.reply.Errno.{Errno}
use Rattle.fd_book.specs.Books.{IsWhole}
use Rattle.plain_process.specs.Attempts.{Try, Fails, NotReady, Gives, and_then}
use Rattle.plain_machine.specs.declared.kernel.PlainKernel.{PlainKernel}
use Rattle.plain_machine.specs.Attempts.{Served}
use Rattle.plain_machine.specs.Kernels.{IsKernel}
use Rattle.plain_machine.specs.Rows.Connections as rows
use Rattle.plain_machine.specs.SocketWords.{is_settled}
use Rattle.host_descriptors.specs.OfHostTables.declared.attempt.Attempt.{Attempt}
use Rattle.host_descriptors.specs.OfHostTables.declared.attempt.Attempt.TheVariants as answer
use Rattle.host_descriptors.specs.OfHostTables.declared.kernel.Kernel.{Kernel}
use Rattle.host_descriptors.specs.OfHostTables.Requests.{next_desc, leads_to_pipe}
use Rattle.host_descriptors.specs.OfHostTables.Serves as serves
use Rattle.host_descriptors.specs.OfHostTables.Serves.{Serves, ByNumber}
use Rattle.host_descriptors.specs.OfHostTables.Stands.{Given, Stands}
use Rattle.host_sockets.specs.declared.accepting.Accepting.{Accepting}
use Rattle.host_sockets.specs.Changes.{Takes}
use Rattle.host_sockets.specs.Tests.{accepting_in}
use Rattle.host_sockets.proofs.Tries.{SameTry, as_gives, as_settled}
use Rattle.host_sockets.proofs.Rows.{row_fails, row_waits}
use Rattle.host_sockets.proofs.AcceptTests.{IsAccepting, same_accepting}
use Rattle.host_sockets.proofs.Accepts.{serves_accepted}

module _ (g : Given) (real : Kernel) (k : PlainKernel) (st : Stands g None real k) (whole : IsKernel k)
    (p : VPid)
    (who : RealPid) (paired : map.get g.pids p.0 ≡ Some who) (fd : ℕ) (whole_book : IsWhole real.book)
    (of_pipe : Bool) (id : Option DescId)
    (named : (of_pipe ≡ leads_to_pipe k p fd) × (id ≡ next_desc k p)) where
  abbrev found : Try Accepting
  found = accepting_in real who fd id of_pipe

  same : SameTry (IsAccepting g k p) (rows.accepting_of k p fd) found
  same = same_accepting g real k st p who paired fd whole whole_book of_pipe named.0 id named.1

  pub ready_accepts : (b : Bool) → is_settled found ≡ b → b ≡ rows.is_accept_ready k p fd
  unfolding rows.is_accept_ready
  ready_accepts b is = sym (as_settled (IsAccepting g k p) (rows.accepting_of k p fd) found same ∙ is)

  module _ (bytes : List Byte) where
    abbrev Says : Kernel → Attempt → Type 0
    Says new a = Serves ByNumber serves.same g real new bytes bytes a (rows.accept_row k p fd 0 bytes)

    abbrev then_accepts : rows.Accepting → Try Served
    then_accepts a = Gives (rows.accept_served k p 0 bytes a)

    pub unable_accepts : (error : Errno) → found ≡ Fails error.0 → Says real (answer.Fails error)
    unfolding rows.accept_row
    unable_accepts error is =
        row_fails ByNumber serves.same g real bytes (IsAccepting g k p) (rows.accepting_of k p fd) found
        then_accepts same error is

    pub waiting_accepts : found ≡ NotReady → Says real answer.NotReady
    unfolding rows.accept_row
    waiting_accepts is =
        row_waits ByNumber serves.same g real bytes (IsAccepting g k p) (rows.accepting_of k p fd) found
        then_accepts same is

    pub taken_accepts : (y : Accepting) → found ≡ Gives y → map.get real.book.descriptions y.id ≡ None
        → IsSome (map.get real.net.listeners y.at) → (new : Kernel) (a : Attempt) → Takes real new who y a
        → Says new a
    unfolding rows.accept_row and_then
    taken_accepts y is new_id there new a takes =
        let told = as_gives (IsAccepting g k p) (rows.accepting_of k p fd) found y same is in
        subst (λ m. Serves ByNumber serves.same g real new bytes bytes a (and_then m then_accepts))
        (sym told.1.0)
        (serves_accepted g real k st p who paired told.0 y told.1.1 new_id there bytes new a takes)
