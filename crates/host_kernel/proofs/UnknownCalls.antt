-- A call on sockets that is none of the rows' is refused.
--     unknown_is_refused      of the clause of `socket_row`
use Rattle.std.proofs.Common.{◌≡◌, ℕ, List, Bool, refl, sym, subst}
use Rattle.std.specs.Prelude.{Option, Result}
use Rattle.views.specs.Numbers.{Byte}
use Rattle.sys_abi.specs.declared.identity.ConnId.{ConnId}
use Rattle.sys_abi.specs.declared.identity.DescId.{DescId}
use Rattle.sys_abi.specs.declared.identity.RealAddr.{RealAddr}
use Rattle.sys_abi.specs.declared.identity.RealPid.{RealPid}
use Rattle.sys_abi.specs.declared.identity.VPid.{VPid}
use Rattle.sys_abi.specs.declared.reply.Errno.{Errno}
use Rattle.sys_abi.specs.declared.errors.TheConstants.{ENOSYS}
use Rattle.plain_process.specs.Attempts.{Fails}
use Rattle.plain_machine.specs.declared.kernel.PlainKernel.{PlainKernel}
use Rattle.plain_machine.specs.Serve.{row}
use Rattle.host_tables.specs.declared.attempt.Attempt.TheVariants as answer
use Rattle.host_tables.specs.declared.kernel.Kernel.{Kernel}
use Rattle.host_tables.specs.declared.request.ChannelIds.{ChannelIds}
use Rattle.host_tables.specs.declared.request.PairIds.{PairIds}
use Rattle.host_tables.specs.declared.request.RealRequest.{RealRequest}
use Rattle.host_tables.specs.declared.request.RealRequest.TheVariants.{Socket, Socketpair, Listen, Accept, Connect, Setsockopt, Shutdown, Unknown}
use Rattle.host_tables.specs.Requests.{plain_of}
use Rattle.host_tables.specs.Serves.{ServesAttempt, Serves, ValueOf, GivenAfter, row_of}
use Rattle.host_kernel.specs.Groups.{IsSocketCall}

-- it is none of those on sockets that have a row
pub record HasNoRow (q : RealRequest) : Type 0 where
  pub socket : (domain socket_type protocol : ℕ) (id : Option DescId)
      → q ≡ Socket domain socket_type protocol id → ⊥
  pub socketpair : (domain socket_type protocol : ℕ) (streams : Option ChannelIds) (datagrams : Option PairIds)
      → q ≡ Socketpair domain socket_type protocol streams datagrams → ⊥
  pub listen : (fd backlog : ℕ) (port_free of_pipe : Bool) → q ≡ Listen fd backlog port_free of_pipe → ⊥
  pub accept : (fd : ℕ) (id : Option DescId) (of_pipe : Bool) → q ≡ Accept fd id of_pipe → ⊥
  pub connect : (fd : ℕ) (to : Result (Option RealAddr) Errno) (channel : Option ConnId)
      (port_free of_pipe : Bool) → q ≡ Connect fd to channel port_free of_pipe → ⊥
  pub setsockopt : (fd : ℕ) (of_pipe : Bool) → q ≡ Setsockopt fd of_pipe → ⊥
  pub shutdown : (fd how : ℕ) (of_pipe : Bool) → q ≡ Shutdown fd how of_pipe → ⊥

unknown_row : (q : RealRequest) → IsSocketCall q → HasNoRow q
    → (k : PlainKernel) (p : VPid) (t length : ℕ) (given : List Byte)
    → row_of q (row k p t (plain_of length q) given) ≡ Fails ENOSYS
unfolding row
unknown_row (Socket domain socket_type protocol id) is none k p t length given =
    absurd (none.socket domain socket_type protocol id refl)
unknown_row (Socketpair domain socket_type protocol streams datagrams) is none k p t length given =
    absurd (none.socketpair domain socket_type protocol streams datagrams refl)
unknown_row (Listen fd backlog port_free of_pipe) is none k p t length given =
    absurd (none.listen fd backlog port_free of_pipe refl)
unknown_row (Accept fd id of_pipe) is none k p t length given = absurd (none.accept fd id of_pipe refl)
unknown_row (Connect fd to channel port_free of_pipe) is none k p t length given =
    absurd (none.connect fd to channel port_free of_pipe refl)
unknown_row (Setsockopt fd of_pipe) is none k p t length given = absurd (none.setsockopt fd of_pipe refl)
unknown_row (Shutdown fd how of_pipe) is none k p t length given = absurd (none.shutdown fd how of_pipe refl)
unknown_row (Unknown number) is none k p t length given = refl
unknown_row _ is none k p t length given = absurd is

pub unknown_is_refused : (real : Kernel) (who : RealPid) (thread : ℕ) (q : RealRequest) (given : List Byte)
    → IsSocketCall q → HasNoRow q
    → ServesAttempt real real who thread q given given (answer.Fails (record { 0 = ENOSYS }))
unknown_is_refused real who thread q given is none =
    λ g k p whole st paired t length there named.
    subst (Serves (ValueOf who q) (GivenAfter who k p length given q) g real real given given
    (answer.Fails (record { 0 = ENOSYS })))
    (sym (unknown_row q is none k p t length given)) (record { answer = refl; kernel = refl; bytes = refl })
