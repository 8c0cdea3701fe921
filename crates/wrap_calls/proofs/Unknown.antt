-- A call of no family is one that no kernel knows.
--     IsUnknown q      the call is of no family
--     row_unknown      its row
--     refused          a system that refuses it
use Rattle.std.proofs.Common.{◌≡◌, ℕ, false, List, refl, sym, subst}
use Rattle.views.specs.Numbers.{Byte}
use Rattle.views.proofs.MapLaws.{true_false}
use Rattle.sys_abi.specs.declared.errors.TheConstants.{ENOSYS}
use Rattle.sys_abi.specs.declared.identity.VPid.{VPid}
use Rattle.call_table.specs.Requests.{is_local}
use Rattle.call_table.specs.declared.request.Request.{Request}
use Rattle.call_table.specs.declared.request.Request.TheVariants.{Eventfd2, Dup, Dup3, Fcntl, Unlinkat, Openat, Close, Pipe2, Lseek, Read, Write, Exit, ExitGroup, Kill, Tgkill, Getpid, Getppid, Socket, Socketpair, Bind, Listen, Accept, Connect, Getsockname, Getpeername, Setsockopt, Shutdown, Clone, Wait4, Unknown}
use Rattle.plain_process.specs.Attempts.{Fails}
use Rattle.plain_machine.specs.declared.kernel.PlainKernel.{PlainKernel}
use Rattle.plain_machine.specs.Serve.{row}
use Rattle.host_tables.specs.declared.reply.KernelReply.TheVariants.{Error}
use Rattle.host_tables.specs.declared.system.System.{System}
use Rattle.wrap_passing.specs.OfWrapNames.Wrapping.{IsWrapped, StandsAfter}
use Rattle.wrap_passing.specs.Asking.{is_passed, is_making, is_wait, is_served}
use Rattle.wrap_passing.specs.OfWrapNames.Calls.{is_address_call}
use Rattle.wrap_ends.specs.Serving.{is_closing}
use Rattle.wrap_ends.specs.Exits.{is_exit}
use Rattle.wrap_makers.specs.Cloning.{is_clone}
use Rattle.wrap_makers.specs.Making.{makes_ends}
use Rattle.wrap_sockets.specs.Meeting.{is_meeting}

pub record IsUnknown (q : Request) : Type 0 where
  pub kernels : is_local q ≡ false
  pub passing : is_served q ≡ false
  pub clones : is_clone q ≡ false
  pub makes : makes_ends q ≡ false
  pub closes : is_closing q ≡ false
  pub exits : is_exit q ≡ false
  pub addresses : is_address_call q ≡ false
  pub meets : is_meeting q ≡ false

pub row_unknown : (k : PlainKernel) (p : VPid) (t : ℕ) (q : Request) (given : List Byte) → IsUnknown q
    → row k p t q given ≡ Fails ENOSYS
unfolding row is_passed is_making is_wait is_clone makes_ends is_closing is_exit is_address_call is_meeting
row_unknown k p t (Unknown number) given u = refl
row_unknown k p t (Eventfd2 value flags) given u = true_false u.passing
row_unknown k p t (Dup fd) given u = true_false u.passing
row_unknown k p t (Fcntl fd command argument) given u = true_false u.passing
row_unknown k p t (Unlinkat directory path flags) given u = true_false u.passing
row_unknown k p t (Openat directory path flags mode) given u = true_false u.passing
row_unknown k p t (Lseek fd offset whence) given u = true_false u.passing
row_unknown k p t (Read fd buffer count) given u = true_false u.passing
row_unknown k p t (Write fd buffer count) given u = true_false u.passing
row_unknown k p t (Kill number s) given u = true_false u.passing
row_unknown k p t (Tgkill number tid s) given u = true_false u.passing
row_unknown k p t Getpid given u = true_false u.passing
row_unknown k p t Getppid given u = true_false u.passing
row_unknown k p t (Setsockopt fd level name value length) given u = true_false u.passing
row_unknown k p t (Shutdown fd how) given u = true_false u.passing
row_unknown k p t (Wait4 number status options usage) given u = true_false u.passing
row_unknown k p t (Clone flags stack parent_tid tls child_tid) given u = true_false u.clones
row_unknown k p t (Socket domain socket_type protocol) given u = true_false u.makes
row_unknown k p t (Socketpair domain socket_type protocol fds) given u = true_false u.makes
row_unknown k p t (Pipe2 fds flags) given u = true_false u.makes
row_unknown k p t (Close fd) given u = true_false u.closes
row_unknown k p t (Dup3 fd to flags) given u = true_false u.closes
row_unknown k p t (Exit code) given u = true_false u.exits
row_unknown k p t (ExitGroup code) given u = true_false u.exits
row_unknown k p t (Bind fd address length) given u = true_false u.addresses
row_unknown k p t (Getsockname fd address length) given u = true_false u.addresses
row_unknown k p t (Getpeername fd address length) given u = true_false u.addresses
row_unknown k p t (Listen fd backlog) given u = true_false u.meets
row_unknown k p t (Accept fd address length) given u = true_false u.meets
row_unknown k p t (Connect fd address length) given u = true_false u.meets
row_unknown k p t _ given u = true_false u.kernels

pub refused : (s : System) (next_id : ℕ) (k : PlainKernel) → IsWrapped s next_id k → (p : VPid) (t : ℕ)
    (q : Request) (given : List Byte) → IsUnknown q
    → StandsAfter s next_id k given given (Error (record { 0 = ENOSYS })) (row k p t q given)
refused s next_id k w p t q given u =
    subst (StandsAfter s next_id k given given (Error (record { 0 = ENOSYS })))
    (sym (row_unknown k p t q given u)) (w, (refl, refl))
