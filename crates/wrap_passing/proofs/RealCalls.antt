-- The call over real numbers names what the guest's names, and its row is that of the guest's.
--     named, fresh       what it names, and that the numbers for new things are nobody's
--     IsPlain            it is answered by the pairs that there are, and tells the row's value
--     each_plain         each call is so that the kernel answers by that call
use Rattle.std.proofs.Common.{◌≡◌, ℕ, Bool, true, false, cond, List, Option, Some, refl, sym, ap}
use Rattle.std.specs.Prelude.{◌==◌, unwrap_or}
use Rattle.std.specs.FinMap as map
use Rattle.views.specs.Numbers.{Byte}
use Rattle.views.proofs.MapLaws.{true_false}
use Rattle.sys_abi.specs.declared.identity.VPid.{VPid}
use Rattle.sys_abi.specs.declared.identity.RealPid.{RealPid}
use Rattle.call_table.specs.declared.request.Request.{Request}
use Rattle.call_table.specs.declared.request.Request.TheVariants.{Eventfd2, Dup, Fcntl, Unlinkat, Openat, Lseek, Read, Write, Kill, Tgkill, Getpid, Getppid, Setsockopt, Shutdown, Wait4}
use Rattle.fd_book.specs.Books.{IsWhole}
use Rattle.virt_ids.specs.Pairs.{AreInverse}
use Rattle.plain_process.specs.declared.commands.FcntlCommand.{FcntlCommand}
use Rattle.plain_process.specs.declared.commands.FcntlCommand.TheVariants.{GetOwn}
use Rattle.plain_process.specs.Commands.{fcntl_command}
use Rattle.plain_process.specs.Attempts.{Try}
use Rattle.plain_tables.specs.Tables.{NOBODY, Makers}
use Rattle.plain_machine.specs.declared.kernel.PlainKernel.{PlainKernel}
use Rattle.plain_machine.specs.Attempts.{Served}
use Rattle.plain_machine.specs.RowLaws.{IsAsked}
use Rattle.plain_machine.specs.Serve.{row}
use Rattle.host_tables.specs.declared.request.RealRequest.{RealRequest}
use Rattle.host_tables.specs.declared.system.System.{System}
use Rattle.host_tables.specs.Conditions.{IsFresh}
use Rattle.host_tables.specs.Numbers.{real}
use Rattle.host_tables.specs.Requests.{IsNamed, plain_of}
use Rattle.host_tables.specs.Serves.{ValueOf, ValueOfCommand, ByPid, ByPidUnless, GivenAfter, row_of}
use Rattle.host_tables.specs.Stands.{Given}
use Rattle.host_tables.specs.Systems.{given_of}
use Rattle.wrap_names.specs.Naming.{desc_in}
use Rattle.wrap_passing.specs.Asking.{real_of, argument_read, is_passed, is_making, is_wait, is_served}
use Rattle.wrap_passing.specs.Telling.{told_owner, told_value, virt_number}
use Rattle.wrap_names.specs.Wrapping.{IsWrapped}
use Rattle.wrap_names.proofs.Named.{neighbour_is, pipe_is, new_desc}
use Rattle.wrap_passing.proofs.FcntlCalls.{target_is, fcntl_same}

module _ (s : System) (next_id : ℕ) (k : PlainKernel) (w : IsWrapped s next_id k) (p : VPid) where
  module _ (t : ℕ) (q : Request) (given : List ℕ) (asked : IsAsked k p t q given) where
    pub fresh : (who : RealPid) (r : Request) → is_served r ≡ true → IsFresh s.kernel who (real_of s p who r)
    unfolding real_of
    fresh who (Eventfd2 value flags) served = new_desc s next_id k w p t q given asked
    fresh who (Openat directory path flags mode) served = new_desc s next_id k w p t q given asked
    fresh who _ served = tt

  pub named : (who : RealPid) → map.get s.ids.pids p.0 ≡ Some who → IsWhole s.kernel.book
      → (given : List Byte) (r : Request) → is_served r ≡ true
      → IsNamed (given_of s) k who p 0 given (real_of s p who r)
  unfolding real_of
  named who paired book given (Fcntl fd command argument) served =
      target_is s next_id k w p (argument_read (fcntl_command command) argument)
  named who paired book given (Kill number signal) served = neighbour_is s next_id k w p number
  named who paired book given (Tgkill number tid signal) served = (neighbour_is s next_id k w p number, refl)
  named who paired book given (Wait4 number status options usage) served = neighbour_is s next_id k w p number
  named who paired book given (Eventfd2 value flags) served =
      ap (λ (makers : Makers). desc_in makers p) (sym w.stands.exact.makers)
  named who paired book given (Openat directory path flags mode) served =
      ap (λ (makers : Makers). desc_in makers p) (sym w.stands.exact.makers)
  named who paired book given (Setsockopt fd level name value length) served = pipe_is s next_id k w p who paired book fd
  named who paired book given (Shutdown fd how) served = pipe_is s next_id k w p who paired book fd
  named who paired book given _ served = tt

-- numbers

by_pid : (g : Given) → AreInverse g.pids g.virts → (who : RealPid) (n m : ℕ) → ByPid who n m g
    → virt_number g.virts who.node n ≡ m
by_pid g inverse who n m h = ap (λ o. unwrap_or o 0) (inverse.leads_back m (real who.node n) h)

by_unless : (g : Given) → AreInverse g.pids g.virts → (who : RealPid) (none n m : ℕ) (b : Bool)
    → ByPidUnless b none who n m g → cond b none (virt_number g.virts who.node n) ≡ m
by_unless g inverse who none n m true h = sym h
by_unless g inverse who none n m false h = by_pid g inverse who n m h

by_command : (g : Given) → AreInverse g.pids g.virts → (who : RealPid) (n m : ℕ) (c : Option FcntlCommand)
    → ValueOfCommand who c n m g → told_owner g.virts who.node c n ≡ m
by_command g inverse who n m (Some GetOwn) h = by_unless g inverse who 0 n m (n == 0) h
by_command g inverse who n m _ h = h

-- a call that gives nothing, and whose row reads no address
pub record IsPlain (req : RealRequest) (r : Request) : Type 0 where
  pub after : (who : RealPid) (k : PlainKernel) (p : VPid) (given : List Byte) (n m : ℕ) (g : Given)
      → GivenAfter who k p 0 given req n m g ≡ g
  pub value : (who : RealPid) (n m : ℕ) (g : Given) → AreInverse g.pids g.virts → ValueOf who req n m g
      → told_value g.virts who req n ≡ m
  pub loud : (m : Try Served) → row_of req m ≡ m
  pub row_is : (k : PlainKernel) (p : VPid) (t : ℕ) (given : List Byte)
      → row k p t (plain_of 0 req) given ≡ row k p t r given

pub each_plain : (s : System) (p : VPid) (who : RealPid) (r : Request) → is_served r ≡ true
    → IsPlain (real_of s p who r) r
unfolding real_of told_value row is_passed is_making is_wait
each_plain s p who (Dup fd) served = record {
  after = λ who k p given n m g. refl;
  value = λ who n m g inverse h. h;
  loud = λ m. refl;
  row_is = λ k p t given. refl;
}
each_plain s p who (Fcntl fd command argument) served = record {
  after = λ who k p given n m g. refl;
  value = λ who n m g inverse h. by_command g inverse who n m (fcntl_command command) h;
  loud = λ m. refl;
  row_is = λ k p t given. fcntl_same k p fd command argument;
}
each_plain s p who (Unlinkat directory path flags) served = record {
  after = λ who k p given n m g. refl;
  value = λ who n m g inverse h. h;
  loud = λ m. refl;
  row_is = λ k p t given. refl;
}
each_plain s p who (Lseek fd offset whence) served = record {
  after = λ who k p given n m g. refl;
  value = λ who n m g inverse h. h;
  loud = λ m. refl;
  row_is = λ k p t given. refl;
}
each_plain s p who (Read fd buffer count) served = record {
  after = λ who k p given n m g. refl;
  value = λ who n m g inverse h. h;
  loud = λ m. refl;
  row_is = λ k p t given. refl;
}
each_plain s p who (Write fd buffer count) served = record {
  after = λ who k p given n m g. refl;
  value = λ who n m g inverse h. h;
  loud = λ m. refl;
  row_is = λ k p t given. refl;
}
each_plain s p who (Kill number signal) served = record {
  after = λ who k p given n m g. refl;
  value = λ who n m g inverse h. h;
  loud = λ m. refl;
  row_is = λ k p t given. refl;
}
each_plain s p who (Tgkill number tid signal) served = record {
  after = λ who k p given n m g. refl;
  value = λ who n m g inverse h. h;
  loud = λ m. refl;
  row_is = λ k p t given. refl;
}
each_plain s p who Getpid served = record {
  after = λ who k p given n m g. refl;
  value = λ who n m g inverse h. by_pid g inverse who n m h;
  loud = λ m. refl;
  row_is = λ k p t given. refl;
}
each_plain s p who Getppid served = record {
  after = λ who k p given n m g. refl;
  value = λ who n m g inverse h. by_unless g inverse who NOBODY n m (n == 0) h;
  loud = λ m. refl;
  row_is = λ k p t given. refl;
}
each_plain s p who (Eventfd2 value flags) served = record {
  after = λ who k p given n m g. refl;
  value = λ who n m g inverse h. h;
  loud = λ m. refl;
  row_is = λ k p t given. refl;
}
each_plain s p who (Openat directory path flags mode) served = record {
  after = λ who k p given n m g. refl;
  value = λ who n m g inverse h. h;
  loud = λ m. refl;
  row_is = λ k p t given. refl;
}
each_plain s p who (Wait4 number status options usage) served = record {
  after = λ who k p given n m g. refl;
  value = λ who n m g inverse h. by_unless g inverse who 0 n m (n == 0) h;
  loud = λ m. refl;
  row_is = λ k p t given. refl;
}
each_plain s p who (Setsockopt fd level name value length) served = record {
  after = λ who k p given n m g. refl;
  value = λ who n m g inverse h. h;
  loud = λ m. refl;
  row_is = λ k p t given. refl;
}
each_plain s p who (Shutdown fd how) served = record {
  after = λ who k p given n m g. refl;
  value = λ who n m g inverse h. h;
  loud = λ m. refl;
  row_is = λ k p t given. refl;
}
each_plain s p who _ served = true_false (sym served)
