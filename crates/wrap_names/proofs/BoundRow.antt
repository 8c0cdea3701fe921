-- What a bind does to its system, by what its tests found.
--     bind_unable, bind_done, bind_starved     it fails, it gives, and there was no memory
use Rattle.std.proofs.Common.{◌≡◌, ℕ, List, Ok, Err, refl, sym, subst}
use Rattle.std.specs.FinMap as map
use Rattle.views.specs.Numbers.{Byte}
use Rattle.sys_abi.specs.declared.identity.RealPid.{RealPid}
use Rattle.sys_abi.specs.declared.reply.Errno.{Errno}
use Rattle.fd_tables.specs.Slots as slots
use Rattle.plain_process.specs.Attempts.{Try}
use Rattle.plain_machine.specs.declared.kernel.PlainKernel.{PlainKernel}
use Rattle.plain_machine.specs.Attempts.{Served}
use Rattle.plain_machine.specs.Kernels.{IsKernel}
use Rattle.host_streams.specs.OfHostTables.declared.reply.KernelReply.TheVariants.{Done, Error, Memory}
use Rattle.host_streams.specs.OfHostTables.declared.system.System.{System}
use Rattle.host_streams.specs.OfHostTables.Systems.{given_of}
use Rattle.host_streams.proofs.HandedOn.{held_by}
use Rattle.conn_table.specs.declared.table.ConnTable.{ConnTable}
use Rattle.wrap_names.specs.Wrapping.{IsWrapped, StandsAfter, kernel_left}
use Rattle.wrap_names.specs.declared.binding.Bound.{Bound}
use Rattle.wrap_names.specs.Binding.{bound_told, IsUnbound}
use Rattle.wrap_names.proofs.Bound.{bound_after}

module _ (s : System) (next_id : ℕ) (k : PlainKernel) (w : IsWrapped s next_id k) (given : List Byte)
    (m : Try Served) where
  pub bind_unable : (e : Errno) → m ≡ bound_told (given_of s) s.kernel k (Err e)
      → StandsAfter s next_id k given given (Error e) m
  bind_unable e is = subst (StandsAfter s next_id k given given (Error e)) (sym is) (w, (refl, refl))

  module _ (who : RealPid) (fd : ℕ) (b : Bound) (found : IsUnbound s.kernel.book (slots.slot who fd) b)
      (row_is : m ≡ bound_told (given_of s) s.kernel k (Ok b)) where
    pub bind_done : IsKernel (kernel_left k m) → (t : ConnTable)
        → t ≡ record s.conns { names = map.insert s.conns.names b.held.desc b.address }
        → StandsAfter (record s { conns = t }) next_id k given given (Done 0) m
    bind_done whole t is =
        let left : IsKernel (kernel_left k (bound_told (given_of s) s.kernel k (Ok b))) =
        subst (λ x. IsKernel (kernel_left k x)) row_is whole in
        subst (λ (x : ConnTable). StandsAfter (record s { conns = x }) next_id k given given (Done 0) m)
        (sym is) (subst (StandsAfter (record s {
          conns = record s.conns { names = map.insert s.conns.names b.held.desc b.address };
        }) next_id k given given (Done 0)) (sym row_is) (
          bound_after s next_id k w b.held
              (held_by s.kernel.book (slots.slot who fd) b.held found.held).described found.socket b.address
              left,
          (refl, refl),
        ))

  pub bind_starved : (t : ConnTable) → t ≡ s.conns
      → StandsAfter (record s { conns = t }) next_id k given given Memory m
  bind_starved t is =
      (subst (λ (x : ConnTable). IsWrapped (record s { conns = x }) next_id k) (sym is) w, refl)
