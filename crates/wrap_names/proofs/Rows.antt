-- The rows of the calls on addresses.
--     bind_of, getsockname_of, getpeername_of
use Rattle.std.proofs.Common.{◌≡◌, ℕ, List, refl}
use Rattle.views.specs.Numbers.{Byte}
use Rattle.sys_abi.specs.declared.identity.VPid.{VPid}
use Rattle.call_table.specs.declared.request.Request.TheVariants.{Bind, Getsockname, Getpeername}
use Rattle.plain_machine.specs.declared.kernel.PlainKernel.{PlainKernel}
use Rattle.plain_machine.specs.Rows.Sockets.{bind_row, getsockname_row, getpeername_row}
use Rattle.plain_machine.specs.Serve.{row}

module _ (k : PlainKernel) (p : VPid) (t fd address length : ℕ) (given : List Byte) where
  pub bind_of : row k p t (Bind fd address length) given ≡ bind_row k p fd length given
  unfolding row
  bind_of = refl

  pub getsockname_of : row k p t (Getsockname fd address length) given ≡ getsockname_row k p fd given
  unfolding row
  getsockname_of = refl

  pub getpeername_of : row k p t (Getpeername fd address length) given ≡ getpeername_row k p fd given
  unfolding row
  getpeername_of = refl
