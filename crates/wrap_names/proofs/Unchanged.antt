-- A call that changes no system, and the bytes that it gives.
--     unchanged_after      the system stands as before
--     told_bytes           a name that was cut is never empty
--     name_told, name_refused      the answers of a call for a name
use Rattle.std.proofs.Common.{◌≡◌, ℕ, List, [], ◌∷◌, ◌++◌, refl, sym, ◌∙◌, subst}
use Rattle.std.specs.Prelude.{take, length}
use Rattle.views.specs.Numbers.{Byte}
use Rattle.sys_abi.specs.declared.reply.Errno.{Errno}
use Rattle.plain_process.specs.Memory.{little_endian, low_bytes}
use Rattle.plain_process.specs.Attempts.{Try, Fails, Gives}
use Rattle.plain_machine.specs.declared.kernel.PlainKernel.{PlainKernel}
use Rattle.plain_machine.specs.Addresses.{cut_to}
use Rattle.plain_machine.specs.Attempts.{Served}
use Rattle.plain_machine.specs.Rows.Sockets.{named}
use Rattle.host_streams.specs.OfHostTables.declared.reply.KernelReply.{KernelReply}
use Rattle.host_streams.specs.OfHostTables.declared.reply.KernelReply.TheVariants.{Done, Error, Memory}
use Rattle.host_streams.specs.OfHostTables.declared.reply.KernelReply.TheVariants as reply
use Rattle.host_streams.specs.OfHostTables.declared.system.System.{System}
use Rattle.host_streams.specs.OfHostTables.Serves.{bytes_or}
use Rattle.wrap_names.specs.Wrapping.{IsWrapped, Answers, StandsAfter}

module _ (s : System) (next_id : ℕ) (k : PlainKernel) (w : IsWrapped s next_id k)
    (before now : List Byte) where
  pub unchanged_after : (answered : KernelReply) (m : Try Served) → Answers k k before now answered m
      → StandsAfter s next_id k before now answered m
  unchanged_after (Done n) m h = (subst (IsWrapped s next_id) h.0 w, h.1)
  unchanged_after (Error e) m h = (subst (IsWrapped s next_id) h.0 w, h.1)
  unchanged_after reply.NotReady m h = (subst (IsWrapped s next_id) h.0 w, h.1)
  unchanged_after Memory m h = (w, h.1)

told_by : (before cut : List Byte) (n : ℕ) → bytes_or before (cut ++ low_bytes 4 n) ≡ cut ++ low_bytes 4 n
told_by before [] n = refl
told_by before (byte ∷ rest) n = refl

pub told_bytes : (before name : List Byte) → bytes_or before (cut_to before name) ≡ cut_to before name
told_bytes before name = told_by before (take (little_endian (take 4 before)) name) (length name)

module _ (k : PlainKernel) (before now : List Byte) (m : Try Served) where
  pub name_told : (name : List Byte) → now ≡ cut_to before name → m ≡ Gives (named k before name)
      → Answers k k before now (Done 0) m
  name_told name is row_is =
      subst (Answers k k before now (Done 0)) (sym row_is) (refl, (refl, is ∙ sym (told_bytes before name)))

  pub name_refused : (e : Errno) → now ≡ before → m ≡ Fails e.0 → Answers k k before now (Error e) m
  name_refused e same row_is = subst (Answers k k before now (Error e)) (sym row_is) (refl, (refl, same))
