-- Whether a descriptor leads to an end of a pipe, by the real tables and the table of channels.
--     leads_to_pipe_told
use Rattle.std.proofs.Common.{◌≡◌, ℕ, Option, Some, None, refl, ap, ◌∙◌, subst}
use Rattle.std.specs.Prelude.{option_map}
use Rattle.std.specs.FinMap as map
use Rattle.sys_abi.specs.declared.identity.RealPid.{RealPid}
use Rattle.sys_abi.specs.declared.identity.VPid.{VPid}
use Rattle.fd_book.specs.Books.{IsWhole}
use Rattle.fd_tables.specs.declared.description.Desc.{Desc}
use Rattle.fd_tables.specs.declared.description.Object.{Object}
use Rattle.fd_tables.specs.declared.description.Object.TheVariants as object
use Rattle.fd_tables.specs.Slots as slots
use Rattle.sys_abi.specs.declared.identity.DescId.{DescId}
use Rattle.plain_tables.specs.Valid.Channels.{IsStream}
use Rattle.plain_machine.specs.declared.kernel.PlainKernel.{PlainKernel}
use Rattle.plain_machine.specs.Kernels.{IsKernel}
use Rattle.host_processes.specs.HandedOn.{Held}
use Rattle.host_processes.specs.HandedOn.{held_in}
use Rattle.host_processes.proofs.HandedOn.{there_of, none_held, held_by}
use Rattle.host_processes.proofs.HandedOn.{held_told}
use Rattle.host_processes.specs.OfHostTables.declared.kernel.Kernel.{Kernel}
use Rattle.host_processes.specs.OfHostTables.Descriptions.{seen_desc, seen_object}
use Rattle.host_processes.specs.OfHostTables.Stands.{Given, Stands}
use Rattle.host_processes.proofs.OfHostTables.LookUps.{held_none}
use Rattle.host_processes.specs.OfHostTables.Requests.{is_pipe_end, holds_pipe, leads_to_pipe}
use Rattle.host_streams.specs.PipeEnds.{is_pipe_object, is_pipe_of}
use Rattle.host_streams.proofs.PipeConns.{pipe_told}

module _ (g : Given) (real : Kernel) (k : PlainKernel) (whole : IsKernel k) (st : Stands g None real k) where
  object_told : (id : DescId) (d : Desc) → map.get real.book.descriptions id ≡ Some d → (o : Object)
      → d.object ≡ o
      → is_pipe_end k (seen_object g.names real.datagrams id o) ≡ is_pipe_object g.conns o
  object_told id d there object.Console is = refl
  object_told id d there (object.File number offset) is = refl
  object_told id d there (object.Stream conn side) is =
      let stream = subst (λ (o : Object). IsStream k.channels d.flags
      (seen_object g.names real.datagrams id o)) is
      (whole.streams.each id (seen_desc g.virts g.names real.datagrams None id d)
      (st.descriptions.each id ∙ ap (option_map (seen_desc g.virts g.names real.datagrams None id)) there)) in
      pipe_told g real k st conn stream.0 stream.1
  object_told id d there object.Socket is = refl
  object_told id d there (object.Listener at) is = refl
  object_told id d there (object.Datagram queue side) is = refl
  object_told id d there (object.Counter value) is = refl

  module _ (p : VPid) (who : RealPid) (paired : map.get g.pids p.0 ≡ Some who) (fd : ℕ)
      (book : IsWhole real.book) where
    told_by : (o : Option Held) → held_in real.book (slots.slot who fd) ≡ o
        → leads_to_pipe k p fd ≡ is_pipe_of g.conns o
    told_by None is =
        ap (holds_pipe k)
        (held_none g real k st p who paired fd (none_held real.book (slots.slot who fd) book is))
    told_by (Some h) is =
        ap (holds_pipe k) (held_told g real k st p who paired fd (there_of real who fd h is))
        ∙ object_told h.desc h.description (held_by real.book (slots.slot who fd) h is).described
        h.description.object refl

    pub leads_to_pipe_told : leads_to_pipe k p fd ≡ is_pipe_of g.conns (held_in real.book (slots.slot who fd))
    leads_to_pipe_told = told_by (held_in real.book (slots.slot who fd)) refl
