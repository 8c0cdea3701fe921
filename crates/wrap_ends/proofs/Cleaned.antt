-- A system after a close, whose tables have lost what the kernel part lost.
--     IsClean s s' k'      the tables have what the kernel part has, of what they had
--     clean_wrapped        the system stands for the kernel part
use Rattle.std.proofs.Common.{◌≡◌, ◌⊎◌, ℕ, List, Option, Some, None, sym, ap, ◌∙◌, subst}
use Rattle.std.specs.Prelude.{length, true, IsSome}
use Rattle.std.specs.FinMap as map
use Rattle.std.proofs.lemmas.Option.{none-some, same_Some}
use Rattle.sys_abi.specs.declared.identity.ConnId.{ConnId}
use Rattle.sys_abi.specs.declared.identity.DescId.{DescId}
use Rattle.sys_abi.specs.declared.identity.RealAddr.{RealAddr}
use Rattle.sys_abi.specs.declared.identity.VPid.{VPid}
use Rattle.sys_abi.specs.declared.identity.VirtAddr.{VirtAddr}
use Rattle.conn_table.specs.declared.conn.Conn.{Conn}
use Rattle.fd_tables.specs.declared.description.Desc.{Desc}
use Rattle.plain_tables.specs.declared.channel.Channel.{Channel}
use Rattle.plain_tables.specs.Tables.{Processes, pid, has_thread_in}
use Rattle.plain_machine.specs.declared.kernel.PlainKernel.{PlainKernel}
use Rattle.plain_machine.specs.Kernels.{IsKernel}
use Rattle.host_tables.specs.declared.system.System.{System}
use Rattle.host_tables.specs.Numbers.{HasRoom}
use Rattle.host_tables.specs.Stands.{Given, Stands}
use Rattle.host_tables.specs.Systems.{given_of, IsNumber, IsEntry, is_named_in, AreExact}
use Rattle.wrap_names.specs.Wrapping.{IsWrapped}
use Rattle.wrap_ends.proofs.ConnEnds.{plain_ends, ends_in, plain_ends_in, AreEnds, AreFewer}
use Rattle.wrap_ends.proofs.FewerConns.{fewer_conns, conn_ends}
use Rattle.wrap_ends.proofs.FewerPlaces.{ArePlaces, fewer_places}

pub record IsClean (s s' : System) (k' : PlainKernel) : Type 0 where
  pub pids : s'.ids.pids ≡ s.ids.pids
  pub virts : s'.ids.virts ≡ s.ids.virts
  pub makers : s'.conns.makers ≡ s.conns.makers
  pub fewer : AreFewer s'.conns.conns s.conns.conns
  pub ends : AreEnds s'.conns.conns k'.channels
  pub places : ArePlaces s.ids.addresses s'.ids.addresses s'.ids.ports k'
  pub listed : (a : VirtAddr) (at : RealAddr) → map.get s'.ids.addresses a ≡ Some at
      → IsSome (map.get k'.listeners a)
  pub names : (id : DescId) (a : VirtAddr) → map.get s'.conns.names id ≡ Some a
      → is_named_in (map.get k'.descriptions id) ≡ true
  pub named : (id : DescId) (d : Desc) → map.get s'.kernel.book.descriptions id ≡ Some d
      → map.get s'.conns.names id ≡ map.get s.conns.names id

-- nothing but what closes has
pub record IsCloser (k k' : PlainKernel) : Type 0 where
  pub whole : IsKernel k'
  pub processes : k'.processes ≡ k.processes
  pub makers : k'.makers ≡ k.makers
  pub next_id : k'.next_id ≡ k.next_id

two_ends : (ends : List _) (o : Option Channel) → Some ends ≡ plain_ends_in o → length ends ≡ 2
two_ends ends None e = absurd (none-some ends (sym e))
two_ends ends (Some channel) e = ap length (same_Some ends (plain_ends channel) e)

module _ (s : System) (next_id : ℕ) (k : PlainKernel) (w : IsWrapped s next_id k) (k' : PlainKernel)
    (closer : IsCloser k k') (s' : System) (stands : Stands (given_of s) None s'.kernel k')
    (clean : IsClean s s' k') where
  next_is : s'.kernel.procs.next ≡ s.kernel.procs.next
  next_is = stands.paired.next_is

  abbrev with_conns : Given
  with_conns = record (given_of s) { conns = s'.conns.conns }

  abbrev without_gone : Given
  without_gone = record with_conns {
    addresses = s'.ids.addresses;
    ports = s'.ids.ports;
    names = s'.conns.names;
  }

  given_is : without_gone ≡ given_of s'
  given_is = λ i. record {
    pids = sym clean.pids i;
    virts = sym clean.virts i;
    next = sym next_is i;
    addresses = s'.ids.addresses;
    ports = s'.ids.ports;
    conns = s'.conns.conns;
    names = s'.conns.names;
  }

  by_fewer : Stands without_gone None s'.kernel k'
  by_fewer =
      fewer_places with_conns s'.kernel k' closer.whole
      (fewer_conns (given_of s) s'.kernel k' stands s'.conns.conns clean.fewer clean.ends)
      s'.ids.addresses s'.ids.ports clean.places s'.conns.names clean.named

  number_still : (v : ℕ) → IsNumber k v → IsNumber k' v
  number_still v is =
      subst (λ (m : Processes). IsSome (map.get m (pid v))
      ⊎ ((p : VPid) × (has_thread_in v (map.get m p) ≡ true))) (sym closer.processes) is

  entry : (id : ConnId) (conn : Conn) → map.get s'.conns.conns id ≡ Some conn → IsEntry id conn
  entry id conn is =
      let was = clean.fewer id conn is in
      let entry = w.stands.exact.entries id was.0 was.1.0 in
      record {
        own = was.1.1.id ∙ entry.own;
        addresses = ap length was.1.1.addr ∙ entry.addresses;
        sides = two_ends conn.open_ends (map.get k'.channels id) (sym (ap ends_in is) ∙ clean.ends id);
      }

  exact : AreExact s' k'
  exact = record {
    makers = closer.makers ∙ w.stands.exact.makers ∙ sym clean.makers;
    numbers = λ v r is.
        number_still v (w.stands.exact.numbers v r (ap (λ pids. map.get pids v) (sym clean.pids) ∙ is));
    places = clean.listed;
    names = clean.names;
    open_ends = conn_ends (given_of s) s'.kernel k' stands s'.conns.conns clean.fewer clean.ends;
    entries = entry;
  }

  pub clean_wrapped : IsWrapped s' next_id k'
  clean_wrapped = record {
    stands = record {
      kernel = closer.whole;
      tables = subst (λ g. Stands g None s'.kernel k') given_is by_fewer;
      exact = exact;
      room = subst (λ n. HasRoom n s'.kernel.procs.next) (sym closer.next_id)
          (subst (HasRoom k.next_id) (sym next_is) w.stands.room);
    };
    next = closer.next_id ∙ w.next;
  }
