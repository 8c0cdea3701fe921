-- A system with what a call has made: its entry stands, and its numbers are counted.
--     made_system s new p n entry      the system
--     made_wrapped      it stands for the kernel part with what was made
use Rattle.std.proofs.Common.{◌≡◌, ℕ, Bool, true, List, Option, Some, None, inl, inr, refl, sym, ap, ◌∙◌, subst}
use Rattle.std.specs.Prelude.{is_some, option_map}
use Rattle.std.specs.FinMap as map
use Rattle.std.proofs.lemmas.Option.{same_Some}
use Rattle.views.proofs.MapLaws.{same_or_other, get_insert_same, get_insert_other}
use Rattle.sys_abi.specs.declared.identity.VPid.{VPid}
use Rattle.sys_abi.specs.declared.identity.ConnId.{ConnId}
use Rattle.sys_abi.specs.declared.identity.DescId.{DescId}
use Rattle.sys_abi.specs.declared.identity.VirtAddr.{VirtAddr}
use Rattle.sys_abi.proofs.OrderLaws.{conn_total, conn_exact, desc_total, desc_exact}
use Rattle.conn_table.specs.declared.conn.Conn.{Conn}
use Rattle.plain_tables.specs.declared.channel.Channel as plain
use Rattle.plain_tables.specs.Tables.{Makers, Processes, Listeners, Channels, changed_at, made_more, has_thread_in, pid}
use Rattle.plain_machine.specs.declared.kernel.PlainKernel.{PlainKernel}
use Rattle.plain_machine.specs.Channels.{open_channel}
use Rattle.plain_machine.specs.Kernels.{IsKernel}
use Rattle.host_tables.specs.declared.kernel.Kernel.{Kernel}
use Rattle.host_tables.specs.declared.system.System.{System}
use Rattle.host_tables.specs.Descriptions.{Names}
use Rattle.host_tables.specs.Network.{Conns, kind_of}
use Rattle.host_tables.specs.Numbers.{HasRoom}
use Rattle.host_tables.specs.Stands.{Stands, open_conn}
use Rattle.host_tables.specs.Systems.{given_of, IsNumber, IsEntry, is_named_in, AreExact}
use Rattle.wrap_names.specs.Wrapping.{IsWrapped}
use Rattle.wrap_makers.specs.declared.entries.Entry.{Entry}
use Rattle.wrap_makers.specs.declared.entries.Entry.TheVariants.{Nothing, Name, Channel}
use Rattle.wrap_makers.specs.Entries.{conns_with, names_with, with_entry, counted, given_with}
use Rattle.wrap_makers.proofs.EndRows.{MakesIn, HasNamed, channels_with}
use Rattle.wrap_makers.proofs.OpenEnds.{ends_of, told_ends}

abbrev pub made_system : System → Kernel → VPid → ℕ → Entry → System
made_system s new p n entry = record s { kernel = new; conns = counted (with_entry s.conns entry) p n }

abbrev conn_ends : Option Conn → Option (List Bool)
conn_ends o = option_map (λ (x : Conn). x.open_ends) o

-- the entry's name is that of a socket, as the others are
module _ (names : Names) (k' : PlainKernel)
    (known : (id : DescId) (a : VirtAddr) → map.get names id ≡ Some a
    → is_named_in (map.get k'.descriptions id) ≡ true) where
  names_exact : (entry : Entry) → HasNamed k' entry → (id : DescId) (a : VirtAddr)
      → map.get (names_with names entry) id ≡ Some a → is_named_in (map.get k'.descriptions id) ≡ true
  names_exact Nothing named id a is = known id a is
  names_exact (Channel conn kind) named id a is = known id a is
  names_exact (Name q b) named id a is = elim (same_or_other desc_total desc_exact id q) [
    | inl here ↦ ap (λ w. is_named_in (map.get k'.descriptions w)) here ∙ named
    | inr differ ↦ known id a (sym (get_insert_other desc_total desc_exact names q b id differ) ∙ is)
  ]

abbrev opened_channel : ℕ → plain.Channel
opened_channel kind = open_channel (kind_of kind) None None

-- the entry's channel has both its ends open, as the kernel part's new one
module _ (conns : Conns) (channels : Channels)
    (same : (id : ConnId) → conn_ends (map.get conns id) ≡ option_map ends_of (map.get channels id)) where
  ends_exact : (entry : Entry) (id : ConnId) → conn_ends (map.get (conns_with conns entry) id)
      ≡ option_map ends_of (map.get (channels_with channels entry) id)
  ends_exact Nothing id = same id
  ends_exact (Name q b) id = same id
  ends_exact (Channel q kind) id = elim (same_or_other conn_total conn_exact id q) [
    | inl here ↦
        ap (λ w. conn_ends (map.get (map.insert conns q (open_conn q kind None None)) w)) here
        ∙ ap conn_ends (get_insert_same conn_total conn_exact conns q (open_conn q kind None None))
        ∙ sym (ap (λ w. option_map ends_of (map.get (map.insert channels q (opened_channel kind)) w)) here
        ∙ ap (option_map ends_of) (get_insert_same conn_total conn_exact channels q (opened_channel kind)))
    | inr differ ↦
        ap conn_ends (get_insert_other conn_total conn_exact conns q (open_conn q kind None None) id differ)
        ∙ same id
        ∙ sym (ap (option_map ends_of)
        (get_insert_other conn_total conn_exact channels q (opened_channel kind) id differ))
  ]

module _ (conns : Conns)
    (known : (id : ConnId) (conn : Conn) → map.get conns id ≡ Some conn → IsEntry id conn) where
  entries_exact : (entry : Entry) (id : ConnId) (conn : Conn)
      → map.get (conns_with conns entry) id ≡ Some conn → IsEntry id conn
  entries_exact Nothing id conn is = known id conn is
  entries_exact (Name q b) id conn is = known id conn is
  entries_exact (Channel q kind) id conn is = elim (same_or_other conn_total conn_exact id q) [
    | inl here ↦
        let opened = open_conn q kind None None in
        let same : opened ≡ conn = same_Some opened conn
        (sym (get_insert_same conn_total conn_exact conns q opened)
        ∙ ap (map.get (map.insert conns q opened)) (sym here) ∙ is) in
        subst (IsEntry id) same (record { own = sym here; addresses = refl; sides = refl })
    | inr differ ↦
        known id conn
        (sym (get_insert_other conn_total conn_exact conns q (open_conn q kind None None) id differ) ∙ is)
  ]

module _ (s : System) (next_id : ℕ) (k : PlainKernel) (w : IsWrapped s next_id k) (p : VPid) (n : ℕ)
    (entry : Entry) (new : Kernel) (k' : PlainKernel) (made : MakesIn k p n entry k')
    (stands : Stands (given_with (given_of s) entry) None new k') where
  abbrev after_it : System
  after_it = made_system s new p n entry

  given_is : given_of after_it ≡ given_with (given_of s) entry
  given_is = λ i. record {
    pids = s.ids.pids;
    virts = s.ids.virts;
    next = stands.paired.next_is i;
    addresses = s.ids.addresses;
    ports = s.ids.ports;
    conns = conns_with s.conns.conns entry;
    names = names_with s.conns.names entry;
  }

  number_kept : (v : ℕ) → IsNumber k v → IsNumber k' v
  number_kept v h = elim h [
    | inl process ↦
        inl (ap (λ (m : Processes). is_some (map.get m (pid v))) made.processes ∙ process)
    | inr thread ↦ inr (
      thread.0,
      ap (λ (m : Processes). has_thread_in v (map.get m thread.0)) made.processes ∙ thread.1,
    )
  ]

  exact : AreExact after_it k'
  exact = record {
    makers = made.makers ∙ ap (λ (makers : Makers). changed_at makers p (made_more n)) w.stands.exact.makers;
    numbers = λ v r at. number_kept v (w.stands.exact.numbers v r at);
    places = λ a at is.
        ap (λ (m : Listeners). is_some (map.get m a)) made.listeners ∙ w.stands.exact.places a at is;
    names = names_exact s.conns.names k' (λ id a is. made.names id (w.stands.exact.names id a is)) entry
        made.named;
    open_ends = λ id.
        ends_exact s.conns.conns k.channels
        (λ q. w.stands.exact.open_ends q ∙ told_ends (given_of s) s.kernel k w.stands.tables q) entry id
        ∙ ap (λ (m : Channels). option_map ends_of (map.get m id)) (sym made.channels)
        ∙ sym (told_ends (given_with (given_of s) entry) new k' stands id);
    entries = entries_exact s.conns.conns w.stands.exact.entries entry;
  }

  pub made_wrapped : IsKernel k' → IsWrapped after_it next_id k'
  made_wrapped whole = record {
    stands = record {
      kernel = whole;
      tables = subst (λ g. Stands g None new k') (sym given_is) stands;
      exact = exact;
      room = subst (λ m. HasRoom m new.procs.next) (sym made.next)
          (subst (HasRoom k.next_id) (sym stands.paired.next_is) w.stands.room);
    };
    next = made.next ∙ w.next;
  }
